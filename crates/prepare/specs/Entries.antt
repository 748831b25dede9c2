-- An entry that is there, in a node or as head, becomes another of the same range.
use Rattle.std.specs.Prelude.{ℕ, ◌<◌, ◌≡◌, List, get_or, Option as Maybe, None, Some}
use Rattle.std.proofs.Math.Option.{Option, none}
use Rattle.blocks.specs.Lists.{In}
use Rattle.model.specs.declared.Entry.{Entry}
use Rattle.model.specs.Model.{Valid}
use Rattle.tree.specs.Tree.{has, height}
use Rattle.layout.specs.Places.{new_places, render}
use Rattle.layout.specs.WellFormed.{WellFormed}
pub use Rattle.prepare.specs.declared.Content.{Content}
use Rattle.script_rows.specs.Becomes.{Becomes, word_in, marks_in}
use Rattle.script_table.specs.Table.{row_count, Tables}
use Rattle.script_wide.specs.Wide.{Wide}

-- top is the head's tier, and an entry of order k stands at i
pub record EntryThere {ws : List ℕ} (s : WellFormed ws) (i k top : ℕ) : Type 0 where
  pub top_is : top ≡ height s.list
  pub entry : Entry
  pub inside : In entry s.list
  pub base_is : entry.base ≡ i
  pub order_is : entry.order ≡ k

-- the range becomes o, with the word w and the marks m, and the nodes stay
pub record Stays {ws : List ℕ} (s : WellFormed ws) (i k w m : ℕ) (o : Option Entry) (l' : List Entry) : Type 0 where
  pub becomes : Becomes i k o s.list l'
  pub valid : Valid l'
  pub word_is : w ≡ word_in o
  pub marks_is : m ≡ marks_in o
  pub same_has : (u c : ℕ) → has l' u c ≡ has s.list u c
  pub same_height : height l' ≡ height s.list
  pub same_places : new_places s.list l' s.places ≡ s.places

-- there is a list that it becomes
pub record Edited (ws : List ℕ) (i k w m : ℕ) : Type 0 where
  pub formed : WellFormed ws
  pub option : Option Entry
  pub list : List Entry
  pub stays : Stays formed i k w m option list

-- there are words that a table gives
pub record Tabled (ws rs ns : List ℕ) : Type 0 where
  pub formed : WellFormed ws
  pub words : List ℕ
  pub tables : Tables ws rs ns words formed.n

-- there are words that a table gives, with the nodes inside the range of order k that holds i free
pub record Widely (ws rs ns : List ℕ) (i k : ℕ) : Type 0 where
  pub formed : WellFormed ws
  pub words : List ℕ
  pub wide : Wide formed rs ns words i k

-- the anchor of the rows has the head's word w and the marks m, and no row is a node's
pub record Alone (ws rs ns : List ℕ) (w m : ℕ) : Type 0 where
  pub count_is : get_or rs 0 0 ≡ get_or ws 0 0
  pub word_is : get_or rs 1 0 ≡ w
  pub marks_is : get_or rs 2 0 ≡ m
  pub spare_is : get_or rs 3 0 ≡ 0
  pub no_node : (r : ℕ) → r < row_count → get_or ns r 0 ≡ get_or ws 0 0

-- THE WORDS AFTER: another entry, of a content x, stands in the place of an entry that is there; or nothing, where it is erased
pub data After {ws : List ℕ} (s : WellFormed ws) (i k : ℕ) : Maybe Content → List ℕ → Type 0 where
  edited : (x : Content) (o : Option Entry) (l' : List Entry) → Stays s i k x.word x.marks o l' →
      After s i k (Some x) (render l' s.places s.n)
  erased : (l' : List Entry) → Becomes i k none s.list l' → Valid l' →
      After s i k None (render l' (new_places s.list l' s.places) s.n)

-- there are such words
pub record AfterThere (ws : List ℕ) (i k : ℕ) (a : Maybe Content) : Type 0 where
  pub formed : WellFormed ws
  pub words : List ℕ
  pub after : After formed i k a words
