-- The words of a list under a head that may be higher than the list needs: between erasing and shrinking the head.
use Rattle.std.specs.Prelude.{ℕ, ◌-◌, ◌≤◌, ◌<◌, ◌≡◌, Bool, true, false, List, leb, length, get_or}
use Rattle.std.proofs.Math.Option.{Option, none, some}
use Rattle.blocks.specs.Choice.{pick, both}
use Rattle.blocks.specs.Lists.{any, In, Distinct}
use Rattle.model.specs.declared.Entry.{Entry}
use Rattle.model.specs.Model.{Valid, within, marks_of}
use Rattle.tree.specs.Slots.{slot, Numbering}
use Rattle.tree.specs.Tree.{height, Node, tier_order, top_tier}
use Rattle.layout.specs.Places.{Places, number_in, standing, render, prune}
use Rattle.layout.specs.Words.{place, pool_words, max_nodes, marks_word, head_word, count_word, spare_word, field_under, IsField}

module _ (h : ℕ) (l : List Entry) (ν : Numbering) where
  abbrev pub stays : Node → Bool
  stays p = both (leb p.tier h) (any (within (tier_order p.tier) p.number) l)

  abbrev pub tall_at : Option Node → ℕ → ℕ
  tall_at none f = 0
  tall_at (some p) f = pick (stays p) (field_under l ν h p.tier p.number f) 0

pub record Tall (n h : ℕ) (l : List Entry) (os : Places) (ws : List ℕ) : Type 0 where
  pub valid : Valid l
  pub small : n ≤ max_nodes
  pub high : h ≤ top_tier
  pub fit : height l ≤ h
  pub count : length os ≡ n
  pub once : Distinct (standing os)
  pub full : (p : Node) → stays h l (number_in os) p ≡ true → In p (standing os)
  pub size : length ws ≡ pool_words n
  pub first : get_or ws count_word 0 ≡ n
  pub head : get_or ws head_word 0 ≡ slot l (number_in os) h 0
  pub marks : get_or ws marks_word 0 ≡ marks_of l
  pub last : get_or ws spare_word 0 ≡ 0
  pub node : (m f : ℕ) → m < n → IsField f → get_or ws (place m f) 0 ≡ tall_at h l (number_in os) (get_or os m none) f

-- some list stands so
pub record Tower (h : ℕ) (ws : List ℕ) : Type 0 where
  pub n : ℕ
  pub list : List Entry
  pub places : Places
  pub tall : Tall n h list places ws

-- the head is the node m
pub record Headed (h m : ℕ) (ws : List ℕ) : Type 0 where
  pub tower : Tower h ws
  pub there : any (within (tier_order h) 0) tower.list ≡ true
  pub number : m ≡ number_in tower.places h 0

-- the head dropped a tier; or it stays, and the words are the list's
pub record Dropped (r : Bool) (n h : ℕ) (l : List Entry) (os : Places) (ws' : List ℕ) : Type 0 where
  pub yes : r ≡ true → Tall n (h - 1) l os ws'
  pub no : r ≡ false → ws' ≡ render l (prune l os) n
