-- The words after a change of an entry that is there, by which of the two it is.
use Prim.Native.Nat.{ℕ, zero}
use mathlib.Core.Path.{◌≡◌, refl, subst}
use mathlib.Core.List.{List}
use mathlib.Core.Option.{Option, none}
use Rattle.std.specs.Prelude.{Option as Maybe, None, Some, MatchOption}
use Rattle.model.specs.declared.Entry.{Entry}
use Rattle.model.specs.Model.{Valid}
use Rattle.tree.specs.Tree.{height}
use Rattle.layout.specs.Places.{new_places, render}
use Rattle.layout.specs.WellFormed.{WellFormed}
use Rattle.script_rows.specs.Becomes.{Becomes}
use Rattle.script_table.specs.Table.{Tables}
use Rattle.prepare.specs.Entries.{Content, EntryThere, Stays, After, edited, erased}

not_none : {x : Content} → Some x ≡ None → ⊥
not_none e = subst (λ (o : Maybe Content). MatchOption o ⊥ (λ _. ℕ)) e zero

not_some : {x : Content} → None ≡ Some x → ⊥
not_some e = subst (λ (o : Maybe Content). MatchOption o ℕ (λ _. ⊥)) e zero

same_content : {x y : Content} → Some x ≡ Some y → x ≡ y
same_content {x} e = subst (λ (o : Maybe Content). MatchOption o ⊥ (λ (z : Content). x ≡ z)) e refl

module _ {ws : List ℕ} (s : WellFormed ws) {i k : ℕ} {rs ns : List ℕ} where
  pub after_erased : {a : Maybe Content} → a ≡ None →
      ((l' : List Entry) → Becomes i k none s.list l' → Valid l' →
      Tables ws rs ns (render l' (new_places s.list l' s.places) s.n) s.n) →
      {ws' : List ℕ} → After s i k a ws' → Tables ws rs ns ws' s.n
  after_erased e f (edited c o l' x) = absurd (not_none e)
  after_erased e f (erased l' x v) = f l' x v

  pub after_edited : {a : Maybe Content} {c : Content} → a ≡ Some c →
      ((o : Option Entry) (l' : List Entry) → Stays s i k c.word c.marks o l' →
      Tables ws rs ns (render l' s.places s.n) s.n) →
      {ws' : List ℕ} → After s i k a ws' → Tables ws rs ns ws' s.n
  after_edited e f (edited c o l' x) = f o l' (subst (λ (y : Content). Stays s i k y.word y.marks o l') (same_content e) x)
  after_edited e f (erased l' x v) = absurd (not_some e)

-- the tier of the head, by what it is
pub there_at : {ws : List ℕ} (s : WellFormed ws) {i k top : ℕ} (t : ℕ) → t ≡ height s.list → EntryThere s i k top →
    EntryThere s i k t
there_at s t e x = record {
  top_is = e;
  entry = x.entry;
  inside = x.inside;
  base_is = x.base_is;
  order_is = x.order_is;
}
