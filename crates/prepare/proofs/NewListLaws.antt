-- The list after a store of a new entry, or a reservation: its nodes are those of the list before mark 2 is cleared.
use Prim.Native.Nat.{ℕ, ◌*◌, ◌^◌, ◌<◌}
use mathlib.Core.Path.{◌≡◌, refl, sym, ap, subst, ◌∙◌}
use mathlib.Core.Bool.{Bool, true, false}
use mathlib.Core.List.{List}
use mathlib.Core.Option.{some}
use native.Mathlib.Omega.{arith}
use lib.Dec.{T, lit<}
use borrow.Author.Tests.{eq-eqb, ne_eqb}
use Rattle.blocks.specs.Blocks.{block, set_bit}
use Rattle.blocks.proofs.BoolLaws.{by_t}
use Rattle.blocks.proofs.BlockLaws.{block_at}
use Rattle.model.specs.declared.Entry.{Entry}
use Rattle.model.specs.Model.{Valid, storable, reserved_word, aligned, matched_mark, marks_of, store, with_mark, remark}
use Rattle.model.specs.ByBlock.{inside, new_entry, store_new}
use Rattle.model.proofs.AlignedLaws.{store_is, bare_is}
use Rattle.model.proofs.ValidLaws.{bare, store_valid}
use Rattle.model.proofs.WordLaws.{storable_kind}
use Rattle.tree.specs.Tree.{height, has, new_nodes}
use Rattle.tree.proofs.RelabelLaws.{height_map, has_map, new_nodes_then}
use Rattle.layout.specs.WellFormed.{WellFormed}
use Rattle.layout.proofs.StayLaws.{places_alike}
use Rattle.marks.proofs.RemarkLaws.{sorted_remark}
use Rattle.plan.specs.Plan.{NewStore}
use Rattle.plan.proofs.AfterStoreLaws.{new_valid}
use Rattle.script_rows.specs.Becomes.{marks_in}
use Rattle.script_rows.proofs.CommandLaws.{becomes_new, becomes_reserve}
use Rattle.script_new.specs.New.{NewList}
use Rattle.prepare.specs.Put.{Puttable, NewMade}

-- A STORE
module _ {ws : List ℕ} (s : WellFormed ws) {i k w : ℕ} (new : NewStore s.list i k w) (al : aligned k i ≡ true)
    (st : storable w ≡ true) where
  abbrev l : List Entry
  l = s.list

  abbrev l₁ : List Entry
  l₁ = store_new l i k w

  abbrev f : Entry → Entry
  f = with_mark i matched_mark false

  list_is : store l i k w ≡ remark l₁ i matched_mark false
  list_is = store_is i k al l w st ∙ rw new.is_new refl

  marks_are : marks_in (some (f (new_entry l i k w))) ≡ set_bit matched_mark false (marks_of (inside l i k))
  marks_are = rw (
    eq-eqb (block k i) (block k (block k i * 2 ^ k)) (sym (block_at k (block k i))),
    ne_eqb w reserved_word (λ q. (storable_kind w st).1 (omega (arith, q))),
  ) refl

  pub nodes_are : new_nodes l (store l i k w) ≡ new_nodes l l₁
  nodes_are = ap (new_nodes l) list_is ∙ new_nodes_then f (λ x. refl) (λ x. refl) l l₁

  store_made : w < 2 ^ 64 → {m : ℕ} → m ≡ set_bit matched_mark false (marks_of (inside l i k)) →
      NewList s i k w m (some (f (new_entry l i k w))) (store l i k w)
  store_made w< e = record {
    becomes = becomes_new l s.valid i k w al st new.is_new;
    entry = f (new_entry l i k w);
    some_is = refl;
    valid = rw (store_is i k al l w st) (sorted_remark i matched_mark false (omega arith)
        (store_valid i k w s.valid new.index_fits new.order_le (subst T (sym st) tt) w<));
    word_is = refl;
    marks_is = e ∙ sym marks_are;
    same_has = kept;
    same_height = ap height list_is ∙ height_map f (λ x. refl) (λ x. refl) l₁;
    same_new = nodes_are;
    same_places = places_alike l l₁ (store l i k w) s.places nodes_are kept;
  }
    where
      kept : (u c : ℕ) → has (store l i k w) u c ≡ has l₁ u c
      kept u c = ap (λ (x : List Entry). has x u c) list_is ∙ has_map f (λ x. refl) (λ x. refl) u c l₁

-- A RESERVATION: it replaces nothing, so there is no mark to clear
module _ {ws : List ℕ} (s : WellFormed ws) {i : ℕ} (new : NewStore s.list i 0 reserved_word) (al : aligned 0 i ≡ true) where
  bare_list_lem : store s.list i 0 reserved_word ≡ store_new s.list i 0 reserved_word
  bare_list_lem = bare_is i 0 al s.list reserved_word refl new.is_new ∙ rw new.is_new refl

  no_marks : marks_of (inside s.list i 0) ≡ 0
  no_marks = bare i 0 reserved_word s.list new.is_new refl

  reserve_made : {m : ℕ} → m ≡ set_bit matched_mark false (marks_of (inside s.list i 0)) →
      NewList s i 0 reserved_word m (some (new_entry s.list i 0 reserved_word)) (store s.list i 0 reserved_word)
  reserve_made e = record {
    becomes = becomes_reserve s.list s.valid i al new.is_new;
    entry = new_entry s.list i 0 reserved_word;
    some_is = refl;
    valid = subst Valid (sym bare_list_lem) (new_valid new tt (lit< tt));
    word_is = refl;
    marks_is = e ∙ (ap (set_bit matched_mark false) no_marks ∙ sym no_marks);
    same_has = λ u c. ap (λ (x : List Entry). has x u c) bare_list_lem;
    same_height = ap height bare_list_lem;
    same_new = ap (new_nodes s.list) bare_list_lem;
    same_places = places_alike s.list (store_new s.list i 0 reserved_word) (store s.list i 0 reserved_word) s.places
        (ap (new_nodes s.list) bare_list_lem) (λ u c. ap (λ (x : List Entry). has x u c) bare_list_lem);
  }

-- EITHER
pub new_made : {ws : List ℕ} (s : WellFormed ws) {i k w : ℕ} {b : Bool} → NewStore s.list i k w → aligned k i ≡ true →
    Puttable k w b → w < 2 ^ 64 → {m : ℕ} → m ≡ set_bit matched_mark false (marks_of (inside s.list i k)) → NewMade s i k w m
new_made s {i} {k} {w} {b} new al p w< {m} e = by_t b
    (λ t. by_zero (p.reserves t).0 (p.reserves t).1 new al e)
    (λ t. record { option = _; new = store_made s new al (p.stores t) w< e })
  where
    by_zero : {k w : ℕ} → k ≡ 0 → w ≡ reserved_word → NewStore s.list i k w → aligned k i ≡ true →
        m ≡ set_bit matched_mark false (marks_of (inside s.list i k)) → NewMade s i k w m
    by_zero {k} {w} z y = subst (λ (j : ℕ). NewStore s.list i j w → aligned j i ≡ true →
        m ≡ set_bit matched_mark false (marks_of (inside s.list i j)) → NewMade s i j w m) (sym z)
        (subst (λ (j : ℕ). NewStore s.list i 0 j → aligned 0 i ≡ true →
        m ≡ set_bit matched_mark false (marks_of (inside s.list i 0)) → NewMade s i 0 j m) (sym y)
        (λ new al e. record { option = _; new = reserve_made s new al e }))
