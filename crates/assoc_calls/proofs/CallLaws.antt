-- What looking a key up gives, by what is decided on the way.
use Prim.Native.Nat.{ℕ, ◌≤◌, ◌<◌}
use mathlib.Core.Path.{◌≡◌, refl, sym, ap, ◌∙◌}
use mathlib.Core.Bool.{true}
use mathlib.Core.List.{List}
use mathlib.Core.Option.{Option, none, some}
use native.Mathlib.Omega.{arith}
use lib.Dec.{leb}
use lib.ListN.{length}
use borrow.Author.Tests.{ne_eqb, le-leb, lt-leb}
use Rattle.blocks.proofs.BoolLaws.{by_t, both_no}
use Rattle.answers.specs.Answers.{result_of, done, absent, bad_key}
use Rattle.assoc_tree.specs.Keys.{Item, find, key_number, max_key}
use Rattle.assoc_layout.specs.Decode.{block_count, list_of, is_sized, is_well_formed}
use Rattle.assoc_layout.specs.WellFormed.{WellFormed}
use Rattle.assoc_local.proofs.ExactLaws.{is_well_formed_lem}
use Rattle.std.specs.Prelude.{Option as Read, None, Some}
use Rattle.assoc_lookup.specs.Lookup.{looked_for}
use Rattle.assoc_check.specs.Answers.{check_answer}
use Rattle.assoc_check.proofs.NamedLaws.{is_sized_lem}
use Rattle.assoc_calls.specs.Calls.{found_of, lookup}

module _ (ws bs : List ℕ) where
  pub refused : (a : ℕ) → a ≡ check_answer ws → (a ≡ 0 → ⊥) → result_of a 0 ≡ lookup ws bs
  refused a e ne = rw (← e, ne_eqb a 0 ne)

  module _ (ok : check_answer ws ≡ 0) where
    pub no_key : length bs < 1 → result_of bad_key 0 ≡ lookup ws bs
    no_key h = rw (ok, lt-leb 1 (length bs) h)

    pub long_key : max_key < length bs → result_of bad_key 0 ≡ lookup ws bs
    long_key h = rw (ok, lt-leb (length bs) max_key h, both_no (leb 1 (length bs)))

    passed : (is_sized ws ≡ true) × (is_well_formed (block_count ws) ws ≡ true)
    passed =
        by_t (is_sized ws)
        (λ t. by_t (is_well_formed (block_count ws) ws) (λ u. (t, u))
        (λ u. let e : ◌≡◌ {A = ℕ} 2 0 = (rw (t, u) at ok) in absurd (omega arith)))
        (λ t. let e : ◌≡◌ {A = ℕ} 1 0 = (rw t at ok) in absurd (omega arith))

    pub sound : WellFormed ws
    sound = let (e, lo, hi) = is_sized_lem ws passed.0 in is_well_formed_lem (block_count ws) ws lo hi passed.1

    list_is : sound.list ≡ list_of ws (block_count ws)
    unfolding sound is_well_formed_lem
    list_is = refl

    module _ (lo : 1 ≤ length bs) (hi : length bs ≤ max_key) where
      found : (o : Option Item) → find (key_number bs) sound.list ≡ o → found_of o ≡ lookup ws bs
      found o e = rw (ok, le-leb 1 (length bs) lo, le-leb (length bs) max_key hi, ← list_is, e)

      pub is_absent : {r : Read ℕ} → r ≡ looked_for (find (key_number bs) sound.list) → r ≡ None → result_of absent 0 ≡ lookup ws bs
      is_absent e q = go (find (key_number bs) sound.list) refl (sym e ∙ q)
        where
          go : (o : Option Item) → find (key_number bs) sound.list ≡ o → looked_for (find (key_number bs) sound.list) ≡ None →
              result_of absent 0 ≡ lookup ws bs
          go none f d = found none f
          go (some x) f d = let z : ◌≡◌ {A = ℕ} 0 1 = cc f in absurd (omega arith)

      pub is_present : {r : Read ℕ} (w : ℕ) → r ≡ looked_for (find (key_number bs) sound.list) → r ≡ Some w → result_of done w ≡ lookup ws bs
      is_present w e q = go (find (key_number bs) sound.list) refl (sym e ∙ q)
        where
          go : (o : Option Item) → find (key_number bs) sound.list ≡ o → looked_for (find (key_number bs) sound.list) ≡ Some w →
              result_of done w ≡ lookup ws bs
          go none f d = let z : ◌≡◌ {A = ℕ} 0 1 = cc f in absurd (omega arith)
          go (some x) f d = let p : x.object ≡ w = cc f in ap (result_of done) (sym p) ∙ found (some x) f
