-- Where a look-up starts, and what its steps come to.
use Prim.Native.Nat.{ℕ, ◌-◌, ◌^◌, ◌<◌}
use mathlib.Core.Path.{◌≡◌, refl, sym, ap, ◌∙◌, subst}
use mathlib.Core.List.{List, [], ◌∷◌}
use mathlib.Core.Option.{none, some}
use native.Mathlib.Omega.{arith}
use native.Mathlib.Nat.{div-eq_of_lt, le_refl}
use lib.ListN.{get_or}
use Rattle.blocks.specs.Lists.{In, here}
use Rattle.assoc_tree.specs.Keys.{Item, find}
use Rattle.assoc_tree.specs.Parts.{Part, leaf, top_tier, root_for, head_item}
use Rattle.assoc_layout.specs.Words.{root_word, value_field, ref, object_of}
use Rattle.assoc_layout.specs.WellFormed.{WellFormed, num}
use Rattle.assoc_layout.proofs.RenderLaws.{word_of_lem, root_word_lem}
use Rattle.std.specs.Prelude.{Option, None, Some}
use Rattle.assoc_lookup.specs.Lookup.{Step, Leaf, Into, word, wanted, At, StepOk, is_nothing, is_leaf, is_into}
use Rattle.assoc_tree.proofs.KeyLaws.{find_some, has_leaf, key_top}
use Rattle.assoc_tree.proofs.SlotLaws.{size_pos, root_upper}

-- STEPS
module _ {l : List Item} {ν : Part → ℕ} {k v : ℕ} where
  pub ok_nothing : {r : Option Step} → StepOk l ν k v r → r ≡ None → find k l ≡ none
  ok_nothing (is_nothing f) e = f
  ok_nothing (is_leaf x f) e = let z : ◌≡◌ {A = ℕ} 0 1 = cc in absurd (omega arith)
  ok_nothing (is_into m w h a) e = let z : ◌≡◌ {A = ℕ} 0 1 = cc in absurd (omega arith)

  pub ok_leaf : {r : Option Step} {n : ℕ} → StepOk l ν k v r → r ≡ Some (Leaf n) → (x : Item) × (find k l ≡ some x) × (n ≡ ν (leaf l x.key))
  ok_leaf (is_nothing f) e = let z : ◌≡◌ {A = ℕ} 0 1 = cc in absurd (omega arith)
  ok_leaf (is_leaf x f) e = (x, f, cc)
  ok_leaf (is_into m w h a) e = let z : ◌≡◌ {A = ℕ} 0 1 = cc in absurd (omega arith)

  pub ok_into : {r : Option Step} {n u : ℕ} → StepOk l ν k v r → r ≡ Some (Into n u) → (u < v) × At l ν u k n
  ok_into (is_nothing f) e = let z : ◌≡◌ {A = ℕ} 0 1 = cc in absurd (omega arith)
  ok_into (is_leaf x f) e = let z : ◌≡◌ {A = ℕ} 0 1 = cc in absurd (omega arith)
  ok_into {n} {u} (is_into m w h a) e =
      let d : m ≡ n = cc in
      let c : w ≡ u = cc in
      (subst (λ (y : ℕ). y < v) c h, subst (λ (y : ℕ). At l ν y k n) c (subst (λ (y : ℕ). At l ν w k y) d a))

module _ {ws : List ℕ} (ks : List ℕ) (s : WellFormed ws) where
  start_for : (l : List Item) → l ≡ s.list → (r : ℕ) → r ≡ ref s.list (num s) (root_for s.list (head_item l)) → wanted ws ks < 2 ^ 264 →
      (r ≡ 0 → find (wanted ws ks) s.list ≡ none) × ((r ≡ 0 → ⊥) → At s.list (num s) top_tier (wanted ws ks) (r - 1))
  start_for [] e r d h = (λ z. ap (find (wanted ws ks)) (sym e), λ n. absurd (n d))
  start_for (x ∷ t) e r d h =
      let i : In x s.list = subst (In x) e here in (
        λ z. absurd (omega arith),
        λ n. record {
          item = x;
          inside = i;
          over = div-eq_of_lt (key_top s.valid i) ∙ sym (div-eq_of_lt h);
          upper = root_upper s.list x.key (size_pos top_tier i);
          number = omega arith;
          low = omega arith;
          high = le_refl _;
        },
      )

  pub start : (r : ℕ) → r ≡ get_or ws root_word 0 → wanted ws ks < 2 ^ 264 →
      (r ≡ 0 → find (wanted ws ks) s.list ≡ none) × ((r ≡ 0 → ⊥) → At s.list (num s) top_tier (wanted ws ks) (r - 1))
  start r e h = start_for s.list refl r (e ∙ root_word_lem s) h

  -- a leaf holds its object
  pub object_at : {x : Item} (m : ℕ) → find (wanted ws ks) s.list ≡ some x → In x s.list → m ≡ num s (leaf s.list x.key) →
      word ws ks m value_field ≡ x.object
  object_at {x} m f i e =
      ap (λ (n : ℕ). word ws ks n value_field) e ∙ word_of_lem s (leaf s.list x.key) value_field (has_leaf s.list i) (omega arith) ∙
      ap object_of (find_some x.key s.valid i refl)
