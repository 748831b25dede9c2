-- What the code's tests make of the steps on the words.
use Prim.Native.Nat.{ℕ, suc, ◌+◌, ◌-◌, ◌%◌, ◌≤◌, ◌<◌}
use mathlib.Core.Path.{◌≡◌, ap, ◌∙◌}
use mathlib.Core.Bool.{Bool, true, false}
use mathlib.Core.List.{List}
use lib.Dec.{eqb}
use borrow.Author.Tests.{eq-eqb, ne_eqb, le-leb, lt-leb}
use Rattle.blocks.specs.Choice.{pick}
use Rattle.assoc_tree.specs.Parts.{block_of, full}
use Rattle.assoc_layout.specs.Words.{slot_field, skip_field, value_field}
use Rattle.std.specs.Prelude.{None, Some}
use Rattle.assoc_lookup.specs.Lookup.{Leaf, word, key_in, wanted, packed_step, cut_step, child_step, step_of}

pub pick_yes : {A : Type 0} (b : Bool) (x y : A) → b ≡ true → x ≡ pick b x y
pick_yes b x y e = rw e

pub pick_no : {A : Type 0} (b : Bool) (x y : A) → b ≡ false → y ≡ pick b x y
pick_no b x y e = rw e

module _ (ws ks : List ℕ) (m : ℕ) where
  packed_one : (j k x : ℕ) → x ≡ word ws ks m (slot_field + j) - 1 → packed_step ws ks m j (suc k) ≡
      pick (eqb (block_of 0 (key_in ws ks x)) (block_of 0 (wanted ws ks))) (Some (Leaf x)) (packed_step ws ks m (suc j) k)
  unfolding packed_step
  packed_one j k x e = rw e

  pub packed_hit : (j k n x : ℕ) → n ≡ suc k → x ≡ word ws ks m (slot_field + j) - 1 →
      block_of 0 (key_in ws ks x) ≡ block_of 0 (wanted ws ks) → packed_step ws ks m j n ≡ Some (Leaf x)
  packed_hit j k n x d e q = ap (packed_step ws ks m j) d ∙ packed_one j k x e ∙ rw (eq-eqb _ _ q)

  pub packed_next : (j k n x : ℕ) → n ≡ suc k → x ≡ word ws ks m (slot_field + j) - 1 →
      (block_of 0 (key_in ws ks x) ≡ block_of 0 (wanted ws ks) → ⊥) → packed_step ws ks m j n ≡ packed_step ws ks m (suc j) k
  packed_next j k n x d e q = ap (packed_step ws ks m j) d ∙ packed_one j k x e ∙ rw (ne_eqb _ _ q)

  pub packed_end : (j n : ℕ) → n ≡ 0 → packed_step ws ks m j n ≡ None
  unfolding packed_step
  packed_end j n e = ap (packed_step ws ks m j) e

-- the three ways of a step
module _ (ws ks : List ℕ) (m v : ℕ) where
  pub step_cut : (skip : ℕ) → skip ≡ word ws ks m skip_field → (skip ≡ 0 → ⊥) → cut_step ws ks m (v - skip) ≡ step_of ws ks m v
  step_cut skip e n = rw (← e) (pick_no (eqb skip 0) _ (cut_step ws ks m (v - skip)) (ne_eqb skip 0 n))

  pub step_packed : (skip count : ℕ) → skip ≡ word ws ks m skip_field → skip ≡ 0 → count ≡ word ws ks m value_field → count ≤ full →
      packed_step ws ks m 0 count ≡ step_of ws ks m v
  step_packed skip count e z d h = rw (← e, ← d, z, le-leb count full h)

  pub step_child : (skip count j r : ℕ) → skip ≡ word ws ks m skip_field → skip ≡ 0 → count ≡ word ws ks m value_field → full < count →
      j ≡ block_of (v - 1) (wanted ws ks) % 16 → r ≡ word ws ks m (slot_field + j) →
      child_step ws ks r (v - 1) ≡ step_of ws ks m v
  step_child skip count j r e z d h q f = rw (← e, ← d, z, lt-leb count full h, ← q, ← f)
