-- The base of a block is the first number of a block of a tier, by the fields of the base.
use Prim.Native.Nat.{ℕ, ◌+◌, ◌*◌, ◌-◌, ◌/◌, ◌%◌, ◌^◌, ◌≤◌}
use mathlib.Core.Path.{◌≡◌, sym, ap, ◌∙◌, subst}
use mathlib.Core.List.{List}
use native.Mathlib.Omega.{arith}
use lib.Dec.{eqb}
use lib.ListN.{get_or}
use Rattle.blocks.specs.Deciding.{Decides}
use Rattle.blocks.proofs.BoolLaws.{decide_eqb}
use Rattle.assoc_keys.specs.Number.{Words}
use Rattle.assoc_keys.proofs.AlignLaws.{first_yes, first_no}
use Rattle.assoc_tree.specs.Parts.{top_tier}
use Rattle.assoc_layout.specs.Words.{place, base_field}
use Rattle.assoc_layout.specs.Decode.{word}
use Rattle.assoc_layout.specs.Reading.{Blank, First}

module _ (ws : List ℕ) (fit : Words ws) (m v : ℕ) (high : v ≤ top_tier) where
  base_word : (i : ℕ) → get_or ws (place m base_field + i) 0 ≡ word ws m (base_field + i)
  base_word i = let e : place m base_field + i ≡ place m (base_field + i) = omega arith in ap (λ (x : ℕ). get_or ws x 0) e

  pub first_blank : First ws m v → Blank ws m base_field (base_field + v / 16)
  first_blank e f a b =
      let d : base_field + (f - base_field) ≡ f = omega arith in
      subst (λ (x : ℕ). word ws m x ≡ 0) d (sym (base_word (f - base_field)) ∙
      (first_no ws fit (place m base_field) v (omega arith) e).0 (f - base_field) (omega arith))

  pub first_decides : (w d : ℕ) → Blank ws m base_field (base_field + v / 16) → w ≡ word ws m (base_field + v / 16) →
      d ≡ 2 ^ (4 * (v % 16)) → Decides (eqb (w % d) 0) (First ws m v)
  first_decides w d low e q =
      decide_eqb (w % d) 0
      (λ z. first_yes ws fit (place m base_field) v (omega arith) (λ i h. base_word i ∙ low (base_field + i) (omega arith) (omega arith))
      (same ∙ z))
      (λ f. sym same ∙ (first_no ws fit (place m base_field) v (omega arith) f).1)
    where
      same : get_or ws (place m base_field + v / 16) 0 % 2 ^ (4 * (v % 16)) ≡ w % d
      same = ap (λ (x : ℕ). x % 2 ^ (4 * (v % 16))) (base_word (v / 16) ∙ sym e) ∙ ap (λ (x : ℕ). w % x) (sym q)
