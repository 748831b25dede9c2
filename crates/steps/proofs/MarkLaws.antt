-- The marks of a slot, in one word for all three.
use Prim.Native.Nat.{ℕ, ◌^◌, ◌<◌, max}
use mathlib.Core.Path.{◌≡◌, sym, ap, ◌∙◌}
use native.Mathlib.Omega.{arith}
use lib.Dec.{lit<}
use lib.Bits.{bit_or, or_lt}
use Rattle.blocks.specs.Blocks.{bit}
use Rattle.layout.specs.Pool.{Pool}
use Rattle.steps.specs.Steps.{AllMarks}
use Rattle.steps.proofs.DecideLaws.{three}
use Rattle.blocks.proofs.TwoWordLaws.{or_bit}

module _ (P : Pool) (n : ℕ) where
  pub marks_of_lem : (a b c : ℕ) → a ≡ P.mark n 0 → b ≡ P.mark n 1 → c ≡ P.mark n 2 → a < 2 ^ 64 → b < 2 ^ 64 →
      c < 2 ^ 64 → AllMarks P n (bit_or (bit_or a b) c)
  marks_of_lem a b c ea eb ec fa fb fc =
      record {
        fits = or_lt 64 (bit_or a b) c (or_lt 64 a b fa fb) fc;
        clear = λ j z. let q = both3 j in
            three (λ μ. bit j (P.mark n μ) ≡ 0) (ap (bit j) (sym ea) ∙ omega arith)
            (ap (bit j) (sym eb) ∙ omega arith) (ap (bit j) (sym ec) ∙ omega arith);
        cleared = λ j u. let q = both3 j in
            let x : bit j a ≡ 0 = ap (bit j) ea ∙ u 0 (lit< tt) in
            let y : bit j b ≡ 0 = ap (bit j) eb ∙ u 1 (lit< tt) in
            let z : bit j c ≡ 0 = ap (bit j) ec ∙ u 2 (lit< tt) in omega arith;
      }
    where
      both3 : (j : ℕ) → (bit j (bit_or (bit_or a b) c) ≡ max (bit j (bit_or a b)) (bit j c)) ×
          (bit j (bit_or a b) ≡ max (bit j a) (bit j b))
      both3 j = (or_bit (bit_or a b) c j, or_bit a b j)
