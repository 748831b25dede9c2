-- A slot that leads to a node: its marks are that node's.
use Prim.Native.Nat.{ℕ, suc, ◌<◌}
use mathlib.Core.Path.{◌≡◌, sym, ap, ◌∙◌}
use mathlib.Core.Bool.{Bool, not}
use mathlib.Core.Logic.{◌≢◌}
use native.Mathlib.Omega.{arith}
use lib.Dec.{eqb}
use borrow.Author.Tests.{eqb-true, eqb-false, eq-eqb, ne_eqb}
use Rattle.blocks.specs.Blocks.{bit}
use Rattle.blocks.proofs.BoolLaws.{by_t, decide_eqb}
use Rattle.layout.specs.Pool.{Pool}
use Rattle.layout.specs.Words.{owner_word}
use Rattle.layout.specs.Reading.{Decides}
use Rattle.decode.proofs.KeepLaws.{no_both}
use Rattle.decode.proofs.ChainLaws.{bit_lt}
use Rattle.local.specs.Local.{cap, ChildOk, level_word, Agree}
use Rattle.steps.proofs.DecideLaws.{three}

pub agree_zero : (b j w x : ℕ) → b ≡ bit j w → x ≡ 0 → Decides (eqb b 0) (eqb (bit j w) 1 ≡ not (eqb x 0))
agree_zero b j w x e z =
    let lt : bit j w < 2 = bit_lt j w in
    decide_eqb b 0 (λ f. rw (z, ne_eqb (bit j w) 1 (λ (q : bit j w ≡ 1). omega arith)))
    (λ f. by_t (eqb (bit j w) 1) (λ q. no_both {t = not (eqb x 0)} (sym f ∙ q) (rw z))
    (λ q. let r : bit j w ≢ 1 = eqb-false (bit j w) 1 q in omega arith))

pub agree_one : (b d x : ℕ) → b ≡ d → (x ≡ 0 → ⊥) → Decides (eqb b 1) (eqb d 1 ≡ not (eqb x 0))
agree_one b d x e z =
    decide_eqb b 1 (λ f. rw (ne_eqb x 0 z, eq-eqb d 1 (omega arith)))
    (λ f. e ∙ eqb-true d 1 (f ∙ (rw (ne_eqb x 0 z))))

module _ (P : Pool) (n v j m : ℕ) where
  abbrev A : ℕ → Type 0
  A μ = Agree P n j m μ

  pub child_yes : (r : Bool) (u : ℕ) → v ≡ suc u → m < P.count → P.shift m ≡ level_word u →
      P.owner m ≡ owner_word n j → j < cap v → A 0 → A 1 → Decides r (A 2) → Decides r (ChildOk P n v j m)
  child_yes r u a b c d e f g h = (
    (λ t. record {
      lower = u;
      is_lower = a;
      there = b;
      level = c;
      owned = d;
      used = e;
      marked = three A f g (h.0 t);
    }),
    (λ t s. h.1 t (s.marked 2 (omega arith))),
  )

  pub child_no_level : (u : ℕ) → v ≡ suc u → (P.shift m ≡ level_word u → ⊥) → ChildOk P n v j m → ⊥
  child_no_level u e f s = f (s.level ∙ ap level_word (omega (arith, s.is_lower)))
