-- What the tests of the head decide.
use Prim.Native.Nat.{ℕ, zero, suc, ◌<◌}
use mathlib.Core.Path.{◌≡◌, sym, ◌∙◌, subst}
use mathlib.Core.Bool.{Bool, not}
use mathlib.Core.Logic.{◌≢◌, inl, inr, ⊎_elim}
use native.Mathlib.Omega.{arith}
use lib.Dec.{eqb}
use borrow.Author.Tests.{eqb-true, eqb-false, ne_eqb}
use Rattle.blocks.specs.Choice.{pick}
use Rattle.blocks.proofs.BoolLaws.{by_t, decide_eqb}
use Rattle.layout.specs.Pool.{Pool, Free, slot_at, slot_of}
use Rattle.layout.specs.declared.Slot.{Slot}
use Rattle.layout.specs.declared.Slot.TheVariants.{Held}
use Rattle.layout.specs.Reading.{Decides}
use Rattle.local.specs.Local.{NodeOk, Live, TallOk, HeadOk, HeadNodeOk, mark_sum, UsedFrom}

-- where no slot after the first is in use
module _ (P : Pool) (h : ℕ) (F : UsedFrom P h 1 → ⊥) where
  pub tall_no : P.shift h ≡ 1 → TallOk P h → ⊥
  tall_no a t = ⊎_elim F (λ q. q.0 a) t

  pub tall_yes : (r : Bool) → (P.shift h ≡ 1 → ⊥) → Decides r (slot_at P h 0 ≡ Held) → Decides r (TallOk P h)
  tall_yes r a d = ((λ t. inr (a, d.0 t)), (λ t o. ⊎_elim F (λ q. d.1 t q.1) o))

pub both_of : {A B : Type 0} (r : Bool) → B → Decides r A → Decides r (A × B)
both_of r b d = ((λ t. (d.0 t, b)), (λ t p. d.1 t p.0))

pub head_at_lem : (P : Pool) (r : Bool) (κ : Slot) → slot_of P.head ≡ κ → Decides r (HeadOk P κ) →
    Decides r (HeadOk P (slot_of P.head))
head_at_lem P r κ s d = subst (λ (k : Slot). Decides r (HeadOk P k)) (sym s) d

pub head_tall : (P : Pool) (h : ℕ) → HeadNodeOk P h → TallOk P h
head_tall P h H =
    ⊎_elim inl (λ q. inr ((λ (z : P.shift h ≡ 1). q.0 (omega (arith, H.live.level))), q.1)) H.tall

module _ (P : Pool) (ok : (n : ℕ) → n < P.count → NodeOk P n) where
  module _ (h : ℕ) (lt : h < P.count) (nz : P.shift h ≡ 0 → ⊥) (no_owner : P.owner h ≡ 0) where
    lv : (v : ℕ) × Live P h v
    lv = ⊎_elim (λ (b : Free P h). absurd (nz b.shift_is)) (λ (l : (v : ℕ) × Live P h v). l) (ok h lt)

    pub head_yes : (m s : ℕ) → m ≡ P.marks → s ≡ mark_sum (λ μ. not (eqb (P.mark h μ) 0)) → TallOk P h →
        Decides (eqb m s) (HeadNodeOk P h)
    head_yes m s a b t =
        decide_eqb m s
        (λ e. record {
          there = lt;
          top = lv.0;
          live = lv.1;
          no_owner = no_owner;
          tall = ⊎_elim inl (λ q. inr ((λ (z : lv.0 ≡ 0). q.0 (omega (arith, lv.1.level))), q.1)) t;
          marks_are = sym a ∙ e ∙ b;
        })
        (λ H. a ∙ H.marks_are ∙ sym b)

pub pick_none : (x k : ℕ) → x ≡ 0 → 0 ≡ pick (not (eqb x 0)) k 0
pick_none x k e = rw e

pub pick_some : (x k : ℕ) → (x ≡ 0 → ⊥) → k ≡ pick (not (eqb x 0)) k 0
pick_some x k e = rw (ne_eqb x 0 e)

-- finitely many facts, none of which fails, do not fail together
pub none_fails : (A : ℕ → Type 0) (N : ℕ) → ((n : ℕ) → n < N → (A n → ⊥) → ⊥) → (((n : ℕ) → n < N → A n) → ⊥) → ⊥
none_fails A zero h f = f (λ n lt. absurd (omega arith))
none_fails A (suc N) h f =
    none_fails A N (λ n lt. h n (omega arith)) (λ all. h N (omega arith) (λ a. f (λ n lt.
    by_t (eqb n N) (λ e. subst A (sym (eqb-true n N e)) a)
    (λ e. let d : n ≢ N = eqb-false n N e in all n (omega arith)))))
