-- What the tests of a node decide: its owner, its level, its slots.
use Prim.Native.Nat.{ℕ, ◌+◌, ◌-◌, ◌/◌, ◌%◌, ◌≤◌, ◌<◌}
use mathlib.Core.Path.{◌≡◌, sym, ap, ◌∙◌, subst}
use mathlib.Core.Bool.{Bool}
use mathlib.Core.Logic.{◌≢◌, inl, inr, ⊎_elim}
use native.Mathlib.Omega.{arith}
use lib.Dec.{eqb}
use borrow.Author.Tests.{eqb-true, eqb-false}
use Rattle.blocks.proofs.BoolLaws.{by_t}
use Rattle.tree.specs.Tree.{slots, slot_bits}
use Rattle.layout.specs.Pool.{Pool, Free, slot_at, slot_of}
use Rattle.layout.specs.declared.Slot.{Slot}
use Rattle.layout.specs.declared.Slot.TheVariants.{Child}
use Rattle.layout.specs.Reading.{Decides}
use Rattle.local.specs.Local.{OwnedOk, NodeOk, OwnedBy, Live, UsedFrom, level_word, top_level}
use Rattle.steps.specs.Steps.{SlotsFilled}

-- the word of a slot as read
pub at_word : {w w' : ℕ} {κ : Slot} (r : Bool) → w ≡ w' → Decides r (slot_of w ≡ κ) → Decides r (slot_of w' ≡ κ)
at_word {κ = κ} r e d = subst (λ (x : ℕ). Decides r (slot_of x ≡ κ)) e d

module _ (P : Pool) (n v : ℕ) where
  pub own_head : (r : Bool) → P.owner n ≡ 0 → Decides r (slot_of P.head ≡ Child n) → Decides r (OwnedOk P n v)
  own_head r z d = (
    (λ t. inl (z, d.0 t)),
    (λ t o. ⊎_elim (λ (h : (P.owner n ≡ 0) × (slot_of P.head ≡ Child n)). d.1 t h.1)
        (λ (h : OwnedBy P n v). omega (arith, h.owner_is)) o),
  )

  -- the owner word o names slot (o - 1) % 64 of node (o - 1) / 64
  module _ (o : ℕ) (eo : o ≡ P.owner n) (nz : o ≡ 0 → ⊥) where
    owner_slot : OwnedOk P n v → (h : OwnedBy P n v) × (h.parent ≡ (o - 1) / slots) × (h.offset ≡ (o - 1) % slots)
    owner_slot w =
        ⊎_elim (λ (h : (P.owner n ≡ 0) × (slot_of P.head ≡ Child n)). absurd (nz (eo ∙ h.0)))
        (λ (h : OwnedBy P n v).
        (h, omega (arith, h.owner_is, h.in_node), omega (arith, h.owner_is, h.in_node))) w

    pub own_no_parent : P.count ≤ (o - 1) / slots → OwnedOk P n v → ⊥
    own_no_parent h w = let q = owner_slot w in omega (arith, q.0.there, q.1)

    pub own_no_level : (P.shift ((o - 1) / slots) ≡ level_word (v + 1) → ⊥) → OwnedOk P n v → ⊥
    own_no_level h w = let q = owner_slot w in h (ap P.shift (sym q.1) ∙ q.0.above ∙ (omega arith))

    pub own_yes : (r : Bool) → (o - 1) / slots < P.count → P.shift ((o - 1) / slots) ≡ level_word (v + 1) →
        Decides r (slot_at P ((o - 1) / slots) ((o - 1) % slots) ≡ Child n) → Decides r (OwnedOk P n v)
    own_yes r c e d = (
      (λ t. inr (record {
        parent = (o - 1) / slots;
        offset = (o - 1) % slots;
        in_node = omega arith;
        there = c;
        owner_is = sym eo ∙ (omega (arith, pos));
        above = e ∙ (omega arith);
        holds = d.0 t;
      })),
      (λ t w. let q = owner_slot w in
          d.1 t (ap (λ (y : ℕ). slot_at P y ((o - 1) % slots)) (sym q.1)
          ∙ ap (λ (y : ℕ). slot_at P q.0.parent y) (sym q.2) ∙ q.0.holds)),
    )
      where
        pos : 1 ≤ o
        pos = by_t (eqb o 0) (λ e. absurd (nz (eqb-true o 0 e)))
            (λ e. let z : o ≢ 0 = eqb-false o 0 e in omega arith)

pub node_free : (P : Pool) (n : ℕ) (r : Bool) → P.shift n ≡ 0 → Decides r (Free P n) → Decides r (NodeOk P n)
node_free P n r z d = (
  (λ t. inl (d.0 t)),
  (λ t o. ⊎_elim (λ (b : Free P n). d.1 t b) (λ (l : (v : ℕ) × Live P n v). omega (arith, l.1.level)) o),
)

-- s is the first word of node n, and not 0
module _ (P : Pool) (n v s : ℕ) (es : s ≡ P.shift n) (nz : s ≡ 0 → ⊥) (vv : v ≡ (s - 1) / slot_bits) where
  live_is : NodeOk P n → (v : ℕ) × Live P n v
  live_is o = ⊎_elim (λ (b : Free P n). absurd (nz (es ∙ b.shift_is))) (λ (l : (v : ℕ) × Live P n v). l) o

  pub node_no_level : ((s - 1) % slot_bits ≡ 0 → ⊥) → NodeOk P n → ⊥
  node_no_level f o = let l = live_is o in f (omega (arith, l.1.level))

  live_v : NodeOk P n → Live P n v
  live_v o =
      let l = live_is o in
      let q : l.0 ≡ v = omega (arith, l.1.level) in subst (λ (x : ℕ). Live P n x) q l.1

  pub node_no : {A : Type 0} → (Live P n v → A) → (A → ⊥) → NodeOk P n → ⊥
  node_no f g o = g (f (live_v o))

  -- k is the count, and not 0
  pub node_yes : (r : Bool) (k : ℕ) → (s - 1) % slot_bits ≡ 0 → v ≤ top_level → OwnedOk P n v → k ≡ P.filled n →
      (SlotsFilled P n v k → UsedFrom P n 0) → Decides r (SlotsFilled P n v k) → Decides r (NodeOk P n)
  node_yes r k m h o e u d = (
    (λ t. let f = d.0 t in inr (
      v,
      record {
        level = lev;
        high = h;
        owned = o;
        slots_ok_lem = f.slots_ok_lem;
        filled_is = sym e ∙ f.filled_is;
        used = u f;
      },
    )),
    (λ t o. let l = live_v o in d.1 t (record { slots_ok_lem = l.slots_ok_lem; filled_is = e ∙ l.filled_is })),
  )
    where
      lev : P.shift n ≡ level_word v
      lev = by_t (eqb s 0) (λ e. absurd (nz (eqb-true s 0 e)))
          (λ e. let z : s ≢ 0 = eqb-false s 0 e in omega arith)

pub free_of : (P : Pool) (n : ℕ) → NodeOk P n → P.shift n ≡ 0 → Free P n
free_of P n o z = ⊎_elim (λ (b : Free P n). b) (λ (l : (v : ℕ) × Live P n v). absurd (omega (arith, l.1.level))) o
