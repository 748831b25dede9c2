-- What the bytes of a leaf show, and those of a node above the leaves.
use Prim.Native.Nat.{ℕ, ◌+◌, ◌*◌, ◌-◌, ◌/◌, ◌%◌, ◌^◌, ◌≤◌, ◌<◌}
use mathlib.Core.Path.{◌≡◌, refl, sym, ap, ◌∙◌}
use mathlib.Core.Bool.{not}
use mathlib.Core.Logic.{◌⊎◌, inl, inr, ◌≢◌}
use mathlib.Core.List.{List}
use native.Mathlib.Omega.{arith}
use native.Mathlib.Nat.{zero-div}
use lib.Dec.{eqb, ltb}
use lib.ListN.{get_or}
use borrow.Author.Tests.{eqb-true, eqb-false, eq-eqb, ne_eqb, ltb-true, ltb-false, lt-ltb, le-ltb}
use Rattle.blocks.specs.Choice.{pick}
use Rattle.blocks.specs.Blocks.{bit}
use Rattle.blocks.proofs.BoolLaws.{by_t}
use Rattle.model.specs.Model.{reserved_word}
use Rattle.tree.specs.Tree.{slots}
use Rattle.layout.specs.Pool.{Pool, slot_at}
use Rattle.layout.specs.declared.Slot.TheVariants.{Reserved, Held, Sibling, Child}
use Rattle.layout.proofs.SaysLaws.{said, word_of_lem}
use Rattle.local.specs.Local.{top_level}
use Rattle.steps.specs.Steps.{AllMarks, SlotsFilled}
use Rattle.passes.specs.Bytes.{byte_by, byte_of, upper_byte_of, not_leaf, not_upper, Bytes, ChainedTo, HeldTo, NoneLead, ChildrenTo}
use Rattle.steps.proofs.RunLaws.{cap_other}
use Rattle.passes.proofs.SeenLaws.{Seen, seen_ok}

-- THE BYTE OF A WORD
byte_outer : (t w : ℕ) → w % 4 ≢ 2 → byte_by t w ≡ pick (not (eqb w 0)) 1 0
byte_outer t w h = rw (ne_eqb (w % 4) 2 h)

byte_small : (t w : ℕ) → w % 4 ≡ 2 → w < 256 → byte_by t w ≡ w
byte_small t w h l = rw (eq-eqb (w % 4) 2 h, lt-ltb w 256 l)

byte_large : (t w : ℕ) → w % 4 ≡ 2 → 256 ≤ w → byte_by t w ≡ t
byte_large t w h l = rw (eq-eqb (w % 4) 2 h, le-ltb w 256 l)

outer_le : (w : ℕ) → pick (not (eqb w 0)) 1 0 ≤ 1
outer_le w = by_t (eqb w 0) (λ t. rw t (omega arith)) (λ t. rw t (omega arith))

byte_is : (t w x : ℕ) → t % 4 ≢ 2 → byte_by t w ≡ x → x % 4 ≡ 2 → w ≡ x
byte_is t w x o e h =
    by_t (eqb (w % 4) 2)
    (λ z. let i : w % 4 ≡ 2 = eqb-true (w % 4) 2 z in
    by_t (ltb w 256)
    (λ u. sym (byte_small t w i (ltb-true w 256 u)) ∙ e)
    (λ u. absurd (o (ap (λ (v : ℕ). v % 4) (sym (byte_large t w i (ltb-false w 256 u)) ∙ e) ∙ h))))
    (λ z. let k : ◌≡◌ {A = ℕ} (pick (not (eqb w 0)) 1 0) x = sym (byte_outer t w (eqb-false (w % 4) 2 z)) ∙ e in
    absurd (omega (arith, outer_le w)))

-- an entry or a large word
byte_one : (t w : ℕ) → byte_by t w % 4 ≡ 1 → ((w ≢ 0) × (w % 4 ≢ 2)) ⊎ ((w % 4 ≡ 2) × (256 ≤ w))
byte_one t w e =
    by_t (eqb (w % 4) 2)
    (λ z. let i : w % 4 ≡ 2 = eqb-true (w % 4) 2 z in
    by_t (ltb w 256)
    (λ u. let k : w % 4 ≡ 1 = ap (λ (v : ℕ). v % 4) (sym (byte_small t w i (ltb-true w 256 u))) ∙ e in absurd (omega arith))
    (λ u. inr (i, ltb-false w 256 u)))
    (λ z. let i : w % 4 ≢ 2 = eqb-false (w % 4) 2 z in
    inl (
      (λ (q : w ≡ 0). let k : pick (not (eqb w 0)) 1 0 % 4 ≡ 1 = ap (λ (v : ℕ). v % 4) (sym (byte_outer t w i)) ∙ e in
          let k0 : ◌≡◌ {A = ℕ} (pick (not (eqb w 0)) 1 0) 0 = ap (λ (v : ℕ). pick (not (eqb v 0)) 1 0) q in omega arith),
      i,
    ))

-- A LEAF
module _ (P : Pool) (n m : ℕ) (bs : List ℕ) (c : ℕ) (g : Bytes byte_of not_leaf P n slots bs c) (le : c ≤ slots) (hd : HeldTo bs m slots) where
  small_at : (j : ℕ) → j < slots → P.slot n j % 4 ≡ 2 → P.slot n j ≢ reserved_word → P.slot n j < 256
  small_at j lt i ne = g.small le j lt i (rw (ne_eqb (P.slot n j) reserved_word ne))

  held_at : (j : ℕ) → j < slots → get_or bs (j + 1) 0 % 4 ≡ 1 → slot_at P n j ≡ Held
  held_at j lt e =
      let d : byte_of (P.slot n j) % 4 ≡ 1 = ap (λ (x : ℕ). x % 4) (sym (g.each j lt)) ∙ e in
      pick_one d (byte_one 4 (P.slot n j) d)
    where
      pick_one : byte_of (P.slot n j) % 4 ≡ 1 → ((P.slot n j ≢ 0) × (P.slot n j % 4 ≢ 2)) ⊎ ((P.slot n j % 4 ≡ 2) × (256 ≤ P.slot n j)) →
          slot_at P n j ≡ Held
      pick_one d (inl h) = said (P.slot n j) Held h
      pick_one d (inr (i, l)) =
          let k : 4 % 4 ≡ 1 = ap (λ (x : ℕ). x % 4) (sym (byte_large 4 (P.slot n j) i l)) ∙ d in absurd (omega arith)

  pub leaf_seen : Seen P n 0 m bs
  leaf_seen = record {
    full = cap_other 0 (λ e. omega arith);
    high = omega arith;
    first = g.framed.first;
    last = g.framed.last;
    held = λ j lt e. held_at j lt (omega arith);
    sibling = λ j o lt e.
        let w = word_of_lem (P.slot n j) (Sibling o) e in
        let a : P.slot n j ≡ 4 * o + 2 = w.0 in
        let i : P.slot n j % 4 ≡ 2 = omega arith in
        let s : P.slot n j < 256 = small_at j lt i w.2 in
        (omega arith, g.each j lt ∙ byte_small 4 (P.slot n j) i s ∙ a);
    word = λ j o lt e. byte_is 4 (P.slot n j) (4 * o + 2) (λ z. omega arith) (sym (g.each j lt) ∙ e) (omega arith);
    clear = λ j lt ne nc. hd j lt (λ e. ne (held_at j lt e));
    bottom = λ j lt e. refl;
    child = λ j lt d e.
        let w : P.slot n j ≡ 4 * (1024 + d) + 2 = word_of_lem (P.slot n j) (Child d) e in
        let i : P.slot n j % 4 ≡ 2 = omega arith in
        let x : P.slot n j ≢ reserved_word = λ (z : P.slot n j ≡ reserved_word). omega arith in
        let s : P.slot n j < 256 = small_at j lt i x in absurd (omega arith);
  }

  pub leaf_filled : ChainedTo bs slots → AllMarks P n m → (k : ℕ) → c ≡ k → SlotsFilled P n 0 k
  leaf_filled ch am k e = record { slots_ok_lem = seen_ok P n 0 m bs leaf_seen ch am; filled_is = sym e ∙ g.count le }

held_none : (bs : List ℕ) (m : ℕ) → m ≡ 0 → HeldTo bs m slots
held_none bs m e i l ne = ap (bit i) e ∙ ap (λ (x : ℕ). x % 2) (zero-div (2 ^ i))

pub leaf_unmarked : (P : Pool) (n m : ℕ) (bs : List ℕ) (c : ℕ) → Bytes byte_of not_leaf P n slots bs c → c ≤ slots → ChainedTo bs slots →
    AllMarks P n m → m ≡ 0 → (k : ℕ) → c ≡ k → SlotsFilled P n 0 k
leaf_unmarked P n m bs c g le ch am z k e = leaf_filled P n m bs c g le (held_none bs m z) ch am k e

-- A NODE ABOVE THE LEAVES
-- without a child
pub lead_none : (P : Pool) (n v : ℕ) (bs : List ℕ) (c : ℕ) → Bytes upper_byte_of not_upper P n slots bs c → NoneLead bs slots →
    ChildrenTo P n v slots
lead_none P n v bs c g h j lt d e =
    let w : P.slot n j ≡ 4 * (1024 + d) + 2 = word_of_lem (P.slot n j) (Child d) e in
    absurd (h j lt (g.each j lt ∙ byte_large 5 (P.slot n j) (omega arith) (omega arith)))

module _ (P : Pool) (n v m : ℕ) (bs : List ℕ) (c : ℕ) (g : Bytes upper_byte_of not_upper P n slots bs c) (le : c ≤ slots) (hv : v < top_level)
    (hd : HeldTo bs m slots) (cs : ChildrenTo P n v slots) where
  apart : (j : ℕ) → j < slots → P.slot n j % 4 ≡ 2 → P.slot n j < 4096 → P.slot n j < 256
  apart j lt i l = g.small le j lt i (lt-ltb (P.slot n j) 4096 l)

  -- where it is no node's, an entry's
  held_upper : (j : ℕ) → j < slots → ((d : ℕ) → slot_at P n j ≢ Child d) → get_or bs (j + 1) 0 % 4 ≡ 1 → slot_at P n j ≡ Held
  held_upper j lt nc e =
      pick_one (byte_one 5 (P.slot n j) (ap (λ (x : ℕ). x % 4) (sym (g.each j lt)) ∙ e))
    where
      pick_one : ((P.slot n j ≢ 0) × (P.slot n j % 4 ≢ 2)) ⊎ ((P.slot n j % 4 ≡ 2) × (256 ≤ P.slot n j)) → slot_at P n j ≡ Held
      pick_one (inl h) = said (P.slot n j) Held h
      pick_one (inr (i, l)) =
          by_t (ltb (P.slot n j) 4096)
          (λ t. let s : P.slot n j < 256 = apart j lt i (ltb-true (P.slot n j) 4096 t) in absurd (omega arith))
          (λ t. let s : 4096 ≤ P.slot n j = ltb-false (P.slot n j) 4096 t in
          absurd (nc (P.slot n j / 4 - 1024) (said (P.slot n j) (Child (P.slot n j / 4 - 1024)) (omega arith))))

  not_one : (j : ℕ) → j < slots → get_or bs (j + 1) 0 ≡ 1 → (d : ℕ) → slot_at P n j ≢ Child d
  not_one j lt e d q =
      let w : P.slot n j ≡ 4 * (1024 + d) + 2 = word_of_lem (P.slot n j) (Child d) q in
      let k : upper_byte_of (P.slot n j) ≡ 5 = byte_large 5 (P.slot n j) (omega arith) (omega arith) in
      let f : get_or bs (j + 1) 0 ≡ upper_byte_of (P.slot n j) = g.each j lt in omega arith

  pub upper_seen : Seen P n v m bs
  upper_seen = record {
    full = cap_other v (λ e. omega arith);
    high = omega arith;
    first = g.framed.first;
    last = g.framed.last;
    held = λ j lt e. held_upper j lt (not_one j lt e) (omega arith);
    sibling = λ j o lt e.
        let w = word_of_lem (P.slot n j) (Sibling o) e in
        let a : P.slot n j ≡ 4 * o + 2 = w.0 in
        let i : P.slot n j % 4 ≡ 2 = omega arith in
        let s : P.slot n j < 256 = apart j lt i (omega (arith, w.1)) in
        (omega arith, g.each j lt ∙ byte_small 5 (P.slot n j) i s ∙ a);
    word = λ j o lt e. byte_is 5 (P.slot n j) (4 * o + 2) (λ z. omega arith) (sym (g.each j lt) ∙ e) (omega arith);
    clear = λ j lt ne nc. hd j lt (λ e. ne (held_upper j lt nc e));
    bottom = λ j lt e.
        let w : P.slot n j ≡ reserved_word = word_of_lem (P.slot n j) Reserved e in
        let s : P.slot n j < 256 = apart j lt (omega arith) (omega arith) in absurd (omega arith);
    child = cs;
  }

  pub upper_filled : ChainedTo bs slots → AllMarks P n m → (k : ℕ) → c ≡ k → SlotsFilled P n v k
  upper_filled ch am k e = record { slots_ok_lem = seen_ok P n v m bs upper_seen ch am; filled_is = sym e ∙ g.count le }
