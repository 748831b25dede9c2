-- A word with a bit for each filled slot, built in parts of 16 slots from the last one down.
use Prim.Native.Nat.{ℕ, zero, suc, ◌+◌, ◌*◌, ◌-◌, ◌/◌, ◌%◌, ◌^◌, ◌≤◌, ◌<◌}
use mathlib.Core.Path.{◌≡◌, sym, ap, ◌∙◌, subst}
use native.Mathlib.Omega.{arith}
use native.Mathlib.Nat.{div-one, pow-suc}
use lib.Pow.{pow_mono}
use lib.Dec.{eqb, ltb}
use lib.Bits.{bit_and}
use borrow.Author.Tests.{eqb-true, eq-eqb, ltb-true, ltb-false}
use Rattle.std.specs.Int.{from_bool}
use Rattle.blocks.specs.Choice.{pick}
use Rattle.blocks.specs.Blocks.{bit, NextBit}
use Rattle.blocks.proofs.BoolLaws.{by_t, decide_eqb}
use Rattle.tree.specs.Tree.{slots}
use Rattle.layout.specs.Pool.{Pool, slot_at}
use Rattle.layout.specs.Reading.{Decides}
use Rattle.scan.specs.Passes.{fill_bit, FilledFrom, Filled, NoLoose}
use Rattle.decode.proofs.CoverLaws.{bit_suc}
use Rattle.passes.proofs.ByteLaws.{byte_pick}
use Rattle.steps.proofs.WordLaws.{join_low, join_high, among_clear, clear_among}
use Rattle.layout.specs.declared.Slot.{Slot}
use Rattle.layout.specs.declared.Slot.TheVariants.{Empty}
use Rattle.layout.proofs.SaysLaws.{said}
use Rattle.local.specs.Local.{SlotOk, SlotsOk}
use Rattle.steps.specs.Steps.{AllMarks}
use Rattle.steps.proofs.StepLaws.{Gone, empty_not_held}

-- SIXTEEN SLOTS
pub zero_one : (w r : ℕ) → r ≡ pick (eqb w 0) 1 0 → r ≤ 1
zero_one w r e = subst (λ (x : ℕ). x ≤ 1) (sym e)
    (by_t (eqb w 0) (λ t. rw t (omega arith)) (λ t. rw t (omega arith)))

other : (w : ℕ) → pick (eqb w 0) 1 0 + pick (eqb w 0) 0 1 ≡ 1
other w = by_t (eqb w 0) (λ t. rw t) (λ t. rw t)

module _ (P : Pool) (n a : ℕ) where
  -- f - 1 tells of the t last of 16 slots
  pub record Told (t h : ℕ) : Type 0 where
    pub few : t ≤ 16
    pub some : 0 < h
    pub fits : h ≤ 2 ^ t
    pub bits : (k : ℕ) → k < t → bit k (h - 1) ≡ fill_bit P n (a + (16 - t + k))

  pub told_start : Told 0 1
  told_start = record { few = omega arith; some = omega arith; fits = omega arith; bits = λ k h. absurd (omega arith) }

  pub told_small : (t h : ℕ) → Told t h → t < 16 → 2 * h ≤ 65536
  told_small t h o l =
      let s : 2 ^ suc t ≤ 2 ^ 16 = pow_mono {i = suc t} {j = 16} (omega arith) in
      let e : 2 ^ suc t ≡ 2 ^ t * 2 = pow-suc 2 t in omega (arith, o.fits)

  told_next : (t h b : ℕ) → Told t h → t < 16 → b ≡ pick (eqb (P.slot n (a + (15 - t))) 0) 1 0 →
      Told (t + 1) (2 * h - b)
  told_next t h b o l e =
      let s : b + fill_bit P n (a + (15 - t)) ≡ 1 = ap (λ (x : ℕ). x + fill_bit P n (a + (15 - t))) e ∙ other (P.slot n (a + (15 - t))) in
      record {
        few = omega arith;
        some = omega (arith, o.some);
        fits = let d : t + 1 ≡ suc t = omega arith in
            let p : 2 ^ (t + 1) ≡ 2 ^ t * 2 = ap (λ (x : ℕ). 2 ^ x) d ∙ pow-suc 2 t in omega (arith, o.fits);
        bits = bits_of_lem s;
      }
    where
      bits_of_lem : b + fill_bit P n (a + (15 - t)) ≡ 1 → (k : ℕ) → k < t + 1 → bit k (2 * h - b - 1) ≡ fill_bit P n (a + (16 - (t + 1) + k))
      bits_of_lem s zero q =
          let z : (2 * h - b - 1) % 2 ≡ fill_bit P n (a + (15 - t)) = omega (arith, o.some) in
          ap (λ (x : ℕ). x % 2) (div-one (2 * h - b - 1)) ∙ z
          ∙ ap (fill_bit P n) (let z : a + (15 - t) ≡ a + (16 - (t + 1) + 0) = omega arith in z)
      bits_of_lem s (suc k) q =
          let z : (2 * h - b - 1) / 2 ≡ h - 1 = omega (arith, o.some) in
          bit_suc k (2 * h - b - 1) ∙ ap (bit k) z ∙ o.bits k (omega arith)
          ∙ ap (fill_bit P n) (let z : a + (16 - t + k) ≡ a + (16 - (t + 1) + suc k) = omega arith in z)

  -- one slot further down
  pub told_down : (j h b : ℕ) → Told (16 - j) h → 0 < j → j ≤ 16 → b ≡ from_bool (eqb (P.slot n (a + (j - 1))) 0) → Told (16 - (j - 1)) (2 * h - b)
  told_down j h b o p l e =
      let d : j - 1 ≡ 15 - (16 - j) = omega arith in
      let x : 16 - j + 1 ≡ 16 - (j - 1) = omega arith in
      subst (λ (t : ℕ). Told t (2 * h - b)) x (told_next (16 - j) h b o (omega arith)
      (e ∙ byte_pick _ ∙ ap (λ (i : ℕ). pick (eqb (P.slot n (a + i)) 0) 1 0) d))

  pub told_all : (t h : ℕ) → Told t h → 16 ≤ t → FilledFrom P n a (h - 1)
  told_all t h o l =
      let f : t ≡ 16 = omega (arith, o.few) in
      let g : 2 ^ t ≡ 2 ^ 16 = ap (λ (x : ℕ). 2 ^ x) f in
      record {
        fits = omega (arith, o.fits, o.some);
        bits = λ k lt. o.bits k (omega arith) ∙ ap (λ (x : ℕ). fill_bit P n (a + x)) (let z : 16 - t + k ≡ k = omega arith in z);
      }

-- ALL SLOTS
-- 16 bits beside others
join : (f : ℕ → ℕ) (w x r : ℕ) → r < 2 ^ 16 → ((k : ℕ) → k < 16 → bit k r ≡ f k) →
    ((k : ℕ) → k < w → bit k x ≡ f (16 + k)) → (k : ℕ) → k < 16 + w → bit k (x * 65536 + r) ≡ f k
join f w x r h low high k lt =
    by_t (ltb k 16)
    (λ t. let l : k < 16 = ltb-true k 16 t in join_low 16 x r k l ∙ low k l)
    (λ t. let g : 16 ≤ k = ltb-false k 16 t in
    let e : 16 + (k - 16) ≡ k = omega arith in
    subst (λ (i : ℕ). bit i (x * 65536 + r) ≡ f i) e (join_high 16 x r (k - 16) h ∙ high (k - 16) (omega arith)))

module _ (P : Pool) (n : ℕ) where
  pub joined : (a b c d : ℕ) → FilledFrom P n 0 a → FilledFrom P n 16 b → FilledFrom P n 32 c → FilledFrom P n 48 d →
      Filled P n (((d * 65536 + c) * 65536 + b) * 65536 + a)
  joined a b c d pa pb pc pd =
      join (λ k. fill_bit P n k) 48 ((d * 65536 + c) * 65536 + b) a pa.fits
      (λ k lt. pa.bits k lt ∙ ap (fill_bit P n) (let z : 0 + k ≡ k = omega arith in z))
      (join (λ k. fill_bit P n (16 + k)) 32 (d * 65536 + c) b pb.fits pb.bits
      (join (λ k. fill_bit P n (16 + (16 + k))) 16 d c pc.fits
      (λ k lt. pc.bits k lt ∙ ap (fill_bit P n) (let z : 32 + k ≡ 16 + (16 + k) = omega arith in z))
      (λ k lt. pd.bits k lt ∙ ap (fill_bit P n) (let z : 48 + k ≡ 16 + (16 + (16 + k)) = omega arith in z))))

  empty_bit : (j : ℕ) → P.slot n j ≡ 0 → fill_bit P n j ≡ 0
  empty_bit j e = rw (eq-eqb (P.slot n j) 0 e)

  pub bit_empty : (f : ℕ) → Filled P n f → (j : ℕ) → j < slots → bit j f ≡ 0 → P.slot n j ≡ 0
  bit_empty f o j lt b =
      by_t (eqb (P.slot n j) 0) (λ t. eqb-true (P.slot n j) 0 t)
      (λ t. let z : fill_bit P n j ≡ 1 = rw t in absurd (omega (arith, o j lt)))

  -- no mark on an empty slot
  pub filled_decides : (f m : ℕ) → Filled P n f → m < 2 ^ 64 → f < 2 ^ 64 →
      Decides (eqb (bit_and (2 ^ 64 - 1 - f) m) 0) (NoLoose P n m)
  filled_decides f m o fm h =
      decide_eqb (bit_and (2 ^ 64 - 1 - f) m) 0
      (λ e j lt z. among_clear f m h e j lt (o j lt ∙ empty_bit j z))
      (λ g. clear_among f m h fm (λ j lt b. g j lt (bit_empty f o j lt b)))

-- FROM ONE FILLED SLOT TO THE NEXT
module _ (P : Pool) (n v : ℕ) where
  -- where f has the filled slots, and m the marks
  module _ (f m : ℕ) (fill : Filled P n f) (am : AllMarks P n m) where
    pub gap_clear : SlotsOk P n v → (j : ℕ) → j < slots → bit j f ≡ 0 → bit j m ≡ 0
    gap_clear s j lt b = am.cleared j
        (subst (λ (κ : Slot). SlotOk P n v j κ) (said (P.slot n j) Empty (bit_empty P n f fill j lt b)) (s j lt))

    pub gone_past : (j o : ℕ) → Gone P n v j → ((i : ℕ) → i < slots → bit i f ≡ 0 → bit i m ≡ 0) → NextBit slots f j o → Gone P n v o
    gone_past j o g clear x = record {
      inside = x.most;
      ok = λ k lt. by_t (ltb k j) (λ t. g.ok k (ltb-true k j t))
          (λ t. let a : j ≤ k = ltb-false k j t in
          subst (λ (κ : Slot). SlotOk P n v k κ) (sym (empty_at k a lt))
          (am.clear k (clear k (omega (arith, x.most)) (x.first k a lt))));
      past = λ q lt held. by_t (ltb q j)
          (λ t. omega (arith, g.past q (ltb-true q j t) held, x.past))
          (λ t. absurd (empty_not_held P n v q (empty_at q (ltb-false q j t) lt) held));
    }
      where
        empty_at : (k : ℕ) → j ≤ k → k < o → slot_at P n k ≡ Empty
        empty_at k a lt = said (P.slot n k) Empty (bit_empty P n f fill k (omega (arith, x.most)) (x.first k a lt))
