-- The filled slots of a node counted: in the pass over a node without internal words, and from step to step over another.
use Prim.Native.Nat.{ℕ, zero, suc, ◌+◌, ◌*◌, ◌-◌, ◌/◌, ◌%◌, ◌^◌, ◌≤◌, ◌<◌, min, max}
use mathlib.Core.Path.{◌≡◌, refl, sym, ap, ◌∙◌, subst}
use mathlib.Core.Bool.{Bool, true, false, not}
use mathlib.Core.Logic.{◌≢◌}
use mathlib.Core.List.{List}
use native.Mathlib.Omega.{arith}
use native.Mathlib.Nat.{mod-eq_of_lt}
use lib.Dec.{eqb, ltb}
use lib.ListN.{get_or}
use lib.Bits.{bit_and, bit_or, or_lt, or_add_and, and_zero_l, and_le_l, and_le_r, and_shr}
use borrow.Author.Tests.{eqb-true, eqb-false, eq-eqb, ne_eqb, ltb-true, ltb-false}
use Rattle.blocks.specs.Choice.{pick}
use Rattle.blocks.specs.Blocks.{bit, count_to, NextBit}
use Rattle.blocks.proofs.BoolLaws.{by_t, clash, decide_eqb}
use Rattle.blocks.proofs.CountLaws.{count_le, count_none, count_all, count_split, count_zero}
use Rattle.blocks.proofs.TwoWordLaws.{or_bit, or_none, and_odd}
use Rattle.tree.specs.Tree.{slots}
use Rattle.layout.specs.Words.{slot_place, filled_of}
use Rattle.layout.specs.Pool.{Pool, pool_of}
use Rattle.layout.specs.Reading.{Decides, Internal, Plain}
use Rattle.local.specs.Local.{SlotsOk, UsedFrom}
use Rattle.steps.specs.Steps.{AllMarks, filled_to, Stepped, SlotsFilled}
use Rattle.scan.specs.Passes.{fill_bit, Filled, LowestBit, OddTo, PlainFilled, NoLoose}
use Rattle.scan.proofs.UsedLaws.{used_of, unused_of}
use Rattle.scan.proofs.FilledLaws.{bit_empty}
use Rattle.steps.proofs.WordLaws.{mask_mod}
use Rattle.steps.proofs.StepLaws.{Gone, gone_start, gone_on}
use Rattle.scan.proofs.FilledLaws.{gone_past}

-- all have it
count_full : (f : ℕ → Bool) (m : ℕ) → count_to f m ≡ m → (j : ℕ) → j < m → f j ≡ true
count_full f zero e j h = absurd (omega arith)
count_full f (suc m) e j h =
    by_t (f m)
    (λ t. let y : count_to f m + 1 ≡ suc m = rw t at e in
    by_t (eqb j m) (λ q. rw (eqb-true j m q) t)
    (λ q. let d : j ≢ m = eqb-false j m q in count_full f m (omega arith) j (omega arith)))
    (λ t. let y : count_to f m + 0 ≡ suc m = rw t at e in absurd (omega (arith, count_le f m)))

-- ODD WORDS
pub odd_next : (P : Pool) (n o x w : ℕ) → (x % 2 ≡ 1 → OddTo P n o) → w ≡ P.slot n o → bit_and x w % 2 ≡ 1 → OddTo P n (o + 1)
odd_next P n o x w h e z k lt =
    by_t (eqb k o)
    (λ t. let b : w % 2 ≡ 1 = omega (arith, and_odd x w) in
    ap (λ (i : ℕ). P.slot n i % 2) (eqb-true k o t) ∙ (ap (λ (i : ℕ). i % 2) (sym e) ∙ b))
    (λ t. let d : k ≢ o = eqb-false k o t in h (omega (arith, and_odd x w)) k (omega arith))

pub odd_all : (P : Pool) (n o : ℕ) → slots ≤ o → OddTo P n o → OddTo P n slots
odd_all P n o h f k lt = f k (omega arith)

-- all bits where w is even
pub even_bits : (w : ℕ) → w < 2 ^ 64 → bit_and w ((1 - w % 2) * 18446744073709551615) ≡ 0 → w % 2 ≡ 0 → w ≡ 0
even_bits w f z e =
    let k : (1 - w % 2) * 18446744073709551615 ≡ 2 ^ 64 - 1 = ap (λ (x : ℕ). (1 - x) * 18446744073709551615) e in
    sym (mod-eq_of_lt f) ∙ sym (mask_mod w (2 ^ 64) 64 refl) ∙ ap (bit_and w) (sym k) ∙ z

-- THE LOWEST BIT OF A WORD
lowest_zero : (w : ℕ) → w ≡ 0 → LowestBit w 0
lowest_zero w e = record {
  most = omega arith;
  none = λ z. refl;
  some = λ z. absurd (z e);
  inner = λ z. absurd (omega arith);
  plain = λ z. refl;
}

lowest_of : (w : ℕ) → w < 2 ^ 64 → w ≢ 0 → LowestBit w (bit_and w (2 ^ 64 - 1 - w + 1))
lowest_of w f z = record {
  most = omega (arith, l, r);
  none = λ e. absurd (z e);
  some = λ e. omega (arith, s, lt);
  inner = λ e. b ∙ at_two w (2 ^ 64 - 1 - w + 1) (second w e) (second (2 ^ 64 - 1 - w + 1) (omega arith));
  plain = λ e. b ∙ by_t (eqb (w % 4) 3)
      (λ t. let q : w % 4 ≡ 3 = eqb-true (w % 4) 3 t in
      min_r (bit 1 w) (bit 1 (2 ^ 64 - 1 - w + 1)) (first (2 ^ 64 - 1 - w + 1) (omega arith)))
      (λ t. let q : w % 4 ≢ 3 = eqb-false (w % 4) 3 t in
      min_l (bit 1 w) (bit 1 (2 ^ 64 - 1 - w + 1)) (first w (omega arith)));
}
  where
    s : bit_or w (2 ^ 64 - 1 - w + 1) + bit_and w (2 ^ 64 - 1 - w + 1) ≡ w + (2 ^ 64 - 1 - w + 1)
    s = or_add_and w (2 ^ 64 - 1 - w + 1)

    lt : bit_or w (2 ^ 64 - 1 - w + 1) < 2 ^ 64
    lt = or_lt 64 w (2 ^ 64 - 1 - w + 1) f (omega arith)

    l : bit_and w (2 ^ 64 - 1 - w + 1) ≤ w
    l = and_le_l w (2 ^ 64 - 1 - w + 1)

    r : bit_and w (2 ^ 64 - 1 - w + 1) ≤ 2 ^ 64 - 1 - w + 1
    r = and_le_r w (2 ^ 64 - 1 - w + 1)

    b : bit 1 (bit_and w (2 ^ 64 - 1 - w + 1)) ≡ min (bit 1 w) (bit 1 (2 ^ 64 - 1 - w + 1))
    b = ap (λ (x : ℕ). x % 2) (and_shr w (2 ^ 64 - 1 - w + 1) 1) ∙ and_odd (w / 2 ^ 1) ((2 ^ 64 - 1 - w + 1) / 2 ^ 1)

    second : (x : ℕ) → x % 4 ≡ 2 → bit 1 x ≡ 1
    second x h = omega arith

    first : (x : ℕ) → x % 4 < 2 → bit 1 x ≡ 0
    first x h = omega arith

    at_two : (x y : ℕ) → bit 1 x ≡ 1 → bit 1 y ≡ 1 → min (bit 1 x) (bit 1 y) ≡ 1
    at_two x y p q = rw (p, q)

    min_l : (x y : ℕ) → x ≡ 0 → min x y ≡ 0
    min_l x y e = omega arith

    min_r : (x y : ℕ) → y ≡ 0 → min x y ≡ 0
    min_r x y e = omega arith

-- x is the number that w needs to 2^64
pub lowest_by : (w x : ℕ) → w < 2 ^ 64 → x < 2 ^ 64 → (x + w) % 2 ^ 64 ≡ 0 → LowestBit w (bit_and w x)
lowest_by w x f g e =
    by_t (eqb w 0)
    (λ t. let z : w ≡ 0 = eqb-true w 0 t in
    subst (LowestBit w) (sym (ap (λ (y : ℕ). bit_and y x) z ∙ and_zero_l x)) (lowest_zero w z))
    (λ t. let z : w ≢ 0 = eqb-false w 0 t in
    let d : 2 ^ 64 - 1 - w + 1 ≡ x = omega arith in subst (λ (y : ℕ). LowestBit w (bit_and w y)) d (lowest_of w f z))

-- 1 for a word that is not 0
filled_one : (w u : ℕ) → LowestBit w u → (u + 9223372036854775807) / 2 ^ 63 ≡ pick (not (eqb w 0)) 1 0
filled_one w u o =
    by_t (eqb w 0)
    (λ t. rw t (omega (arith, o.none (eqb-true w 0 t))))
    (λ t. rw t (omega (arith, o.some (eqb-false w 0 t), o.most)))

pub pick_empty : (w r : ℕ) → w ≡ 0 → 0 ≡ pick (eqb w 0) 0 r
pick_empty w r e = rw (eq-eqb w 0 e)

pub pick_filled : (w r : ℕ) → (w ≡ 0 → ⊥) → r ≡ pick (eqb w 0) 0 r
pick_filled w r e = rw (ne_eqb w 0 e)

-- THE PASS
module _ (ws : List ℕ) (n : ℕ) where
  abbrev P : Pool
  P = pool_of ws

  -- the slots from a up to o: c are filled, and bit 1 of y says whether one has an internal word
  pub record Passed (a o y c : ℕ) : Type 0 where
    pub from : a ≤ o
    pub none : bit 1 y ≡ 0 → Plain ws n a o
    pub zero : Plain ws n a o → bit 1 y ≡ 0
    pub count : filled_to P n o ≡ filled_to P n a + c
    pub few : a + c ≤ o

  pub passed_start : (a : ℕ) → Passed a a 0 0
  passed_start a = record {
    from = omega arith;
    none = λ e k p q. absurd (omega arith);
    zero = λ g. refl;
    count = omega arith;
    few = omega arith;
  }

  pub passed_next : (a o y c w u : ℕ) → Passed a o y c → w ≡ get_or ws (slot_place n o) 0 → LowestBit w u →
      Passed a (o + 1) (bit_or y u) (c + (u + 9223372036854775807) / 2 ^ 63)
  passed_next a o y c w u g e low =
      let b : bit 1 (bit_or y u) ≡ max (bit 1 y) (bit 1 u) = or_bit y u 1 in
      let d : (u + 9223372036854775807) / 2 ^ 63 ≡ pick (not (eqb (P.slot n o) 0)) 1 0 =
      filled_one w u low ∙ ap (λ (x : ℕ). pick (not (eqb x 0)) 1 0) e in
      record {
        from = omega (arith, g.from);
        none = λ z k p q. by_t (eqb k o)
            (λ t i. let x : Internal w = subst Internal (sym e)
            (subst (λ (j : ℕ). Internal (get_or ws (slot_place n j) 0)) (eqb-true k o t) i) in
            absurd (omega (arith, low.inner x)))
            (λ t. let ne : k ≢ o = eqb-false k o t in g.none (omega arith) k p (omega arith));
        zero = λ h. let x : bit 1 y ≡ 0 = g.zero (λ k p q. h k p (omega arith)) in
            let v : bit 1 u ≡ 0 = low.plain (λ i. h o g.from (omega arith) (subst Internal e i)) in omega arith;
        count = let s : o + 1 ≡ suc o = omega arith in
            let k : filled_to P n (suc o) ≡ filled_to P n o + pick (not (eqb (P.slot n o) 0)) 1 0 = refl in
            rw s (omega (arith, k, d, g.count));
        few = omega (arith, g.few, filled_one w u low, at_most (eqb w 0));
      }
    where
      at_most : (b : Bool) → pick (not b) 1 0 ≤ 1
      at_most true = omega arith
      at_most false = omega arith

  pub passed_inner : (a b o y c : ℕ) → Passed a o y c → o ≡ b → (bit 1 y ≡ 0 → ⊥) → Plain ws n a b → ⊥
  passed_inner a b o y c g e z p = z (g.zero (λ k x q. p k x (omega arith)))

  pub passed_all : (a b o y c : ℕ) → Passed a o y c → o ≡ b → bit 1 y ≡ 0 → PlainFilled ws n a b c
  passed_all a b o y c g e z = record {
    few = omega (arith, g.few);
    plain = λ k x q. g.none z k x (omega arith);
    count = ap (filled_to P n) (sym e) ∙ g.count;
  }

  -- the slots from a up to o, if y is 0: each is empty or has an odd word, and c are filled
  pub record OddPassed (a o y c : ℕ) : Type 0 where
    pub few : a + c ≤ o
    pub plain : y ≡ 0 → Plain ws n a o
    pub count : y ≡ 0 → filled_to P n o ≡ filled_to P n a + c

  pub odd_start : (a : ℕ) → OddPassed a a 0 0
  odd_start a = record { few = omega arith; plain = λ e k p q. absurd (omega arith); count = λ e. omega arith }

  pub odd_on : (a o y c w x : ℕ) → OddPassed a o y c → w ≡ get_or ws (slot_place n o) 0 → (x ≡ 0 → w % 2 ≡ 0 → w ≡ 0) →
      OddPassed a (o + 1) (bit_or y x) (c + w % 2)
  odd_on a o y c w x g e low = record {
    few = omega (arith, g.few);
    plain = λ z k p q. by_t (eqb k o)
        (λ t i. let v : w % 4 ≡ 2 = subst Internal (sym e) (subst (λ (j : ℕ). Internal (get_or ws (slot_place n j) 0)) (eqb-true k o t) i) in
        let h : w ≡ 0 = low (or_none y x z).1 (omega arith) in absurd (omega arith))
        (λ t. let ne : k ≢ o = eqb-false k o t in g.plain (or_none y x z).0 k p (omega arith));
    count = λ z. let s : o + 1 ≡ suc o = omega arith in
        let k : filled_to P n (suc o) ≡ filled_to P n o + pick (not (eqb (P.slot n o) 0)) 1 0 = refl in
        let d : w % 2 ≡ pick (not (eqb (P.slot n o) 0)) 1 0 = one_filled (low (or_none y x z).1) ∙ ap (λ (v : ℕ). pick (not (eqb v 0)) 1 0) e in
        rw s (omega (arith, k, d, g.count (or_none y x z).0));
  }
    where
      one_filled : (w % 2 ≡ 0 → w ≡ 0) → w % 2 ≡ pick (not (eqb w 0)) 1 0
      one_filled h =
          by_t (eqb w 0)
          (λ t. let v : w ≡ 0 = eqb-true w 0 t in rw t (omega arith))
          (λ t. let v : w ≢ 0 = eqb-false w 0 t in
          let u : w % 2 ≢ 0 = λ (q : w % 2 ≡ 0). v (h q) in rw t (omega arith))

  pub odd_passed : (a b o y c : ℕ) → OddPassed a o y c → o ≡ b → y ≡ 0 → PlainFilled ws n a b c
  odd_passed a b o y c g e z = record {
    few = omega (arith, g.few);
    plain = λ k x q. g.plain z k x (omega arith);
    count = ap (filled_to P n) (sym e) ∙ g.count z;
  }

  -- two parts
  pub first_inner : (a b c : ℕ) → b ≤ c → (Plain ws n a b → ⊥) → Plain ws n a c → ⊥
  first_inner a b c h g p = g (λ k x q. p k x (omega arith))

  pub last_inner : (a b c d : ℕ) → a ≤ b → c ≤ d → (Plain ws n b c → ⊥) → Plain ws n a d → ⊥
  last_inner a b c d h e g p = g (λ k x q. p k (omega arith) (omega arith))

  pub both_plain : (b e r s : ℕ) → PlainFilled ws n 0 b r → PlainFilled ws n b e s → PlainFilled ws n 0 e (r + s)
  both_plain b e r s g i = record {
    few = omega (arith, g.few, i.few);
    plain = λ k a lt. by_t (ltb k b) (λ t. g.plain k a (ltb-true k b t)) (λ t. i.plain k (ltb-false k b t) lt);
    count = omega (arith, g.count, i.count);
  }

  -- all slots
  pub odd_filled_lem : OddTo P n slots → PlainFilled ws n 0 slots 64
  odd_filled_lem h = record {
    few = omega arith;
    plain = λ k a lt i. two_one (P.slot n k) i (h k lt);
    count = count_all (λ o. not (eqb (P.slot n o) 0)) slots (λ o lt. ap not (ne_eqb (P.slot n o) 0 (none_one (P.slot n o) (h o lt))));
  }
    where
      two_one : (w : ℕ) → w % 4 ≡ 2 → w % 2 ≡ 1 → ⊥
      two_one w a b = omega arith

      none_one : (w : ℕ) → w % 2 ≡ 1 → w ≡ 0 → ⊥
      none_one w a b = omega arith

  pub plain_count : (c : ℕ) → PlainFilled ws n 0 slots c → c ≡ filled_of (P.slot n)
  plain_count c g = from_zero (filled_to P n slots) c g.count
    where
      from_zero : (x y : ℕ) → x ≡ 0 + y → y ≡ x
      from_zero x y e = omega arith

  pub full_tight : (m c : ℕ) → PlainFilled ws n 0 slots c → c ≡ slots → NoLoose P n m
  full_tight m c g e j lt z =
      absurd (clash (count_full (λ o. not (eqb (P.slot n o) 0)) slots (sym (plain_count c g) ∙ e) j lt)
      (ap not (eq-eqb (P.slot n j) 0 z)))

  pub plain_slots_lem : (v c k : ℕ) (r : Bool) → PlainFilled ws n 0 slots c → c ≡ k → Decides r (SlotsOk P n v) →
      Decides r (SlotsFilled P n v k)
  plain_slots_lem v c k r g e d = (
    (λ t. record { slots_ok_lem = d.0 t; filled_is = sym e ∙ plain_count c g }),
    (λ t s. d.1 t s.slots_ok_lem),
  )

-- FROM STEP TO STEP
module _ (P : Pool) (n : ℕ) where
  abbrev full : ℕ → Bool
  full o = not (eqb (P.slot n o) 0)

  tally_le : (j : ℕ) → filled_to P n j ≤ j
  tally_le j = count_le full j

  tally_all : (j r : ℕ) → ((k : ℕ) → j ≤ k → k < j + r → eqb (P.slot n k) 0 ≡ false) → filled_to P n (j + r) ≡ filled_to P n j + r
  tally_all j r h =
      let e : count_to (λ i. full (j + i)) r ≡ r = count_all (λ i. full (j + i)) r (λ i lt. ap not (h (j + i) (omega arith) (omega arith))) in
      omega (arith, count_split full j r, e)

  tally_none : (j r : ℕ) → ((k : ℕ) → j ≤ k → k < j + r → eqb (P.slot n k) 0 ≡ true) → filled_to P n (j + r) ≡ filled_to P n j
  tally_none j r h =
      let e : count_to (λ i. full (j + i)) r ≡ 0 = count_none (λ i. full (j + i)) r (λ i lt. ap not (h (j + i) (omega arith) (omega arith))) in
      omega (arith, count_split full j r, e)

  tally_on : (v j r : ℕ) → Stepped P n v j r → filled_to P n (j + r) ≡ filled_to P n j + pick (eqb (P.slot n j) 0) 0 r
  tally_on v j r s =
      by_t (eqb (P.slot n j) 0)
      (λ t. rw t (omega (arith, tally_none j r (λ k a b. s.alike k a b ∙ t))))
      (λ t. rw t (tally_all j r (λ k a b. s.alike k a b ∙ t)))

  -- the slots before j are as they must be, and c of them filled
  pub record Tallied (v j c : ℕ) : Type 0 where
    pub gone : Gone P n v j
    pub count : c ≡ filled_to P n j
    pub few : c ≤ j

  tallied : (v j c : ℕ) → Gone P n v j → c ≡ filled_to P n j → Tallied v j c
  tallied v j c g e = record { gone = g; count = e; few = omega (arith, e, tally_le j) }

  pub tallied_start : (v : ℕ) → Tallied v 0 0
  tallied_start v = tallied v 0 0 (gone_start P n v) refl

  pub tallied_on : (v j r c t : ℕ) → Tallied v j c → Stepped P n v j r → t ≡ pick (eqb (P.slot n j) 0) 0 r →
      Tallied v (j + r) (c + t)
  tallied_on v j r c t g s d = tallied v (j + r) (c + t) (gone_on P n v j r g.gone s)
      (omega (arith, tally_on v j r s, g.count, d))

  -- where f has the filled slots, and m the marks
  module _ (v f m : ℕ) (fill : Filled P n f) (am : AllMarks P n m) where
    pub tallied_past : (j o c : ℕ) → Tallied v j c → ((i : ℕ) → i < slots → bit i f ≡ 0 → bit i m ≡ 0) →
        NextBit slots f j o → Tallied v o c
    tallied_past j o c g clear x =
        let e : j + (o - j) ≡ o = omega (arith, x.past) in
        tallied v o c (gone_past P n v f m fill am j o g.gone clear x)
        (g.count ∙ sym (ap (filled_to P n) (sym e) ∙ tally_none j (o - j)
        (λ k a b. eq-eqb (P.slot n k) 0
        (bit_empty P n f fill k (omega (arith, x.most)) (x.first k a (omega arith))))))

    pub tallied_leap : (j o r c : ℕ) → Tallied v o c → NextBit slots f j o → o < slots → Stepped P n v o r →
        Tallied v (o + r) (c + r)
    tallied_leap j o r c g x lt s = tallied_on v o r c r g s
        (pick_filled (P.slot n o) r (λ q. let b : fill_bit P n o ≡ 0 = rw (eq-eqb (P.slot n o) 0 q) in
        omega (arith, fill o lt, x.on lt)))

  -- COUNTED AND USED
  pub used_count : UsedFrom P n 0 → filled_of (P.slot n) ≡ 0 → ⊥
  used_count u z = unused_of P n 0 (λ j a lt. is_empty (P.slot n j) (count_zero full slots z j lt)) u
    where
      is_empty : (w : ℕ) → not (eqb w 0) ≡ false → w ≡ 0
      is_empty w e = by_t (eqb w 0) (λ t. eqb-true w 0 t) (λ t. absurd (clash_true (sym (ap not t) ∙ e)))
        where
          clash_true : true ≡ false → ⊥
          clash_true q = let k : ◌≡◌ {A = ℕ} 1 0 = ap (λ (b : Bool). pick b 1 0) q in omega arith

  count_used : (filled_of (P.slot n) ≡ 0 → ⊥) → UsedFrom P n 0
  count_used h = used_of P n 0 (λ g. h (count_none full slots (λ j lt. ap not (eq-eqb (P.slot n j) 0 (g j (omega arith) lt)))))

  module _ (v k : ℕ) where
    pub filled_used : (k ≡ 0 → ⊥) → SlotsFilled P n v k → UsedFrom P n 0
    filled_used z s = count_used (λ e. z (s.filled_is ∙ e))

    pub all_tallied : (j c : ℕ) → Tallied v j c → slots ≤ j → Decides (eqb c k) (SlotsFilled P n v k)
    all_tallied j c g l =
        let d : j ≡ slots = omega (arith, g.gone.inside) in
        decide_eqb c k
        (λ q. record {
          slots_ok_lem = λ i lt. g.gone.ok i (omega arith);
          filled_is = sym q ∙ g.count ∙ ap (filled_to P n) d;
        })
        (λ s. g.count ∙ ap (filled_to P n) d ∙ sym s.filled_is)
