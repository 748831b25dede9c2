-- A byte for each slot: what the passes over these show.
use Prim.Native.Nat.{ℕ, zero, suc, ◌+◌, ◌*◌, ◌-◌, ◌/◌, ◌%◌, ◌^◌, ◌≤◌, ◌<◌, min}
use mathlib.Core.Path.{◌≡◌, refl, sym, ap, ◌∙◌, subst}
use mathlib.Core.Bool.{Bool, true, false, not}
use mathlib.Core.Logic.{◌≢◌}
use mathlib.Core.List.{List}
use native.Mathlib.Omega.{arith}
use native.Mathlib.Nat.{div-one, pow-suc, zero-div}
use lib.Pow.{pow_mono}
use lib.Dec.{eqb, ltb}
use lib.ListN.{length, get_or, set, length-set}
use lib.Seq.{get_or-set_same, get_or-set_other}
use lib.Bits.{bit_and, bit_or, or_lt, or_zero_l, and_zero_l, and_zero_r, and_self, and_le_l, and_shr}
use borrow.Author.Tests.{eqb-true, eqb-false, eq-eqb, ne_eqb, ltb-true, ltb-false, lt-ltb, le-ltb}
use Rattle.std.specs.Int.{from_bool}
use Rattle.blocks.specs.Choice.{pick}
use Rattle.blocks.specs.Blocks.{bit}
use Rattle.blocks.proofs.BoolLaws.{by_t}
use Rattle.blocks.proofs.TwoWordLaws.{or_none, and_odd}
use Rattle.decode.proofs.CoverLaws.{bit_suc}
use Rattle.model.specs.Model.{reserved_word}
use Rattle.tree.specs.Tree.{slots}
use Rattle.layout.specs.Pool.{Pool}
use Rattle.layout.specs.Reading.{Internal}
use Rattle.passes.specs.Bytes.{short_of, Shorts, byte_by, not_leaf, not_upper, large_at, Weighs, Framed, Bytes, BytesFrom}
use Rattle.passes.specs.Bytes.{unfit_of, Chained, ChainedTo, HeldTo}
use Rattle.steps.specs.Steps.{filled_to}
use Rattle.decode.proofs.ChainLaws.{bit_lt}

-- BITS
pub byte_pick : (b : Bool) → from_bool b ≡ pick b 1 0
byte_pick true = refl
byte_pick false = refl

pub pick_le : (b : Bool) (r : ℕ) → r ≡ pick b 1 0 → r ≤ 1
pick_le true r e = omega arith
pick_le false r e = omega arith

pub and_small : (i b t : ℕ) → i ≤ 1 → bit_and (bit_and i b) t ≤ 1
and_small i b t h = omega (arith, and_le_l (bit_and i b) t, and_le_l i b)

-- 1 and a bit
one_and : (y : ℕ) → y ≤ 1 → bit_and 1 y ≡ y
one_and zero h = and_zero_r 1
one_and (suc zero) h = and_self 1
one_and (suc (suc y)) h = absurd (omega arith)

or_small : (a b : ℕ) → a ≤ 1 → b ≤ 1 → bit_or a b ≤ 1
or_small a b h k = let z : bit_or a b < 2 ^ 1 = or_lt 1 a b (omega arith) (omega arith) in omega arith

-- where both are 1
and_both : (b c : ℕ) (p q : Bool) → b ≡ pick p 1 0 → c ≡ pick q 1 0 → bit_and b c ≢ 0 → (p ≡ true) × (q ≡ true)
and_both b c true true e d z = (refl, refl)
and_both b c true false e d z = absurd (z (ap (bit_and b) d ∙ and_zero_r b))
and_both b c false q e d z = absurd (z (ap (λ (x : ℕ). bit_and x c) e ∙ and_zero_l c))

pick_zero : (b : Bool) → ◌≡◌ {A = ℕ} (pick b 1 0) 0 → b ≡ false
pick_zero true e = absurd (omega arith)
pick_zero false e = refl

not_false_true : (b : Bool) → not b ≡ false → b ≡ true
not_false_true true e = refl
not_false_true false e = absurd (let k : ◌≡◌ {A = ℕ} 1 0 = ap (λ (b : Bool). pick b 1 0) e in omega arith)

-- THE WEIGHT OF A WORD
pub weighs : (large : ℕ → Bool) (w f i b t : ℕ) → f ≡ pick (not (eqb w 0)) 1 0 → i ≡ pick (eqb (w % 4) 2) 1 0 →
    b ≡ pick (ltb 255 w) 1 0 → t ≡ pick (large w) 1 0 → Weighs large w (f + slots * bit_and (bit_and i b) t)
weighs large w f i b t ef ei eb et =
    let li : i ≤ 1 = pick_le (eqb (w % 4) 2) i ei in
    let lf : f ≤ 1 = pick_le (not (eqb w 0)) f ef in
    let lx : bit_and (bit_and i b) t ≤ i = omega (arith, and_le_l (bit_and i b) t, and_le_l i b) in
    record {
      few = omega arith;
      is = λ h. by_t (eqb w 0)
          (λ z. let o : w ≡ 0 = eqb-true w 0 z in
          let n : w % 4 ≢ 2 = λ (q : w % 4 ≡ 2). omega arith in
          let k : i ≡ 0 = ei ∙ ap (λ (x : Bool). pick x 1 0) (ne_eqb (w % 4) 2 n) in omega arith)
          (λ z. let k : f ≡ 1 = ef ∙ ap (λ (x : Bool). pick (not x) 1 0) z in
          let x0 : bit_and (bit_and i b) t ≡ 0 = omega arith in omega arith);
      small = λ h inner other. by_t (ltb 255 w)
          (λ z. let i1 : i ≡ 1 = ei ∙ ap (λ (x : Bool). pick x 1 0) (eq-eqb (w % 4) 2 inner) in
          let b1 : b ≡ 1 = eb ∙ ap (λ (x : Bool). pick x 1 0) z in
          let t1 : t ≡ 1 = et ∙ ap (λ (x : Bool). pick x 1 0) other in
          let a1 : bit_and i b ≡ 1 = ap (λ (x : ℕ). bit_and x b) i1 ∙ one_and b (omega arith) ∙ b1 in
          let x1 : bit_and (bit_and i b) t ≡ 1 = ap (λ (x : ℕ). bit_and x t) a1 ∙ one_and t (omega arith) ∙ t1 in
          let n : w ≢ 0 = λ (q : w ≡ 0). omega arith in
          let f1 : f ≡ 1 = ef ∙ ap (λ (x : Bool). pick (not x) 1 0) (ne_eqb w 0 n) in absurd (omega arith))
          (λ z. omega (arith, ltb-false 255 w z));
    }

-- THE BYTE OF A SHORT NUMBER
pub times_le : (x b : ℕ) → b ≤ 1 → x * b ≤ x
times_le x zero h = omega arith
times_le x (suc zero) h = omega arith
times_le x (suc (suc b)) h = absurd (omega arith)

pub once_lt : (y b : ℕ) → b ≡ pick (ltb y 256) 1 0 → y * b < 256
once_lt y b eb =
    by_t (ltb y 256)
    (λ z. let h : y < 256 = ltb-true y 256 z in omega (arith, times_le y b (pick_le (ltb y 256) b eb)))
    (λ z. let b0 : b ≡ 0 = eb ∙ ap (λ (x : Bool). pick x 1 0) z in
    let k : y * b ≡ 0 = ap (λ (x : ℕ). y * x) b0 ∙ omega arith in omega arith)

module _ (t y b l : ℕ) (eb : b ≡ pick (ltb y 256) 1 0) (el : l ≡ pick (ltb 255 y) 1 0) where
  inner_is : y * b + t * l ≡ pick (ltb y 256) y t
  inner_is =
      by_t (ltb y 256)
      (λ z. let h : y < 256 = ltb-true y 256 z in
      let b1 : b ≡ 1 = eb ∙ ap (λ (x : Bool). pick x 1 0) z in
      let l0 : l ≡ 0 = el ∙ ap (λ (x : Bool). pick x 1 0) (le-ltb 255 y (omega arith)) in
      rw (z, b1, l0) (omega arith))
      (λ z. let h : 256 ≤ y = ltb-false y 256 z in
      let b0 : b ≡ 0 = eb ∙ ap (λ (x : Bool). pick x 1 0) z in
      let l1 : l ≡ 1 = el ∙ ap (λ (x : Bool). pick x 1 0) (lt-ltb 255 y (omega arith)) in
      rw (z, b0, l1) (omega arith))

  pub inner_lt : t < 256 → y * b + t * l < 256
  inner_lt h =
      by_t (ltb y 256)
      (λ z. let k : y < 256 = ltb-true y 256 z in
      let q : y * b + t * l ≡ y = inner_is ∙ ap (λ (x : Bool). pick x y t) z in omega (arith, q))
      (λ z. let q : y * b + t * l ≡ t = inner_is ∙ ap (λ (x : Bool). pick x y t) z in omega (arith, q))

  module _ (i e : ℕ) (ei : i ≡ pick (eqb (y % 4) 2) 1 0) (ee : e ≡ pick (not (eqb y 0)) 1 0) where
    pub inner_once : t < 256 → (y * b + t * l) * i < 256
    inner_once h = omega (arith, inner_lt h, times_le (y * b + t * l) i (pick_le (eqb (y % 4) 2) i ei))

    pub outer_once : e * (1 - i) ≤ 1
    outer_once = omega (arith, times_le e (1 - i) (omega arith), pick_le (not (eqb y 0)) e ee)

    -- which of the two it is
    chosen : (y * b + t * l) * i + e * (1 - i) ≡ pick (eqb (y % 4) 2) (y * b + t * l) e
    chosen =
        by_t (eqb (y % 4) 2)
        (λ z. let i1 : i ≡ 1 = ei ∙ ap (λ (x : Bool). pick x 1 0) z in rw (z, i1) (omega arith))
        (λ z. let i0 : i ≡ 0 = ei ∙ ap (λ (x : Bool). pick x 1 0) z in rw (z, i0) (omega arith))

    pub byte_by_is : (y * b + t * l) * i + e * (1 - i) ≡ byte_by t y
    byte_by_is = chosen ∙ ap (λ (x : ℕ). pick (eqb (y % 4) 2) x e) inner_is ∙ ap (λ (x : ℕ). pick (eqb (y % 4) 2) (pick (ltb y 256) y t) x) ee

    pub byte_by_lt : t < 256 → (y * b + t * l) * i + e * (1 - i) < 256
    byte_by_lt h =
        by_t (eqb (y % 4) 2)
        (λ z. let k : (y * b + t * l) * i + e * (1 - i) ≡ y * b + t * l = chosen ∙ ap (λ (x : Bool). pick x (y * b + t * l) e) z in
        omega (arith, k, inner_lt h))
        (λ z. let k : (y * b + t * l) * i + e * (1 - i) ≡ e = chosen ∙ ap (λ (x : Bool). pick x (y * b + t * l) e) z in
        omega (arith, k, pick_le (not (eqb y 0)) e ee))

-- A SHORT NUMBER SHOWS WHAT ITS WORD DOES
short_small : (w : ℕ) → w < 8192 → short_of w ≡ w
short_small w h = rw (lt-ltb w 8192 h)

short_large : (w : ℕ) → 8192 ≤ w → short_of w ≡ 8192 + w % 4
short_large w h = rw (le-ltb w 8192 h)

-- a property of words that knows all large ones by their two lowest bits
short_as : {A : Type 0} (f : ℕ → A) → ((w : ℕ) → 8192 ≤ w → f (8192 + w % 4) ≡ f w) → (w : ℕ) → f (short_of w) ≡ f w
short_as f h w =
    by_t (ltb w 8192)
    (λ z. ap f (short_small w (ltb-true w 8192 z)))
    (λ z. ap f (short_large w (ltb-false w 8192 z)) ∙ h w (ltb-false w 8192 z))

short_filled : (w : ℕ) → eqb (short_of w) 0 ≡ eqb w 0
short_filled = short_as (λ (x : ℕ). eqb x 0) (λ w h. ne_eqb (8192 + w % 4) 0 (omega arith) ∙ sym (ne_eqb w 0 (omega arith)))

short_inner : (w : ℕ) → short_of w % 4 ≡ w % 4
short_inner = short_as (λ (x : ℕ). x % 4) (λ w h. omega arith)

short_low : (w : ℕ) → short_of w < 256 → w < 256
short_low w l =
    by_t (ltb w 8192)
    (λ z. let e : short_of w ≡ w = short_small w (ltb-true w 8192 z) in omega arith)
    (λ z. let e : short_of w ≡ 8192 + w % 4 = short_large w (ltb-false w 8192 z) in absurd (omega arith))

pub short_byte : (t w : ℕ) → byte_by t (short_of w) ≡ byte_by t w
short_byte t = short_as (byte_by t) (λ w h.
    let m : (8192 + w % 4) % 4 ≡ w % 4 = omega arith in
    rw (m, le-ltb (8192 + w % 4) 256 (omega arith), le-ltb w 256 (omega arith), ne_eqb (8192 + w % 4) 0 (omega arith), ne_eqb w 0 (omega arith)))

short_not_leaf : (w : ℕ) → not_leaf (short_of w) ≡ not_leaf w
short_not_leaf = short_as not_leaf (λ w h.
    rw (ne_eqb (8192 + w % 4) reserved_word (omega arith), ne_eqb w reserved_word (omega arith)))

short_not_upper : (w : ℕ) → not_upper (short_of w) ≡ not_upper w
short_not_upper = short_as not_upper (λ w h. le-ltb (8192 + w % 4) 4096 (omega arith) ∙ sym (le-ltb w 4096 (omega arith)))

pub short_large_at : (t w : ℕ) → large_at t (short_of w) ≡ large_at t w
short_large_at t w = by_t (eqb t 4) (λ e. rw e (short_not_leaf w)) (λ e. rw e (short_not_upper w))

weighs_word : (large : ℕ → Bool) (w y r : ℕ) → large y ≡ large w → y ≡ short_of w → Weighs large y r → Weighs large w r
weighs_word large w y r same e g = record {
  few = g.few;
  is = λ h. g.is h ∙ ap (λ (x : Bool). pick (not x) 1 0) (ap (λ (x : ℕ). eqb x 0) e ∙ short_filled w);
  small = λ h inner other. short_low w (subst (λ (x : ℕ). x < 256) e
      (g.small h (ap (λ (x : ℕ). x % 4) e ∙ short_inner w ∙ inner) (same ∙ other)));
}

-- from both halves of a word
pub short_none : (w : ℕ) → bit_or (w / 4294967296) (w % 4294967296 / 8192) ≡ 0 → w < 8192
short_none w e = let p = or_none (w / 4294967296) (w % 4294967296 / 8192) e in omega (arith, p.0, p.1)

pub short_some : (w : ℕ) → bit_or (w / 4294967296) (w % 4294967296 / 8192) ≢ 0 → w % 4294967296 % 4 + 8192 ≡ short_of w
short_some w e =
    by_t (ltb w 8192)
    (λ z. let h : w < 8192 = ltb-true w 8192 z in
    let a : w / 4294967296 ≡ 0 = omega arith in
    let b : w % 4294967296 / 8192 ≡ 0 = omega arith in
    absurd (e (ap (λ (x : ℕ). bit_or x (w % 4294967296 / 8192)) a ∙ or_zero_l (w % 4294967296 / 8192) ∙ b)))
    (λ z. let k : w % 4294967296 % 4 + 8192 ≡ 8192 + w % 4 = omega arith in k ∙ sym (short_large w (ltb-false w 8192 z)))

pub short_low_half : (w : ℕ) → bit_or (w / 4294967296) (w % 4294967296 / 8192) ≡ 0 → w % 4294967296 ≡ short_of w
short_low_half w e =
    let h : w < 8192 = short_none w e in
    let k : w % 4294967296 ≡ w = omega arith in k ∙ sym (short_small w h)

module _ (P : Pool) (n : ℕ) where
  pub shorts_start : (ss : List ℕ) → length ss ≡ slots → Shorts P n 0 ss
  shorts_start ss e = record { size = e; each = λ i h. absurd (omega arith) }

  pub shorts_on : (j : ℕ) (ss : List ℕ) (w y : ℕ) → Shorts P n j ss → j < slots → w ≡ P.slot n j → y ≡ short_of w → Shorts P n (j + 1) (set ss j y)
  shorts_on j ss w y g lt e d =
      let size : length ss ≡ 64 = g.size in
      record {
        size = length-set ss j y ∙ size;
        each = λ i h. by_t (eqb i j)
            (λ q. subst (λ (x : ℕ). get_or (set ss j y) x 0 ≡ short_of (P.slot n x)) (sym (eqb-true i j q))
            (get_or-set_same ss j y 0 (omega arith) ∙ d ∙ ap short_of e))
            (λ q. let z : i ≢ j = eqb-false i j q in get_or-set_other ss j i y 0 (omega arith) ∙ g.each i (omega arith));
      }

  pub shorts_all : (j : ℕ) (ss : List ℕ) → Shorts P n j ss → j ≡ slots → Shorts P n slots ss
  shorts_all j ss g e = subst (λ (x : ℕ). Shorts P n x ss) e g

-- THE BYTES
framed_on : (j : ℕ) (bs : List ℕ) (b : ℕ) → Framed bs → j < slots → Framed (set bs (j + 1) b)
framed_on j bs b g lt = record {
  size = length-set bs (j + 1) b ∙ g.size;
  first = get_or-set_other bs (j + 1) 0 b 0 (omega arith) ∙ g.first;
  last = get_or-set_other bs (j + 1) 65 b 0 (omega arith) ∙ g.last;
}

module _ (byte : ℕ → ℕ) (large : ℕ → Bool) (P : Pool) (n : ℕ) where
  bytes_start : (bs : List ℕ) → Framed bs → Bytes byte large P n 0 bs 0
  bytes_start bs f = record {
    framed = f;
    few = omega arith;
    each = λ i h. absurd (omega arith);
    count = λ h. refl;
    small = λ h i l. absurd (omega arith);
  }

  bytes_on : (j : ℕ) (bs : List ℕ) (c w b t : ℕ) → Bytes byte large P n j bs c → j < slots → w ≡ P.slot n j → b ≡ byte w →
      Weighs large w t → Bytes byte large P n (j + 1) (set bs (j + 1) b) (c + t)
  bytes_on j bs c w b t g lt e d o =
      let size : length bs ≡ 66 = g.framed.size in
      record {
        framed = framed_on j bs b g.framed lt;
        few = omega (arith, g.few, o.few);
        each = λ i h. by_t (eqb i j)
            (λ q. let z : i ≡ j = eqb-true i j q in
            subst (λ (x : ℕ). get_or (set bs (j + 1) b) (x + 1) 0 ≡ byte (P.slot n x)) (sym z)
            (get_or-set_same bs (j + 1) b 0 (omega arith) ∙ d ∙ ap byte e))
            (λ q. let z : i ≢ j = eqb-false i j q in
            get_or-set_other bs (j + 1) (i + 1) b 0 (omega arith) ∙ g.each i (omega arith));
        count = λ h.
            let s : j + 1 ≡ suc j = omega arith in
            let k : filled_to P n (suc j) ≡ filled_to P n j + pick (not (eqb (P.slot n j) 0)) 1 0 = refl in
            let x : c ≡ filled_to P n j = g.count (omega arith) in
            let y : t ≡ pick (not (eqb (P.slot n j) 0)) 1 0 = o.is (omega arith) ∙ ap (λ (v : ℕ). pick (not (eqb v 0)) 1 0) e in
            rw s (omega (arith, k, x, y));
        small = λ h i l. by_t (eqb i j)
            (λ q. let z : i ≡ j = eqb-true i j q in
            subst (λ (x : ℕ). Internal (P.slot n x) → large (P.slot n x) ≡ true → P.slot n x < 256) (sym z)
            (subst (λ (x : ℕ). Internal x → large x ≡ true → x < 256) e (o.small (omega arith))))
            (λ q. let z : i ≢ j = eqb-false i j q in g.small (omega arith) i (omega arith));
      }

-- the bytes before slot j from the short numbers ss, for the loop
pub record Read (byte : ℕ → ℕ) (large : ℕ → Bool) (ss : List ℕ) (j : ℕ) (bs : List ℕ) (c : ℕ) : Type 0 where
  pub most : j ≤ slots
  pub framed : Framed bs
  pub few : c ≤ (slots + 1) * j
  pub bytes : BytesFrom byte large ss j bs c

module _ (byte : ℕ → ℕ) (large : ℕ → Bool) (ss : List ℕ) where
  pub read_start : (bs : List ℕ) → Framed bs → Read byte large ss 0 bs 0
  read_start bs f = record { most = omega arith; framed = f; few = omega arith; bytes = λ P n s. bytes_start byte large P n bs f }

  pub read_on : ((w : ℕ) → byte (short_of w) ≡ byte w) → ((w : ℕ) → large (short_of w) ≡ large w) → (j : ℕ) (bs : List ℕ) (c y b t : ℕ) →
      Read byte large ss j bs c → j < slots → y ≡ get_or ss j 0 → b ≡ byte y → Weighs large y t →
      Read byte large ss (j + 1) (set bs (j + 1) b) (c + t)
  read_on same alike j bs c y b t g lt e d o = record {
    most = omega arith;
    framed = framed_on j bs b g.framed lt;
    few = omega (arith, g.few, o.few);
    bytes = λ P n s.
        let k : y ≡ short_of (P.slot n j) = e ∙ s.each j lt in
        bytes_on byte large P n j bs c (P.slot n j) b t (g.bytes P n s) lt refl (d ∙ ap byte k ∙ same (P.slot n j))
        (weighs_word large (P.slot n j) y t (ap large k ∙ alike (P.slot n j)) k o);
  }

  pub read_all : (j : ℕ) (bs : List ℕ) (c : ℕ) → Read byte large ss j bs c → j ≡ slots → BytesFrom byte large ss slots bs c
  read_all j bs c g e P n s = subst (λ (x : ℕ). Bytes byte large P n x bs c) e (g.bytes P n s)

-- A FAULT
module _ (y x z j s a b c d u e g : ℕ) (es : s ≡ pick (eqb (x / 2 % 2) 1) 1 0) (ea : a ≡ pick (eqb x y) 1 0)
    (eb : b ≡ pick (eqb y 1) 1 0) (ec : c ≡ pick (eqb (x / 4 + 1) j) 1 0) (ed : d ≡ pick (not (eqb z x)) 1 0)
    (eu : u ≡ unfit_of (x / 4) j) (ee : e ≡ pick (not (eqb u 0)) 1 0) (eg : g ≡ pick (eqb (bit_or a (bit_and b c)) 0) 1 0)
    (none : bit_and s (bit_or g (bit_and d e)) ≡ 0) where
  parts : x / 2 % 2 ≡ 1 → (g ≡ 0) × (bit_and d e ≡ 0)
  parts h =
      let s1 : s ≡ 1 = es ∙ ap (λ (k : Bool). pick k 1 0) (eq-eqb (x / 2 % 2) 1 h) in
      let lg : g ≤ 1 = pick_le (eqb (bit_or a (bit_and b c)) 0) g eg in
      let ld : d ≤ 1 = pick_le (not (eqb z x)) d ed in
      let lde : bit_and d e ≤ 1 = omega (arith, and_le_l d e) in
      or_none g (bit_and d e) (sym (one_and (bit_or g (bit_and d e)) (or_small g (bit_and d e) lg lde))
      ∙ ap (λ (k : ℕ). bit_and k (bit_or g (bit_and d e))) (sym s1) ∙ none)

  pub chained_of_lem : Chained y x z j
  chained_of_lem = record {
    follows = λ h ne.
        let g0 : eqb (bit_or a (bit_and b c)) 0 ≡ false = pick_zero (eqb (bit_or a (bit_and b c)) 0) (sym eg ∙ (parts h).0) in
        let a0 : a ≡ 0 = ea ∙ ap (λ (k : Bool). pick k 1 0) (ne_eqb x y ne) in
        let k : bit_or a (bit_and b c) ≢ 0 = eqb-false (bit_or a (bit_and b c)) 0 g0 in
        let r = and_both b c (eqb y 1) (eqb (x / 4 + 1) j) eb ec
        (λ (q : bit_and b c ≡ 0). k (ap (λ (v : ℕ). bit_or v (bit_and b c)) a0 ∙ or_zero_l (bit_and b c) ∙ q)) in
        (eqb-true y 1 r.0, eqb-true (x / 4 + 1) j r.1);
    closed = λ h ne.
        let d1 : d ≡ 1 = ed ∙ ap (λ (k : Bool). pick (not k) 1 0) (ne_eqb z x ne) in
        let le : e ≤ 1 = pick_le (not (eqb u 0)) e ee in
        let e0 : e ≡ 0 = sym (one_and e le) ∙ ap (λ (k : ℕ). bit_and k e) (sym d1) ∙ (parts h).1 in
        sym eu ∙ eqb-true u 0 (not_false_true (eqb u 0) (pick_zero (not (eqb u 0)) (sym ee ∙ e0)));
  }

-- ALL
pub chained_on : (bs : List ℕ) (bad f j : ℕ) → (bad ≡ 0 → ChainedTo bs j) →
    (f ≡ 0 → Chained (get_or bs j 0) (get_or bs (j + 1) 0) (get_or bs (j + 2) 0) j) → bit_or bad f ≡ 0 → ChainedTo bs (j + 1)
chained_on bs bad f j h o z i l =
    let p = or_none bad f z in
    by_t (eqb i j)
    (λ q. let k : i ≡ j = eqb-true i j q in
    subst (λ (x : ℕ). Chained (get_or bs x 0) (get_or bs (x + 1) 0) (get_or bs (x + 2) 0) x) (sym k) (o p.1))
    (λ q. let k : i ≢ j = eqb-false i j q in h p.0 i (omega arith))

pub chained_all : (bs : List ℕ) (bad j : ℕ) → (bad ≡ 0 → ChainedTo bs j) → slots ≤ j → bad ≡ 0 → ChainedTo bs slots
chained_all bs bad j h l z i lt = h z i (omega arith)

-- bit k of f is set if the slot of that number, of the t last ones, has no entry and leads to no node
pub record Off (bs : List ℕ) (t f : ℕ) : Type 0 where
  pub most : t ≤ slots
  pub fits : f < 2 ^ t
  pub bits : (k : ℕ) → k < t → get_or bs (65 - t + k) 0 % 4 ≢ 1 → bit k f ≡ 1

pub off_start : (bs : List ℕ) → Off bs 0 0
off_start bs = record { most = omega arith; fits = omega arith; bits = λ k h. absurd (omega arith) }

pub off_small : (bs : List ℕ) (t f : ℕ) → Off bs t f → t < slots → f < 2 ^ 63
off_small bs t f o l = let s : 2 ^ t ≤ 2 ^ 63 = pow_mono {i = t} {j = 63} (omega arith) in omega (arith, o.fits)

off_next : (bs : List ℕ) (t f b : ℕ) → Off bs t f → t < slots → b ≡ pick (not (eqb (get_or bs (64 - t) 0 % 4) 1)) 1 0 →
    Off bs (t + 1) (2 * f + b)
off_next bs t f b o l e = record {
  most = omega arith;
  fits = let d : t + 1 ≡ suc t = omega arith in
      let p : 2 ^ (t + 1) ≡ 2 ^ t * 2 = ap (λ (x : ℕ). 2 ^ x) d ∙ pow-suc 2 t in
      let lb : b ≤ 1 = pick_le (not (eqb (get_or bs (64 - t) 0 % 4) 1)) b e in omega (arith, o.fits);
  bits = bits_of_lem;
}
  where
    bits_of_lem : (k : ℕ) → k < t + 1 → get_or bs (65 - (t + 1) + k) 0 % 4 ≢ 1 → bit k (2 * f + b) ≡ 1
    bits_of_lem zero h ne =
        let d : 65 - (t + 1) + 0 ≡ 64 - t = omega arith in
        let n : get_or bs (64 - t) 0 % 4 ≢ 1 = subst (λ (x : ℕ). get_or bs x 0 % 4 ≢ 1) d ne in
        let b1 : b ≡ 1 = e ∙ ap (λ (v : Bool). pick (not v) 1 0) (ne_eqb (get_or bs (64 - t) 0 % 4) 1 n) in
        let z : (2 * f + b) % 2 ≡ 1 = omega arith in ap (λ (x : ℕ). x % 2) (div-one (2 * f + b)) ∙ z
    bits_of_lem (suc k) h ne =
        let lb : b ≤ 1 = pick_le (not (eqb (get_or bs (64 - t) 0 % 4) 1)) b e in
        let z : (2 * f + b) / 2 ≡ f = omega arith in
        let d : 65 - (t + 1) + suc k ≡ 65 - t + k = omega arith in
        bit_suc k (2 * f + b) ∙ ap (bit k) z ∙ o.bits k (omega arith) (subst (λ (x : ℕ). get_or bs x 0 % 4 ≢ 1) d ne)

-- one slot further down
pub off_down : (bs : List ℕ) (j f b : ℕ) → Off bs (64 - j) f → 0 < j → j ≤ slots → b ≡ from_bool (not (eqb (get_or bs (j - 1 + 1) 0 % 4) 1)) →
    Off bs (64 - (j - 1)) (2 * f + b)
off_down bs j f b o p l e =
    let d : j - 1 + 1 ≡ 64 - (64 - j) = omega arith in
    let x : 64 - j + 1 ≡ 64 - (j - 1) = omega arith in
    subst (λ (t : ℕ). Off bs t (2 * f + b)) x (off_next bs (64 - j) f b o (omega arith)
    (e ∙ byte_pick _ ∙ ap (λ (i : ℕ). pick (not (eqb (get_or bs i 0 % 4) 1)) 1 0) d))

pub off_all : (bs : List ℕ) (m t f : ℕ) → Off bs t f → slots ≤ t → bit_and f m ≡ 0 → HeldTo bs m slots
off_all bs m t f o l z i lt ne =
    let d : i + 1 ≡ 65 - t + i = omega (arith, o.most) in
    let x : bit i f ≡ 1 = o.bits i (omega arith) (subst (λ (y : ℕ). get_or bs y 0 % 4 ≢ 1) d ne) in
    let a : bit i (bit_and f m) ≡ min (bit i f) (bit i m) = ap (λ (y : ℕ). y % 2) (and_shr f m i) ∙ and_odd (f / 2 ^ i) (m / 2 ^ i) in
    let y : bit i (bit_and f m) ≡ 0 = ap (bit i) z ∙ ap (λ (v : ℕ). v % 2) (zero-div (2 ^ i)) in
    omega (arith, bit_lt i m)
