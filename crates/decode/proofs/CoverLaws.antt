-- Which indices an entry covers, and marks bit by bit.
use Prim.Native.Nat.{ℕ, zero, suc, ◌+◌, ◌*◌, ◌/◌, ◌%◌, ◌^◌, ◌≤◌, ◌<◌}
use mathlib.Core.Path.{◌≡◌, refl, sym, ap}
use mathlib.Core.Logic.{◌≢◌}
use mathlib.Core.Bool.{Bool, true, not}
use mathlib.Core.List.{List}
use native.Mathlib.Omega.{arith}
use native.Mathlib.Nat.{div-mul-le_self, mul-le-mul_right, div-add-mod', lt-div-mul-add, div-eq_of_lt-le, mod-one}
use lib.Dec.{eqb, ltb}
use lib.Pow.{pow_pos, mod-pow-add, shr-shr}
use borrow.Author.Tests.{eqb-true, eqb-false, eq-eqb, ne_eqb, ltb-true, ltb-false}
use Rattle.blocks.proofs.BoolLaws.{by_t}
use Rattle.blocks.specs.Choice.{pick}
use Rattle.blocks.specs.Lists.{any}
use Rattle.blocks.specs.Blocks.{bit}
use Rattle.model.specs.declared.Entry.{Entry}
use Rattle.model.specs.Model.{covers}
use Rattle.layout.specs.Decode.{wide, span}
use Rattle.decode.proofs.Restrict.{EntryGood, bits_of}
use Rattle.decode.proofs.KeepLaws.{any_append}
use Rattle.decode.proofs.BelowLaws.{wide_pos}
use Rattle.decode.proofs.ChainLaws.{bit_lt}

pub bit_suc : (i w : ℕ) → bit (suc i) w ≡ bit i (w / 2)
bit_suc i w = let e : suc i ≡ 1 + i = omega arith in rw (e, ← shr-shr w 1 i)

pub eqb_bit : (x : ℕ) → x < 2 → pick (eqb x 1) 1 0 ≡ x
eqb_bit x h = by_t (eqb x 1) (λ e. rw e (sym (eqb-true x 1 e)))
    (λ e. let f : x ≢ 1 = eqb-false x 1 e in rw e (omega arith))

pub bits_are : (t : ℕ → Bool) (k j w : ℕ) → ((i : ℕ) → i < k → t (j + i) ≡ eqb (bit i w) 1) → bits_of t j k ≡ w % 2 ^ k
unfolding bits_of
bits_are t zero j w h = sym (mod-one w)
bits_are t (suc k) j w h =
    let e : suc k ≡ k + 1 = omega arith in
    let z : j + 0 ≡ j = omega arith in
    let h0 : t j ≡ eqb (bit 0 w) 1 = rw z at (h 0 (omega arith)) in
    let b0 : bit 0 w ≡ w % 2 = omega arith in
    let r = bits_are t k (suc j) (w / 2) (λ i lt. let y : suc j + i ≡ j + suc i = omega arith in
    rw (y, ← bit_suc i w) (h (suc i) (omega arith))) in
    rw (e, mod-pow-add w k 1, h0, r, eqb_bit (bit 0 w) (bit_lt 0 w), b0) (omega arith)

pub any_span : (p : Entry → Bool) (f : ℕ → List Entry) (j k : ℕ) →
    any p (span f j k) ≡ not (eqb (bits_of (λ i. any p (f i)) j k) 0)
unfolding span bits_of
any_span p f j zero = refl
any_span p f j (suc k) =
    let x : ℕ = bits_of (λ i. any p (f i)) (suc j) k in
    rw (any_append, any_span p f (suc j) k)
    (by_t (any p (f j))
    (λ e. rw e (sym (rw (ne_eqb (1 + 2 * x) 0 (λ (z : 1 + 2 * x ≡ 0). omega arith)))))
    (λ e. rw e (by_t (eqb x 0)
    (λ q. let q' : x ≡ 0 = eqb-true x 0 q in rw (q, eq-eqb (0 + 2 * x) 0 (omega arith)))
    (λ q. let q' : x ≢ 0 = eqb-false x 0 q in rw (
      q,
      ne_eqb (0 + 2 * x) 0
          (λ (z : 0 + 2 * x ≡ 0). q' (omega arith)),
    )))))

pub covers_in : (i : ℕ) (e : Entry) → EntryGood e → covers i e ≡ true → (e.base ≤ i) × (i < e.base + 2 ^ e.order)
covers_in i e ok c =
    let K : ℕ = 2 ^ e.order in
    let q : i / K * K ≡ e.base / K * K = ap (λ (x : ℕ). x * K) (eqb-true (i / K) (e.base / K) c) in
    omega (
      arith,
      ok.aligned,
      div-add-mod' e.base K,
      div-mul-le_self i K,
      lt-div-mul-add {a = i} (pow_pos e.order),
    )

pub in_covers : (i : ℕ) (e : Entry) → EntryGood e → e.base ≤ i → i < e.base + 2 ^ e.order → covers i e ≡ true
in_covers i e ok p q =
    let K : ℕ = 2 ^ e.order in
    eq-eqb (i / K) (e.base / K) (div-eq_of_lt-le {k = e.base / K} K {m = i}
    (omega (arith, ok.aligned, div-add-mod' e.base K)) (omega (arith, ok.aligned, div-add-mod' e.base K)))

-- back from indices to slot numbers
pub unscale : (v a c : ℕ) → a * wide v < c * wide v → a < c
unscale v a c h = by_t (ltb a c) (λ e. ltb-true a c e)
    (λ e. absurd (omega (arith, mul-le-mul_right (wide v) (ltb-false a c e))))

pub unscale≤ : (v a c : ℕ) → a * wide v ≤ c * wide v → a ≤ c
unscale≤ v a c h = let q : a < c + 1 = unscale v a (c + 1) (omega (arith, wide_pos v)) in omega arith
