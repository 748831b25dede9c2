-- The height of a list in index order.
use Prim.Native.Nat.{ℕ, suc, ◌+◌, ◌*◌, ◌/◌, ◌^◌, ◌≤◌, ◌<◌}
use mathlib.Core.Path.{◌≡◌, ap, subst}
use mathlib.Core.Logic.{◌⊎◌, inl, inr, ⊎_elim, ◌≢◌}
use mathlib.Core.Bool.{true}
use mathlib.Core.List.{List, [], ◌∷◌}
use native.Mathlib.Omega.{arith}
use native.Mathlib.Nat.{lt-div-mul-add, div-eq_of_lt}
use lib.Dec.{leb}
use lib.Pow.{pow_pos, pow_mono}
use borrow.Author.Tests.{leb-true, leb-false}
use Rattle.blocks.proofs.BoolLaws.{by_t}
use Rattle.blocks.specs.Blocks.{block}
use Rattle.model.specs.declared.Entry.{Entry}
use Rattle.tree.specs.Tree.{height, tall, fits, tier_order}
use Rattle.tree.proofs.HeightLaws.{Low, fits_order, fits_base, fits_tall, tall_fits}
use Rattle.layout.specs.Decode.{wide}
use Rattle.decode.proofs.Restrict.{Chain, EntryGood}
use Rattle.decode.proofs.KeepLaws.{Every, Some, all_with}
use Rattle.decode.proofs.ChainLaws.{wide_pow}

pub wide_mono : (h t : ℕ) → h ≤ t → wide h ≤ wide t
wide_mono h t p = rw (← wide_pow h, ← wide_pow t) (pow_mono (omega arith))

pub chain_le : (a c : ℕ) (xs : List Entry) → Chain a xs c → a ≤ c
chain_le a c [] p = p
chain_le a c (x ∷ xs) p = omega (arith, p.0, chain_le (x.base + 2 ^ x.order) c xs p.2)

pub chain_ends : (a c : ℕ) (xs : List Entry) → Chain a xs c → Every (λ e. e.base + 2 ^ e.order ≤ c) xs
chain_ends a c [] p = tt
chain_ends a c (x ∷ xs) p = (chain_le _ c xs p.2, chain_ends (x.base + 2 ^ x.order) c xs p.2)

pub chain_oks : (a c : ℕ) (xs : List Entry) → Chain a xs c → Every EntryGood xs
chain_oks a c [] p = tt
chain_oks a c (x ∷ xs) p = (p.1, chain_oks (x.base + 2 ^ x.order) c xs p.2)

-- an entry that does not fit under a head of tier t
abbrev pub Big : ℕ → Entry → Type 0
Big t e = ((tier_order t ≤ e.order) ⊎ (wide t ≤ e.base)) × ((e.base ≢ 0) ⊎ (e.order ≢ 0))

-- below the first block of tier h
pub base_low : (h x : ℕ) → block (tier_order h) x ≡ 0 → x < wide h
base_low h x e = let w : 2 ^ (tier_order h) ≡ wide h = wide_pow h in
    let z : x / 2 ^ (tier_order h) * 2 ^ (tier_order h) ≡ 0 * 2 ^ (tier_order h) = ap (λ (q : ℕ). q * 2 ^ (tier_order h))
    e in omega (arith, lt-div-mul-add {a = x} {b = 2 ^ (tier_order h)} (pow_pos (tier_order h)))

pub low_base : (h x : ℕ) → x < wide h → block (tier_order h) x ≡ 0
low_base h x lt = div-eq_of_lt (rw (wide_pow h) lt)

big_fits : (t : ℕ) (e : Entry) → Big t e → fits t e ≡ true → ⊥
big_fits t e b f =
    let lo : e.base < wide t = base_low t e.base (fits_base t e f) in
    ⊎_elim
    (λ (z : tier_order t ≤ e.order).
    let q : t ≡ 0 = omega (arith, fits_order t e f) in
    let one : e.base < 1 = subst (λ (x : ℕ). e.base < wide x) q lo in
    ⊎_elim (λ (n : e.base ≢ 0). n (omega arith)) (λ (n : e.order ≢ 0). n (omega (arith, fits_order t e f))) b.1)
    (λ (z : wide t ≤ e.base). omega arith)
    b.0

pub height_upper : (h : ℕ) (l : List Entry) → Every (λ e. fits h e ≡ true) l → height l ≤ h
height_upper h [] a = omega arith
height_upper h (x ∷ xs) a = omega (arith, fits_tall h x a.0, height_upper h xs a.1)

height_lower : (t : ℕ) (l : List Entry) → Every Low l → Some (Big t) l → suc t ≤ height l
height_lower t [] a x'' = elim x'' [ ]
height_lower t (x ∷ xs) a (inl b) =
    by_t (leb (suc t) (tall x)) (λ e. omega (arith, leb-true (suc t) (tall x) e))
    (λ e. absurd (big_fits t x b (tall_fits t x a.0 (omega (arith, leb-false (suc t) (tall x) e)))))
height_lower t (x ∷ xs) a (inr s) = omega (arith, height_lower t xs a.1 s)

pub height_is : (t : ℕ) (l : List Entry) → Every Low l → Every (λ e. fits (suc t) e ≡ true) l → Some (Big t) l →
    height l ≡ suc t
height_is t l low a s = let p : height l ≤ suc t = height_upper (suc t) l a in
    let q : suc t ≤ height l = height_lower t l low s in omega arith

-- what is valid up to 2^64
pub chain_low : (l : List Entry) → Chain 0 l (2 ^ 64) → Every Low l
chain_low l c =
    all_with {A = Entry} EntryGood (λ e. e.base + 2 ^ e.order ≤ 2 ^ 64) Low
    (λ e ok h. (ok.order_le, omega (arith, pow_pos e.order))) l (chain_oks 0 (2 ^ 64) l c)
    (chain_ends 0 (2 ^ 64) l c)

pub chain_raise : (a b c : ℕ) (xs : List Entry) → b ≤ c → Chain a xs b → Chain a xs c
chain_raise a b c [] h p = omega arith
chain_raise a b c (x ∷ xs) h p = (p.0, p.1, chain_raise (x.base + 2 ^ x.order) b c xs h p.2)
