-- A key's number by the bytes of the key: eight to a word, zeros after its end, the length above all.
use Prim.Native.Nat.{ℕ, zero, suc, ◌+◌, ◌*◌, ◌-◌, ◌^◌, ◌≤◌, ◌<◌}
use mathlib.Core.Path.{◌≡◌, refl, sym, ap, ap₂, subst, ◌∙◌}
use mathlib.Core.List.{List, [], ◌∷◌}
use native.Mathlib.Omega.{arith}
use native.Mathlib.Nat.{pow-suc, mul_assoc, mul_comm, add-mul, mul-one, add_assoc, add_comm, add-zero, add-suc, le_refl, le_trans, mul-le-mul_right}
use lib.ListN.{length, get_or}
use borrow.Author.Tests.{leb-true}
use Rattle.blocks.proofs.ListLaws.{get_or_out}
use Rattle.words.specs.Bits.{word_bits}
use Rattle.words.specs.Bytes.{Bytes, number_at}
use Rattle.assoc_keys.specs.Number.{key_at}
use Rattle.assoc_keys.specs.Number as N
use Rattle.assoc_tree.specs.Keys.{max_key, digits, key_number}

-- x, and then the first k bytes
abbrev before : ℕ → List ℕ → ℕ → ℕ
before x s zero = x
before x s (suc k) = before x s k * 256 + get_or s k 0

before_cons : (x b : ℕ) (s : List ℕ) (k : ℕ) → before (x * 256 + b) s k ≡ before x (b ∷ s) (suc k)
before_cons x b s zero = refl
before_cons x b s (suc k) = ap (λ (y : ℕ). y * 256 + get_or s k 0) (before_cons x b s k)

digits_are : (x : ℕ) (s : List ℕ) → digits x s ≡ before x s (length s)
digits_are x [] = refl
digits_are x (b ∷ s) = digits_are (x * 256 + b) s ∙ before_cons x b s (length s)

-- j bytes more
more_bytes : (x : ℕ) (s : List ℕ) (k j : ℕ) → before x s (k + j) ≡ before x s k * 256 ^ j + number_at s k j
more_bytes x s k zero = ap (before x s) (add-zero k) ∙ sym (add-zero (before x s k * 1) ∙ mul-one (before x s k))
more_bytes x s k (suc j) =
    ap (before x s) (add-suc k j) ∙ ap (λ (y : ℕ). y * 256 + get_or s (k + j) 0) (more_bytes x s k j) ∙
    ap (λ (y : ℕ). y + get_or s (k + j) 0) (add-mul (before x s k * 256 ^ j) (number_at s k j) 256 ∙
    ap (λ (y : ℕ). y + number_at s k j * 256) (mul_assoc (before x s k) (256 ^ j) 256 ∙ ap (λ (y : ℕ). before x s k * y) (sym (pow-suc 256 j)))) ∙
    add_assoc (before x s k * 256 ^ suc j) (number_at s k j * 256) (get_or s (k + j) 0)

-- after the end there are zeros
none_after : (s : List ℕ) (at n : ℕ) → length s ≤ at → number_at s at n ≡ 0
none_after s at zero h = refl
none_after s at (suc n) h =
    ap₂ (λ (a b : ℕ). a * 256 + b) (none_after s at n h) (get_or_out s (at + n) (omega arith))

key_bytes : (s : List ℕ) → length s ≤ max_key → key_number s ≡ before (length s) s max_key
key_bytes s h =
    let e : length s + (max_key - length s) ≡ max_key = omega arith in
    ap (λ (y : ℕ). y * 256 ^ (max_key - length s)) (digits_are (length s) s) ∙
    sym (add-zero _) ∙
    ap (λ (y : ℕ). before (length s) s (length s) * 256 ^ (max_key - length s) + y) (sym (none_after s (length s) (max_key - length s) (omega arith))) ∙
    sym (more_bytes (length s) s (length s) (max_key - length s)) ∙ ap (before (length s) s) e

-- eight bytes are a word
word_more : (x : ℕ) (s : List ℕ) (k : ℕ) → before x s (k + 8) ≡ number_at s k 8 + 2 ^ word_bits * before x s k
word_more x s k =
    more_bytes x s k 8 ∙ add_comm (before x s k * 256 ^ 8) (number_at s k 8) ∙
    ap (λ (y : ℕ). number_at s k 8 + y) (mul_comm (before x s k) (256 ^ 8))

-- the five words of a key's number
abbrev pub words_of : List ℕ → List ℕ
words_of s = number_at s 24 8 ∷ number_at s 16 8 ∷ number_at s 8 8 ∷ number_at s 0 8 ∷ length s ∷ []

pub key_is : (s : List ℕ) → length s ≤ max_key → key_at (words_of s) 0 ≡ key_number s
unfolding N.number_at
key_is s h =
    sym (key_bytes s h ∙ word_more (length s) s 24 ∙
    up (number_at s 24 8) (word_more (length s) s 16 ∙
    up (number_at s 16 8) (word_more (length s) s 8 ∙ up (number_at s 8 8) (word_more (length s) s 0 ∙ up (number_at s 0 8) (sym (add-zero (length s)))))))
  where
    up : (a : ℕ) {x y : ℕ} → x ≡ y → a + 2 ^ word_bits * x ≡ a + 2 ^ word_bits * y
    up a e = ap (λ (z : ℕ). a + 2 ^ word_bits * z) e

-- and it is below 16^66
pub key_fits : (s : List ℕ) → Bytes s → length s ≤ max_key → key_number s < 2 ^ 264
key_fits s b h =
    subst (λ (y : ℕ). y < 2 ^ 264) (sym (key_bytes s h))
    (le_trans (below (length s) max_key) (le_trans (mul-le-mul_right (256 ^ max_key) (next (length s) h)) (leb-true (33 * 256 ^ max_key) (2 ^ 264) refl)))
  where
    next : (n : ℕ) → n ≤ max_key → suc n ≤ 33
    next n g = omega arith

    step : (x p y q : ℕ) → suc x ≤ p → y < 256 → q ≡ p * 256 → suc (x * 256 + y) ≤ q
    step x p y q a c e = omega arith

    below : (x k : ℕ) → suc (before x s k) ≤ suc x * 256 ^ k
    below x zero = subst (λ (y : ℕ). suc x ≤ y) (sym (mul-one (suc x))) (le_refl _)
    below x (suc k) =
        step (before x s k) (suc x * 256 ^ k) (get_or s k 0) (suc x * 256 ^ suc k) (below x k) (b.small k)
        (ap (λ (y : ℕ). suc x * y) (pow-suc 256 k) ∙ sym (mul_assoc (suc x) (256 ^ k) 256))

pub words_are : (s : List ℕ) {a b c d n : ℕ} → a ≡ number_at s 24 8 → b ≡ number_at s 16 8 → c ≡ number_at s 8 8 → d ≡ number_at s 0 8 →
    n ≡ length s → a ∷ b ∷ c ∷ d ∷ n ∷ [] ≡ words_of s
words_are s e f g h i = rw (e, f, g, h, i)

pub these_fit : (s ws : List ℕ) → ws ≡ words_of s → Bytes s → length s ≤ max_key → key_at ws 0 < 2 ^ 264
these_fit s ws e b h = subst (λ (y : ℕ). y < 2 ^ 264) (sym (ap (λ (v : List ℕ). key_at v 0) e ∙ key_is s h)) (key_fits s b h)

pub this_key : (s ws : List ℕ) → ws ≡ words_of s → length s ≤ max_key → key_at ws 0 ≡ key_number s
this_key s ws e h = ap (λ (v : List ℕ). key_at v 0) e ∙ key_is s h
