-- Bytes as one number: the register after n bytes is that after n bytes of zeros from the register and the number together, and the four bytes
-- of a number go by look-ups. Assumes nothing.
use mathlib.Core.Path.{◌≡◌, sym, ap, ap₂, ◌∙◌}
use mathlib.Core.List.{List, [], ◌∷◌}
use Prim.Native.Nat.{ℕ, zero, suc, ◌+◌, ◌*◌, ◌/◌, ◌%◌, ◌^◌, ◌≤◌, ◌<◌}
use native.Mathlib.Nat.{add-zero, add_assoc, mul-one, mul-suc, zero-mul}
use native.Mathlib.Omega.{arith}
use lib.Bits.{bit_xor, xor_zero_r}
use Rattle.std.specs.Int.Bits.{xor_shifted}
use Rattle.std.specs.Simd.{first_chunks}
use Rattle.std.proofs.lemmas.Nat.{xor_comm}
use lib.ListN.{length, get_or, take, drop, length-drop, take-append-drop}
use lib.Seq.{take-suc, get_or-drop, drop-drop, take-add}
use Rattle.crc32c.specs.Crc.{bit_steps, byte_step, register}
use Rattle.crc32c.specs.Words.{after, word}
use Rattle.crc32c.proofs.XorLaws.{xor_assoc}
use Rattle.crc32c.proofs.CrcLaws.{steps_linear, steps_high, steps_more, steps_none, register_append}
use Rattle.crc32c.proofs.TableLaws.{low_byte}

after_linear : (n a b : ℕ) → after n (bit_xor a b) ≡ bit_xor (after n a) (after n b)
unfolding after
after_linear n a b = steps_linear (8 * n) a b

pub after_more : (m n c : ℕ) → after n (after m c) ≡ after (m + n) c
unfolding after
after_more m n c =
    let e : 8 * m + 8 * n ≡ 8 * (m + n) = omega arith in
    sym (steps_more (8 * m) (8 * n) c) ∙ ap (λ (k : ℕ). bit_steps k c) e

after_none : (c : ℕ) → after 0 c ≡ c
unfolding after
after_none c = steps_none c

after_nothing : (n : ℕ) → after n 0 ≡ 0
unfolding after
after_nothing n = ap (bit_steps (8 * n)) {x = 0} {y = 0 * 2 ^ (8 * n)} (sym (zero-mul (2 ^ (8 * n)))) ∙ steps_high (8 * n) 0

-- one byte more, past n others
byte_after : (n c w b : ℕ) → byte_step (after n (bit_xor c w)) b ≡ after (suc n) (bit_xor c (bit_xor w (b * 2 ^ (8 * n))))
unfolding after byte_step
byte_after n c w b =
    let k = 8 * n in
    ap (λ (y : ℕ). bit_steps 8 (bit_xor (bit_steps k (bit_xor c w)) y)) (sym (steps_high k b))
    ∙ ap (bit_steps 8) (sym (steps_linear k (bit_xor c w) (b * 2 ^ k)) ∙ ap (bit_steps k) (xor_assoc c w (b * 2 ^ k)))
    ∙ sym (steps_more k 8 (bit_xor c (bit_xor w (b * 2 ^ k))))
    ∙ ap (λ (m : ℕ). bit_steps m (bit_xor c (bit_xor w (b * 2 ^ k)))) (sym (mul-suc 8 n))

pub by_word : (s : List ℕ) (at n c : ℕ) → at + n ≤ length s → register c (take n (drop at s)) ≡ after n (bit_xor c (word s at n))
unfolding word
by_word s at zero c h = sym (after_none (bit_xor c 0) ∙ xor_zero_r c)
by_word s at (suc n) c h =
    let l : n < length (drop at s) = omega (arith, length-drop at s) in
    ap (register c) (take-suc (drop at s) n 0 l)
    ∙ register_append c (take n (drop at s)) (get_or (drop at s) n 0 ∷ [])
    ∙ ap₂ byte_step (by_word s at n c (omega arith)) (get_or-drop at s n 0)
    ∙ byte_after n c (word s at n) (get_or s (at + n) 0)

-- where x has k bits, y past them is added
past : (k x y : ℕ) → x < 2 ^ k → bit_xor x (y * 2 ^ k) ≡ x + y * 2 ^ k
past k x y h = xor_comm x (y * 2 ^ k) ∙ xor_shifted y k x h ∙ omega arith

pub word_four : (s : List ℕ) (at : ℕ) → ((i : ℕ) → get_or s i 0 < 256) →
    get_or s at 0 + get_or s (at + 1) 0 * 256 + get_or s (at + 2) 0 * 65536 + get_or s (at + 3) 0 * 16777216 ≡ word s at 4
unfolding word
word_four s at small =
    let g = λ (i : ℕ). get_or s i 0 in
    let two : bit_xor (g at) (g (at + 1) * 256) ≡ g at + g (at + 1) * 256 = past 8 (g at) (g (at + 1)) (small at) in
    let three = past 16 (g at + g (at + 1) * 256) (g (at + 2)) (omega (arith, small at, small (at + 1))) in
    let four = past 24 (g at + g (at + 1) * 256 + g (at + 2) * 65536) (g (at + 3))
    (omega (arith, small at, small (at + 1), small (at + 2))) in
    let e : g at ≡ g (at + 0) * 1 = sym (mul-one (g (at + 0)) ∙ ap g (add-zero at)) in
    sym (ap (λ (x : ℕ). bit_xor (bit_xor x (g (at + 2) * 65536)) (g (at + 3) * 16777216)) two
    ∙ ap (λ (x : ℕ). bit_xor x (g (at + 3) * 16777216)) three ∙ four)
    ∙ ap (λ (x : ℕ). bit_xor (bit_xor (bit_xor x (g (at + 1) * 256)) (g (at + 2) * 65536)) (g (at + 3) * 16777216)) e

-- a part and then the rest
pub register_on : (c : ℕ) (s : List ℕ) (i n : ℕ) → register (register c (take n (drop i s))) (drop (i + n) s) ≡ register c (drop i s)
register_on c s i n =
    ap (register (register c (take n (drop i s)))) (sym (drop-drop n i s))
    ∙ sym (register_append c (take n (drop i s)) (drop n (drop i s)))
    ∙ ap (register c) (take-append-drop n (drop i s))

-- the chunks of n bytes, each by its place
pub chunk_at : (n k : ℕ) (xs : List ℕ) (i : ℕ) (d : List ℕ) → i < k → get_or (first_chunks n k xs) i d ≡ take n (drop (i * n) xs)
chunk_at n zero xs i d h = absurd (omega arith)
chunk_at n (suc k) xs zero d h = ap (λ (m : ℕ). take n (drop m xs)) (sym (zero-mul n))
chunk_at n (suc k) xs (suc i) d h =
    let e : n + i * n ≡ suc i * n = omega arith in
    chunk_at n k (drop n xs) i d (omega arith) ∙ ap (take n) (drop-drop (i * n) n xs ∙ ap (λ (m : ℕ). drop m xs) e)

-- one chunk of eight more
pub chunk_step : {cs : List (List ℕ)} {r a : ℕ} (s d : List ℕ) (i c : ℕ) → cs ≡ first_chunks 8 (length s / 8) s →
    i < length s / 8 → r ≡ register c (get_or cs i d) → register c (drop (i * 8) s) ≡ a → register r (drop ((i + 1) * 8) s) ≡ a
chunk_step {cs} {r} {a} s d i c q h e f =
    let n : (i + 1) * 8 ≡ i * 8 + 8 = omega arith in
    ap₂ (λ (x m : ℕ). register x (drop m s))
    (e ∙ ap (λ (xs : List (List ℕ)). register c (get_or xs i d)) q ∙ ap (register c) (chunk_at 8 (length s / 8) s i d h)) n
    ∙ register_on c s (i * 8) 8 ∙ f

-- eight bytes as two numbers of four
pub by_two : (s : List ℕ) (at c : ℕ) → at + 8 ≤ length s
    → register c (take 8 (drop at s)) ≡ bit_xor (after 8 (bit_xor c (word s at 4))) (after 4 (word s (at + 4) 4))
by_two s at c h =
    ap (register c) (take-add 4 4 (drop at s))
    ∙ register_append c (take 4 (drop at s)) (take 4 (drop 4 (drop at s)))
    ∙ ap₂ register (by_word s at 4 c (omega arith)) (ap (take 4) (drop-drop 4 at s))
    ∙ by_word s (at + 4) 4 (after 4 (bit_xor c (word s at 4))) (omega arith)
    ∙ after_linear 4 (after 4 (bit_xor c (word s at 4))) (word s (at + 4) 4)
    ∙ ap (λ (x : ℕ). bit_xor x (after 4 (word s (at + 4) 4))) (after_more 4 4 (bit_xor c (word s at 4)))

-- four bytes of a number below 2^32, with k bytes of zeros after them
pub by_four : (k x : ℕ) → x < 2 ^ 32
    → after (k + 4) x ≡ bit_xor (bit_xor (bit_xor (after (k + 3 + 1) (x % 256)) (after (k + 2 + 1) (x / 256 % 256)))
    (after (k + 1 + 1) (x / 256 / 256 % 256))) (after (k + 1) (x / 256 / 256 / 256 % 256))
by_four k x h =
    let x₁ = x / 256 in
    let x₂ = x₁ / 256 in
    let x₃ = x₂ / 256 in
    let z : x₃ / 256 ≡ 0 = omega arith in
    let a = after (k + 3 + 1) (x % 256) in
    let b = after (k + 2 + 1) (x₁ % 256) in
    let c = after (k + 1 + 1) (x₂ % 256) in
    let d = after (k + 1) (x₃ % 256) in
    one 3 x
    ∙ ap (bit_xor a) (one 2 x₁
    ∙ ap (bit_xor b) (one 1 x₂
    ∙ ap (bit_xor c) (low_byte k x₃ ∙ ap (bit_xor d) (ap (after k) z ∙ after_nothing k) ∙ xor_zero_r d)))
    ∙ sym (xor_assoc (bit_xor a b) c d ∙ xor_assoc a b (bit_xor c d))
  where
    one : (j y : ℕ) → after (k + (j + 1)) y ≡ bit_xor (after (k + j + 1) (y % 256)) (after (k + j) (y / 256))
    one j y = ap (λ (m : ℕ). after m y) (sym (add_assoc k j 1)) ∙ low_byte (k + j) y
