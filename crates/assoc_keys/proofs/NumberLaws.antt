-- A digit of a number, and whether two numbers lie in one block, read off their words. Over the bits of a digit.
use Prim.Native.Nat.{ℕ, zero, suc, ◌+◌, ◌*◌, ◌-◌, ◌/◌, ◌%◌, ◌^◌, ◌≤◌, ◌<◌}
use mathlib.Core.Path.{◌≡◌, refl, sym, ap, ap₂, ◌∙◌}
use mathlib.Core.Bool.{true, false}
use mathlib.Core.List.{List}
use native.Mathlib.Omega.{arith}
use native.Mathlib.Nat.{add-mul-div_left, add-mul-mod_self_left, div-div-eq-div-mul, div-eq_of_lt, mod-eq_of_lt, div-lt_iff_lt-mul, mul_assoc, mul_comm, zero-add, add-zero, sub-zero, suc-sub-suc, add-mul, mod-lt, mod-add-div, div-add-mod', mul-div_cancel_left, mul-mod_right, div-one}
use lib.Dec.{ltb}
use lib.ListN.{get_or}
use borrow.Author.Tests.{ltb-true, ltb-false}
use Rattle.blocks.specs.Blocks.{block}
use Rattle.blocks.proofs.BoolLaws.{clash, by_t}
use Rattle.blocks.proofs.BlockLaws.{pow-add, pow_pos, block_up, block_at, block_lo}
use Rattle.words.specs.Bits.{word_bits}
use Rattle.assoc_keys.specs.Number.{number_at, key_at, key_words, Words, SameFrom, cut_word, word_of}
use Rattle.blocks.specs.Deciding.{Decides}

-- ONE WORD
-- the word w below y: the digits above it are those of y
pub above : (w y t : ℕ) → w < 2 ^ word_bits → block (word_bits + t) (w + 2 ^ word_bits * y) ≡ block t y
above w y t h =
    rw (← pow-add word_bits t, ← div-div-eq-div-mul, add-mul-div_left w y (pow_pos word_bits), div-eq_of_lt h, zero-add y)

-- the digits in it are its own, then those of y
pub inside : (w y s r : ℕ) → s + r ≡ word_bits → block s (w + 2 ^ word_bits * y) ≡ block s w + 2 ^ r * y
inside w y s r e =
    let q : 2 ^ word_bits * y ≡ 2 ^ s * (2 ^ r * y) = rw (← mul_assoc, pow-add s r, e) in
    rw q (add-mul-div_left w (2 ^ r * y) (pow_pos s))

-- what is left of a word is short
pub short : (w s r : ℕ) → s + r ≡ word_bits → w < 2 ^ word_bits → block s w < 2 ^ r
short w s r e h = (div-lt_iff_lt-mul (pow_pos s)).1 (rw (mul_comm (2 ^ r) (2 ^ s), pow-add s r, e) h)

-- a low part and a high part are known by their sum
pub apart : (a b y z m : ℕ) → 0 < m → a < m → b < m → a + m * y ≡ b + m * z → (a ≡ b) × (y ≡ z)
apart a b y z m p ha hb e = (
  sym (mod-eq_of_lt ha) ∙ sym (add-mul-mod_self_left a m y) ∙ ap (λ (x : ℕ). x % m) e ∙ add-mul-mod_self_left b m z
      ∙ mod-eq_of_lt hb,
  sym (zero-add y) ∙ high a y ha ∙ ap (λ (x : ℕ). x / m) e ∙ sym (high b z hb) ∙ zero-add z,
)
  where
    high : (c x : ℕ) → c < m → 0 + x ≡ (c + m * x) / m
    high c x h = sym (add-mul-div_left c x p ∙ ap (λ (d : ℕ). d + x) (div-eq_of_lt h))

-- SEVERAL WORDS: nibble 16 q + r stands in word q

module _ (ws : List ℕ) (fit : Words ws) where
  -- below word q of a number stand as many words
  pub drop_words : (k at q t : ℕ) → q ≤ k →
      block (word_bits * q + t) (number_at ws at k) ≡ block t (number_at ws (at + q) (k - q))
  unfolding number_at
  drop_words k at zero t h = rw (zero-add t, add-zero at, sub-zero k)
  drop_words zero at (suc q) t h = absurd (omega arith)
  drop_words (suc k) at (suc q) t h =
      let e : word_bits * suc q + t ≡ word_bits + (word_bits * q + t) = omega arith in
      let i : suc at + q ≡ at + suc q = omega arith in
      ap (λ (j : ℕ). block j (get_or ws at 0 + 2 ^ word_bits * number_at ws (suc at) k)) e ∙
      above (get_or ws at 0) (number_at ws (suc at) k) (word_bits * q + t) (fit at) ∙
      drop_words k (suc at) q t (omega arith) ∙ ap (λ (j : ℕ). block t (number_at ws j (k - q))) i ∙
      ap (λ (j : ℕ). block t (number_at ws (at + suc q) j)) (sym (suc-sub-suc k q))

  pub digit : (k at q r : ℕ) → q < k → r < 16 →
      block (4 * (16 * q + r)) (number_at ws at k) % 16 ≡ block (4 * r) (get_or ws (at + q) 0) % 16
  unfolding number_at
  digit k at q r h g =
      let e : 4 * (16 * q + r) ≡ word_bits * q + 4 * r = omega arith in
      let k' : k - q ≡ suc (k - suc q) = omega arith in
      let s : 4 * r + (4 + (60 - 4 * r)) ≡ word_bits = omega arith in
      ap (λ (j : ℕ). block j (number_at ws at k) % 16) e ∙
      ap (λ (x : ℕ). x % 16) (drop_words k at q (4 * r) (omega arith)) ∙
      ap (λ (j : ℕ). block (4 * r) (number_at ws (at + q) j) % 16) k' ∙
      ap (λ (x : ℕ). x % 16) (inside (get_or ws (at + q) 0) (number_at ws (suc (at + q)) (k - suc q)) (4 * r) (4 + (60 - 4 * r)) s) ∙
      ap (λ (x : ℕ). (block (4 * r) (get_or ws (at + q) 0) + x) % 16)
      (ap (λ (x : ℕ). x * number_at ws (suc (at + q)) (k - suc q)) (sym (pow-add 4 (60 - 4 * r))) ∙ mul_assoc (2 ^ 4) _ _) ∙
      add-mul-mod_self_left (block (4 * r) (get_or ws (at + q) 0)) 16 _

-- TWO NUMBERS
module _ (xs ys : List ℕ) where
  pub same_number : (i j k : ℕ) → SameFrom xs ys i j 0 k → number_at xs i k ≡ number_at ys j k
  unfolding number_at
  same_number i j zero f = refl
  same_number i j (suc k) f =
      ap₂ (λ (a b : ℕ). a + 2 ^ word_bits * b) (rw (add-zero, add-zero) at (f 0 (omega arith) (omega arith)))
      (same_number (suc i) (suc j) k (λ p a b. shift p (f (suc p) (omega arith) (omega arith))))
    where
      shift : (p : ℕ) → get_or xs (i + suc p) 0 ≡ get_or ys (j + suc p) 0 → get_or xs (suc i + p) 0 ≡ get_or ys (suc j + p) 0
      shift p e =
          let a : suc i + p ≡ i + suc p = omega arith in
          let b : suc j + p ≡ j + suc p = omega arith in
          rw (a, b) e

  module _ (fit : Words xs) (fit' : Words ys) where
    pub same_words : (i j k : ℕ) → number_at xs i k ≡ number_at ys j k → SameFrom xs ys i j 0 k
    unfolding number_at
    same_words i j zero e p a b = absurd (omega arith)
    same_words i j (suc k) e zero a b =
        rw (add-zero, add-zero) (apart (get_or xs i 0) (get_or ys j 0) (number_at xs (suc i) k) (number_at ys (suc j) k)
        (2 ^ word_bits) (pow_pos word_bits) (fit i) (fit' j) e).0
    same_words i j (suc k) e (suc p) a b =
        let c : suc i + p ≡ i + suc p = omega arith in
        let d : suc j + p ≡ j + suc p = omega arith in
        rw (← c, ← d) (same_words (suc i) (suc j) k
        (apart (get_or xs i 0) (get_or ys j 0) (number_at xs (suc i) k) (number_at ys (suc j) k) (2 ^ word_bits)
        (pow_pos word_bits) (fit i) (fit' j) e).1 p (omega arith) (omega arith))

    -- the block of tier 16 q + r
    module _ (i j k q r : ℕ) (h : q < k) (g : r < 16) where
      opened : (zs : List ℕ) → Words zs → (o : ℕ) → block (4 * (16 * q + r)) (number_at zs o k) ≡
          block (4 * r) (get_or zs (o + q) 0) + 2 ^ (64 - 4 * r) * number_at zs (suc (o + q)) (k - suc q)
      unfolding number_at
      opened zs fits o =
          let e : 4 * (16 * q + r) ≡ word_bits * q + 4 * r = omega arith in
          let k' : k - q ≡ suc (k - suc q) = omega arith in
          let s : 4 * r + (64 - 4 * r) ≡ word_bits = omega arith in
          ap (λ (d : ℕ). block d (number_at zs o k)) e ∙ drop_words zs fits k o q (4 * r) (omega arith) ∙
          ap (λ (d : ℕ). block (4 * r) (number_at zs (o + q) d)) k' ∙
          inside (get_or zs (o + q) 0) (number_at zs (suc (o + q)) (k - suc q)) (4 * r) (64 - 4 * r) s

      pub agree_yes : block (4 * r) (get_or xs (i + q) 0) ≡ block (4 * r) (get_or ys (j + q) 0) → SameFrom xs ys i j (suc q) k →
          block (4 * (16 * q + r)) (number_at xs i k) ≡ block (4 * (16 * q + r)) (number_at ys j k)
      agree_yes e f =
          opened xs fit i ∙
          ap₂ (λ (a b : ℕ). a + 2 ^ (64 - 4 * r) * b) e
          (same_number (suc (i + q)) (suc (j + q)) (k - suc q) (λ p a b. shift p (f (suc q + p) (omega arith) (omega arith))))
          ∙ sym (opened ys fit' j)
        where
          shift : (p : ℕ) → get_or xs (i + (suc q + p)) 0 ≡ get_or ys (j + (suc q + p)) 0 →
              get_or xs (suc (i + q) + p) 0 ≡ get_or ys (suc (j + q) + p) 0
          shift p d =
              let a : suc (i + q) + p ≡ i + (suc q + p) = omega arith in
              let b : suc (j + q) + p ≡ j + (suc q + p) = omega arith in
              rw (a, b) d

      pub agree_no : block (4 * (16 * q + r)) (number_at xs i k) ≡ block (4 * (16 * q + r)) (number_at ys j k) →
          (block (4 * r) (get_or xs (i + q) 0) ≡ block (4 * r) (get_or ys (j + q) 0)) × SameFrom xs ys i j (suc q) k
      agree_no e = (both.0, rest)
        where
          s : 4 * r + (64 - 4 * r) ≡ word_bits
          s = omega arith

          both : (block (4 * r) (get_or xs (i + q) 0) ≡ block (4 * r) (get_or ys (j + q) 0)) ×
              (number_at xs (suc (i + q)) (k - suc q) ≡ number_at ys (suc (j + q)) (k - suc q))
          both =
              apart _ _ _ _ (2 ^ (64 - 4 * r)) (pow_pos (64 - 4 * r)) (short _ (4 * r) (64 - 4 * r) s (fit (i + q)))
              (short _ (4 * r) (64 - 4 * r) s (fit' (j + q))) (sym (opened xs fit i) ∙ e ∙ opened ys fit' j)

          rest : SameFrom xs ys i j (suc q) k
          rest p a b =
              let c : suc (i + q) + (p - suc q) ≡ i + p = omega arith in
              let d : suc (j + q) + (p - suc q) ≡ j + p = omega arith in
              rw (← c, ← d)
              (same_words (suc (i + q)) (suc (j + q)) (k - suc q) both.1 (p - suc q) (omega arith) (omega arith))

-- ORDER: the highest word in which they differ decides
pub less_at : (xs ys : List ℕ) → Words xs → Words ys → (i j k q : ℕ) → q < k → SameFrom xs ys i j (suc q) k →
    get_or xs (i + q) 0 < get_or ys (j + q) 0 → number_at xs i k < number_at ys j k
unfolding number_at
less_at xs ys fx fy i j zero q h f lt = absurd (omega arith)
less_at xs ys fx fy i j (suc k) zero h f lt =
    let lt' : get_or xs i 0 < get_or ys j 0 = (rw (add-zero, add-zero) at lt) in
    let e : number_at xs (suc i) k ≡ number_at ys (suc j) k =
    same_number xs ys (suc i) (suc j) k (λ p a b. shift xs ys i j p (f (suc p) (omega arith) (omega arith))) in
    rw e (low_less (get_or xs i 0) (get_or ys j 0) (number_at ys (suc j) k) lt')
  where
    shift : (xs ys : List ℕ) (i j p : ℕ) → get_or xs (i + suc p) 0 ≡ get_or ys (j + suc p) 0 → get_or xs (suc i + p) 0 ≡ get_or ys (suc j + p) 0
    shift xs ys i j p e =
        let a : suc i + p ≡ i + suc p = omega arith in
        let b : suc j + p ≡ j + suc p = omega arith in
        rw (a, b) e

    low_less : (a b y : ℕ) → a < b → a + 2 ^ word_bits * y < b + 2 ^ word_bits * y
    low_less a b y h = omega arith
less_at xs ys fx fy i j (suc k) (suc q) h f lt =
    let a : suc i + q ≡ i + suc q = omega arith in
    let b : suc j + q ≡ j + suc q = omega arith in
    high_less (get_or xs i 0) (get_or ys j 0) (number_at xs (suc i) k) (number_at ys (suc j) k) (fx i)
    (less_at xs ys fx fy (suc i) (suc j) k q (omega arith)
    (λ p c d. shift xs ys i j p (f (suc p) (omega arith) (omega arith))) (rw (a, b) lt))
  where
    shift : (xs ys : List ℕ) (i j p : ℕ) → get_or xs (i + suc p) 0 ≡ get_or ys (j + suc p) 0 → get_or xs (suc i + p) 0 ≡ get_or ys (suc j + p) 0
    shift xs ys i j p e =
        let a : suc i + p ≡ i + suc p = omega arith in
        let b : suc j + p ≡ j + suc p = omega arith in
        rw (a, b) e

    high_less : (a b x y : ℕ) → a < 2 ^ word_bits → x < y → a + 2 ^ word_bits * x < b + 2 ^ word_bits * y
    high_less a b x y h g = omega arith

-- ANSWERS OF TESTS
pub yes! : {A : Type 0} → A → Decides true A
yes! a = (λ e. a, λ e. absurd (clash refl e))

pub no! : {A : Type 0} → (A → ⊥) → Decides false A
no! f = (λ e. absurd (clash e refl), λ e a. f a)

-- CUT to the first number of a block of a tier, word by word
pub cut_words : (x i v : ℕ) → block (word_bits * i) (block (4 * v) x * 2 ^ (4 * v)) % 2 ^ word_bits ≡
    cut_word (block (word_bits * i) x % 2 ^ word_bits) i v
cut_words x i v =
    by_t (ltb i (v / 16)) (λ a. rw a (low (ltb-true _ _ a)))
    (λ a. by_t (ltb (v / 16) i) (λ b. rw (a, b) (high (ltb-true _ _ b)))
    (λ b. let e : v / 16 ≡ i = omega (arith, ltb-false i (v / 16) a, ltb-false (v / 16) i b) in rw (a, b) (here e)))
  where
    low : i < v / 16 → block (word_bits * i) (block (4 * v) x * 2 ^ (4 * v)) % 2 ^ word_bits ≡ 0
    low h =
        let e : 4 * v ≡ word_bits * i + (word_bits + (4 * v - word_bits * i - word_bits)) = omega arith in
        let d : block (4 * v) x * 2 ^ (4 * v) ≡ 2 ^ (word_bits * i) * (2 ^ word_bits * (2 ^ (4 * v - word_bits * i - word_bits) * block (4 * v) x)) =
        ap (λ (j : ℕ). block (4 * v) x * 2 ^ j) e ∙
        ap (λ (y : ℕ). block (4 * v) x * y) (sym (pow-add (word_bits * i) (word_bits + (4 * v - word_bits * i - word_bits))) ∙
        ap (λ (y : ℕ). 2 ^ (word_bits * i) * y) (sym (pow-add word_bits (4 * v - word_bits * i - word_bits)))) ∙
        turn (block (4 * v) x) (2 ^ (word_bits * i)) (2 ^ word_bits) (2 ^ (4 * v - word_bits * i - word_bits)) in
        ap (λ (y : ℕ). block (word_bits * i) y % 2 ^ word_bits) d ∙
        ap (λ (y : ℕ). y % 2 ^ word_bits) (mul-div_cancel_left (2 ^ word_bits * (2 ^ (4 * v - word_bits * i - word_bits) * block (4 * v) x)) (pow_pos (word_bits * i))) ∙
        mul-mod_right (2 ^ word_bits) _
      where
        turn : (a b c d : ℕ) → a * (b * (c * d)) ≡ b * (c * (d * a))
        turn a b c d = mul_comm a (b * (c * d)) ∙ mul_assoc b (c * d) a ∙ ap (λ (y : ℕ). b * y) (mul_assoc c d a)

    high : v / 16 < i → block (word_bits * i) (block (4 * v) x * 2 ^ (4 * v)) % 2 ^ word_bits ≡ block (word_bits * i) x % 2 ^ word_bits
    high h = ap (λ (y : ℕ). y % 2 ^ word_bits) (block_up {j = 4 * v} {k = word_bits * i} (block (4 * v) x * 2 ^ (4 * v)) x (omega arith)
        (block_at (4 * v) (block (4 * v) x)))

    whole : (s : ℕ) → 4 * v ≡ word_bits * i + s →
        block (4 * v) x * 2 ^ (4 * v) ≡ 2 ^ (word_bits * i) * (block s (block (word_bits * i) x) * 2 ^ s)
    whole s q =
        ap (λ (j : ℕ). block j x * 2 ^ j) q ∙
        ap₂ ◌*◌ (ap (λ (d : ℕ). x / d) (sym (pow-add (word_bits * i) s)) ∙ sym (div-div-eq-div-mul x (2 ^ (word_bits * i)) (2 ^ s)))
        (sym (pow-add (word_bits * i) s)) ∙ turn (block s (block (word_bits * i) x)) (2 ^ (word_bits * i)) (2 ^ s)
      where
        turn : (a b c : ℕ) → a * (b * c) ≡ b * (a * c)
        turn a b c = sym (mul_assoc a b c) ∙ ap (λ (y : ℕ). y * c) (mul_comm a b) ∙ mul_assoc b a c

    -- one word
    cut_one : (X s r : ℕ) → s + r ≡ word_bits → block s X * 2 ^ s % 2 ^ word_bits ≡ X % 2 ^ word_bits - X % 2 ^ word_bits % 2 ^ s
    cut_one X s r e =
        ap (λ (y : ℕ). block s y * 2 ^ s % 2 ^ word_bits) (sym (mod-add-div X (2 ^ word_bits))) ∙
        ap (λ (y : ℕ). y * 2 ^ s % 2 ^ word_bits) (inside (X % 2 ^ word_bits) (X / 2 ^ word_bits) s r e) ∙
        ap (λ (y : ℕ). y % 2 ^ word_bits) (spread (block s (X % 2 ^ word_bits)) (X / 2 ^ word_bits)) ∙
        add-mul-mod_self_left (block s (X % 2 ^ word_bits) * 2 ^ s) (2 ^ word_bits) (X / 2 ^ word_bits) ∙
        mod-eq_of_lt (under (block_lo s (X % 2 ^ word_bits)) (mod-lt X (pow_pos word_bits))) ∙
        rest (block s (X % 2 ^ word_bits) * 2 ^ s) (X % 2 ^ word_bits % 2 ^ s) (X % 2 ^ word_bits) (div-add-mod' (X % 2 ^ word_bits) (2 ^ s))
      where
        spread : (a b : ℕ) → (a + 2 ^ r * b) * 2 ^ s ≡ a * 2 ^ s + 2 ^ word_bits * b
        spread a b = add-mul a (2 ^ r * b) (2 ^ s) ∙ ap (λ (y : ℕ). a * 2 ^ s + y)
            (mul_comm (2 ^ r * b) (2 ^ s) ∙ sym (mul_assoc (2 ^ s) (2 ^ r) b) ∙ ap (λ (y : ℕ). y * b) (pow-add s r ∙ ap (λ (j : ℕ). 2 ^ j) e))

        under : {a b c : ℕ} → a ≤ b → b < c → a < c
        under f g = omega arith

        rest : (p q a : ℕ) → p + q ≡ a → p ≡ a - q
        rest p q a d = omega arith

    here : v / 16 ≡ i → block (word_bits * i) (block (4 * v) x * 2 ^ (4 * v)) % 2 ^ word_bits ≡
        block (word_bits * i) x % 2 ^ word_bits - block (word_bits * i) x % 2 ^ word_bits % 2 ^ (4 * (v % 16))
    here e =
        let s : 4 * (v % 16) + (word_bits - 4 * (v % 16)) ≡ word_bits = omega arith in
        let q : 4 * v ≡ word_bits * i + 4 * (v % 16) = omega arith in
        ap (λ (y : ℕ). block (word_bits * i) y % 2 ^ word_bits) (whole (4 * (v % 16)) q) ∙
        ap (λ (y : ℕ). y % 2 ^ word_bits) (mul-div_cancel_left (block (4 * (v % 16)) (block (word_bits * i) x) * 2 ^ (4 * (v % 16))) (pow_pos (word_bits * i))) ∙
        cut_one (block (word_bits * i) x) (4 * (v % 16)) (word_bits - 4 * (v % 16)) s

-- NUMBERS read back
pub number_back : (ws : List ℕ) (k at x : ℕ) → x < 2 ^ (word_bits * k) →
    ((i : ℕ) → i < k → get_or ws (at + i) 0 ≡ word_of x i) → number_at ws at k ≡ x
unfolding number_at
number_back ws zero at x h f = omega arith
number_back ws (suc k) at x h f =
    ap₂ (λ (a b : ℕ). a + 2 ^ word_bits * b) first_word
    (number_back ws k (suc at) (x / 2 ^ word_bits) less (λ i g. shift i (f (suc i) (omega arith)))) ∙
    mod-add-div x (2 ^ word_bits)
  where
    first_word : get_or ws at 0 ≡ x % 2 ^ word_bits
    first_word = ap (λ (p : ℕ). get_or ws p 0) (sym (add-zero at)) ∙ f 0 (omega arith) ∙ ap (λ (d : ℕ). d % 2 ^ word_bits) (div-one x)

    less : x / 2 ^ word_bits < 2 ^ (word_bits * k)
    less = (div-lt_iff_lt-mul (pow_pos word_bits)).1
        (let e : word_bits * k + word_bits ≡ word_bits * suc k = omega arith in rw (pow-add (word_bits * k) word_bits, e) h)

    shift : (i : ℕ) → get_or ws (at + suc i) 0 ≡ word_of x (suc i) → get_or ws (suc at + i) 0 ≡ word_of (x / 2 ^ word_bits) i
    shift i e =
        let a : suc at + i ≡ at + suc i = omega arith in
        let b : word_bits + 64 * i ≡ 64 * suc i = omega arith in
        ap (λ (p : ℕ). get_or ws p 0) a ∙ e ∙
        ap (λ (d : ℕ). d % 2 ^ 64) (ap (λ (j : ℕ). x / 2 ^ j) (sym b) ∙
        sym (div-div-eq-div-mul x (2 ^ word_bits) (2 ^ (64 * i)) ∙ ap (λ (d : ℕ). x / d) (pow-add word_bits (64 * i))))

-- a number's words are those it was read from
pub words_of : (ws : List ℕ) → Words ws → (at i : ℕ) → i < key_words → word_of (key_at ws at) i ≡ get_or ws (at + i) 0
unfolding number_at
words_of ws fit at i h =
    let e : word_bits * i + 0 ≡ word_bits * i = omega arith in
    let k : key_words - i ≡ suc (key_words - suc i) = omega arith in
    ap (λ (d : ℕ). d % 2 ^ word_bits) (ap (λ (j : ℕ). block j (key_at ws at)) (sym e) ∙ drop_words ws fit key_words at i 0 (omega arith) ∙
    ap (λ (j : ℕ). block 0 (number_at ws (at + i) j)) k ∙ div-one _) ∙
    add-mul-mod_self_left (get_or ws (at + i) 0) (2 ^ word_bits) _ ∙ mod-eq_of_lt (fit (at + i))
