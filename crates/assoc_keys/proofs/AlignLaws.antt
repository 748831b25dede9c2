-- A number is the first of its block of a tier exactly if its words below are 0, and so are the low bits of the word that the tier cuts.
use Prim.Native.Nat.{ℕ, zero, suc, ◌+◌, ◌*◌, ◌-◌, ◌/◌, ◌%◌, ◌^◌, ◌≤◌, ◌<◌}
use mathlib.Core.Path.{◌≡◌, sym, ap, ◌∙◌, subst}
use mathlib.Core.List.{List}
use native.Mathlib.Omega.{arith}
use native.Mathlib.Nat.{mul-le-mul_left, mod-le, sub-zero, div-one, add-zero, mul-zero}
use lib.Dec.{ltb}
use lib.ListN.{get_or}
use borrow.Author.Tests.{ltb-true, ltb-false, lt-ltb, le-ltb}
use Rattle.blocks.specs.Blocks.{block}
use Rattle.blocks.proofs.BoolLaws.{by_t}
use Rattle.blocks.proofs.BlockLaws.{pow-add, pow_pos, block_lo}
use Rattle.words.specs.Bits.{word_bits}
use Rattle.assoc_keys.specs.Number.{number_at, key_at, key_words, Words, cut_word, word_of}
use Rattle.assoc_keys.proofs.NumberLaws.{drop_words, number_back, words_of, cut_words}

-- a number of k words
pub number_short : (ws : List ℕ) → Words ws → (k at : ℕ) → number_at ws at k < 2 ^ (word_bits * k)
unfolding number_at
number_short ws fit zero at = pow_pos (word_bits * 0)
number_short ws fit (suc k) at =
    let e : word_bits * suc k ≡ word_bits + word_bits * k = omega arith in
    subst (λ (j : ℕ). get_or ws at 0 + 2 ^ word_bits * number_at ws (suc at) k < 2 ^ j) (sym e)
    (subst (λ (y : ℕ). get_or ws at 0 + 2 ^ word_bits * number_at ws (suc at) k < y) (pow-add word_bits (word_bits * k))
    (under (2 ^ word_bits) (get_or ws at 0) (number_at ws (suc at) k) (2 ^ (word_bits * k)) (fit at) (number_short ws fit k (suc at))))
  where
    under : (b a x y : ℕ) → a < b → x < y → a + b * x < b * y
    under b a x y h g =
        let m : b * suc x ≤ b * y = mul-le-mul_left b g in
        let d : b * suc x ≡ b + b * x = turn in
        omega arith
      where
        turn : b * suc x ≡ b + b * x
        turn = omega arith

module _ (ws : List ℕ) (fit : Words ws) (at v : ℕ) (few : v / 16 < key_words) where
  abbrev first : ℕ
  first = block (4 * v) (key_at ws at) * 2 ^ (4 * v)

  -- word i of the first number of the block
  cut_is : (i : ℕ) → i < key_words → word_of first i ≡ cut_word (get_or ws (at + i) 0) i v
  cut_is i h = cut_words (key_at ws at) i v ∙ ap (λ (w : ℕ). cut_word w i v) (words_of ws fit at i h)

  pub first_yes : ((i : ℕ) → i < v / 16 → get_or ws (at + i) 0 ≡ 0) → get_or ws (at + v / 16) 0 % 2 ^ (4 * (v % 16)) ≡ 0 →
      key_at ws at ≡ first
  first_yes low here =
      number_back ws key_words at first (less (block_lo (4 * v) (key_at ws at)) (number_short ws fit key_words at))
      (λ i h. stays i ∙ sym (cut_is i h))
    where
      less : {a b c : ℕ} → a ≤ b → b < c → a < c
      less f g = omega arith

      stays : (i : ℕ) → get_or ws (at + i) 0 ≡ cut_word (get_or ws (at + i) 0) i v
      stays i =
          by_t (ltb i (v / 16)) (λ a. rw a (low i (ltb-true _ _ a)))
          (λ a. by_t (ltb (v / 16) i) (λ b. rw (a, b))
          (λ b. let e : v / 16 ≡ i = omega (arith, ltb-false i (v / 16) a, ltb-false (v / 16) i b) in
          let z : get_or ws (at + i) 0 % 2 ^ (4 * (v % 16)) ≡ 0 =
          subst (λ (j : ℕ). get_or ws (at + j) 0 % 2 ^ (4 * (v % 16)) ≡ 0) e here in rw (a, b, z) (sym (sub-zero _))))

  pub first_no : key_at ws at ≡ first → ((i : ℕ) → i < v / 16 → get_or ws (at + i) 0 ≡ 0) ×
      (get_or ws (at + v / 16) 0 % 2 ^ (4 * (v % 16)) ≡ 0)
  first_no e = (
    (λ i h. same i (omega arith) ∙ rw (lt-ltb i (v / 16) h)),
    last (get_or ws (at + v / 16) 0) (2 ^ (4 * (v % 16))) (same (v / 16) few ∙ here),
  )
    where
      same : (i : ℕ) → i < key_words → get_or ws (at + i) 0 ≡ cut_word (get_or ws (at + i) 0) i v
      same i h = sym (words_of ws fit at i h) ∙ ap (λ (x : ℕ). word_of x i) e ∙ cut_is i h

      here : cut_word (get_or ws (at + v / 16) 0) (v / 16) v ≡
          get_or ws (at + v / 16) 0 - get_or ws (at + v / 16) 0 % 2 ^ (4 * (v % 16))
      here = rw (le-ltb (v / 16) (v / 16) (omega arith))

      last : (w d : ℕ) → w ≡ w - w % d → w % d ≡ 0
      last w d q = omega (arith, mod-le w d)

-- the highest word is what stands above the others
pub top_word : (ws : List ℕ) → Words ws → (at : ℕ) → block (word_bits * 4) (key_at ws at) ≡ get_or ws (at + 4) 0
unfolding number_at
top_word ws fit at =
    let e : word_bits * 4 + 0 ≡ word_bits * 4 = omega arith in
    ap (λ (j : ℕ). block j (key_at ws at)) (sym e) ∙ drop_words ws fit key_words at 4 0 (omega arith) ∙ div-one _ ∙
    ap (λ (y : ℕ). get_or ws (at + 4) 0 + y) (mul-zero (2 ^ word_bits)) ∙ add-zero _
