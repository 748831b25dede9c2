-- What the check and clear answer, by what is decided; the words that clear leaves.
use Prim.Native.Nat.{ℕ, zero, suc, ◌-◌, ◌/◌, ◌%◌, ◌≤◌, ◌<◌}
use mathlib.Core.Path.{◌≡◌, refl, sym, ap, subst, ◌∙◌}
use mathlib.Core.Bool.{true, false}
use mathlib.Core.List.{List}
use native.Mathlib.Omega.{arith}
use lib.ListN.{length, get_or, set, replicate, length-set, length-replicate, get_or-replicate}
use lib.Seq.{ext_get_or, get_or-set_same, get_or-set_other}
use Rattle.blocks.proofs.BoolLaws.{is_false}
use Rattle.words.specs.Bits.{word_bits}
use Rattle.words.specs.Fill.{filled}
use Rattle.words.proofs.FillLaws.{length_filled, filled_in_lem}
use Rattle.freemap.specs.FreeMap.{MapOf}
use Rattle.freemap.proofs.BitOneLaws.{bit_zero}
use Rattle.assoc_keys.specs.Number.{Words}
use Rattle.assoc_layout.specs.Words.{pool_words}
use Rattle.assoc_layout.specs.Decode.{block_count, is_sized, is_well_formed}
use Rattle.assoc_local.specs.Local.{PoolOk}
use Rattle.assoc_local.proofs.ExactLaws.{check_yes, check_no}
use Rattle.std.specs.Prelude.{Option, Some, None}
use Rattle.assoc_check.specs.Checking.{Counts, Room, Sized, free_to}
use Rattle.assoc_check.proofs.NamedLaws.{is_sized_lem}
use Rattle.assoc_check.specs.Seen.{SetOf, seen_words}
use Rattle.assoc_check.specs.Answers.{check_answer, clear_answer, empty_pool, clear_words}

-- an array of zeros
zero_words : (n j : ℕ) → get_or {A = ℕ} (replicate n 0) j 0 ≡ 0
zero_words zero j = refl
zero_words (suc n) zero = refl
zero_words (suc n) (suc j) = zero_words n j

pub none_seen : SetOf (λ x. false) (replicate seen_words 0)
none_seen =
    record {
      long = length-replicate {A = ℕ} seen_words 0;
      bits = λ x h. bit_zero _ (x % word_bits) (zero_words seen_words (x / word_bits));
    }

-- the number of blocks, and that there is none
abbrev pub counted : (ws : List ℕ) {r : Option ℕ} {n : ℕ} → Counts ws r → r ≡ Some n → Room ws n
counted ws c e = let C : Option ℕ → Type 0 = Counts ws in subst C e c

abbrev pub uncounted : (ws : List ℕ) {r : Option ℕ} → Counts ws r → r ≡ None → is_sized ws ≡ false
uncounted ws c e = let C : Option ℕ → Type 0 = Counts ws in subst C e c

pub answer_size : (ws : List ℕ) → is_sized ws ≡ false → 1 ≡ check_answer ws
answer_size ws f = rw f

module _ (ws : List ℕ) (r : ℕ) (c : Room ws r) where
  pub at_least : 1 ≤ r
  at_least = let (e, lo, hi) = is_sized_lem ws c.is-pool in omega (arith, c.count)

  pub answer_no : Words ws → (PoolOk ws r → ⊥) → 2 ≡ check_answer ws
  answer_no fit f =
      let w : is_well_formed (block_count ws) ws ≡ false = is_false (λ t. f (check_no r ws fit at_least c.sized.few
      (subst (λ (k : ℕ). is_well_formed k ws ≡ true) (sym c.count) t))) in
      rw (c.is-pool, w)

  pub answer_yes : PoolOk ws r → 0 ≡ check_answer ws
  answer_yes o =
      let w : is_well_formed (block_count ws) ws ≡ true = subst (λ (k : ℕ). is_well_formed k ws ≡ true) c.count (check_yes r ws o) in
      rw (c.is-pool, w)

  pub map_count_lem : {ms : List ℕ} → MapOf (free_to ws r) ms → MapOf (free_to ws (block_count ws)) ms
  map_count_lem {ms} M = subst (λ (k : ℕ). MapOf (free_to ws k) ms) c.count M

-- CLEAR
empty_length : (n : ℕ) → length (empty_pool n) ≡ pool_words n
empty_length n = ap suc (length-replicate {A = ℕ} (pool_words n - 1) 0) ∙ (omega arith)

-- every word but the first is 0
empty_word : (n i : ℕ) → suc i < pool_words n → get_or (empty_pool n) (suc i) 0 ≡ 0
empty_word n i h = get_or-replicate (pool_words n - 1) i 0 0 (omega arith)

emptied : {n : ℕ} {ws : List ℕ} → Sized ws n → set (filled ws 0 0 (length ws)) 0 n ≡ empty_pool n
emptied {n} {ws} s =
    ext_get_or 0 (set zeros 0 n) (empty_pool n) (length-set zeros 0 n ∙ length_filled ws 0 0 (length ws) ∙ s.size
    ∙ sym (empty_length n)) word
  where
    zeros : List ℕ
    zeros = filled ws 0 0 (length ws)

    word : (i : ℕ) → i < length (set zeros 0 n) → get_or (set zeros 0 n) i 0 ≡ get_or (empty_pool n) i 0
    word zero h = get_or-set_same zeros 0 n 0 (omega (arith, length_filled ws 0 0 (length ws), s.size))
    word (suc i) h =
        let lt : suc i < pool_words n = omega (arith, length-set zeros 0 n, length_filled ws 0 0 (length ws), s.size) in
        get_or-set_other zeros 0 (suc i) n 0 (λ (e : suc i ≡ 0). omega arith)
        ∙ filled_in_lem ws 0 0 (length ws) (suc i) (omega arith) (omega arith) (omega (arith, s.size)) ∙ sym (empty_word n i lt)

pub clear_done : (ws : List ℕ) (r : ℕ) → Room ws r →
    (0 ≡ clear_answer ws) × (set (filled ws 0 0 (length ws)) 0 r ≡ clear_words ws)
clear_done ws r c =
    (rw c.is-pool, emptied c.sized ∙ ap empty_pool c.count ∙ (rw c.is-pool))

pub clear_refused : (ws : List ℕ) → is_sized ws ≡ false → (1 ≡ clear_answer ws) × (ws ≡ clear_words ws)
clear_refused ws f = (rw f, rw f)
