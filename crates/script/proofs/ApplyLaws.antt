-- A script read pair by pair, and what applying it answers.
use Prim.Native.Nat.{ℕ, zero, suc, ◌+◌, ◌*◌, ◌/◌, ◌%◌, ◌≤◌, ◌<◌}
use mathlib.Core.Path.{◌≡◌, refl, sym, ap, ◌∙◌}
use mathlib.Core.Bool.{true, false}
use mathlib.Core.List.{List, [], ◌∷◌}
use native.Mathlib.Omega.{arith}
use lib.Dec.{ltb, eqb}
use lib.ListN.{length, get_or, set, take, drop, length-drop}
use lib.Seq.{drop-cons, drop-drop}
use Rattle.std.specs.List.{list_all}
use Rattle.std.specs.Simd.{first_chunks}
use borrow.Author.Tests.{ltb-true, ltb-false, ne_eqb, eq-eqb, eqb-true, eqb-false}
use Rattle.blocks.specs.Choice.{both}
use Rattle.blocks.proofs.BoolLaws.{both_l, both_r, both_no, by_t, clash, is_false}
use Rattle.layout.specs.WellFormed.{Sized}
use Rattle.layout.specs.Decide.{node_count, is_sized}
use Rattle.decode.proofs.DecideLaws.{sized_is, is_sized_lem}
use Rattle.verify.proofs.AnswerLaws.{not_sized}
use Rattle.script.specs.Script.{applied, places_below, apply_answer, apply_words}
use Rattle.script.specs.Claims.{ApplyRow, wrong_size, half_pair, place_out, written}

module _ (ss : List ℕ) (t : ℕ) (h : t + 2 ≤ length ss) where
  pair : drop t ss ≡ get_or ss t 0 ∷ get_or ss (t + 1) 0 ∷ drop (t + 2) ss
  pair =
      let a : t + 1 ≡ suc t = omega arith in
      let b : t + 2 ≡ suc (suc t) = omega arith in
      rw (a, b) (drop-cons ss t 0 (omega arith) ∙ ap (λ (l : List ℕ). get_or ss t 0 ∷ l)
      (drop-cons ss (suc t) 0 (omega arith)))

  pub pair_below : (n : ℕ) → places_below n (drop t ss) ≡ both (ltb (get_or ss t 0) n) (places_below n (drop (t + 2) ss))
  pair_below n = ap (places_below n) pair

  pub pair_applied : (ws : List ℕ) → applied ws (drop t ss) ≡ applied (set ws (get_or ss t 0) (get_or ss (t + 1) 0))
      (drop (t + 2) ss)
  pair_applied ws = ap (applied ws) pair

  pub pair_in : (n : ℕ) → places_below n (drop t ss) ≡ true → get_or ss t 0 < n
  pair_in n e = ltb-true _ _ (both_l (ltb (get_or ss t 0) n) (places_below n (drop (t + 2) ss)) (sym (pair_below n) ∙ e))

  pub pair_rest : (n : ℕ) → places_below n (drop t ss) ≡ true → places_below n (drop (t + 2) ss) ≡ true
  pair_rest n e = both_r (ltb (get_or ss t 0) n) (places_below n (drop (t + 2) ss)) (sym (pair_below n) ∙ e)

short_below : (n : ℕ) (ss : List ℕ) → length ss < 2 → places_below n ss ≡ true
short_below n [] h = refl
short_below n (p ∷ []) h = refl
short_below n (p ∷ x ∷ ss) h = absurd (omega arith)

short_applied : (ws ss : List ℕ) → length ss < 2 → applied ws ss ≡ ws
short_applied ws [] h = refl
short_applied ws (p ∷ []) h = refl
short_applied ws (p ∷ x ∷ ss) h = absurd (omega arith)

pub end_below : (n t : ℕ) (ss : List ℕ) → length ss < t + 2 → places_below n (drop t ss) ≡ true
end_below n t ss h = short_below n (drop t ss) (simp length-drop (omega arith))

pub end_applied : (ws : List ℕ) (t : ℕ) (ss : List ℕ) → length ss < t + 2 → applied ws (drop t ss) ≡ ws
end_applied ws t ss h = short_applied ws (drop t ss) (simp length-drop (omega arith))

-- PAIRS, as the code goes by them: chunks of two
chunk_at : (k i : ℕ) (ss : List ℕ) → i < k → get_or (first_chunks 2 k ss) i [] ≡ take 2 (drop (2 * i) ss)
chunk_at zero i ss h = absurd (omega arith)
chunk_at (suc k) zero ss h = refl
chunk_at (suc k) (suc i) ss h =
    let e : 2 + 2 * i ≡ 2 * suc i = omega arith in
    chunk_at k i (drop 2 ss) (omega arith) ∙ ap (take 2) (drop-drop (2 * i) 2 ss ∙ ap (λ (t : ℕ). drop t ss) e)

module _ (ss : List ℕ) (ps : List (List ℕ)) (e : ps ≡ first_chunks 2 (length ss / 2) ss) (l : length ps ≡ length ss / 2)
    (i : ℕ) (h : i < length ps)
  where
    pub whole : 2 * i + 2 ≤ length ss
    whole = omega arith

    chunk : get_or ps i [] ≡ get_or ss (2 * i) 0 ∷ get_or ss (2 * i + 1) 0 ∷ []
    chunk = ap (λ (x : List (List ℕ)). get_or x i []) e ∙ chunk_at (length ss / 2) i ss (omega arith) ∙ ap (take 2) (pair ss (2 * i) whole)

    pub chunk_place : get_or (get_or ps i []) 0 0 ≡ get_or ss (2 * i) 0
    chunk_place = ap (λ (x : List ℕ). get_or x 0 0) chunk

    pub chunk_word : get_or (get_or ps i []) 1 0 ≡ get_or ss (2 * i + 1) 0
    chunk_word = ap (λ (x : List ℕ). get_or x 1 0) chunk

pub chunks_below : (n k : ℕ) (ss : List ℕ) → length ss / 2 ≡ k →
    list_all (λ x. ltb (get_or x 0 0) n) (first_chunks 2 k ss) ≡ places_below n ss
chunks_below n zero [] e = refl
chunks_below n zero (p ∷ []) e = refl
chunks_below n zero (p ∷ x ∷ ss) e = absurd (omega arith)
chunks_below n (suc k) [] e = absurd (omega arith)
chunks_below n (suc k) (p ∷ []) e = absurd (omega arith)
chunks_below n (suc k) (p ∷ x ∷ ss) e =
    let r : list_all (λ x. ltb (get_or x 0 0) n) (first_chunks 2 k ss) ≡ places_below n ss = chunks_below n k ss (omega arith) in
    by_t (ltb p n) (λ t. rw t r) (λ t. rw t refl)

-- PLACES
pub in_all : (n : ℕ) (ss : List ℕ) → places_below n ss ≡ true → (k : ℕ) → 2 * k + 1 < length ss → get_or ss (2 * k) 0 < n
in_all n [] e k h = absurd (omega arith)
in_all n (p ∷ []) e k h = absurd (omega arith)
in_all n (p ∷ x ∷ ss) e zero h = ltb-true _ _ (both_l (ltb p n) (places_below n ss) e)
in_all n (p ∷ x ∷ ss) e (suc k) h =
    let z : 2 * suc k ≡ suc (suc (2 * k)) = omega arith in
    rw z (in_all n ss (both_r (ltb p n) (places_below n ss) e) k (omega arith))

pub out_at : (n : ℕ) (ss : List ℕ) {C : Type 0} → places_below n ss ≡ false →
    ((k : ℕ) → 2 * k + 1 < length ss → n ≤ get_or ss (2 * k) 0 → C) → C
out_at n [] e f = absurd (clash refl e)
out_at n (p ∷ []) e f = absurd (clash refl e)
out_at n (p ∷ x ∷ ss) e f =
    by_t (ltb p n)
    (λ t. out_at n ss (rw t at e) (λ k a b. f (suc k) (omega arith)
    (let z : 2 * suc k ≡ suc (suc (2 * k)) = omega arith in rw z b)))
    (λ t. f 0 (omega arith) (ltb-false _ _ t))

-- THE ANSWERS
module _ (ws ss : List ℕ) where
  pub no_pool : is_sized ws ≡ false → (1 ≡ apply_answer ws ss) × (ws ≡ apply_words ws ss)
  no_pool e = (rw e, rw e)

  pub not_pairs : is_sized ws ≡ true → (length ss % 2 ≡ 0 → ⊥) → (17 ≡ apply_answer ws ss) × (ws ≡ apply_words ws ss)
  not_pairs e h = let t = ne_eqb (length ss % 2) 0 h in (rw (e, t), rw (e, t))

  pub outside : is_sized ws ≡ true → places_below (length ws) ss ≡ false →
      (17 ≡ apply_answer ws ss) × (ws ≡ apply_words ws ss)
  outside e h = (rw (e, h, both_no), rw (e, h, both_no))

  pub all_good : is_sized ws ≡ true → length ss % 2 ≡ 0 → places_below (length ws) ss ≡ true →
      (0 ≡ apply_answer ws ss) × (applied ws ss ≡ apply_words ws ss)
  all_good e h g = let t = eq-eqb (length ss % 2) 0 h in (rw (e, t, g), rw (e, t, g))

  -- R322 to R326: what a call comes to has a row
  pub apply_row : ApplyRow ws ss (apply_answer ws ss) (apply_words ws ss)
  apply_row =
      by_t (is_sized ws)
      (λ a. let s : Sized (node_count ws) ws = is_sized_lem ws a in
      by_t (eqb (length ss % 2) 0)
      (λ b. by_t (places_below (length ws) ss)
      (λ d. rw (a, b, d) (written (node_count ws) s (eqb-true _ _ b)
      (λ k o. let m = in_all (length ws) ss d k o.whole in omega (arith, m, o.outside))))
      (λ d. out_at (length ws) ss d (λ k x y. rw (a, b, d) (place_out (node_count ws) k s (record { whole = x; outside = y })))))
      (λ b. rw (a, b) (half_pair (node_count ws) s (eqb-false _ _ b))))
      (λ a. rw a (wrong_size (λ n s. clash (sized_is s) a)))

  -- and a row whose condition holds is what it comes to
  pub apply_sole : {a : ℕ} {vs : List ℕ} → ApplyRow ws ss a vs → (a ≡ apply_answer ws ss) × (vs ≡ apply_words ws ss)
  apply_sole (wrong_size f) = no_pool (not_sized f)
  apply_sole (half_pair n s h) = not_pairs (sized_is s) h
  apply_sole (place_out n k s o) =
      outside (sized_is s)
      (is_false (λ t. let m = in_all (length ws) ss t k o.whole in omega (arith, m, o.outside)))
  apply_sole (written n s h f) =
      all_good (sized_is s) h
      (by_t (places_below (length ws) ss) (λ t. t)
      (λ t. out_at (length ws) ss t (λ k x y. absurd (f k (record { whole = x; outside = y })))))
