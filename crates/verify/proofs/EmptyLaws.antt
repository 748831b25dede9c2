-- The pool that init leaves: n free nodes and no entry.
use Prim.Native.Nat.{ℕ, zero, suc, ◌-◌, ◌≤◌, ◌<◌}
use mathlib.Core.Path.{◌≡◌, refl, sym, ap, subst, ◌∙◌}
use mathlib.Core.Bool.{true}
use mathlib.Core.List.{List, []}
use mathlib.Core.Option.{Option, none}
use native.Mathlib.Omega.{arith}
use lib.Dec.{leb}
use lib.ListN.{length, get_or, set, replicate, length-set, length-replicate, get_or-replicate}
use lib.Seq.{ext_get_or, get_or-set_same, get_or-set_other}
use Rattle.blocks.specs.Lists.{In, d_end}
use Rattle.blocks.proofs.BoolLaws.{clash, both_no}
use Rattle.model.specs.Model.{done}
use Rattle.tree.specs.Tree.{Node, has}
use Rattle.tree.specs.Slots.{slot}
use Rattle.layout.specs.Words.{anchor_words, anchor_word, field_at, pool_words, place, max_nodes}
use Rattle.layout.specs.Places.{Places, standing, number_in, render}
use Rattle.words.specs.Fill.{filled}
use Rattle.layout.specs.WellFormed.{Sized, Prescribed, WellFormed}
use Rattle.words.proofs.FillLaws.{length_filled, filled_in_lem}
use Rattle.layout.proofs.RenderLaws.{render_is}
use Rattle.decode.proofs.DecideLaws.{count_of, sized_is}
use Rattle.verify.specs.Answers.{empty_pool, init_answer, init_words, check_answer}
use Rattle.verify.proofs.AnswerLaws.{not_sized, well_formed_0}

-- WHAT THE CODE LEAVES
empty_length : (n : ℕ) → length (empty_pool n) ≡ pool_words n
empty_length n = ap suc (length-replicate {A = ℕ} (pool_words n - 1) 0) ∙ (omega arith)

-- every word but the first is 0
empty_word : (n i : ℕ) → suc i < pool_words n → get_or (empty_pool n) (suc i) 0 ≡ 0
empty_word n i h = get_or-replicate (pool_words n - 1) i 0 0 (omega arith)

emptied : {n : ℕ} {ws : List ℕ} → Sized n ws → set (filled ws 0 0 (length ws)) 0 n ≡ empty_pool n
emptied {n} {ws} s =
    ext_get_or 0 (set zeros 0 n) (empty_pool n) (length-set zeros 0 n ∙ length_filled ws 0 0 (length ws) ∙ s.size
    ∙ sym (empty_length n)) word
  where
    zeros : List ℕ
    zeros = filled ws 0 0 (length ws)

    word : (i : ℕ) → i < length (set zeros 0 n) → get_or (set zeros 0 n) i 0 ≡ get_or (empty_pool n) i 0
    word zero h = get_or-set_same zeros 0 n 0 (omega (arith, length_filled ws 0 0 (length ws), s.size))
    word (suc i) h =
        let lt : suc i < pool_words n = omega (arith, length-set zeros 0 n, length_filled ws 0 0 (length ws), s.size) in
        get_or-set_other zeros 0 (suc i) n 0 (λ (e : suc i ≡ 0). omega arith)
        ∙ filled_in_lem ws 0 0 (length ws) (suc i) (omega arith) (omega arith) (omega (arith, s.size)) ∙ sym (empty_word n i lt)

pub init_done : {n : ℕ} {ws : List ℕ} → Sized n ws →
    (0 ≡ init_answer ws) × (set (filled ws 0 0 (length ws)) 0 n ≡ init_words ws)
init_done {n} {ws} s =
    (rw (sized_is s), emptied s ∙ ap empty_pool (sym (count_of s)) ∙ (rw (sized_is s)))

pub init_refused : {ws : List ℕ} → ((n : ℕ) → Sized n ws → ⊥) → (1 ≡ init_answer ws) × (ws ≡ init_words ws)
init_refused f = (rw (not_sized f), rw (not_sized f))

-- WHICH IS THE POOL OF THE EMPTY LIST
none_stand : (n : ℕ) → standing {A = Node} (replicate n none) ≡ []
none_stand zero = refl
none_stand (suc n) = none_stand n

none_has : (u b : ℕ) → has [] u b ≡ true → ⊥
unfolding has
none_has u b t = clash t (both_no (leb u 0))

no_head : (os : Places) → slot [] (number_in os) 0 0 ≡ 0
unfolding slot
no_head os = refl

pub empty_prescribed : (n : ℕ) → Prescribed n [] (replicate n none) (empty_pool n)
empty_prescribed n = record {
  valid = done;
  placed = record {
    size = length-replicate n none;
    sound = λ p m. elim (subst (λ (s : List Node). In p s) (none_stand n) m) [ ];
    full = λ p t. absurd (none_has p.tier p.number t);
    once = rw (none_stand n) d_end;
  };
  words_are = render_is [] (replicate n none) n (empty_pool n) (empty_length n) anchor
      (λ m f lt h. at_suc (place m f) (omega arith) (omega arith)
      ∙ ap (λ (o : Option Node). field_at [] (number_in (replicate n none)) o f) (sym (get_or-replicate n m none none lt)));
}
  where
    at_suc : (k : ℕ) → 1 ≤ k → k < pool_words n → get_or (empty_pool n) k 0 ≡ 0
    at_suc zero a h = absurd (omega arith)
    at_suc (suc i) a h = empty_word n i h

    anchor : (i : ℕ) → i < anchor_words → get_or (empty_pool n) i 0 ≡ anchor_word [] (number_in (replicate n none)) n i
    anchor zero h = refl
    anchor (suc zero) h = empty_word n 0 (omega arith) ∙ sym (no_head (replicate n none))
    anchor (suc (suc zero)) h = empty_word n 1 (omega arith)
    anchor (suc (suc (suc zero))) h = empty_word n 2 (omega arith)
    anchor (suc (suc (suc (suc i)))) h = absurd (omega arith)

-- so an initialised pool is the rendering of no entries at free places, and the check accepts it
pub empty_render : (n : ℕ) → empty_pool n ≡ render [] (replicate n none) n
empty_render n = (empty_prescribed n).words_are

module _ (n : ℕ) (lo : 1 ≤ n) (hi : n ≤ max_nodes) where
  pub empty_well_formed : WellFormed (empty_pool n)
  empty_well_formed =
      let S : Prescribed n [] (replicate n none) (empty_pool n) = empty_prescribed n in
      record {
        n = n;
        list = [];
        places = replicate n none;
        least = lo;
        most = hi;
        valid = S.valid;
        placed = S.placed;
        words_are = S.words_are;
      }

  pub empty_checks : check_answer (empty_pool n) ≡ 0
  empty_checks = well_formed_0 empty_well_formed
