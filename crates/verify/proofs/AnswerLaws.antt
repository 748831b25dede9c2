-- The check's answer as an equation, and what an answer of 0 gives; init's answers, each exactly when.
use Prim.Native.Nat.{ℕ}
use mathlib.Core.Path.{◌≡◌, refl, sym, subst}
use mathlib.Core.Bool.{true, false}
use Rattle.std.specs.Prelude.{Option, Some, None, length}
use Rattle.words.specs.Counted.{Counted}
use Rattle.layout.specs.Words.{anchor_words, node_words, max_nodes}
use mathlib.Core.List.{List}
use native.Mathlib.Omega.{arith}
use Rattle.blocks.proofs.BoolLaws.{by_t, is_false, clash}
use Rattle.model.specs.declared.Entry.{Entry}
use Rattle.layout.specs.Places.{Places}
use Rattle.layout.specs.Decode.{list_of, places_of}
use Rattle.layout.specs.WellFormed.{Sized, Prescribed, WellFormed}
use Rattle.layout.specs.Decide.{node_count, is_sized, is_well_formed}
use Rattle.decode.proofs.DecideLaws.{count_of, sized_is, is_sized_lem, well_formed_is, is_well_formed_lem}
use Rattle.decode.proofs.DecodeLaws.{well_formed_sized, prescribed}
use Rattle.verify.specs.Answers.{Counts, check_answer, init_answer, Verdict, well_formed_lem, wrong_size, malformed}

pub not_sized : {ws : List ℕ} → ((n : ℕ) → Sized n ws → ⊥) → is_sized ws ≡ false
not_sized {ws} f = is_false (λ t. f (node_count ws) (is_sized_lem ws t))

pub answered : (ws : List ℕ) (r : ℕ) → Verdict ws r → r ≡ check_answer ws
answered ws r (well_formed_lem n s S) =
    rw (sized_is s, subst (λ (k : ℕ). is_well_formed k ws ≡ true) (sym (count_of s)) (well_formed_is S))
answered ws r (wrong_size f) = rw (not_sized f)
answered ws r (malformed n s f) =
    let no : is_well_formed (node_count ws) ws ≡ false =
    is_false (λ t. f _ _ (subst (λ (k : ℕ). Prescribed k (list_of ws) (places_of ws) ws) (count_of s)
    (is_well_formed_lem (node_count ws) ws t))) in
    rw (sized_is s, no)

-- R69, R84: init answers 0 where the length is a pool's, and 1 where it is not
pub init_answers : (ws : List ℕ) →
    ((n : ℕ) → Sized n ws → init_answer ws ≡ 0) × (((n : ℕ) → Sized n ws → ⊥) → init_answer ws ≡ 1)
init_answers ws = (λ n s. rw (sized_is s) refl, λ f. rw (not_sized f) refl)

-- and the meaning of each answer
pub meaning : (ws : List ℕ) → Verdict ws (check_answer ws)
meaning ws =
    by_t (is_sized ws)
    (λ a. let s : Sized (node_count ws) ws = is_sized_lem ws a in
    by_t (is_well_formed (node_count ws) ws)
    (λ b. rw (a, b) (well_formed_lem (node_count ws) s (is_well_formed_lem (node_count ws) ws b)))
    (λ b. rw (a, b) (malformed (node_count ws) s (λ l os S. clash (well_formed_is S) b))))
    (λ a. rw a (wrong_size (λ n s. clash (sized_is s) a)))

-- answer 0 exactly if some list and places prescribe the words of a pool of n nodes
pub prescribed_0 : {n : ℕ} {l : List Entry} {os : Places} {ws : List ℕ} → Sized n ws → Prescribed n l os ws →
    check_answer ws ≡ 0
prescribed_0 {ws = ws} s S =
    rw (sized_is s, subst (λ (k : ℕ). is_well_formed k ws ≡ true) (sym (count_of s)) (well_formed_is S))

pub well_formed_0 : {ws : List ℕ} → WellFormed ws → check_answer ws ≡ 0
well_formed_0 s = prescribed_0 (well_formed_sized s) (prescribed s)

-- and then the decoded ones do
pub passed : (ws : List ℕ) → check_answer ws ≡ 0 → (is_sized ws ≡ true) × (is_well_formed (node_count ws) ws ≡ true)
passed ws e =
    by_t (is_sized ws)
    (λ a. by_t (is_well_formed (node_count ws) ws) (λ b. (a, b))
    (λ b. absurd (let z : ◌≡◌ {A = ℕ} 2 0 = rw (a, b) at e in omega arith)))
    (λ a. absurd (let z : ◌≡◌ {A = ℕ} 1 0 = rw a at e in omega arith))

abbrev pub accepted : (ws : List ℕ) → check_answer ws ≡ 0 → WellFormed ws
accepted ws e =
    let (a, b) = passed ws e in
    let s : Sized (node_count ws) ws = is_sized_lem ws a in
    let S : Prescribed (node_count ws) (list_of ws) (places_of ws) ws = is_well_formed_lem (node_count ws) ws b in
    record {
      n = node_count ws;
      list = list_of ws;
      places = places_of ws;
      least = s.least;
      most = s.most;
      valid = S.valid;
      placed = S.placed;
      words_are = S.words_are;
    }

-- the number of nodes by the number of words
pub counts : (ws : List ℕ) (r : Option ℕ) → Counted (length ws) anchor_words node_words max_nodes r → Counts ws r
counts ws None f = λ n s. f n s.least s.most s.size
counts ws (Some n) (lo, hi, e) = record { size = e; least = lo; most = hi }

abbrev pub counted : {ws : List ℕ} {r : Option ℕ} {n : ℕ} → Counts ws r → r ≡ Some n → Sized n ws
counted {ws} c e = let C : Option ℕ → Type 0 = Counts ws in subst C e c

abbrev pub uncounted : {ws : List ℕ} {r : Option ℕ} → Counts ws r → r ≡ None → (n : ℕ) → Sized n ws → ⊥
uncounted {ws} c e = let C : Option ℕ → Type 0 = Counts ws in subst C e c
