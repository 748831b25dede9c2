-- The map of the nodes that go.
use Prim.Native.Nat.{ℕ, ◌+◌, ◌*◌, ◌/◌, ◌%◌, ◌≤◌, ◌<◌}
use mathlib.Core.Path.{◌≡◌, refl, sym, ap, ◌∙◌}
use mathlib.Core.Bool.{Bool, true, false}
use mathlib.Core.List.{List}
use native.Mathlib.Omega.{arith}
use lib.Dec.{eqb, ltb}
use lib.ListN.{get_or}
use borrow.Author.Tests.{eqb-true, eqb-false, ne_eqb, ltb-true, ltb-false}
use Rattle.blocks.specs.Blocks.{bit, NextBit}
use Rattle.blocks.proofs.BoolLaws.{by_t}
use Rattle.words.specs.Bits.{word_bits}
use Rattle.freemap.specs.FreeMap.{map_nodes, map_bit, put, BlankMap, MapOf, Sound}
use Rattle.freemap.proofs.BitOneLaws.{bit_zero}
use Rattle.freemap.proofs.MapLaws.{map_none}
use Rattle.layout.specs.Words.{count_word}
use Rattle.layout.specs.WellFormed.{WellFormed}
use Rattle.script_wide.specs.Going.{Going, Clear, WideBy}
use Rattle.script_wide.specs.Wide.{GoesAt, Wide}
use Rattle.script_wide.proofs.GoesLaws.{count_is}

-- MAKING IT
module _ {ms : List ℕ} (b : BlankMap ms) where
  pub blank_sound : Sound ms
  blank_sound = record { free = λ _. false; is = map_none (λ _. false) ms b.long b.zeros (λ x l. refl) }

  pub blank_going : {ws : List ℕ} (s : WellFormed ws) (i k : ℕ) → Going s ms i k 0
  blank_going s i k = record {
    long = b.long;
    on = λ m lt e. absurd (omega (arith, bit_zero (get_or ms (m / word_bits) 0) (m % word_bits) (b.zeros (m / word_bits))));
    off = λ m lt. absurd (omega arith);
  }

module _ {ws : List ℕ} {s : WellFormed ws} {ms : List ℕ} {i k m : ℕ} (G : Going s ms i k m) where
  -- node m does not go
  pub going_stays : (GoesAt s i k m → ⊥) → Going s ms i k (m + 1)
  going_stays n = record {
    long = G.long;
    on = G.on;
    off = λ x lt e. by_t (eqb x m) (λ t. rw (eqb-true x m t) n)
        (λ t. let ne : x ≡ m → ⊥ = eqb-false x m t in G.off x (omega arith) e);
  }

  -- it goes
  module _ {f : ℕ → Bool} (M : MapOf f ms) {ms' : List ℕ} (M' : MapOf (put f m true) ms') where
    other : (x : ℕ) → x < map_nodes → (x ≡ m → ⊥) → map_bit ms' x ≡ map_bit ms x
    other x lt ne = M'.bits x lt ∙ (rw (ne_eqb x m ne) (sym (M.bits x lt)))

    pub going_given : m < map_nodes → GoesAt s i k m → Going s ms' i k (m + 1)
    going_given lt g = record {
      long = M'.long;
      on = λ x l e. by_t (eqb x m) (λ t. rw (eqb-true x m t) g)
          (λ t. G.on x l (sym (other x l (eqb-false x m t)) ∙ e));
      off = λ x l e. by_t (eqb x m)
          (λ t. let y : map_bit ms' x ≡ 1 = M'.bits x (omega arith) ∙ rw t refl in absurd (omega arith))
          (λ t. let ne : x ≡ m → ⊥ = eqb-false x m t in
          G.off x (omega arith) (sym (other x (omega arith) ne) ∙ e));
    }

-- BY THE MAP
pub wide_by : {ws : List ℕ} {s : WellFormed ws} {rs ns ms ws' : List ℕ} {i k n : ℕ} → Going s ms i k n → n ≡ get_or ws count_word 0 →
    Wide s rs ns ws' i k → WideBy ws rs ns ms ws'
wide_by {s = s} G e W = record {
  anchor = W.anchor;
  row = λ r lt h. W.row r lt (omega (arith, count_is s));
  gone = λ m h n b. W.gone m (omega (arith, count_is s)) n (G.on m (omega (arith, count_is s, s.most)) b);
  rest = λ m h n b. W.rest m (omega (arith, count_is s)) n (G.off m (omega arith) b);
}

-- THE NEXT NODE OF IT
module _ (ms : List ℕ) (x : ℕ) {j : ℕ} (b : NextBit word_bits (get_or ms (x / word_bits) 0) (x % word_bits) j) where
  -- the bits of its word before the next that is set
  pub word_clear : (y : ℕ) → x ≤ y → y < word_bits * (x / word_bits) + j → map_bit ms y ≡ 0
  word_clear y l h =
      let d : y / word_bits ≡ x / word_bits = omega (arith, b.most) in
      ap (λ (q : ℕ). bit (y % word_bits) (get_or ms q 0)) d ∙ b.first (y % word_bits) (omega arith) (omega arith)

  pub word_set : j < word_bits → map_bit ms (word_bits * (x / word_bits) + j) ≡ 1
  word_set h =
      let d : (word_bits * (x / word_bits) + j) / word_bits ≡ x / word_bits = omega arith in
      let e : (word_bits * (x / word_bits) + j) % word_bits ≡ j = omega arith in
      rw (d, e) (b.on h)

pub clear_start : (ms : List ℕ) (m : ℕ) → Clear ms m m
clear_start ms m = record { each = λ y a b. absurd (omega arith) }

module _ {ms : List ℕ} {m x : ℕ} (c : Clear ms m x) where
  pub clear_on : {j : ℕ} → NextBit word_bits (get_or ms (x / word_bits) 0) (x % word_bits) j → Clear ms m (word_bits * (x / word_bits) + j)
  clear_on b = record {
    each = λ y l h. by_t (ltb y x) (λ t. c.each y l (ltb-true _ _ t)) (λ t. word_clear ms x b y (ltb-false _ _ t) h);
  }

  -- none in the rest of the word
  pub clear_next : {j : ℕ} → NextBit word_bits (get_or ms (x / word_bits) 0) (x % word_bits) j → word_bits ≤ j →
      Clear ms m (word_bits * (x / word_bits + 1))
  clear_next b g = record { each = λ y l h. (clear_on b).each y l (omega (arith, b.most)) }

  pub clear_end : {end : ℕ} → end ≤ x → Clear ms m end
  clear_end h = record { each = λ y a b. c.each y a (omega arith) }
