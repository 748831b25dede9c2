-- One bit of the map changes.
use Prim.Native.Nat.{ℕ, ◌+◌, ◌*◌, ◌/◌, ◌%◌, ◌<◌}
use mathlib.Core.Path.{◌≡◌, refl, sym, ap, ◌∙◌}
use mathlib.Core.Bool.{Bool}
use mathlib.Core.List.{List}
use native.Mathlib.Omega.{arith}
use lib.Dec.{eqb}
use lib.ListN.{length, get_or, set, length-set}
use lib.Seq.{get_or-set_same, get_or-set_other}
use borrow.Author.Tests.{eqb-true, eqb-false}
use Rattle.blocks.specs.Blocks.{bit, set_bit}
use Rattle.blocks.proofs.BoolLaws.{by_t}
use Rattle.words.specs.Bits.{word_bits}
use Rattle.freemap.specs.FreeMap.{map_nodes, map_top, map_bit, one_if, one_over, Flips, Topped}
use Rattle.freemap.proofs.BitOneLaws.{bit_put, bit_rest}

module _ (ms : List ℕ) (x : ℕ) (lt : x < word_bits * length ms) where
  inside : x / word_bits < length ms
  inside = omega arith

  -- the word of bit x becomes v, which differs in that bit alone
  flips : (v : ℕ) (b : Bool) → bit (x % word_bits) v ≡ one_if b →
      ((i : ℕ) → (i ≡ x % word_bits → ⊥) → bit i v ≡ bit i (get_or ms (x / word_bits) 0)) → Flips ms (set ms (x / word_bits) v) x b
  flips v b here others = record {
    long = length-set ms (x / word_bits) v;
    at = ap (bit (x % word_bits)) (get_or-set_same ms (x / word_bits) v 0 inside) ∙ here;
    rest = λ y ne. by_t (eqb (y / word_bits) (x / word_bits))
        (λ t. let q : y / word_bits ≡ x / word_bits = eqb-true _ _ t in
        let d : y % word_bits ≡ x % word_bits → ⊥ = λ e. ne (omega arith) in
        rw q (ap (bit (y % word_bits)) (get_or-set_same ms (x / word_bits) v 0 inside) ∙ others (y % word_bits) d))
        (λ t. ap (bit (y % word_bits)) (get_or-set_other ms (x / word_bits) (y / word_bits) v 0 (eqb-false _ _ t)));
    words = λ j ne. get_or-set_other ms (x / word_bits) j v 0 ne;
  }

  pub set_flips : (b : Bool) → Flips ms (set ms (x / word_bits) (set_bit (x % word_bits) b (get_or ms (x / word_bits) 0))) x b
  set_flips b = flips _ b (bit_put (get_or ms (x / word_bits) 0) (x % word_bits) b)
      (bit_rest (get_or ms (x / word_bits) 0) (x % word_bits) b)

-- the second level's bit of word k
module _ {ms : List ℕ} (k : ℕ) (lt : k < map_top) where
  pub topped_same : map_bit ms (map_nodes + k) ≡ one_over (get_or ms k 0) → Topped ms ms k
  topped_same e = record { long = refl; top = e; rest = λ y ne. refl; words = λ j ne. refl }

  pub topped_flips : {ms' : List ℕ} (b : Bool) → Flips ms ms' (map_nodes + k) b →
      one_if b ≡ one_over (get_or ms k 0) → Topped ms ms' k
  topped_flips {ms'} b f e =
      let same : get_or ms' k 0 ≡ get_or ms k 0 = f.words k (omega arith) in
      record {
        long = f.long;
        top = f.at ∙ (e ∙ ap (λ (w : ℕ). one_over w) (sym same));
        rest = f.rest;
        words = λ j ne. f.words j (λ q. ne (omega arith));
      }
