-- The map of the nodes that pass a test: a node taken or given, the lowest node, and the map of none.
use Prim.Native.Nat.{ℕ, zero, suc, ◌+◌, ◌-◌, ◌*◌, ◌/◌, ◌%◌, ◌^◌, ◌≤◌, ◌<◌}
use mathlib.Core.Path.{◌≡◌, refl, sym, ap, ap₂, ◌∙◌}
use mathlib.Core.Bool.{Bool, true, false}
use mathlib.Core.List.{List}
use native.Mathlib.Omega.{arith}
use lib.Dec.{eqb, ltb}
use lib.ListN.{length, get_or, set, replicate, length-set, length-replicate}
use lib.Seq.{get_or-set_same, get_or-set_other}
use borrow.Author.Tests.{eqb-true, eqb-false, eq-eqb, ne_eqb, ltb-true, ltb-false}
use Rattle.blocks.specs.Blocks.{bit, NextBit}
use Rattle.blocks.proofs.BoolLaws.{by_t}
use Rattle.words.specs.Bits.{word_bits}
use Rattle.freemap.specs.FreeMap.{map_nodes, map_top, map_count, map_words, map_bit, one_if, one_over, put}
use Rattle.freemap.specs.FreeMap.{BlankMap, MapOf, Full, Lowest, Flips, Topped}
use Rattle.freemap.proofs.BitOneLaws.{bit_zero, bits_zero}
use Rattle.freemap.proofs.CountLaws.{count_none, count_same, count_put, count_le}

-- what a bit says
pub bit_says : (b : Bool) → one_if b ≡ 1 → b ≡ true
bit_says true e = refl
bit_says false e = absurd (omega arith)

pub bit_denies : (b : Bool) → one_if b ≡ 0 → b ≡ false
bit_denies true e = absurd (omega arith)
bit_denies false e = refl

over_says : (w : ℕ) → one_over w ≡ 1 → w ≡ 0 → ⊥
over_says w e z = let q : one_over w ≡ 0 = rw (eq-eqb w 0 z) in omega arith

over_denies : (w : ℕ) → one_over w ≡ 0 → w ≡ 0
over_denies w e = by_t (eqb w 0) (eqb-true _ _) (λ t. let q : one_over w ≡ 1 = rw t in absurd (omega arith))

-- a word with a set bit is not 0
word_not_zero : (ms : List ℕ) (x : ℕ) → map_bit ms x ≡ 1 → get_or ms (x / word_bits) 0 ≡ 0 → ⊥
word_not_zero ms x e z = omega (arith, bit_zero (get_or ms (x / word_bits) 0) (x % word_bits) z)

module _ {f : ℕ → Bool} {ms : List ℕ} (M : MapOf f ms) where
  -- tests that agree have the same map
  pub map_as : (g : ℕ → Bool) → ((m : ℕ) → m < map_nodes → f m ≡ g m) → MapOf g ms
  map_as g s = record {
    long = M.long;
    bits = λ m lt. M.bits m lt ∙ ap (λ (b : Bool). one_if b) (s m lt);
    tops = M.tops;
    count_is = M.count_is ∙ count_same f g map_nodes s;
  }

  pub in_map : (m : ℕ) → m < map_nodes → map_bit ms m ≡ 1 → f m ≡ true
  in_map m lt e = bit_says (f m) (sym (M.bits m lt) ∙ e)

  pub not_in_map : (m : ℕ) → m < map_nodes → map_bit ms m ≡ 0 → f m ≡ false
  not_in_map m lt e = bit_denies (f m) (sym (M.bits m lt) ∙ e)

  -- where the count is not 0, a node is in the map
  pub not_full : Full ms → get_or ms map_count 0 ≡ 0
  not_full o = M.count_is ∙ count_none f map_nodes (λ x l. not_in_map x l (o x l))

  -- THE LOWEST NODE, by the second level
  level : (q : ℕ) → q < map_top → bit (q % word_bits) (get_or ms (map_top + q / word_bits) 0) ≡ one_over (get_or ms q 0)
  level q lt =
      let d : (map_nodes + q) / word_bits ≡ map_top + q / word_bits = omega arith in
      let e : (map_nodes + q) % word_bits ≡ q % word_bits = omega arith in
      ap₂ (λ (i j : ℕ). bit i (get_or ms j 0)) (sym e) (sym d) ∙ M.tops q lt

  -- no bit is set in word q, if the second level's bit is clear
  word_clear : (q : ℕ) → q < map_top → bit (q % word_bits) (get_or ms (map_top + q / word_bits) 0) ≡ 0 → (x : ℕ) → x / word_bits ≡ q →
      map_bit ms x ≡ 0
  word_clear q lt z x e = bit_zero (get_or ms (x / word_bits) 0) (x % word_bits)
      (ap (λ (y : ℕ). get_or ms y 0) e ∙ over_denies (get_or ms q 0) (sym (level q lt) ∙ z))

  -- word j of the second level: the words of its clear bits up to t have no bit set
  clear_words_lem : (j t : ℕ) → map_top + j < map_count → NextBit word_bits (get_or ms (map_top + j) 0) 0 t → (x : ℕ) →
      word_bits * j ≤ x / word_bits → x / word_bits < word_bits * j + t → map_bit ms x ≡ 0
  clear_words_lem j t lt nb x a b =
      let d : x / word_bits / word_bits ≡ j = omega (arith, nb.most) in
      let e : x / word_bits % word_bits < t = omega (arith, nb.most) in
      word_clear (x / word_bits) (omega (arith, nb.most))
      (ap (λ (y : ℕ). bit (x / word_bits % word_bits) (get_or ms (map_top + y) 0)) d ∙ nb.first (x / word_bits % word_bits) (omega arith) e)
      x refl

  pub pass_words : (j t : ℕ) → map_top + j < map_count → NextBit word_bits (get_or ms (map_top + j) 0) 0 t → word_bits ≤ t →
      ((x : ℕ) → x < word_bits * (word_bits * j) → map_bit ms x ≡ 0) → (x : ℕ) → x < word_bits * (word_bits * (j + 1)) → map_bit ms x ≡ 0
  pass_words j t lt nb all before x h = by_t (ltb x (word_bits * (word_bits * j))) (λ y. before x (ltb-true _ _ y))
      (λ y. let g : word_bits * (word_bits * j) ≤ x = ltb-false _ _ y in
      clear_words_lem j t lt nb x (omega arith) (omega arith))

  pub lowest_is : (j t r : ℕ) → map_top + j < map_count → t < word_bits → NextBit word_bits (get_or ms (map_top + j) 0) 0 t →
      get_or ms (word_bits * j + t) 0 < 2 ^ 64 → NextBit word_bits (get_or ms (word_bits * j + t) 0) 0 r →
      ((x : ℕ) → x < word_bits * (word_bits * j) → map_bit ms x ≡ 0) → Lowest ms (word_bits * (word_bits * j + t) + r)
  lowest_is j t r lt some nb fits nr before =
      let d : (word_bits * j + t) / word_bits ≡ j = omega arith in
      let e : (word_bits * j + t) % word_bits ≡ t = omega arith in
      let on : bit ((word_bits * j + t) % word_bits) (get_or ms (map_top + (word_bits * j + t) / word_bits) 0) ≡ 1 = rw (d, e) (nb.on some) in
      let not-zero : get_or ms (word_bits * j + t) 0 ≡ 0 → ⊥ = over_says (get_or ms (word_bits * j + t) 0)
      (sym (level (word_bits * j + t) (omega arith)) ∙ on) in
      let small : r < word_bits = by_t (ltb r word_bits) (ltb-true _ _)
      (λ y. absurd (not-zero (bits_zero 64 (get_or ms (word_bits * j + t) 0) fits
      (λ i l. nr.first i (omega arith) (omega (arith, ltb-false r word_bits y)))))) in
      let dr : (word_bits * (word_bits * j + t) + r) / word_bits ≡ word_bits * j + t = omega arith in
      let er : (word_bits * (word_bits * j + t) + r) % word_bits ≡ r = omega arith in
      record {
        most = omega arith;
        on = rw (dr, er) (nr.on small);
        first = λ x h. by_t (ltb x (word_bits * (word_bits * j))) (λ y. before x (ltb-true _ _ y))
            (λ y. let g : word_bits * (word_bits * j) ≤ x = ltb-false _ _ y in
            by_t (ltb (x / word_bits) (word_bits * j + t))
            (λ z. clear_words_lem j t lt nb x (omega arith) (ltb-true _ _ z))
            (λ z. let same : x / word_bits ≡ word_bits * j + t = omega (arith, ltb-false (x / word_bits) (word_bits * j + t) z) in
            ap (λ (q : ℕ). bit (x % word_bits) (get_or ms q 0)) same ∙ nr.first (x % word_bits) (omega arith) (omega arith)));
      }

  -- ONE NODE CHANGES: its bit, the second level's bit of its word, and the count
  module _ (m : ℕ) (lt : m < map_nodes) (b : Bool) {ms₁ ms₂ : List ℕ} (flip : Flips ms ms₁ m b)
      (top : Topped ms₁ ms₂ (m / word_bits)) (c : ℕ) (count : c + one_if (f m) ≡ get_or ms map_count 0 + one_if b) where
    word : (j : ℕ) → (j ≡ map_count → ⊥) → get_or (set ms₂ map_count c) j 0 ≡ get_or ms₂ j 0
    word j ne = get_or-set_other ms₂ map_count j c 0 ne

    at_bit : (x : ℕ) → x < map_nodes + map_top → map_bit (set ms₂ map_count c) x ≡ map_bit ms₂ x
    at_bit x h = ap (bit (x % word_bits)) (word (x / word_bits) (λ e. omega arith))

    node : (x : ℕ) → x < map_nodes → map_bit (set ms₂ map_count c) x ≡ one_if (put f m b x)
    node x h = at_bit x (omega arith) ∙ top.rest x (λ e. omega arith) ∙ by_t (eqb x m)
        (λ t. let q : x ≡ m = eqb-true _ _ t in rw (t, q) flip.at)
        (λ t. rw t (flip.rest x (eqb-false _ _ t) ∙ M.bits x h))

    over : (j : ℕ) → j < map_top → map_bit (set ms₂ map_count c) (map_nodes + j) ≡
        one_over (get_or (set ms₂ map_count c) j 0)
    over j h = at_bit (map_nodes + j) (omega arith) ∙ (by_t (eqb j (m / word_bits)) here there ∙ ap
        (λ (w : ℕ). one_over w) (sym (word j (λ e. omega arith))))
      where
        here : eqb j (m / word_bits) ≡ true → map_bit ms₂ (map_nodes + j) ≡ one_over (get_or ms₂ j 0)
        here t = let q : j ≡ m / word_bits = eqb-true _ _ t in rw q top.top

        there : eqb j (m / word_bits) ≡ false → map_bit ms₂ (map_nodes + j) ≡ one_over (get_or ms₂ j 0)
        there t =
            let ne : j ≡ m / word_bits → ⊥ = eqb-false _ _ t in
            let w : get_or ms₂ j 0 ≡ get_or ms j 0 = top.words j (λ e. omega arith) ∙ flip.words j ne in
            top.rest (map_nodes + j) (λ e. ne (omega arith)) ∙ (flip.rest (map_nodes + j) (λ e. omega arith) ∙
            (M.tops j h ∙ ap (λ (w : ℕ). one_over w) (sym w)))

    pub changed : MapOf (put f m b) (set ms₂ map_count c)
    changed =
        let l : length ms₂ ≡ map_words = top.long ∙ (flip.long ∙ M.long) in
        record {
          long = length-set ms₂ map_count c ∙ l;
          bits = node;
          tops = over;
          count_is = get_or-set_same ms₂ map_count c 0 (omega arith) ∙ omega (arith, count, M.count_is, count_put f m b map_nodes lt);
        }

  -- a node in the map: its word is not 0, and the count neither
  pub word_on : (m : ℕ) → m < map_nodes → map_bit ms m ≡ 1 → map_bit ms (map_nodes + m / word_bits) ≡ 1
  word_on m lt e = M.tops (m / word_bits) (omega arith) ∙ rw (ne_eqb (get_or ms (m / word_bits) 0) 0 (word_not_zero ms m e))

  pub count_some : (m : ℕ) → m < map_nodes → map_bit ms m ≡ 1 → 1 ≤ get_or ms map_count 0
  count_some m lt e = let one : one_if (f m) ≡ 1 = sym (M.bits m lt) ∙ e in
      let none : one_if false ≡ 0 = refl in
      omega (arith, M.count_is, count_put f m false map_nodes lt)

  pub count_fits : get_or ms map_count 0 ≤ map_nodes
  count_fits = omega (arith, M.count_is, count_le f map_nodes)

  module _ (m : ℕ) (lt : m < map_nodes) {ms₁ ms₂ : List ℕ} {b : Bool} (flip : Flips ms ms₁ m b)
      (top : Topped ms₁ ms₂ (m / word_bits)) where
    pub count_kept : get_or ms₂ map_count 0 ≡ get_or ms map_count 0
    count_kept = top.words map_count (λ e. omega arith) ∙ flip.words map_count (λ e. omega arith)

    pub length_kept : length ms₂ ≡ map_words
    length_kept = top.long ∙ (flip.long ∙ M.long)

  pub given_map : (m : ℕ) → m < map_nodes → map_bit ms m ≡ 0 → {ms₁ ms₂ : List ℕ} → Flips ms ms₁ m true →
      Topped ms₁ ms₂ (m / word_bits) → MapOf (put f m true) (set ms₂ map_count (get_or ms₂ map_count 0 + 1))
  given_map m lt e {ms₂ = ms₂} flip top =
      let z : one_if (f m) ≡ 0 = sym (M.bits m lt) ∙ e in
      let one : one_if true ≡ 1 = refl in
      changed m lt true flip top (get_or ms₂ map_count 0 + 1) (omega (arith, count_kept m lt flip top))

  pub taken_map : (m : ℕ) → m < map_nodes → map_bit ms m ≡ 1 → {ms₁ ms₂ : List ℕ} → Flips ms ms₁ m false →
      Topped ms₁ ms₂ (m / word_bits) → MapOf (put f m false) (set ms₂ map_count (get_or ms₂ map_count 0 - 1))
  taken_map m lt e {ms₂ = ms₂} flip top =
      let z : one_if (f m) ≡ 1 = sym (M.bits m lt) ∙ e in
      let none : one_if false ≡ 0 = refl in
      changed m lt false flip top (get_or ms₂ map_count 0 - 1) (omega (arith, count_kept m lt flip top, count_some m lt e))

  -- nothing changes
  pub put_same : (m : ℕ) (b : Bool) → f m ≡ b → MapOf (put f m b) ms
  put_same m b e = map_as (put f m b)
      (λ x l. by_t (eqb x m) (λ t. let q : x ≡ m = eqb-true _ _ t in rw t (ap f q ∙ e)) (λ t. rw t))

pub flip_not_zero : {ms ms₁ : List ℕ} (m : ℕ) → Flips ms ms₁ m true → get_or ms₁ (m / word_bits) 0 ≡ 0 → ⊥
flip_not_zero {ms₁ = ms₁} m flip = word_not_zero ms₁ m flip.at

-- the map of no node
pub map_none : (f : ℕ → Bool) (ms : List ℕ) → length ms ≡ map_words → ((j : ℕ) → get_or ms j 0 ≡ 0) →
    ((x : ℕ) → x < map_nodes → f x ≡ false) → MapOf f ms
map_none f ms l z n = record {
  long = l;
  bits = λ m lt. bit_zero (get_or ms (m / word_bits) 0) (m % word_bits) (z (m / word_bits)) ∙ rw (n m lt);
  tops = λ j lt. bit_zero (get_or ms ((map_nodes + j) / word_bits) 0) ((map_nodes + j) % word_bits) (z ((map_nodes + j) / word_bits)) ∙ rw (eq-eqb _ _ (z j));
  count_is = z map_count ∙ sym (count_none f map_nodes n);
}

-- an array of zeros
zero_words : (n j : ℕ) → get_or {A = ℕ} (replicate n 0) j 0 ≡ 0
zero_words zero j = refl
zero_words (suc n) zero = refl
zero_words (suc n) (suc j) = zero_words n j

pub blank_map_lem : BlankMap (replicate map_words 0)
blank_map_lem = record { long = length-replicate {A = ℕ} map_words 0; zeros = zero_words map_words }
