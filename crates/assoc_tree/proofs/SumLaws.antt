-- The keys of a block are those of its sixteen parts.
use Prim.Native.Nat.{ℕ, zero, suc, ◌+◌, ◌*◌, ◌/◌, ◌<◌}
use mathlib.Core.Path.{◌≡◌, refl, sym, ap₂, ◌∙◌}
use mathlib.Core.Bool.{Bool}
use mathlib.Core.List.{List, [], ◌∷◌}
use native.Mathlib.Omega.{arith}
use lib.Dec.{ltb, eqb}
use lib.ListN.{length}
use borrow.Author.Tests.{eqb-true, eqb-false, eq-eqb, ne_eqb, ltb-true, ltb-false, lt-ltb, le-ltb}
use Rattle.blocks.specs.Choice.{pick}
use Rattle.blocks.specs.Lists.{keep}
use Rattle.blocks.proofs.BoolLaws.{by_t}
use Rattle.assoc_tree.specs.Keys.{Item}
use Rattle.assoc_tree.specs.Parts.{block_of, over, size, slots}
use Rattle.assoc_tree.proofs.SlotLaws.{tier_up}
use Rattle.assoc_tree.specs.Sums.{sum}

sum_zero : (n : ℕ) → sum (λ j. 0) n ≡ 0
unfolding sum
sum_zero zero = refl
sum_zero (suc n) = rw (sum_zero n)

sum_add : (f g : ℕ → ℕ) (n : ℕ) → sum (λ j. f j + g j) n ≡ sum f n + sum g n
unfolding sum
sum_add f g zero = refl
sum_add f g (suc n) = let e : sum (λ j. f j + g j) n ≡ sum f n + sum g n = sum_add f g n in omega arith

pub sum_same : (f g : ℕ → ℕ) (n : ℕ) → ((j : ℕ) → j < n → f j ≡ g j) → sum f n ≡ sum g n
unfolding sum
sum_same f g zero h = refl
sum_same f g (suc n) h = ap₂ ◌+◌ (sum_same f g n (λ j g'. h j (omega arith))) (h n (omega arith))

-- one number from a to a + n - 1 is b exactly if b is among them
sum_one : (a b n : ℕ) → sum (λ j. pick (eqb b (a + j)) 1 0) n ≡ pick (ltb b a) 0 (pick (ltb b (a + n)) 1 0)
unfolding sum
sum_one a b zero = by_t (ltb b a) (λ t. rw t)
    (λ t. let z : a + 0 ≡ a = omega arith in rw (t, z, t))
sum_one a b (suc n) =
    let e : sum (λ j. pick (eqb b (a + j)) 1 0) n ≡ pick (ltb b a) 0 (pick (ltb b (a + n)) 1 0) = sum_one a b n in
    rw e (by_t (ltb b a)
    (λ t. rw (t, ne_eqb b (a + n) (omega (arith, ltb-true b a t))))
    (λ t. by_t (eqb b (a + n))
    (λ c. rw (t, c, le-ltb b (a + n) (omega (arith, eqb-true b (a + n) c)), lt-ltb b (a + suc n) (omega (arith, eqb-true b (a + n) c))))
    (λ c. let n' : b ≡ a + n → ⊥ = eqb-false _ _ c in
    by_t (ltb b (a + n)) (λ d. rw (t, c, d, lt-ltb b (a + suc n) (omega (arith, ltb-true b (a + n) d))))
    (λ d. rw (t, c, d, le-ltb b (a + suc n) (omega (arith, ltb-false b (a + n) d)))))))

keep_length : (p : Item → Bool) (x : Item) (l : List Item) → length (keep p (x ∷ l)) ≡ pick (p x) 1 0 + length (keep p l)
keep_length p x l = by_t (p x) (λ t. rw t (omega arith)) (λ t. rw t (omega arith))

pub size_sum : (l : List Item) (v c : ℕ) → sum (λ j. size l v (slots * c + j)) slots ≡ size l (suc v) c
unfolding size
size_sum [] v c = sum_zero slots
size_sum (x ∷ l) v c =
    sum_same _ (λ j. pick (eqb (block_of v x.key) (slots * c + j)) 1 0 + length (keep (over v (slots * c + j)) l)) slots
    (λ j h. keep_length (over v (slots * c + j)) x l) ∙
    sum_add (λ j. pick (eqb (block_of v x.key) (slots * c + j)) 1 0) (λ j. length (keep (over v (slots * c + j)) l)) slots ∙
    ap₂ ◌+◌ (sum_one (slots * c) (block_of v x.key) slots ∙ one) (size_sum l v c) ∙
    sym (keep_length (over (suc v) c) x l)
  where
    one : ◌≡◌ {A = ℕ} (pick (ltb (block_of v x.key) (slots * c)) 0 (pick (ltb (block_of v x.key) (slots * c + slots)) 1 0))
        (pick (eqb (block_of (suc v) x.key) c) 1 0)
    one =
        rw (tier_up v x.key) (by_t (ltb (block_of v x.key) (slots * c))
        (λ t. rw (t, ne_eqb (block_of v x.key / slots) c (omega (arith, ltb-true (block_of v x.key) (slots * c) t))))
        (λ t. by_t (ltb (block_of v x.key) (slots * c + slots))
        (λ d. rw (
          t,
          d,
          eq-eqb (block_of v x.key / slots) c
              (omega (arith, ltb-false (block_of v x.key) (slots * c) t, ltb-true (block_of v x.key) (slots * c + slots) d)),
        ))
        (λ d. rw (t, d, ne_eqb (block_of v x.key / slots) c (omega (arith, ltb-false (block_of v x.key) (slots * c + slots) d))))))
