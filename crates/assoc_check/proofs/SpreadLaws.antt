-- A node with more than 16 keys: its slots one by one, and the sum of what lies below them.
use Prim.Native.Nat.{ℕ, zero, suc, ◌+◌, ◌≤◌, ◌<◌}
use mathlib.Core.Path.{◌≡◌, refl, sym, ap, ap₂, ◌∙◌, subst}
use mathlib.Core.Bool.{Bool, true, not}
use mathlib.Core.List.{List}
use native.Mathlib.Omega.{arith}
use native.Mathlib.Nat.{le_refl}
use lib.Dec.{eqb, ltb}
use borrow.Author.Tests.{eqb-true, eqb-false, ne_eqb, ltb-true, ltb-false}
use Rattle.blocks.specs.Choice.{pick}
use Rattle.blocks.specs.Blocks.{count_to}
use Rattle.blocks.specs.Deciding.{Decides}
use Rattle.blocks.proofs.BoolLaws.{by_t, clash, not-true}
use Rattle.blocks.proofs.CountLaws.{count_zero, count_only}
use Rattle.assoc_tree.specs.Parts.{full, slots}
use Rattle.assoc_tree.specs.Sums.{sum}
use Rattle.assoc_local.specs.Local.{skip_of, count_of, slot_at, keys_at, Head, SlotOk, SpreadOk}
use Rattle.assoc_check.specs.Checking.{is_filled, Spread}
use Rattle.assoc_check.proofs.NodeOkLaws.{decide_ltb}

-- TWO OF THEM
some_of : (f : ℕ → Bool) (n : ℕ) → 1 ≤ count_to f n → (i : ℕ) × (i < n) × (f i ≡ true)
some_of f zero h = absurd (omega arith)
some_of f (suc n) h =
    by_t (f n) (λ t. (n, omega arith, t))
    (λ t. let h' : 1 ≤ count_to f n + 0 = (rw t at h) in let (i, a, b) = some_of f n (omega arith) in (i, omega arith, b))

two_of : (f : ℕ → Bool) (n : ℕ) → 2 ≤ count_to f n → (i j : ℕ) × (i < n) × (j < n) × (i ≡ j → ⊥) × (f i ≡ true) × (f j ≡ true)
two_of f zero h = absurd (omega arith)
two_of f (suc n) h =
    by_t (f n)
    (λ t. let h' : 2 ≤ count_to f n + 1 = (rw t at h) in
    let (i, a, b) = some_of f n (omega arith) in (i, n, omega arith, omega arith, (λ e. omega arith), b, t))
    (λ t. let h' : 2 ≤ count_to f n + 0 = (rw t at h) in
    let (i, j, a, b, c, d, e) = two_of f n (omega arith) in (i, j, omega arith, omega arith, c, d, e))

of_two : (f : ℕ → Bool) (n i j : ℕ) → i < n → j < n → (i ≡ j → ⊥) → f i ≡ true → f j ≡ true → 1 < count_to f n
of_two f n i j a b ne s t =
    by_t (ltb 1 (count_to f n)) (λ c. ltb-true _ _ c)
    (λ c. let le : count_to f n ≤ 1 = ltb-false _ _ c in
    by_t (eqb (count_to f n) 0) (λ d. absurd (clash s (count_zero f n (eqb-true _ _ d) i a)))
    (λ d. let nz : count_to f n ≡ 0 → ⊥ = eqb-false _ _ d in
    absurd (clash t (count_only f i n a s (omega arith) j b (λ e. ne (sym e))))))

-- SUMS
sum_le : (f : ℕ → ℕ) (a b : ℕ) → a ≤ b → sum f a ≤ sum f b
unfolding sum
sum_le f a zero h = let z : a ≡ 0 = omega arith in rw z (le_refl _)
sum_le f a (suc b) h =
    by_t (eqb a (suc b)) (λ c. rw (eqb-true a (suc b) c) (le_refl _))
    (λ c. let ne : a ≡ suc b → ⊥ = eqb-false _ _ c in
    let r : sum f a ≤ sum f b = sum_le f a b (omega arith) in omega arith)

sum_suc : (f : ℕ → ℕ) (k : ℕ) → sum f (suc k) ≡ sum f k + f k
unfolding sum
sum_suc f k = refl

module _ (ws : List ℕ) (n m : ℕ) where
  abbrev keys : ℕ → ℕ
  keys j = keys_at ws (slot_at ws m j)

  pub spread_start : Spread ws n m 0 0 0
  unfolding sum
  spread_start = record { slot = λ j h. absurd (omega arith); total_is = refl; most = omega arith; filled_is = refl }

  -- the next slot has no more keys than are left
  pub spread_fits : (j total filled k : ℕ) → Spread ws n m j total filled → j < slots → k ≡ keys j → SpreadOk ws n m →
      total + k ≤ count_of ws m
  spread_fits j total filled k s h e o =
      omega (arith, s.total_is, sum_suc keys j, sum_le keys (suc j) slots h, o.total)

  pub spread_next : (j total filled r k f : ℕ) → Spread ws n m j total filled → SlotOk ws n m j → r ≡ slot_at ws m j → k ≡ keys_at ws r →
      total + k ≤ count_of ws m → f ≡ pick (not (eqb r 0)) 1 0 → Spread ws n m (j + 1) (total + k) (filled + f)
  spread_next j total filled r k f s o e q h g =
      let i : suc j ≡ j + 1 = omega arith in
      subst (λ (x : ℕ). Spread ws n m x (total + k) (filled + f)) i (record {
        slot = λ a b. by_t (eqb j a) (λ c. subst (SlotOk ws n m) (eqb-true j a c) o)
            (λ c. let ne : j ≡ a → ⊥ = eqb-false j a c in s.slot a (omega arith));
        total_is = ap₂ ◌+◌ s.total_is (q ∙ ap (keys_at ws) e) ∙ sym (sum_suc keys j);
        most = h;
        filled_is = ap₂ ◌+◌ s.filled_is (g ∙ ap (λ (x : ℕ). pick (not (eqb x 0)) 1 0) e);
      })

  filled_pos : (j : ℕ) → is_filled ws n m j ≡ true → 1 ≤ slot_at ws m j
  filled_pos j t = let ne : slot_at ws m j ≡ 0 → ⊥ = eqb-false _ _ (not-true _ t) in omega arith

  pos_filled : (j : ℕ) → 1 ≤ slot_at ws m j → is_filled ws n m j ≡ true
  pos_filled j h = rw (ne_eqb (slot_at ws m j) 0 (omega arith))

  pub spread_decides : (total filled count : ℕ) → Spread ws n m slots total filled → Head ws n m → skip_of ws m ≡ 0 → count ≡ count_of ws m →
      full < count → total ≡ count → Decides (ltb 1 filled) (SpreadOk ws n m)
  spread_decides total filled count s h z c many e =
      decide_ltb 1 filled
      (λ lt. let (i, j, a, b, ne, p, q) = two_of (is_filled ws n m) slots (omega (arith, s.filled_is)) in
      record {
        head = h;
        skip = z;
        many = omega arith;
        slot = s.slot;
        total = sym s.total_is ∙ e ∙ c;
        one = i;
        other = j;
        one_slot = a;
        other_slot = b;
        apart = ne;
        one_filled = filled_pos i p;
        other_filled = filled_pos j q;
      })
      (λ o. rw s.filled_is (of_two (is_filled ws n m) slots o.one o.other o.one_slot o.other_slot o.apart
      (pos_filled o.one o.one_filled) (pos_filled o.other o.other_filled)))

  pub spread_total : (total filled : ℕ) → Spread ws n m slots total filled → SpreadOk ws n m → total ≡ count_of ws m
  spread_total total filled s o = s.total_is ∙ o.total
