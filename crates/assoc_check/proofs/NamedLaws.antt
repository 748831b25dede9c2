-- The bits that the pass leaves are those of the blocks that are named; and so the check decides.
use Prim.Native.Nat.{ℕ, zero, suc, ◌+◌, ◌≤◌, ◌<◌}
use mathlib.Core.Path.{◌≡◌, refl, sym, ap, ◌∙◌}
use mathlib.Core.Bool.{Bool, true}
use mathlib.Core.List.{List}
use native.Mathlib.Omega.{arith}
use lib.Dec.{eqb, ltb, leb}
use lib.ListN.{length, get_or}
use Rattle.std.specs.Prelude.{Option, Some, None}
use Rattle.std.proofs.Common.{◌-◌, ◌*◌, ◌/◌, subst, lit<}
use Rattle.std.proofs.Math.Nat.{mul-div_cancel_left}
use Rattle.words.specs.Counted.{Counted}
use borrow.Author.Tests.{eqb-true, eqb-false, eq-eqb, ltb-true, lt-ltb, leb-true, le-leb}
use Rattle.blocks.specs.Choice.{both, either}
use Rattle.blocks.specs.Deciding.{Decides}
use Rattle.blocks.proofs.BoolLaws.{by_t, clash, is_false, both_i, both_l, both_r, either_e, either_yes}
use Rattle.assoc_keys.specs.Number.{Words}
use Rattle.assoc_tree.specs.Parts.{slots}
use Rattle.assoc_layout.specs.Words.{anchor_words, block_words, pool_words, max_blocks, root_word, tier_field, slot_field}
use Rattle.assoc_layout.specs.Decode.{word, block_count, is_sized}
use Rattle.assoc_local.specs.Local.{slot_at, Live, BlockOk, free, leaf, cut, packed, spread, Named, by_root, by_slot, RootOk, PoolOk}
use Rattle.assoc_check.specs.Checking.{Sized}
use Rattle.assoc_check.specs.Seen.{names, slot_names, named_to}
use Rattle.assoc_check.specs.Checking.{Counts}

names_yes : (n r x : ℕ) → names n r x ≡ true → (x < n) × (r ≡ suc x)
names_yes n r x t = (ltb-true x n (both_l (ltb x n) _ t), eqb-true r (suc x) (both_r (ltb x n) _ t))

names_is : (n r x : ℕ) → x < n → r ≡ suc x → names n r x ≡ true
names_is n r x h e = both_i (lt-ltb x n h) (eq-eqb r (suc x) e)

module _ (ws : List ℕ) (n : ℕ) where
  slot_of_lem : (m k x : ℕ) → slot_names ws n m k x ≡ true → (j : ℕ) × (j < k) × (slot_at ws m j ≡ suc x) × (x < n)
  unfolding slot_names
  slot_of_lem m zero x t = absurd (clash t refl)
  slot_of_lem m (suc k) x t =
      either_e (slot_names ws n m k x) _ t
      (λ a. let (j, h, e, lt) = slot_of_lem m k x a in (j, omega arith, e, lt))
      (λ a. let (lt, e) = names_yes n (slot_at ws m k) x a in (k, omega arith, e, lt))

  of_slot : (m k j x : ℕ) → j < k → slot_at ws m j ≡ suc x → x < n → slot_names ws n m k x ≡ true
  unfolding slot_names
  of_slot m zero j x h e lt = absurd (omega arith)
  of_slot m (suc k) j x h e lt =
      by_t (eqb j k)
      (λ c. let q : slot_at ws m k ≡ suc x = ap (slot_at ws m) (sym (eqb-true j k c)) ∙ e in
      rw (names_is n (slot_at ws m k) x lt q) (either_yes (slot_names ws n m k x)))
      (λ c. let ne : j ≡ k → ⊥ = eqb-false j k c in rw (of_slot m k j x (omega arith) e lt))

  named_of : (k x : ℕ) → named_to ws n k x ≡ true → (p : ℕ) × (p < k) × (slot_names ws n p slots x ≡ true)
  unfolding named_to
  named_of zero x t = absurd (clash t refl)
  named_of (suc k) x t =
      either_e (named_to ws n k x) _ t (λ a. let (p, h, e) = named_of k x a in (p, omega arith, e)) (λ a. (k, omega arith, a))

  of_named : (k p x : ℕ) → p < k → slot_names ws n p slots x ≡ true → named_to ws n k x ≡ true
  unfolding named_to
  of_named zero p x h t = absurd (omega arith)
  of_named (suc k) p x h t =
      by_t (eqb p k)
      (λ c. let q : slot_names ws n k slots x ≡ true = ap (λ (y : ℕ). slot_names ws n y slots x) (sym (eqb-true p k c)) ∙ t in
      rw q (either_yes (named_to ws n k x)))
      (λ c. let ne : p ≡ k → ⊥ = eqb-false p k c in rw (of_named k p x (omega arith) t))

  -- those that a slot or the root's word names
  abbrev pub named : ℕ → Bool
  named x = either (named_to ws n n x) (names n (get_or ws root_word 0) x)

  -- what has a filled slot is in use
  in_use : (p j x : ℕ) → BlockOk ws n p → j < slots → slot_at ws p j ≡ suc x → 1 ≤ word ws p tier_field
  in_use p j x (free g) h e = absurd (omega (arith, g (slot_field + j) (omega arith)))
  in_use p j x (leaf l) h e = omega (arith, l.tier)
  in_use p j x (cut c) h e = omega (arith, c.head.low)
  in_use p j x (packed k) h e = omega (arith, k.head.low)
  in_use p j x (spread s) h e = omega (arith, s.head.low)

  named_yes : ((m : ℕ) → m < n → BlockOk ws n m) → (m : ℕ) → named m ≡ true → Named ws n m
  named_yes ok m t =
      either_e (named_to ws n n m) _ t
      (λ a. let (p, h, s) = named_of n m a in
      let (j, g, e, lt) = slot_of_lem p slots m s in
      by_slot p j (record { below = h; used = in_use p j m (ok p h) g e }) (record { slot = g; is = e; below = lt }))
      (λ a. by_root (names_yes n (get_or ws root_word 0) m a).1)

  named_no : (m : ℕ) → m < n → Named ws n m → named m ≡ true
  named_no m h (by_root e) = rw (names_is n (get_or ws root_word 0) m h e) (either_yes (named_to ws n n m))
  named_no m h (by_slot p j l s) = rw (of_named n p m l.below (of_slot p slots j m s.slot s.is h))

  -- THE CHECK
  pub pool_decides : (r : Bool) → Words ws → Sized ws n → 1 ≤ n → get_or ws 0 0 ≡ n → ((m : ℕ) → m < n → BlockOk ws n m) →
      ((x : ℕ) → get_or ws root_word 0 ≡ suc x → RootOk ws n x) → Decides r ((m : ℕ) → Live ws n m → named m ≡ true) →
      Decides r (PoolOk ws n)
  pool_decides r fit s lo c ok root d = (
    (λ t. record {
      fit = fit;
      long = s.size;
      count = c;
      least = lo;
      most = s.few;
      block = ok;
      root = root;
      named = λ m a. named_yes ok m (d.0 t m a);
    }),
    (λ t o. d.1 t (λ m a. named_no m a.below (o.named m a))),
  )

-- THE LENGTH
module _ (ws : List ℕ) where
  pub sized_is : length ws ≡ pool_words (block_count ws) → 1 ≤ block_count ws → block_count ws ≤ max_blocks → is_sized ws ≡ true
  sized_is e lo hi = both_i (eq-eqb _ _ e) (both_i (le-leb 1 _ lo) (le-leb _ max_blocks hi))

  pub is_sized_lem : is_sized ws ≡ true → (length ws ≡ pool_words (block_count ws)) × (1 ≤ block_count ws) × (block_count ws ≤ max_blocks)
  is_sized_lem t =
      let u : both (leb 1 (block_count ws)) (leb (block_count ws) max_blocks) ≡ true = both_r (eqb (length ws) (pool_words (block_count ws))) _ t in (
        eqb-true _ _ (both_l (eqb (length ws) (pool_words (block_count ws))) _ t),
        leb-true 1 _ (both_l (leb 1 (block_count ws)) _ u),
        leb-true _ max_blocks (both_r (leb 1 (block_count ws)) _ u),
      )

  -- the number of blocks by the number of words
  block_count_is : (n : ℕ) → length ws ≡ pool_words n → n ≡ block_count ws
  block_count_is n e =
      let d : 24 * n / 24 ≡ n = mul-div_cancel_left n (lit< tt) in
      let m : length ws - 2 ≡ 24 * n = omega arith in
      rw m (sym d)

  pub counts : (r : Option ℕ) → Counted (length ws) anchor_words block_words max_blocks r → Counts ws r
  counts None f = is_false (λ t. let (e, lo, hi) = is_sized_lem t in f (block_count ws) lo hi e)
  counts (Some n) (lo, hi, e) =
      let c = block_count_is n e in
      let b : length ws ≡ pool_words (block_count ws) = subst (λ (k : ℕ). length ws ≡ pool_words k) c e in
      record {
        is-pool = sized_is b (omega arith) (omega arith);
        count = c;
        sized = record { size = e; few = hi };
      }
