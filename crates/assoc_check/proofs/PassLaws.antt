-- The pass over all blocks: who is named, the map of the free ones, the root.
use Prim.Native.Nat.{ℕ, zero, suc, ◌+◌, ◌≤◌, ◌<◌}
use mathlib.Core.Path.{◌≡◌, refl, sym, ap, ◌∙◌, subst}
use mathlib.Core.Bool.{Bool, true, false}
use mathlib.Core.List.{List}
use native.Mathlib.Omega.{arith}
use lib.Dec.{eqb, ltb}
use lib.ListN.{get_or}
use borrow.Author.Tests.{eqb-true, eqb-false, ltb-true, lt-ltb, le-ltb}
use Rattle.blocks.specs.Choice.{both, either}
use Rattle.blocks.specs.Deciding.{Decides}
use Rattle.blocks.proofs.BoolLaws.{by_t, iff, decide_eqb}
use Rattle.freemap.specs.FreeMap.{map_bit, one_if, put, BlankMap, MapOf}
use Rattle.freemap.proofs.MapLaws.{map_as, map_none, bit_says}
use Rattle.assoc_tree.specs.Parts.{slots, top_tier}
use Rattle.assoc_layout.specs.Words.{max_blocks, root_word, tier_field, slot_field}
use Rattle.assoc_layout.specs.Decode.{word}
use Rattle.assoc_local.specs.Local.{top_of, slot_at, BlockOk, free, leaf, cut, packed, spread, RootOk}
use Rattle.assoc_check.specs.Checking.{free_to}
use Rattle.assoc_check.specs.Seen.{SetOf, slot_names, named_to}
use Rattle.assoc_check.proofs.SeenLaws.{set_as, names_none}

pub below_next : (P : ℕ → Type 0) (i : ℕ) → ((k : ℕ) → k < i → P k) → P i → (k : ℕ) → k < i + 1 → P k
below_next P i h p k b = by_t (eqb i k) (λ e. subst P (eqb-true i k e) p)
    (λ e. let d : i ≡ k → ⊥ = eqb-false i k e in h k (omega arith))

module _ (ws : List ℕ) (n : ℕ) where
  -- WHO IS NAMED
  empty_names : (m k x : ℕ) → ((j : ℕ) → j < k → slot_at ws m j ≡ 0) → slot_names ws n m k x ≡ false
  unfolding slot_names
  empty_names m zero x f = refl
  empty_names m (suc k) x f =
      rw (empty_names m k x (λ j h. f j (omega arith))) (names_none n (slot_at ws m k) x (f k (omega arith)))

  -- a free block or a leaf names none
  pub few_none : (m t : ℕ) → t ≡ word ws m tier_field → t < 2 → BlockOk ws n m → (x : ℕ) → slot_names ws n m slots x ≡ false
  few_none m t e h (free g) x = empty_names m slots x (λ j a. g (slot_field + j) (omega arith))
  few_none m t e h (leaf l) x = empty_names m slots x l.empty
  few_none m t e h (cut c) x = absurd (omega (arith, c.head.low))
  few_none m t e h (packed p) x = absurd (omega (arith, p.head.low))
  few_none m t e h (spread s) x = absurd (omega (arith, s.head.low))

  pub named_start : {ss : List ℕ} → SetOf (λ x. false) ss → SetOf (named_to ws n 0) ss
  unfolding named_to
  named_start s = set_as s (named_to ws n 0) (λ x. refl)

  pub named_next : (m : ℕ) {ss : List ℕ} → SetOf (λ x. either (named_to ws n m x) (slot_names ws n m slots x)) ss →
      SetOf (named_to ws n (m + 1)) ss
  unfolding named_to
  named_next m s =
      let i : suc m ≡ m + 1 = omega arith in
      set_as s (named_to ws n (m + 1)) (λ x. ap (λ (k : ℕ). named_to ws n k x) i)

  -- THE ROOT
  pub root_decides : (r : Bool) (x : ℕ) → get_or ws root_word 0 ≡ suc x → x < n →
      Decides r ((2 ≤ word ws x tier_field) × (top_of ws x ≡ top_tier)) → Decides r ((y : ℕ) → get_or ws root_word 0 ≡ suc y → RootOk ws n y)
  root_decides r x e h d = (
    (λ t y q. let p : x ≡ y = omega arith in
        subst (RootOk ws n) p (record { below = h; low = (d.0 t).0; wide = (d.0 t).1 })),
    (λ t f. let o : RootOk ws n x = f x e in d.1 t (o.low, o.wide)),
  )

-- THE MAP
pub build_start : (ws ms : List ℕ) → BlankMap ms → MapOf (free_to ws 0) ms
build_start ws ms b = map_none (free_to ws 0) ms b.long b.zeros (λ x _. rw (le-ltb x 0 (omega arith)))

pub build_step : (ws : List ℕ) {ms ms' : List ℕ} (m w : ℕ) → w ≡ word ws m tier_field →
    ((f : ℕ → Bool) → f m ≡ false → MapOf f ms → MapOf (put f m (eqb w 0)) ms') → MapOf (free_to ws m) ms →
    MapOf (free_to ws (m + 1)) ms'
build_step ws m w e step M =
    map_as (step (free_to ws m) (rw (le-ltb m m (omega arith))) M) (free_to ws (m + 1))
    (λ x _. by_t (eqb x m)
    (λ t. let q : x ≡ m = eqb-true _ _ t in rw (t, q, lt-ltb m (m + 1) (omega arith), e))
    (λ t. let ne : x ≡ m → ⊥ = eqb-false _ _ t in
    rw t (ap (λ (b : Bool). both b (eqb (word ws x tier_field) 0)) (iff (ltb x m) (ltb x (m + 1))
    (λ y. lt-ltb x (m + 1) (omega (arith, ltb-true x m y)))
    (λ y. lt-ltb x m (omega (arith, ltb-true x (m + 1) y)))))))

-- A BIT TOLD
pub bit_decides : (ss : List ℕ) (f : ℕ → Bool) (m w : ℕ) → SetOf f ss → m < max_blocks → (w ≡ 0 → ⊥) →
    Decides (eqb (map_bit ss m) 1) (1 ≤ w → f m ≡ true)
bit_decides ss f m w s h ne =
    decide_eqb (map_bit ss m) 1 (λ e _. bit_says (f m) (sym (s.bits m h) ∙ e))
    (λ g. s.bits m h ∙ ap (λ (b : Bool). one_if b) (g (omega arith)))
