-- What the tests of a block decide: leaves, heads, shortcuts.
use Prim.Native.Nat.{ℕ, suc, ◌+◌, ◌-◌, ◌^◌, ◌≤◌, ◌<◌}
use mathlib.Core.Path.{◌≡◌, sym, ◌∙◌, subst}
use mathlib.Core.Bool.{Bool, true}
use mathlib.Core.List.{List}
use native.Mathlib.Omega.{arith}
use borrow.Author.Tests.{lt-ltb}
use Rattle.blocks.specs.Deciding.{Decides}
use Rattle.blocks.proofs.BoolLaws.{both_i, both_l, both_r}
use Rattle.model.specs.Model.{storable}
use Rattle.assoc_keys.specs.Number.{Words}
use Rattle.assoc_tree.specs.Keys.{is_key}
use Rattle.assoc_tree.specs.Parts.{block_of, full, slots, top_tier}
use Rattle.assoc_tree.proofs.KeyLaws.{block_zero}
use Rattle.assoc_layout.specs.Words.{block_words, tier_field, slot_field}
use Rattle.assoc_layout.specs.Decode.{word, base_at}
use Rattle.assoc_layout.specs.Reading.{Blank, First, Together}
use Rattle.assoc_local.specs.Local.{tier_of, skip_of, count_of, top_of, slot_at, Head, LeafOk, CutOk, LeafIn}
use Rattle.assoc_check.specs.Checking.{CutTo}

-- fields from one slot on
pub slots_blank : (ws : List ℕ) (m k : ℕ) → Blank ws m (slot_field + k) block_words → (j : ℕ) → k ≤ j → j < slots → slot_at ws m j ≡ 0
slots_blank ws m k b j h g = b (slot_field + j) (omega arith) (omega arith)

pub blank_slots_lem : (ws : List ℕ) (m k : ℕ) → ((j : ℕ) → k ≤ j → j < slots → slot_at ws m j ≡ 0) → Blank ws m (slot_field + k) block_words
blank_slots_lem ws m k f i a b =
    let e : slot_field + (i - slot_field) ≡ i = omega arith in
    subst (λ (x : ℕ). word ws m x ≡ 0) e (f (i - slot_field) (omega arith) (omega arith))

module _ (ws : List ℕ) (n m : ℕ) where
  -- LEAVES
  pub leaf_key : LeafOk ws n m → is_key (base_at ws m) ≡ true
  leaf_key d = both_l (is_key (base_at ws m)) _ d.good

  pub leaf_storable : LeafOk ws n m → storable (count_of ws m) ≡ true
  leaf_storable d = both_l (storable (count_of ws m)) _ (both_r (is_key (base_at ws m)) _ d.good)

  pub leaf_decides : (r : Bool) → Words ws → word ws m tier_field ≡ 1 → skip_of ws m ≡ 0 → storable (count_of ws m) ≡ true →
      is_key (base_at ws m) ≡ true → Decides r (Blank ws m slot_field block_words) → Decides r (LeafOk ws n m)
  leaf_decides r fit t s o k d = (
    (λ e. record {
      tier = t;
      skip = s;
      good = both_i k (both_i o (lt-ltb (count_of ws m) (2 ^ 64) (fit _)));
      empty = λ j h. slots_blank ws m 0 (d.0 e) j (omega arith) h;
    }),
    (λ e l. d.1 e (blank_slots_lem ws m 0 (λ j a h. l.empty j h))),
  )

  -- HEADS
  pub head_decides : (r : Bool) → 2 ≤ word ws m tier_field → top_of ws m ≤ top_tier → Decides r (First ws m (tier_of ws m)) →
      Decides r (Head ws n m)
  head_decides r lo hi d = ((λ e. record { low = lo; high = hi; aligned = d.0 e }), (λ e h. d.1 e h.aligned))

  -- SHORTCUTS
  pub cut_back : CutOk ws n m → (x : ℕ) → slot_at ws m 0 ≡ suc x → CutTo ws m x
  cut_back c x e =
      let q : c.node ≡ x = omega (arith, c.names.is) in
      subst (CutTo ws m) q (record {
        same_tier = c.same_tier;
        is_node_lem = c.is_node_lem;
        many = c.many;
        same_base = c.same_base;
      })

  pub cut_decides : (r : Bool) (x : ℕ) → Head ws n m → 1 ≤ skip_of ws m → count_of ws m ≡ 0 →
      Blank ws m (slot_field + 1) block_words → slot_at ws m 0 ≡ suc x → x < n → Decides r (CutTo ws m x) → Decides r (CutOk ws n m)
  cut_decides r x h s c b e lt d = (
    (λ t. let to : CutTo ws m x = d.0 t in
        record {
          head = h;
          skip = s;
          count = c;
          node = x;
          names = record { slot = omega arith; is = e; below = lt };
          same_tier = to.same_tier;
          is_node_lem = to.is_node_lem;
          same_base = to.same_base;
          many = to.many;
          empty = λ j a g. slots_blank ws m 1 b j a g;
        }),
    (λ t k. d.1 t (cut_back k x e)),
  )

  -- A LEAF IN A SLOT
  pub in_tier : (j : ℕ) → LeafIn ws n m j → (x : ℕ) → slot_at ws m j ≡ suc x →
      (word ws x tier_field ≡ 1) × (block_of (tier_of ws m) (base_at ws x) ≡ block_of (tier_of ws m) (base_at ws m))
  in_tier j l x e =
      let q : l.node ≡ x = omega (arith, l.names.is) in
      subst (λ (y : ℕ). (word ws y tier_field ≡ 1) × (block_of (tier_of ws m) (base_at ws y) ≡ block_of (tier_of ws m) (base_at ws m))) q
      (l.tier, l.within)

  pub in_decides : (r : Bool) (j x v : ℕ) → j < slots → slot_at ws m j ≡ suc x → x < n → word ws x tier_field ≡ 1 → v ≡ tier_of ws m →
      Decides r (Together ws x m v) → Decides r (LeafIn ws n m j)
  in_decides r j x v s e lt t q d = (
    (λ y. record {
      node = x;
      names = record { slot = s; is = e; below = lt };
      tier = t;
      within = subst (λ (u : ℕ). block_of u (base_at ws x) ≡ block_of u (base_at ws m)) q (d.0 y);
    }),
    (λ y l. d.1 y (subst (λ (u : ℕ). block_of u (base_at ws x) ≡ block_of u (base_at ws m)) (sym q) (in_tier j l x e).1)),
  )

-- the same base, as block of tier 0
pub to_decides : (ws : List ℕ) (r : Bool) (m x : ℕ) → word ws x tier_field ≡ word ws m tier_field → skip_of ws x ≡ 0 → full < count_of ws x →
    Decides r (Together ws x m 0) → Decides r (CutTo ws m x)
to_decides ws r m x t s c d = (
  (λ e. record { same_tier = t; is_node_lem = s; many = c; same_base = sym (block_zero _) ∙ d.0 e ∙ block_zero _ }),
  (λ e k. d.1 e (block_zero _ ∙ k.same_base ∙ sym (block_zero _))),
)
