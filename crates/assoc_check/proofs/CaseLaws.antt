-- Which of the kinds a block is of, by its first three words.
use Prim.Native.Nat.{ℕ, ◌≤◌, ◌<◌}
use mathlib.Core.Path.{◌≡◌}
use mathlib.Core.Bool.{Bool}
use mathlib.Core.List.{List}
use native.Mathlib.Omega.{arith}
use Rattle.blocks.specs.Deciding.{Decides}
use Rattle.assoc_tree.specs.Parts.{full}
use Rattle.assoc_layout.specs.Words.{block_words, tier_field}
use Rattle.assoc_layout.specs.Decode.{word}
use Rattle.assoc_layout.specs.Reading.{Blank}
use Rattle.assoc_local.specs.Local.{skip_of, count_of, Head, LeafOk, CutOk, PackedOk, SpreadOk, BlockOk, free, leaf, cut, packed, spread}

module _ (ws : List ℕ) (n m : ℕ) where
  pub free_decides : (r : Bool) → word ws m tier_field ≡ 0 → Decides r (Blank ws m 0 block_words) → Decides r (BlockOk ws n m)
  free_decides r z d = ((λ t. free (λ f h. d.0 t f (omega arith) h)), (λ t b. d.1 t (λ f a h. blank b f h)))
    where
      blank : BlockOk ws n m → (f : ℕ) → f < block_words → word ws m f ≡ 0
      blank (free g) = g
      blank (leaf l) = absurd (omega (arith, l.tier))
      blank (cut c) = absurd (omega (arith, c.head.low))
      blank (packed p) = absurd (omega (arith, p.head.low))
      blank (spread s) = absurd (omega (arith, s.head.low))

  pub leaf_case : (r : Bool) → word ws m tier_field ≡ 1 → Decides r (LeafOk ws n m) → Decides r (BlockOk ws n m)
  leaf_case r z d = ((λ t. leaf (d.0 t)), (λ t b. d.1 t (is b)))
    where
      is : BlockOk ws n m → LeafOk ws n m
      is (free g) = absurd (omega (arith, g tier_field (omega arith)))
      is (leaf l) = l
      is (cut c) = absurd (omega (arith, c.head.low))
      is (packed p) = absurd (omega (arith, p.head.low))
      is (spread s) = absurd (omega (arith, s.head.low))

  module _ (low : 2 ≤ word ws m tier_field) where
    pub has_head : BlockOk ws n m → Head ws n m
    has_head (free g) = absurd (omega (arith, g tier_field (omega arith)))
    has_head (leaf l) = absurd (omega (arith, l.tier))
    has_head (cut c) = c.head
    has_head (packed p) = p.head
    has_head (spread s) = s.head

    pub cut_case : (r : Bool) → (skip_of ws m ≡ 0 → ⊥) → Decides r (CutOk ws n m) → Decides r (BlockOk ws n m)
    cut_case r z d = ((λ t. cut (d.0 t)), (λ t b. d.1 t (is b)))
      where
        is : BlockOk ws n m → CutOk ws n m
        is (free g) = absurd (omega (arith, g tier_field (omega arith)))
        is (leaf l) = absurd (omega (arith, l.tier))
        is (cut c) = c
        is (packed p) = absurd (z p.skip)
        is (spread s) = absurd (z s.skip)

    pub packed_case : (r : Bool) → skip_of ws m ≡ 0 → count_of ws m ≤ full → Decides r (PackedOk ws n m) → Decides r (BlockOk ws n m)
    packed_case r z few d = ((λ t. packed (d.0 t)), (λ t b. d.1 t (is b)))
      where
        is : BlockOk ws n m → PackedOk ws n m
        is (free g) = absurd (omega (arith, g tier_field (omega arith)))
        is (leaf l) = absurd (omega (arith, l.tier))
        is (cut c) = absurd (omega (arith, c.skip))
        is (packed p) = p
        is (spread s) = absurd (omega (arith, s.many))

    pub spread_case : (r : Bool) → skip_of ws m ≡ 0 → full < count_of ws m → Decides r (SpreadOk ws n m) → Decides r (BlockOk ws n m)
    spread_case r z many d = ((λ t. spread (d.0 t)), (λ t b. d.1 t (is b)))
      where
        is : BlockOk ws n m → SpreadOk ws n m
        is (free g) = absurd (omega (arith, g tier_field (omega arith)))
        is (leaf l) = absurd (omega (arith, l.tier))
        is (cut c) = absurd (omega (arith, c.skip))
        is (packed p) = absurd (omega (arith, p.few))
        is (spread s) = s
