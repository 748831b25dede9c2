-- The tree of a list under a head of any tier that fits: one tier more or less is one node.
use Prim.Native.Nat.{ℕ, ◌<◌}
use mathlib.Core.Path.{◌≡◌, ◌∙◌}
use mathlib.Core.Bool.{Bool, true, false}
use mathlib.Core.List.{List}
use native.Mathlib.Omega.{arith}
use lib.Dec.{leb, eqb}
use borrow.Author.Tests.{eqb-true, lt-ltb, eq-eqb}
use Rattle.blocks.specs.Choice.{both}
use Rattle.blocks.specs.Lists.{any, All, nonempty}
use Rattle.blocks.specs.Blocks.{block}
use Rattle.blocks.proofs.BoolLaws.{both_l}
use Rattle.blocks.proofs.ListLaws.{All-map, any_none, any_same}
use Rattle.model.specs.declared.Entry.{Entry}
use Rattle.model.specs.Model.{starts, within, has_mark}
use Rattle.tree.specs.Tree.{fits, slot_mark, tier_order}
use Rattle.tree.proofs.HeightLaws.{fits_order, fits_base, zero_up}
use Rattle.tree.proofs.NewNodeLaws.{any_const}

abbrev pub has_at : ℕ → List Entry → ℕ → ℕ → Bool
has_at h l u b = both (leb u h) (any (within (tier_order u) b) l)

module _ (l : List Entry) (h : ℕ) (fit : All (λ x. fits h x ≡ true) l) where
  -- above the head there is block 0 alone
  pub above : (u b : ℕ) → h < u → any (within (tier_order u) b) l ≡ both (nonempty l) (eqb 0 b)
  above u b lt =
      any_same (within (tier_order u) b) (λ x. eqb 0 b)
      (All-map (λ x f. rw (
        lt-ltb x.order (tier_order u) (omega (arith, fits_order h x f)),
        zero_up {j = tier_order h} {k = tier_order u} x.base (omega arith) (fits_base h x f),
      )) fit)
      ∙ any_const (eqb 0 b) l

  pub grow_mark_other : (m d : ℕ) → 0 < d → slot_mark l m h d ≡ false
  unfolding slot_mark
  grow_mark_other m d pos = any_none (λ e. both (starts (tier_order h) d e) (has_mark m e))
      (All-map (λ x f t. let e : block (tier_order h) x.base ≡ d = eqb-true _ _
      (both_l (starts (tier_order h) d x) (has_mark m x) t) in omega (arith, fits_base h x f)) fit)

  pub grow_mark : (m : ℕ) → slot_mark l m h 0 ≡ any (has_mark m) l
  unfolding slot_mark
  grow_mark m = any_same (λ e. both (starts (tier_order h) 0 e) (has_mark m e)) (has_mark m)
      (All-map (λ x f. rw (eq-eqb _ _ (fits_base h x f))) fit)
