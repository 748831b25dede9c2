use Prim.Native.Nat.{ℕ, suc, ◌+◌, ◌-◌, ◌≤◌, ◌<◌}
use mathlib.Core.Path.{◌≡◌, refl, sym, ap, subst, ◌∙◌}
use mathlib.Core.List.{List}
use native.Mathlib.Omega.{arith}
use native.Mathlib.Numerals.{add-one}
use borrow.Author.Tests.{lt-ltb, le-ltb}
use lib.ListN.{get_or}
use Rattle.tree.specs.Tree.{slots}
use Rattle.layout.specs.declared.Slot.{Slot}
use Rattle.layout.specs.declared.Slot.TheVariants.{Empty, Reserved, Held, Sibling, Child}
use Rattle.layout.specs.Pool.{slot_of}
use Rattle.layout.specs.Fill.{cleared}
use Rattle.layout.specs.Words.{slot_place}
use Rattle.write.specs.Writes.{free_below, free_slot, free_slots, free_tree}
use Rattle.freenodes.proofs.FollowLaws.{follows_same, follows_then}
use Rattle.write.proofs.+free_slot_free_slots_free_tree.Goals as goal

module _ (f : List ℕ → ℕ → List ℕ) (top : ℕ) (ws : List ℕ) (w : ℕ) {r : Slot} (e : r ≡ slot_of w) where
  -- nothing is freed
  still : {x : Slot} → r ≡ x → ws ≡ free_below f top ws x → ws ≡ free_slot f top ws w
  unfolding free_slot
  still d h = h ∙ ap (free_below f top ws) (sym d ∙ e)

  bare : (x : Slot) → r ≡ x → ((n : ℕ) → r ≡ Child n → ⊥) → ws ≡ free_slot f top ws w
  bare Empty d h = still d refl
  bare Reserved d h = still d refl
  bare Held d h = still d refl
  bare (Sibling o) d h = still d refl
  bare (Child n) d h = absurd (h n d)

  off : (n : ℕ) → r ≡ Child n → top ≤ n → ws ≡ free_slot f top ws w
  off n d h = still d (rw (le-ltb n top h))

  on : (n : ℕ) → r ≡ Child n → n < top → f ws n ≡ free_slot f top ws w
  unfolding free_slot
  on n d h = rw (← e, d, lt-ltb n top h)

slots_start : (f : List ℕ → ℕ → List ℕ) (top n o : ℕ) (ws : List ℕ) → ws ≡ free_slots f top n o ws 0
unfolding free_slots
slots_start f top n o ws = refl

slots_step : (f : List ℕ → ℕ → List ℕ) (top n o : ℕ) (ws pool : List ℕ) (j : ℕ) → pool ≡ free_slots f top n o ws j →
    free_slot f top pool (get_or pool (slot_place n (o + j)) 0) ≡ free_slots f top n o ws (j + 1)
unfolding free_slots
slots_step f top n o ws pool j e = rw (add-one, e)

none : (top : ℕ) (ws : List ℕ) (n u : ℕ) → u ≡ 0 → ws ≡ free_tree top u ws n
unfolding free_tree
none top ws n u e = rw e

whole : (top : ℕ) (ws pool : List ℕ) (n u : ℕ) → (u ≡ 0 → ⊥) → pool ≡ free_slots (free_tree top (u - 1)) top n 0 ws
    slots → cleared pool n ≡ free_tree top u ws n
unfolding free_tree
whole top ws pool n u h e = let d : u ≡ suc (u - 1) = omega arith in
    subst (λ (v : ℕ). cleared pool n ≡ free_tree top v ws n) (sym d) (rw e)

pub free_slot-returns-then-n-top-clause-pool_after : goal.free_slot-returns-then-n-top-clause-pool_after
free_slot-returns-then-n-top-clause-pool_after t c =
    c.free_tree.ensures.pool_after ∙ on _ _ _ _ c.read_slot.ensures _ c.in-Child.is c.if-n-top.true

pub free_slot-returns-else-n-top-clause-pool_after : goal.free_slot-returns-else-n-top-clause-pool_after
free_slot-returns-else-n-top-clause-pool_after t c =
    off _ _ _ _ c.read_slot.ensures _ c.in-Child.is c.if-n-top.false

pub free_slot-returns-in_default-clause-pool_after : goal.free_slot-returns-in_default-clause-pool_after
free_slot-returns-in_default-clause-pool_after t c = bare _ _ _ _ c.read_slot.ensures _ refl c.in_default.not-Child

pub free_slots-loop-j-init : goal.free_slots-loop-j-init
free_slots-loop-j-init t c = (slots_start _ _ _ _ _, follows_same _ _)

pub free_slots-loop-j-preserved : goal.free_slots-loop-j-preserved
free_slots-loop-j-preserved t c =
    let k = c.loop-j.invariant in (
      c.free_slot.ensures.pool_after ∙ rw c.slot_word-w.ensures (slots_step _ _ _ _ _ _ _ k.0),
      follows_then k.1 c.free_slot.ensures.follows,
    )

pub free_tree-returns-then-u-eq0-clause-pool_after : goal.free_tree-returns-then-u-eq0-clause-pool_after
free_tree-returns-then-u-eq0-clause-pool_after t c = none _ _ _ _ c.if-u-eq0.true

pub free_tree-returns-clause-pool_after : goal.free_tree-returns-clause-pool_after
free_tree-returns-clause-pool_after t c =
    c.release.ensures.pool_after ∙ whole _ _ _ _ _ (omega arith) c.free_slots.ensures.pool_after

pub free_tree-returns-clause-follows : goal.free_tree-returns-clause-follows
free_tree-returns-clause-follows t c = follows_then c.free_slots.ensures.follows c.release.ensures.follows
