-- Parents and owners.
use Prim.Native.Nat.{ℕ, suc, ◌/◌, ◌<◌}
use mathlib.Core.Path.{◌≡◌}
use mathlib.Core.Bool.{true}
use mathlib.Core.List.{List, ◌∷◌}
use native.Mathlib.Omega.{arith}
use native.Mathlib.Nat.{le_refl}
use lib.Dec.{leb}
use borrow.Author.Tests.{lt-ltb, le-leb, eq-eqb, ne_eqb}
use Rattle.blocks.specs.Lists.{All, here}
use Rattle.blocks.proofs.BoolLaws.{both_r}
use Rattle.blocks.proofs.ListLaws.{in_any, look}
use Rattle.model.specs.declared.Entry.{Entry}
use Rattle.model.specs.Model.{within}
use Rattle.tree.specs.Tree.{has, height, fits, slots, tier_order}
use Rattle.tree.specs.Slots.{Numbering}
use Rattle.tree.proofs.HeightLaws.{Low, height_fits, fits_order, fits_base}
use Rattle.tree.proofs.SlotLaws.{within_up}
use Rattle.layout.specs.Words.{owner}

-- a node below the head has a parent
pub parent : (l : List Entry) (u b : ℕ) → has l u b ≡ true → u < height l → has l (suc u) (b / slots) ≡ true
unfolding has
parent l u b t h = rw (le-leb (suc u) (height l) h) (within_up l u b (both_r (leb u (height l)) _ t))

-- the head's node is there
pub head_node_lem : (e : Entry) (l : List Entry) → All Low (e ∷ l) → 0 < height (e ∷ l) →
    has (e ∷ l) (height (e ∷ l)) 0 ≡ true
unfolding has
head_node_lem e l low pos =
    let h : ℕ = height (e ∷ l) in
    let f : fits h e ≡ true = look (height_fits low (le_refl h)) here in
    rw (le-leb h h (le_refl h)) (in_any (within (tier_order h) 0) {l = e ∷ l} here
    (rw (lt-ltb e.order (tier_order h) (omega (arith, fits_order h e f)), eq-eqb _ _ (fits_base h e f))))

pub owner_same : (l l' : List Entry) (ν ν' : Numbering) (u b : ℕ) → u < height l → u < height l' →
    ν' (suc u) (b / slots) ≡ ν (suc u) (b / slots) → owner l' ν' u b ≡ owner l ν u b
owner_same l l' ν ν' u b h h' e = rw (ne_eqb u (height l) (omega arith), ne_eqb u (height l') (omega arith), e)
