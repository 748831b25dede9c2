-- The head's tier as R17 to R19 word it, to compare with `height`.
use Rattle.std.specs.Prelude.{ℕ, ◌+◌, ◌-◌, ◌^◌, Bool, true, false, List, [], ◌∷◌, leb, ltb, eqb}
use Rattle.blocks.specs.Choice.{both}
use Rattle.blocks.specs.Lists.{least}
use Rattle.model.specs.declared.Entry.{Entry}
use Rattle.tree.specs.Tree.{tier_order, top_tier}

-- R18: the entry that is the head itself
abbrev pub lone : List Entry → Bool
lone [] = false
lone (e ∷ []) = both (eqb e.base 0) (eqb e.order 0)
lone (e ∷ f ∷ l) = false

-- the run lies below 64 * 2^s = 2^(6h), and the order is below s + 6 = 6h, for the tier h of shift s = 6h - 6
abbrev pub fits_under : ℕ → Entry → Bool
fits_under h e = both (leb (e.base + 2 ^ e.order) (2 ^ tier_order h)) (ltb e.order (tier_order h))

abbrev pub all_fit : ℕ → List Entry → Bool
all_fit h [] = true
all_fit h (e ∷ l) = both (fits_under h e) (all_fit h l)

-- R19: the tiers from 1 on
abbrev pub head_tier : Bool → List Entry → ℕ
head_tier true l = 0
head_tier false [] = 0
head_tier false (e ∷ l) = least (λ h. all_fit h (e ∷ l)) (top_tier - 1) 1
