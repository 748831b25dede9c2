use Rattle.std.proofs.Common.{ℕ, ◌<◌, ◌≤◌, ◌^◌, ◌≡◌, sym, ◌∙◌, arith, List, false}
use Rattle.model.specs.declared.Entry.{Entry}
use Rattle.model.specs.Model.{Valid, over, max_order}
use Rattle.blocks.specs.Lists.{any}
use Rattle.plan.specs.Plan.{NewStore}
use Rattle.plan.proofs.WalkLaws.{top_is, fits_top}
use Rattle.plan.proofs.top_of.Goals as goal

new : {l : List Entry} {i k w : ℕ} → i < 2 ^ 64 → k ≤ max_order → Valid l → any (over i k) l ≡ false → NewStore l i k w
new a b v n = record { valid = v; index_fits = a; order_le = b; is_new = n }

pub returns-then-fits_run : goal.returns-then-fits_run
returns-then-fits_run c =
    λ l w v n e. top_is {w = w} (new c.ranges.index.fits c.requires.order_le_max_order v n) _ _ e c.loop-t.auto.t c.loop-t.invariant
    (sym c.fits_run.ensures ∙ c.if-fits_run.true)

pub returns : goal.returns
returns c =
    λ l w v n e. top_is {w = w} (new c.ranges.index.fits c.requires.order_le_max_order v n) _ _ e
    c.requires.h_le_top_tier (λ x a b. c.loop-t.invariant x a (omega arith))
    (fits_top _ _ c.ranges.index.fits c.requires.order_le_max_order)
