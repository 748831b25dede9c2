-- `compare`: whether two regions match.
use mathlib.Core.Path.{◌≡◌, refl, sym, ◌∙◌}
use mathlib.Core.Bool.{true, false}
use lib.Dec.{eqb}
use lib.ListN.{length}
use Rattle.blocks.proofs.BoolLaws.{either_yes}
use Rattle.region.specs.Region.{any_empty}
use Rattle.region.proofs.RegionLaws.{some_empty, are_equal, not_equal, pointwise_equal}
use Rattle.region.proofs.compare.Goals.{then-is_empty-via-then-is_empty, then-is_empty-via-else-is_empty+then-is_empty-2}
use Rattle.region.proofs.compare.Goals as goal

pub returns-then-is_empty : goal.returns-then-is_empty
returns-then-is_empty c =
    let t : any_empty c.args.old.now c.args.new.now ≡ true = elim c.then-is_empty.branch [
      | then-is_empty-via-then-is_empty w ↦ rw (sym c.is_empty.ensures ∙ w.if-is_empty.true) refl
      | then-is_empty-via-else-is_empty+then-is_empty-2 w ↦ rw (sym w.is_empty-else-is_empty.ensures ∙ w.if-is_empty-2.true) (either_yes (eqb (length c.args.old.now) 0))
    ] in
    sym (some_empty _ _ t)

pub returns-then-eq : goal.returns-then-eq
returns-then-eq c =
    let f : any_empty c.args.old.now c.args.new.now ≡ false =
    rw (sym c.is_empty.ensures ∙ c.if-is_empty.false) (sym c.is_empty-else-is_empty.ensures ∙ c.if-is_empty-2.false) in
    sym (are_equal _ _ f (sym (pointwise_equal c.args.old.now c.args.new.now) ∙ sym c.eq.ensures ∙ c.if-eq.true))

pub returns : goal.returns
returns c =
    let f : any_empty c.args.old.now c.args.new.now ≡ false =
    rw (sym c.is_empty.ensures ∙ c.if-is_empty.false) (sym c.is_empty-else-is_empty.ensures ∙ c.if-is_empty-2.false) in
    sym (not_equal _ _ f (sym (pointwise_equal c.args.old.now c.args.new.now) ∙ sym c.eq.ensures ∙ c.if-eq.false))
