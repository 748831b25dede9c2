-- `leaf_ok`: true only if the slots of node n, of level 0, are as they must be and k of them filled.
use mathlib.Core.Path.{refl}
use Rattle.passes.proofs.LeafLaws.{leaf_filled, leaf_unmarked}
use Rattle.passes.proofs.leaf_ok.Goals as goal

pub returns-then-m-eq0 : goal.returns-then-m-eq0
returns-then-m-eq0 c =
    let g = c.read.ensures c.if-not-read.false in
    λ e. leaf_unmarked _ _ _ _ _ g.bytes g.few g.chained c.all_marks-m.ensures c.if-m-eq0.true _ refl

pub returns-else-m-eq0 : goal.returns-else-m-eq0
returns-else-m-eq0 c =
    let g = c.read.ensures c.if-not-read.false in
    λ e. leaf_filled _ _ _ _ _ g.bytes g.few (c.all_held.ensures e) g.chained c.all_marks-m.ensures _ refl
