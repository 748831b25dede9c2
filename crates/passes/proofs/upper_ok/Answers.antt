-- `upper_ok`: true only if the slots of node n, of a level between leaves and top, are as they must be and k of them filled.
use Prim.Native.Nat.{◌+◌}
use mathlib.Core.Path.{◌≡◌, refl}
use native.Mathlib.Omega.{arith}
use lib.ListN.{length}
use borrow.Author.Tests.{eqb-false}
use Rattle.passes.proofs.LeafLaws.{lead_none, upper_filled}
use Rattle.passes.proofs.upper_ok.Goals as goal

pub returns-then-not-contains : goal.returns-then-not-contains
returns-then-not-contains c =
    let g = c.read.ensures c.if-not-read.false in
    let s : length c.read.new.a ≡ 66 = g.bytes.framed.size in
    λ e. upper_filled _ _ _ _ _ _ g.bytes g.few
    c.requires.fact_2 (c.all_held.ensures c.if-all_held.true)
    (lead_none _ _ _ _ _ g.bytes (λ i lt q. eqb-false _ 5 (c.if-not-contains.ensures.cases (i + 1) 0 (omega arith) (omega arith)) q))
    g.chained c.all_marks.ensures _ refl

pub returns-else-not-contains : goal.returns-else-not-contains
returns-else-not-contains c =
    let g = c.read.ensures c.if-not-read.false in
    λ e. upper_filled _ _ _ _ _ _ g.bytes g.few
    c.requires.fact_2 (c.all_held.ensures c.if-all_held.true)
    (c.children_ok.ensures e)
    g.chained c.all_marks.ensures _ refl
