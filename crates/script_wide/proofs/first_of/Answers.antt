use mathlib.Core.Path.{sym, ◌∙◌}
use native.Mathlib.Omega.{arith}
use Rattle.script_wide.proofs.ClimbLaws.{at_fits, at_small, owner_tier, climb_end, climb_fits, climb_up}
use Rattle.script_wide.proofs.first_of.Goals as goal

pub owner_of-p-requires : goal.owner_of-p-requires
owner_of-p-requires c =
    let k = c.loop-m.invariant c.requires.well_formed (c.requires.stands c.requires.well_formed).block (c.requires.stands c.requires.well_formed).at in
    (at_fits c.requires.well_formed k.at).0

pub returns-then-p-eq0 : goal.returns-then-p-eq0
returns-then-p-eq0 c =
    λ s b a. climb_end s (c.loop-m.invariant s b a) (sym c.owner_of-p.ensures ∙ c.if-p-eq0.true)

pub overflow_mul-t : goal.overflow_mul-t
overflow_mul-t c =
    let k = c.loop-m.invariant c.requires.well_formed (c.requires.stands c.requires.well_formed).block (c.requires.stands c.requires.well_formed).at in omega (arith, (at_fits c.requires.well_formed k.at).2)

pub pow2-requires : goal.pow2-requires
pow2-requires c =
    let k = c.loop-m.invariant c.requires.well_formed (c.requires.stands c.requires.well_formed).block (c.requires.stands c.requires.well_formed).at in
    omega (arith, owner_tier c.requires.well_formed k.at c.owner_of-p.ensures c.if-p-eq0.false)

pub overflow_mul-x : goal.overflow_mul-x
overflow_mul-x c =
    let k = c.loop-m.invariant c.requires.well_formed (c.requires.stands c.requires.well_formed).block (c.requires.stands c.requires.well_formed).at in
    let f = climb_fits c.requires.well_formed k c.owner_of-p.ensures c.if-p-eq0.false in
    rw c.pow2.ensures (omega (arith, f, at_small c.requires.well_formed (c.requires.stands c.requires.well_formed).at))

pub overflow_add-x : goal.overflow_add-x
overflow_add-x c =
    let k = c.loop-m.invariant c.requires.well_formed (c.requires.stands c.requires.well_formed).block (c.requires.stands c.requires.well_formed).at in
    let f = climb_fits c.requires.well_formed k c.owner_of-p.ensures c.if-p-eq0.false in
    rw c.pow2.ensures (omega (arith, f, at_small c.requires.well_formed (c.requires.stands c.requires.well_formed).at))

pub overflow_add-t : goal.overflow_add-t
overflow_add-t c =
    let k = c.loop-m.invariant c.requires.well_formed (c.requires.stands c.requires.well_formed).block (c.requires.stands c.requires.well_formed).at in omega (arith, (at_fits c.requires.well_formed k.at).2)

pub loop-m-smaller : goal.loop-m-smaller
loop-m-smaller c =
    let k = c.loop-m.invariant c.requires.well_formed (c.requires.stands c.requires.well_formed).block (c.requires.stands c.requires.well_formed).at in
    omega (arith, owner_tier c.requires.well_formed k.at c.owner_of-p.ensures c.if-p-eq0.false)

pub loop-m-preserved : goal.loop-m-preserved
loop-m-preserved c =
    λ s b a.
    rw c.pow2.ensures (climb_up s (c.loop-m.invariant s b a) c.owner_of-p.ensures c.if-p-eq0.false)
