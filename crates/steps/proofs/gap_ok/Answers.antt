-- `gap_ok`: the empty slots from slot j on, where m is the marks.
use Rattle.layout.specs.Pool.{pool_of}
use Rattle.steps.proofs.StepLaws.{rest_marked, step_gap}
use Rattle.steps.proofs.gap_ok.Goals as goal

pub returns-then-not-rest_clear : goal.returns-then-not-rest_clear
returns-then-not-rest_clear c =
    let s = c in
    rest_marked (pool_of s.args.pool.now) s.args.n s.args.v s.args.j s.args.m
    s.requires.fact_5 s.requires.fact_2.0 s.requires.fact_3 _ c.same_slots-g.ensures
    (c.rest_clear.ensures.1 c.if-not-rest_clear.true)

pub returns : goal.returns
returns c =
    let s = c in
    step_gap (pool_of s.args.pool.now) s.args.n s.args.v s.args.j s.args.m
    s.requires.fact_5 s.requires.fact_2.0 s.requires.fact_3 _ c.same_slots-g.ensures s.requires.fact_4
    c.if-m-j-ne0.false (c.rest_clear.ensures.0 c.if-not-rest_clear.false)
