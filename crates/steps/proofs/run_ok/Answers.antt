-- `run_ok`: the slots that the entry in slot j takes, where m is the marks.
use Prim.Native.Nat.{ℕ}
use mathlib.Core.Path.{subst}
use Rattle.layout.specs.Pool.{pool_of}
use Rattle.steps.specs.Steps.{SameSlots}
use Rattle.steps.proofs.StepLaws.{step_marked, step_run}
use Rattle.steps.proofs.RunLaws.{fits_of, fits_run_lem, fits_held}
use Rattle.steps.proofs.run_ok.Goals as goal

pub returns-then-not-run_fits : goal.returns-then-not-run_fits
returns-then-not-run_fits c =
    let s = c in
    let P = pool_of s.args.pool.now in
    let q = subst (λ (w : ℕ). SameSlots P s.args.n s.args.j w c.same_slots-p.result)
    c.sibling_word.ensures c.same_slots-p.ensures in
    λ k. c.run_fits.ensures.1 c.if-not-run_fits.true
    (fits_of P s.args.n s.args.v s.args.j _ s.requires.fact_2.0 q s.requires.fact_5 k)

pub returns-then-not-rest_clear : goal.returns-then-not-rest_clear
returns-then-not-rest_clear c =
    let s = c in
    let P = pool_of s.args.pool.now in
    let q = subst (λ (w : ℕ). SameSlots P s.args.n s.args.j w c.same_slots-p.result)
    c.sibling_word.ensures c.same_slots-p.ensures in
    let f = c.run_fits.ensures.0 c.if-not-run_fits.false in
    step_marked P s.args.n s.args.v s.args.j s.requires.fact_5 s.requires.fact_2.0 _ s.args.m
    (fits_run_lem P s.args.n s.args.v s.args.j _ s.requires.fact_2.0 q f)
    (fits_held P s.args.n s.args.v s.args.j _ s.requires.fact_2.0 q s.requires.fact_2.1 f) s.requires.fact_3
    (c.rest_clear.ensures.1 c.if-not-rest_clear.true)

pub returns : goal.returns
returns c =
    let s = c in
    let P = pool_of s.args.pool.now in
    let q = subst (λ (w : ℕ). SameSlots P s.args.n s.args.j w c.same_slots-p.result)
    c.sibling_word.ensures c.same_slots-p.ensures in
    let f = c.run_fits.ensures.0 c.if-not-run_fits.false in
    step_run P s.args.n s.args.v s.args.j s.requires.fact_5 s.requires.fact_2.0 _ s.args.m
    (fits_run_lem P s.args.n s.args.v s.args.j _ s.requires.fact_2.0 q f)
    (fits_held P s.args.n s.args.v s.args.j _ s.requires.fact_2.0 q s.requires.fact_2.1 f) s.requires.fact_3 s.requires.fact_4
    (c.rest_clear.ensures.0 c.if-not-rest_clear.false)
