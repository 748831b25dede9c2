use mathlib.Core.Path.{sym, ◌∙◌}
use native.Mathlib.Omega.{arith}
use Rattle.layout.proofs.RenderWordLaws.{pool_length_lem}
use Rattle.prepare.proofs.KeptLaws.{planned_lt, planned_run, planned_whole, planned_none}
use Rattle.prepare.proofs.kept_marks.Goals as goal

pub run_marks-requires-clause-n_in_bounds : goal.run_marks-requires-clause-n_in_bounds
run_marks-requires-clause-n_in_bounds c =
    omega (arith, pool_length_lem c.requires.well_formed, planned_lt c.requires.well_formed (c.requires.path_planned c.requires.well_formed) c.if-heads.true)

pub returns-then-heads : goal.returns-then-heads
returns-then-heads c =
    λ s. planned_run s (c.requires.path_planned s) c.if-heads.true c.run_marks.ensures

pub returns-then-starts_at_0 : goal.returns-then-starts_at_0
returns-then-starts_at_0 c =
    λ s. planned_whole s (c.requires.path_planned s) c.if-heads.false (sym c.starts_at_0.ensures ∙ c.if-starts_at_0.true)
    c.requires.marks_value c.with_bit.ensures

pub returns : goal.returns
returns c =
    λ s. planned_none s (c.requires.path_planned s) c.if-heads.false (sym c.starts_at_0.ensures ∙ c.if-starts_at_0.false)
