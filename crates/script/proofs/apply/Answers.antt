-- `apply`: all that can be refused is looked at before the first write.
use Rattle.std.proofs.Common.{arith, ◌≡◌, None, ℕ, ap, ◌∙◌}
use Rattle.answers.specs.declared.Answer.{Answer}
use Rattle.answers.specs.declared.Answer.TheVariants.{PoolLength}
use Rattle.answers.specs.Answers.{result_of, number_of}
use Rattle.answers.proofs.ReportLaws.{handed_on}
use Rattle.verify.proofs.AnswerLaws.{not_sized, uncounted}
use Rattle.script.proofs.ApplyLaws.{no_pool}
use Rattle.script.proofs.apply.Goals as goal

pub returns-in_err-ok_or-clause-r_value : goal.returns-in_err-ok_or-clause-r_value
returns-in_err-ok_or-clause-r_value c =
    let e : c.nodes_in.result ≡ None = grind arith in
    let f : c.in_err-ok_or.field-0.0 ≡ PoolLength = grind (arith, c.in_err-ok_or.ensures.value, e) in
    let (a, w) = no_pool c.args.pool.now c.args.script.now (not_sized (uncounted c.nodes_in.ensures e)) in
    handed_on _ _ c.from_residual.ensures.1 ∙ ap (λ (x : Answer). result_of (number_of x) 0) f ∙ ap (λ (r : ℕ). result_of r 0) a

pub returns-in_err-ok_or-clause-pool_after : goal.returns-in_err-ok_or-clause-pool_after
returns-in_err-ok_or-clause-pool_after c =
    let e : c.nodes_in.result ≡ None = grind arith in
    (no_pool c.args.pool.now c.args.script.now (not_sized (uncounted c.nodes_in.ensures e))).1
