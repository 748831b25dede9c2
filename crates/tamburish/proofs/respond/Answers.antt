use Rattle.std.proofs.Common.{arith, ap, sym, ◌∙◌, Ok, Err, ◌≡◌, ℕ, subst, refl}
use Rattle.answers.specs.Answers.{report_of}
use Rattle.answers.proofs.ReportLaws.{not_done}
use Rattle.tamburish.specs.Program.{refusal_over, max_input}
use Rattle.tamburish.proofs.ProgramLaws.{has_room, long, did, said}
use Rattle.tamburish.proofs.respond.Goals as goal

pub returns-then-batch-gt-MAX_INPUT-clause-value : goal.returns-then-batch-gt-MAX_INPUT-clause-value
returns-then-batch-gt-MAX_INPUT-clause-value c =
    (long c.args.pool.now c.args.batch.now c.args.reply.now (omega (arith, c.if-batch-gt-MAX_INPUT.true)) c.requires c.refusal.ensures.value
    (c.refusal.ensures.reply_after ∙ ap (λ (k : ℕ). refusal_over k max_input c.args.reply.now) c.number.ensures)).0

pub returns-then-batch-gt-MAX_INPUT-clause-reply_after : goal.returns-then-batch-gt-MAX_INPUT-clause-reply_after
returns-then-batch-gt-MAX_INPUT-clause-reply_after c =
    (long c.args.pool.now c.args.batch.now c.args.reply.now (omega (arith, c.if-batch-gt-MAX_INPUT.true)) c.requires c.refusal.ensures.value
    (c.refusal.ensures.reply_after ∙ ap (λ (k : ℕ). refusal_over k max_input c.args.reply.now) c.number.ensures)).1.1.0

pub returns-then-batch-gt-MAX_INPUT-clause-pool_after : goal.returns-then-batch-gt-MAX_INPUT-clause-pool_after
returns-then-batch-gt-MAX_INPUT-clause-pool_after c =
    (long c.args.pool.now c.args.batch.now c.args.reply.now (omega (arith, c.if-batch-gt-MAX_INPUT.true)) c.requires c.refusal.ensures.value
    (c.refusal.ensures.reply_after ∙ ap (λ (k : ℕ). refusal_over k max_input c.args.reply.now) c.number.ensures)).1.1.1

pub returns-in-Err-clause-value : goal.returns-in-Err-clause-value
returns-in-Err-clause-value c =
    let w = sym (ap report_of c.in-Err.is) ∙ c.run.ensures.value in
    (said c.args.pool.now c.init.new.pool c.args.batch.now c.args.reply.now (omega (arith, c.if-batch-gt-MAX_INPUT.false)) c.init.ensures.pool_after
    w c.run.ensures.pool_after c.run.ensures.reply_after (not_done c.in-Err.r.answer) c.requires
    c.refusal-in-Err.ensures.value (c.refusal-in-Err.ensures.reply_after ∙ ap (λ (k : ℕ). refusal_over k c.in-Err.r.number c.run.new.reply) c.number-in-Err.ensures)).0

pub returns-in-Err-clause-reply_after : goal.returns-in-Err-clause-reply_after
returns-in-Err-clause-reply_after c =
    let w = sym (ap report_of c.in-Err.is) ∙ c.run.ensures.value in
    (said c.args.pool.now c.init.new.pool c.args.batch.now c.args.reply.now (omega (arith, c.if-batch-gt-MAX_INPUT.false)) c.init.ensures.pool_after
    w c.run.ensures.pool_after c.run.ensures.reply_after (not_done c.in-Err.r.answer) c.requires
    c.refusal-in-Err.ensures.value (c.refusal-in-Err.ensures.reply_after ∙ ap (λ (k : ℕ). refusal_over k c.in-Err.r.number c.run.new.reply) c.number-in-Err.ensures)).1.1.0

pub returns-in-Err-clause-pool_after : goal.returns-in-Err-clause-pool_after
returns-in-Err-clause-pool_after c =
    let w = sym (ap report_of c.in-Err.is) ∙ c.run.ensures.value in
    (said c.args.pool.now c.init.new.pool c.args.batch.now c.args.reply.now (omega (arith, c.if-batch-gt-MAX_INPUT.false)) c.init.ensures.pool_after
    w c.run.ensures.pool_after c.run.ensures.reply_after (not_done c.in-Err.r.answer) c.requires
    c.refusal-in-Err.ensures.value (c.refusal-in-Err.ensures.reply_after ∙ ap (λ (k : ℕ). refusal_over k c.in-Err.r.number c.run.new.reply) c.number-in-Err.ensures)).1.1.1

pub overflow_mul-result : goal.overflow_mul-result
overflow_mul-result c =
    let h = has_room _ _ _ (sym (ap report_of c.in-Ok.is) ∙ c.run.ensures.value) refl in
    record { fits = omega (arith, h, c.well_formed) }

pub returns-in-Ok-clause-value : goal.returns-in-Ok-clause-value
returns-in-Ok-clause-value c =
    let w = sym (ap report_of c.in-Ok.is) ∙ c.run.ensures.value in
    (did c.args.pool.now c.init.new.pool c.args.batch.now c.args.reply.now (omega (arith, c.if-batch-gt-MAX_INPUT.false)) c.init.ensures.pool_after
    w c.run.ensures.pool_after c.run.ensures.reply_after refl).0

pub returns-in-Ok-clause-upper_bound : goal.returns-in-Ok-clause-upper_bound
returns-in-Ok-clause-upper_bound c =
    let w = sym (ap report_of c.in-Ok.is) ∙ c.run.ensures.value in
    (did c.args.pool.now c.init.new.pool c.args.batch.now c.args.reply.now (omega (arith, c.if-batch-gt-MAX_INPUT.false)) c.init.ensures.pool_after
    w c.run.ensures.pool_after c.run.ensures.reply_after refl).1.0

pub returns-in-Ok-clause-reply_after : goal.returns-in-Ok-clause-reply_after
returns-in-Ok-clause-reply_after c =
    let w = sym (ap report_of c.in-Ok.is) ∙ c.run.ensures.value in
    (did c.args.pool.now c.init.new.pool c.args.batch.now c.args.reply.now (omega (arith, c.if-batch-gt-MAX_INPUT.false)) c.init.ensures.pool_after
    w c.run.ensures.pool_after c.run.ensures.reply_after refl).1.1.0

pub returns-in-Ok-clause-pool_after : goal.returns-in-Ok-clause-pool_after
returns-in-Ok-clause-pool_after c =
    let w = sym (ap report_of c.in-Ok.is) ∙ c.run.ensures.value in
    (did c.args.pool.now c.init.new.pool c.args.batch.now c.args.reply.now (omega (arith, c.if-batch-gt-MAX_INPUT.false)) c.init.ensures.pool_after
    w c.run.ensures.pool_after c.run.ensures.reply_after refl).1.1.1
