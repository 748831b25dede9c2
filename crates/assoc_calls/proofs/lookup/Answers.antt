use Rattle.std.proofs.Common.{arith, ◌≡◌, Some, None, ap, sym, ◌∙◌}
use Rattle.answers.specs.declared.Answer.{Answer}
use Rattle.answers.specs.declared.Answer.TheVariants.{Absent}
use Rattle.answers.specs.Answers.{number_of, result_of}
use Rattle.answers.proofs.ReportLaws.{went_on, handed_on}
use Rattle.assoc_calls.proofs.CallLaws.{sound, is_absent, is_present}
use Rattle.assoc_calls.proofs.lookup.Goals as goal

pub look_bytes-requires : goal.look_bytes-requires
look_bytes-requires c =
    let ok = sym (went_on c.in_ok-check.was c.check.ensures) in
    (sound c.args.pool.now c.args.key.now ok, omega (arith, c.if-key-gt-MAX_KEY.false))

pub returns-in_err-w : goal.returns-in_err-w
returns-in_err-w c =
    let ok = sym (went_on c.in_ok-check.was c.check.ensures) in
    let e : c.look_bytes.result ≡ None = grind arith in
    let f : c.in_err-w.field-0.0 ≡ Absent = grind (arith, c.in_err-w.ensures.value, e) in
    let l = is_absent c.args.pool.now c.args.key.now ok (grind arith) (omega (arith, c.if-key-gt-MAX_KEY.false))
    (c.look_bytes.ensures (sound c.args.pool.now c.args.key.now ok)) e in
    handed_on _ _ c.from_residual-in_err-w.ensures.1 ∙ ap (λ (x : Answer). result_of (number_of x) 0) f ∙ l

pub returns : goal.returns
returns c =
    let ok = sym (went_on c.in_ok-check.was c.check.ensures) in
    let e : c.look_bytes.result ≡ Some c.in_ok-w.w = grind arith in
    is_present c.args.pool.now c.args.key.now ok (grind arith) (omega (arith, c.if-key-gt-MAX_KEY.false)) c.in_ok-w.w
    (c.look_bytes.ensures (sound c.args.pool.now c.args.key.now ok)) e
