-- `unmatch`: a mark that is clear stays so, else it is cleared.
use mathlib.Core.Path.{◌≡◌, sym, ap, ◌∙◌}
use mathlib.Core.List.{List}
use mathlib.Core.Option.{Option}
use native.Mathlib.Omega.{arith}
use Rattle.batch.specs.Reply.{store_reply}
use Rattle.blocks.specs.Blocks.{bit}
use Rattle.model.specs.declared.Entry.{Entry}
use Rattle.model.specs.Model.{matched_mark, covering, covered}
use Rattle.layout.specs.Places.{render}
use Rattle.marks.proofs.RemarkLaws.{remark_clear}
use Rattle.commands.specs.Replies.{covered_reply}
use Rattle.execute.proofs.ReplyLaws.{unmarked_words, unmarked_reply}
use Rattle.execute.proofs.TableLaws.{present_cleared}
use Rattle.execute.proofs.unmatch.Goals as goal

pub returns-then-e-eq1-clause-value : goal.returns-then-e-eq1-clause-value
returns-then-e-eq1-clause-value c =
    let z : bit matched_mark c.args.e.marks ≡ 1 = omega arith in
    (λ s q. unmarked_reply s _ matched_mark (omega arith)
    (present_cleared s.list s.valid c.args.index matched_mark q z) (c.run_remark-r.ensures.executes s))

pub returns-then-e-eq1-clause-pool_after : goal.returns-then-e-eq1-clause-pool_after
returns-then-e-eq1-clause-pool_after c =
    let z : bit matched_mark c.args.e.marks ≡ 1 = omega arith in
    λ s q. unmarked_words s _ matched_mark (omega arith) (c.run_remark-r.ensures.executes s)

pub returns-clause-value : goal.returns-clause-value
returns-clause-value c =
    let z : bit matched_mark c.args.e.marks ≡ 0 = omega arith in
    (λ s q. c.answered_by.ensures
    ∙ sym (ap (λ (l : List Entry). covered_reply store_reply (covered (covering l c.args.index)))
    (remark_clear c.args.index matched_mark s.valid q z) ∙ ap (λ (o : Option Entry). covered_reply store_reply (covered o)) q))

pub returns-clause-pool_after : goal.returns-clause-pool_after
returns-clause-pool_after c =
    let z : bit matched_mark c.args.e.marks ≡ 0 = omega arith in
    λ s q. s.words_are
    ∙ ap (λ (l : List Entry). render l s.places s.n) (sym (remark_clear c.args.index matched_mark s.valid q z))
