use Rattle.answers.proofs.ReportLaws.{of_refused}
use Rattle.std.proofs.Common.{refl}
use mathlib.Core.Path.{sym, ◌∙◌}
use native.Mathlib.Omega.{arith}
use Rattle.answers.specs.Answers.{too_few_nodes}
use Rattle.plan.proofs.AfterStoreLaws.{new_store}
use Rattle.prepare.proofs.PrepareLaws.{gives_same, gives_refused}
use Rattle.prepare.proofs.PutLaws.{target_flat, target_short}
use Rattle.prepare.proofs.prepare_new.Goals as goal

pub returns-then-heads-eq0-clause-fact : goal.returns-then-heads-eq0-clause-fact
returns-then-heads-eq0-clause-fact c =
    λ s. (gives_same (target_flat s c.requires.storable.0 c.requires.storable.1 c.args.out.now (c.requires.list_value s)
    (sym (c.heads_of-heads.ensures.fact_2 s (c.requires.list_value s)).1 ∙ c.if-heads-eq0.true))
    (record { result_is = c.head_script.ensures.fact s; slice_is = c.head_script.ensures.fact_2 s })).result_is

pub returns-then-heads-eq0-clause-fact_2 : goal.returns-then-heads-eq0-clause-fact_2
returns-then-heads-eq0-clause-fact_2 c =
    λ s. (gives_same (target_flat s c.requires.storable.0 c.requires.storable.1 c.args.out.now (c.requires.list_value s)
    (sym (c.heads_of-heads.ensures.fact_2 s (c.requires.list_value s)).1 ∙ c.if-heads-eq0.true))
    (record { result_is = c.head_script.ensures.fact s; slice_is = c.head_script.ensures.fact_2 s })).slice_is

pub returns-then-not-enough-clause-fact : goal.returns-then-not-enough-clause-fact
returns-then-not-enough-clause-fact c =
    let no = c.if-not-enough.true in
    λ s. (gives_refused too_few_nodes (of_refused _ c.from.ensures refl) (target_short s c.requires.storable.0 c.requires.storable.1 c.args.out.now (c.requires.list_value s)
    ((c.plan-enough.ensures s).short no))).result_is

pub returns-then-not-enough-clause-fact_2 : goal.returns-then-not-enough-clause-fact_2
returns-then-not-enough-clause-fact_2 c =
    let no = c.if-not-enough.true in
    λ s. (gives_refused too_few_nodes (of_refused _ c.from.ensures refl) (target_short s c.requires.storable.0 c.requires.storable.1 c.args.out.now (c.requires.list_value s)
    ((c.plan-enough.ensures s).short no))).slice_is

pub new_script-requires-clause-new_planned : goal.new_script-requires-clause-new_planned
new_script-requires-clause-new_planned c =
    let yes = c.if-not-enough.false in
    λ s. record {
      known = record {
        new = new_store s.valid c.requires.storable.0 (c.requires.list_value s);
        h_is = (c.heads_of-heads.ensures.fact_2 s (c.requires.list_value s)).0;
        top_is = (c.heads_of-heads.ensures.fact_2 s (c.requires.list_value s)).1;
        some_node = omega (arith, c.if-heads-eq0.false);
      };
      enough = (c.plan-enough.ensures s).enough yes;
      plan = (c.plan-enough.ensures s).plan yes;
    }
