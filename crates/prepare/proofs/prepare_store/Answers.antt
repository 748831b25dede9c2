use Rattle.answers.proofs.ReportLaws.{of_refused}
use Rattle.std.proofs.Common.{refl}
use mathlib.Core.Path.{◌≡◌, sym, ◌∙◌}
use mathlib.Core.Bool.{true, false}
use native.Mathlib.Omega.{arith}
use Rattle.answers.specs.Answers.{bad_order, not_aligned, bad_entry}
use Rattle.model.specs.Model.{aligned, storable}
use Rattle.prepare.proofs.PrepareLaws.{gives_refused}
use Rattle.prepare.proofs.StoreLaws.{order_refused, index_refused, word_refused}
use Rattle.prepare.proofs.prepare_store.Goals as goal

pub returns-then-k-gt-MAX_ORDER-clause-fact : goal.returns-then-k-gt-MAX_ORDER-clause-fact
returns-then-k-gt-MAX_ORDER-clause-fact c =
    λ s. (gives_refused bad_order (of_refused _ c.from.ensures refl) (order_refused s c.args.out.now c.args.i c.args.k c.args.w (omega arith))).result_is

pub returns-then-k-gt-MAX_ORDER-clause-fact_2 : goal.returns-then-k-gt-MAX_ORDER-clause-fact_2
returns-then-k-gt-MAX_ORDER-clause-fact_2 c =
    λ s. (gives_refused bad_order (of_refused _ c.from.ensures refl) (order_refused s c.args.out.now c.args.i c.args.k c.args.w (omega arith))).slice_is

pub returns-then-not-is_aligned-clause-fact : goal.returns-then-not-is_aligned-clause-fact
returns-then-not-is_aligned-clause-fact c =
    let al : aligned c.args.k c.args.i ≡ false = sym c.is_aligned.ensures ∙ c.if-not-is_aligned.true in
    λ s. (gives_refused not_aligned (of_refused _ c.from-then-not-is_aligned.ensures refl) (index_refused s c.args.out.now c.args.i c.args.k c.args.w (omega arith) al)).result_is

pub returns-then-not-is_aligned-clause-fact_2 : goal.returns-then-not-is_aligned-clause-fact_2
returns-then-not-is_aligned-clause-fact_2 c =
    let al : aligned c.args.k c.args.i ≡ false = sym c.is_aligned.ensures ∙ c.if-not-is_aligned.true in
    λ s. (gives_refused not_aligned (of_refused _ c.from-then-not-is_aligned.ensures refl) (index_refused s c.args.out.now c.args.i c.args.k c.args.w (omega arith) al)).slice_is

pub returns-then-not-is_storable-clause-fact : goal.returns-then-not-is_storable-clause-fact
returns-then-not-is_storable-clause-fact c =
    let al : aligned c.args.k c.args.i ≡ true = sym c.is_aligned.ensures ∙ c.if-not-is_aligned.false in
    let st : storable c.args.w ≡ false = sym c.is_storable.ensures ∙ c.if-not-is_storable.true in
    λ s. (gives_refused bad_entry (of_refused _ c.from-then-not-is_storable.ensures refl) (word_refused s c.args.out.now c.args.i c.args.k c.args.w (omega arith) al st)).result_is

pub returns-then-not-is_storable-clause-fact_2 : goal.returns-then-not-is_storable-clause-fact_2
returns-then-not-is_storable-clause-fact_2 c =
    let al : aligned c.args.k c.args.i ≡ true = sym c.is_aligned.ensures ∙ c.if-not-is_aligned.false in
    let st : storable c.args.w ≡ false = sym c.is_storable.ensures ∙ c.if-not-is_storable.true in
    λ s. (gives_refused bad_entry (of_refused _ c.from-then-not-is_storable.ensures refl) (word_refused s c.args.out.now c.args.i c.args.k c.args.w (omega arith) al st)).slice_is
