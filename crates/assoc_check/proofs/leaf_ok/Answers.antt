use mathlib.Core.Path.{sym, ap, ◌∙◌}
use Rattle.model.specs.Model.{storable}
use native.Mathlib.Omega.{arith}
use Rattle.assoc_keys.specs.Number.{Words}
use Rattle.assoc_check.proofs.BlockOkLaws.{leaf_decides}
use Rattle.assoc_check.proofs.leaf_ok.Goals as goal

pub returns : goal.returns
returns c =
    let fit : Words c.args.pool.now = λ i. omega (arith, c.type_inv.pool i) in
    λ n. leaf_decides c.args.pool.now n c.args.m _ fit c.requires.1 (sym c.field.ensures ∙ c.if-field-ne0.false)
    (sym (ap storable c.field-2.ensures) ∙ sym c.is_storable.ensures ∙ c.if-not-is_storable.false)
    (c.key_ok.ensures.0 c.if-not-key_ok.false) c.blank.ensures
