use native.Mathlib.Omega.{arith}
use Rattle.assoc_keys.specs.Number.{Words}
use Rattle.assoc_check.proofs.NamedLaws.{pool_decides}
use Rattle.assoc_check.proofs.pool_ok.Goals as goal

pub all_named-requires : goal.all_named-requires
all_named-requires c =
    (c.requires.sized.0, record { set = _; is = c.mark_ref.ensures _ (c.blocks_ok.ensures.set_of_2 c.if-not-blocks_ok.false).0 })

pub returns-clause-decides : goal.returns-clause-decides
returns-clause-decides c =
    let fit : Words c.args.pool.now = λ i. omega (arith, c.type_inv.pool i) in
    let ok = c.if-not-blocks_ok.false in
    pool_decides c.args.pool.now c.args.n _ fit c.requires.sized.0 c.requires.sized.1 c.if-pool-n.false (c.blocks_ok.ensures.decides.0 ok)
    (c.root_ok.ensures.0 c.if-not-root_ok.false) (c.all_named.ensures _ (c.mark_ref.ensures _ (c.blocks_ok.ensures.set_of_2 ok).0))
