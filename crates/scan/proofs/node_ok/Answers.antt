-- `node_ok`: whether a node is free, or as it must be.
use mathlib.Core.Path.{refl, sym, ◌∙◌}
use native.Mathlib.Omega.{arith}
use Rattle.layout.specs.Pool.{pool_of}
use Rattle.steps.proofs.DecideLaws.{no! }
use Rattle.scan.proofs.NodeLaws.{node_no, node_yes}
use Rattle.scan.proofs.TallyLaws.{used_count, filled_used, plain_slots_lem}
use Rattle.scan.proofs.node_ok.Goals as goal

pub returns-then-k-eq0 : goal.returns-then-k-eq0
returns-then-k-eq0 c =
    no! (node_no _ _ _ _ c.shift_of-s.ensures c.if-s-eq0.false refl (λ l. l)
    (λ l. used_count (pool_of c.args.pool.now) c.args.n l.used (sym l.filled_is ∙ (sym c.filled_of-k.ensures ∙ c.if-k-eq0.true))))

pub returns-in_default : goal.returns-in_default
returns-in_default c =
    node_yes _ _ _ _ c.shift_of-s.ensures c.if-s-eq0.false refl _ _
    c.if-s-ne0.false (omega arith)
    (c.owned.ensures.0 c.if-not-owned.false)
    c.filled_of-k.ensures (filled_used _ _ _ _ c.if-k-eq0.false) c.slots_ok.ensures

pub returns-then-c-k : goal.returns-then-c-k
returns-then-c-k c =
    node_yes _ _ _ _ c.shift_of-s.ensures c.if-s-eq0.false refl _ _
    c.if-s-ne0.false (omega arith)
    (c.owned.ensures.0 c.if-not-owned.false)
    c.filled_of-k.ensures (filled_used _ _ _ _ c.if-k-eq0.false)
    (plain_slots_lem _ _ _ _ _ _ c.in-Some.ensures (omega arith) c.plain_ok.ensures)
