use mathlib.Core.Path.{sym, ap, ◌∙◌}
use native.Mathlib.Omega.{arith}
use Prim.Native.Nat.{◌+◌, ◌^◌}
use lib.Dec.{ltb}
use Rattle.model.specs.declared.Entry.{Entry}
use Rattle.xaplain.proofs.PlainLaws.{holds_rises, order_at, entry_ok}
use Rattle.xaplain.proofs.FindLaws.{start_none, start_here, start_next}
use Rattle.xaplain.proofs.Entries.start.Goals.{else-k-n-via-then-k-n+else-not-reaches, else-k-n-via-else-k-n}
use Rattle.xaplain.proofs.Entries.start.Goals as goal

pub begin-k-requires-clause-rising : goal.begin-k-requires-clause-rising
begin-k-requires-clause-rising c = holds_rises c.requires

pub reaches-requires : goal.reaches-requires
reaches-requires c =
    let h = c.requires in let k = c.begin-k.result in let g = c.if-k-n.true in
    omega (arith, ap (λ (x : Entry). x.order) c.entry_at.ensures, order_at h k g, (entry_ok h k g).order_le)

pub returns-then-not-reaches : goal.returns-then-not-reaches
returns-then-not-reaches c =
    start_next c.requires c.args.a c.begin-k.result c.begin-k.ensures c.if-k-n.true
    (ap (λ (e : Entry). ltb c.args.a (e.base + 2 ^ e.order)) (sym c.entry_at.ensures) ∙ sym c.reaches.ensures ∙ c.if-not-reaches.true)

pub returns-else-k-n : goal.returns-else-k-n
returns-else-k-n c = elim c.else-k-n.branch [
  | else-k-n-via-then-k-n+else-not-reaches w ↦ start_here c.requires c.args.a c.begin-k.result c.begin-k.ensures
      (ap (λ (e : Entry). ltb c.args.a (e.base + 2 ^ e.order)) (sym w.entry_at.ensures) ∙ sym w.reaches.ensures ∙ w.if-not-reaches.false)
  | else-k-n-via-else-k-n w ↦ start_none c.requires c.args.a c.begin-k.result c.begin-k.ensures w.if-k-n.false
]
