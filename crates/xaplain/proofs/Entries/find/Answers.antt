use Prim.Native.Nat.{◌+◌, ◌≤◌}
use mathlib.Core.Path.{ap}
use native.Mathlib.Omega.{arith}
use Rattle.model.specs.declared.Entry.{Entry}
use Rattle.xaplain.proofs.FindLaws.{before_start, passed, found_past, found_hit, find_past, find_none}
use Rattle.xaplain.proofs.Entries.find.Goals as goal

pub loop-k-init : goal.loop-k-init
loop-k-init c =
    let s = c.start-k.ensures in
    (s.within, s.after, (λ h j g. before_start h c.args.f c.args.a c.args.z c.start-k.result s j g))

pub returns-then-z-self : goal.returns-then-z-self
returns-then-z-self c =
    λ h. find_past h c.args.f c.args.a c.args.z c.loop-k.k (c.loop-k.invariant.2 h) c.loop-k-test.true c.if-z-self.true

pub returns-then-z-e : goal.returns-then-z-e
returns-then-z-e c =
    let k = c.loop-k.k in
    λ h. found_past h c.args.f c.args.a c.args.z k (k + c.min.result) c.in-Some.j (omega (arith, c.min.ensures)) (c.loop-k.invariant.2 h)
    c.in-Some.ensures (omega (arith, ap (λ (x : Entry). x.base) c.entry_at-e.ensures, c.if-z-e.true))

pub returns-in-Some : goal.returns-in-Some
returns-in-Some c =
    let k = c.loop-k.k in
    λ h. found_hit h c.args.f c.args.a c.args.z k (k + c.min.result) c.in-Some.j (omega (arith, c.min.ensures)) (c.loop-k.invariant.2 h)
    c.in-Some.ensures c.loop-k.invariant.1 c.entry_at-e.result c.entry_at-e.ensures c.if-z-e.false

pub loop-k-preserved : goal.loop-k-preserved
loop-k-preserved c =
    let k = c.loop-k.k in
    let g : k + c.min.result ≤ c.args.n = omega (arith, c.min.ensures, c.loop-k-test.true) in (
      g,
      (λ j l u. c.loop-k.invariant.1 j (omega arith) u),
      (λ h. passed h c.args.f c.args.a c.args.z k (k + c.min.result) g (c.loop-k.invariant.2 h) c.in_default.ensures),
    )

pub returns : goal.returns
returns c =
    λ h. find_none h c.args.f c.args.a c.args.z c.loop-k.k (c.loop-k.invariant.2 h) c.loop-k-test.false
