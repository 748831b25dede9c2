-- Too few nodes by the plan, or what is written by it.
use Prim.Native.Nat.{ℕ}
use mathlib.Core.Path.{refl, sym, subst}
use mathlib.Core.List.{List}
use native.Mathlib.Omega.{arith}
use Rattle.freenodes.specs.FreeNodes.{FreeMap}
use Rattle.store.proofs.OutcomeLaws.{prepared}
use Rattle.store.proofs.store_nodes.Goals as goal

pub returns-then-not-enough-clause-stores_new : goal.returns-then-not-enough-clause-stores_new
returns-then-not-enough-clause-stores_new c =
    let no = c.if-not-enough.true in
    λ s. record {
      done = λ e. absurd (omega (arith, (c.plan-enough.ensures s).short no));
      short = λ e. (refl, refl);
    }

pub returns-then-not-enough-clause-free_map : goal.returns-then-not-enough-clause-free_map
returns-then-not-enough-clause-free_map c =
    let no = c.if-not-enough.true in
    subst (λ (ms : List ℕ). FreeMap c.args.pool.now ms) (sym ((c.plan-enough.ensures c.requires.well_formed).same no)) c.requires.storable.1

pub write_new-requires-clause-prepared : goal.write_new-requires-clause-prepared
write_new-requires-clause-prepared c =
    λ s. prepared (c.requires.known s).0 (c.requires.known s).1 (c.plan-enough.ensures s) c.if-not-enough.false
