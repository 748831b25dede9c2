-- `read`: what the bytes of a node show.
use mathlib.Core.Path.{subst}
use native.Mathlib.Omega.{arith}
use Prim.Native.Nat.{ℕ}
use Rattle.layout.specs.Pool.{pool_of}
use Rattle.tree.specs.Tree.{slots}
use Rattle.passes.specs.Bytes.{byte_by, large_at, Bytes}
use Rattle.passes.proofs.read.Goals as goal

pub returns-then-c-k : goal.returns-then-c-k
returns-then-c-k g c =
    let h = c.in-Some.ensures in
    λ e. record {
      few = omega (arith, h.0, c.if-c-k.true);
      bytes = subst (λ (x : ℕ). Bytes (byte_by g.row.T) (large_at g.row.T) (pool_of c.args.pool.now) c.args.n slots c.bytes_of.new.a x)
          c.if-c-k.true (h.1 _ _ c.shorts_of.ensures);
      chained = c.faultless.ensures e;
    }
