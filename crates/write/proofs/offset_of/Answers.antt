-- `offset_of`: the first slot of an entry in its node.
use Prim.Native.Nat.{ℕ, ◌+◌, ◌≤◌, ◌%◌}
use mathlib.Core.Path.{◌≡◌, ap, subst, sym, ◌∙◌}
use Rattle.tree.specs.Tree.{slots}
use Rattle.write.specs.Writes.{width, offset}
use Rattle.write.proofs.RunLaws.{run_fits, offset_own}
use Rattle.write.proofs.offset_of.Goals as goal

pub returns : goal.returns
returns c =
    let e : c.block_of.result % slots ≡ offset c.args.target.index c.args.target.order =
    ap (λ (x : ℕ). x % slots) c.block_of.ensures ∙ offset_own c.args.target.index c.args.target.order c.requires.is_aligned_lem in (
      e,
      subst (λ (y : ℕ). y + width c.args.target.order ≤ slots) (sym e) (run_fits c.args.target.index c.args.target.order),
    )
