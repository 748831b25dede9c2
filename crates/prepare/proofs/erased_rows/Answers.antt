use Prim.Native.Nat.{◌≤◌}
use mathlib.Core.Path.{◌≡◌, subst}
use native.Mathlib.Omega.{arith}
use Rattle.prepare.specs.Entries.{EntryThere}
use Rattle.prepare.proofs.EntryLaws.{order_le, is_aligned_lem, below_head, head_low, path_there_lem}
use Rattle.prepare.proofs.EraseLaws.{entry_stands}
use Rattle.prepare.proofs.erased_rows.Goals as goal

pub returns-then-top-eq0 : goal.returns-then-top-eq0
returns-then-top-eq0 c =
    let e : c.args.top ≡ 0 =
    omega arith in λ s l b v.
    let t : EntryThere s c.args.base c.args.order 0 = subst (EntryThere s c.args.base c.args.order) e (c.requires.entry_there s) in
    c.bare_rows.ensures s c.args.base c.args.order l (path_there_lem s t) (entry_stands s t) b v

pub erase_rows-requires-clause-order_le_max_order : goal.erase_rows-requires-clause-order_le_max_order
erase_rows-requires-clause-order_le_max_order c =
    let p : 1 ≤ c.args.top = omega arith in let s = c.requires.well_formed in let t = c.requires.entry_there s in
    (order_le s t, is_aligned_lem s t, below_head s t p, head_low s t)

pub erase_rows-requires-clause-path_there : goal.erase_rows-requires-clause-path_there
erase_rows-requires-clause-path_there c =
    let p : 1 ≤ c.args.top = omega arith in let s = c.requires.well_formed in let t = c.requires.entry_there s in
    λ s. (path_there_lem s (c.requires.entry_there s), entry_stands s (c.requires.entry_there s))
