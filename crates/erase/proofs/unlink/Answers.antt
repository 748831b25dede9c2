-- `unlink`: frees node n, and empties slot o of node m, which leads to it.
use native.Mathlib.Omega.{arith}
use Rattle.erase.proofs.FreedLaws.{unlinked}
use Rattle.erase.proofs.unlink.Goals as goal

pub returns : goal.returns
returns c =
    unlinked _ _ _ _ c.requires.n_bound c.requires.m_bound c.requires.o_lt_slots (omega (arith, c.requires.bound)) c.uncount.ensures
    c.put_slot.ensures c.clear_node.ensures
