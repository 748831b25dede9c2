use native.Mathlib.Omega.{arith}
use Rattle.script_new.proofs.StepLaws.{chain_shown_lem}
use Rattle.script_new.proofs.chain_row.Goals as goal

pub returns-clause-chain_shown : goal.returns-clause-chain_shown
returns-clause-chain_shown c =
    λ l μ ch. chain_shown_lem (omega (arith, c.requires.heads_bound.0)) (omega (arith, c.requires.heads_bound.0)) c.requires.heads_bound.1 ch (c.begin_chain.ensures.chain_final l μ ch)
    c.finish_row.ensures c.shift_word.ensures c.owner_word.ensures
