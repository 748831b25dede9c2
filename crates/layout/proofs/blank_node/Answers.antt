-- `blank_node`: whether every word of node n is 0.
use Rattle.layout.proofs.PassLaws.{free_decides}
use Rattle.layout.proofs.blank_node.Goals as goal

pub returns : goal.returns
returns c =
    free_decides c.args.pool.now c.args.n _ c.blank.ensures
