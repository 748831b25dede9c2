-- `release`: the map follows the one node.
use Rattle.freenodes.proofs.FollowLaws.{follows_cleared}
use Rattle.freenodes.proofs.release.Goals as goal

pub returns-clause-follows : goal.returns-clause-follows
returns-clause-follows c =
    let r = c in let g = r in let t = g in
    let z = t in
    follows_cleared z.args.n t.shift_of.result z.requires.n_in_bounds t.shift_of.ensures r.clear_node.ensures
    g.give_used.ensures
