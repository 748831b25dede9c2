-- `run_load`: a load, its reply; the slices stay.
use mathlib.Core.Path.{ap, ◌∙◌}
use lib.ListN.{length}
use Rattle.xaplain.specs.Moves.{seen}
use Rattle.xaplain.proofs.CommandLaws.{load_reply_lem}
use Rattle.xaplain.proofs.Entries.run_load.Goals as goal

pub returns : goal.returns
returns c =
    λ h. c.covered_reply.ensures ∙ load_reply_lem (length c.args.self.index.now) h.list c.args.i (c.seen-c.ensures ∙ ap seen (c.covering.ensures h))
