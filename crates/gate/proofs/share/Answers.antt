-- `share`: one division.
use Rattle.gate.specs.Gate.{share}
use mathlib.Core.Path.{refl}
use Rattle.gate.proofs.share.Goals as goal

pub returns : goal.returns
unfolding share
returns c =
    refl
