use Rattle.xaplain.specs.Stores.{smaller}
use Rattle.xaplain.proofs.Entries.larger.Goals as goal

pub returns-else-k-self : goal.returns-else-k-self
returns-else-k-self c = smaller c.in_ok-j.j c.in_ok-j.ensures c.if-k-self.false
