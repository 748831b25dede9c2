-- `further_tables`: the seven tables after it. `tt` is the test of all of them.
use mathlib.Core.Path.{refl}
use Rattle.crc32c.specs.Crc.{bit_step, bit_steps}
use Rattle.crc32c.proofs.TableLaws.{up_to, follow, tables_rule}
use Rattle.crc32c.proofs.further_tables.Goals as goal

pub returns : goal.returns
unfolding bit_step bit_steps up_to follow
returns c =
    tables_rule _ refl tt
