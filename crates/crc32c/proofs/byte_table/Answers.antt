-- `byte_table`: the table of one byte. `tt` is the test of the whole table.
use mathlib.Core.Path.{refl}
use Rattle.crc32c.specs.Crc.{bit_step, bit_steps}
use Rattle.crc32c.proofs.TableLaws.{up_to, follow, table_rule}
use Rattle.crc32c.proofs.byte_table.Goals as goal

pub returns : goal.returns
unfolding bit_step bit_steps up_to follow
returns c =
    table_rule _ refl tt
