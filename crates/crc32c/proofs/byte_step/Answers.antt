-- `byte_step`: the register after one byte.
use Rattle.std.proofs.Common.{sym, ap, ◌∙◌}
use Rattle.crc32c.specs.Crc.{byte_step}
use Rattle.crc32c.proofs.TableLaws.{byte_by_table}
use Rattle.crc32c.proofs.byte_step.Goals as goal

pub returns : goal.returns
returns c =
    sym (byte_by_table c.args.t.now c.requires c.args.c c.from.result)
    ∙ ap (byte_step c.args.c) c.from.ensures
