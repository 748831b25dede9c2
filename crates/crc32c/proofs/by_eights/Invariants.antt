-- `by_eights`: what is left, from the register so far, comes to the same.
use Rattle.std.proofs.Common.{◌≡◌, ◌*◌, drop}
use Rattle.crc32c.specs.Crc.{register}
use Rattle.crc32c.proofs.by_eights.Given as goal

abbrev pub invariant-loop-part : goal.invariant-loop-part
invariant-loop-part l = register l.c (drop (l.part-index * 8) l.s) ≡ register l.fn.c l.s
