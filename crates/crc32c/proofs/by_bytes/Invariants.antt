-- `by_bytes`: what is left, from the register so far, comes to the same.
use Rattle.std.proofs.Common.{◌≡◌, drop}
use Rattle.crc32c.specs.Crc.{register}
use Rattle.crc32c.proofs.by_bytes.Given as goal

abbrev pub invariant-loop-b : goal.invariant-loop-b
invariant-loop-b l = register l.c (drop l.b-index l.s) ≡ register l.fn.c l.s
