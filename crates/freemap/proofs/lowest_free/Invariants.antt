-- `lowest_free`: no node of the words passed is free.
use Rattle.std.proofs.Common.{◌≡◌, ℕ, ◌*◌, ◌<◌}
use Rattle.words.specs.Bits.{word_bits}
use Rattle.freemap.specs.FreeMap.{map_bit}
use Rattle.freemap.proofs.lowest_free.Given as goal

abbrev pub invariant-loop-j : goal.invariant-loop-j
invariant-loop-j l = (x : ℕ) → x < word_bits * (word_bits * l.j) → map_bit l.map x ≡ 0
