-- `eight`: the register after eight bytes.
use Rattle.std.proofs.Common.{ℕ, sym, ap, ap₂, ◌∙◌, arith}
use Rattle.std.proofs.lemmas.List.{take_all}
use lib.Bits.{bit_xor}
use Rattle.crc32c.specs.Crc.{register}
use Rattle.crc32c.specs.Words.{after}
use Rattle.crc32c.proofs.WordLaws.{by_two}
use Rattle.crc32c.proofs.eight.Goals as goal

pub returns : goal.returns
returns c =
    let s = c.args.s.now in
    ap₂ bit_xor (c.four.ensures ∙ ap (λ (w : ℕ). after 8 (bit_xor c.args.c w)) c.word.ensures)
    (c.four-2.ensures ∙ ap (after 4) c.word-y.ensures)
    ∙ sym (by_two s 0 c.args.c (omega arith)) ∙ ap (register c.args.c) (take_all 8 s (omega arith))
