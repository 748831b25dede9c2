use Rattle.std.proofs.Common.{arith}
use Rattle.freemap.proofs.MapLaws.{pass_words, lowest_is}
use Rattle.freemap.proofs.lowest_free.Goals as goal

pub returns-then-t-lt-WORD_BITS : goal.returns-then-t-lt-WORD_BITS
returns-then-t-lt-WORD_BITS c =
    lowest_is c.requires.is c.loop-j.j c.next_bit-t.result c.next_bit.result (omega arith) c.if-t-lt-WORD_BITS.true
    c.next_bit-t.ensures (c.type_inv.map _).fits c.next_bit.ensures c.loop-j.invariant

pub loop-j-preserved : goal.loop-j-preserved
loop-j-preserved c =
    pass_words c.requires.is c.loop-j.j c.next_bit-t.result (omega arith) c.next_bit-t.ensures
    (omega (arith, c.if-t-lt-WORD_BITS.false)) c.loop-j.invariant
