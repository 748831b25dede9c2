use Rattle.std.proofs.Common.{arith}
use Rattle.crc32c.proofs.WordLaws.{chunk_step}
use Rattle.crc32c.proofs.by_eights.Goals as goal

pub loop-part-preserved : goal.loop-part-preserved
loop-part-preserved c =
    chunk_step c.args.s.now _ c.loop-part.part-index c.loop-part.c c.as_chunks.ensures.front (omega (arith, c.as_chunks.ensures.front_len)) c.eight-c.ensures c.loop-part.invariant
