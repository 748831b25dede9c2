-- `write_reply`: the 24 bytes of a reply, from a place on.
use Rattle.batch.proofs.ReplyLaws.{reply_written}
use Rattle.batch.proofs.write_reply.Goals as goal

pub returns : goal.returns
returns c =
    reply_written _ _ c.args.r
    c.put1.ensures c.put2.ensures c.put1-2.ensures
    c.put8.ensures
    c.put1-3.ensures c.put8-2.ensures c.put1-4.ensures
    c.put2-2.ensures
