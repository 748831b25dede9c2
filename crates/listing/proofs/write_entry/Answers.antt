-- `write_entry`: the bytes of an entry, from a place on.
use Rattle.listing.proofs.EmitLaws.{entry_written}
use Rattle.listing.proofs.write_entry.Goals as goal

pub returns : goal.returns
returns c =
    entry_written _ _ c.args.e c.shown_word-w.ensures c.put1.ensures
    c.put2.ensures c.put8.ensures c.put1-2.ensures
    c.put8-2.ensures
    c.put1-3.ensures
