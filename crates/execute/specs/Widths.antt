-- The widths of a reply's fields (R49): a reply that fits is not cut where it is written as bytes.
use Rattle.std.specs.Prelude.{◌^◌, ◌<◌}
use Rattle.batch.specs.declared.Reply.{Reply}

pub record FitsReply (r : Reply) : Type 0 where
  pub tag_fits : r.tag < 256
  pub answer_fits : r.answer < 256
  pub index_fits : r.index < 256 ^ 8
  pub order_fits : r.order < 256
  pub word_fits : r.word < 256 ^ 8
  pub marks_fit : r.marks < 256
  pub count_fits : r.count < 256 ^ 2
