-- What is claimed of a listing: which entries it has (R143), and that no field of theirs is cut (R144).
use Rattle.std.specs.Prelude.{ℕ, ◌≤◌, ◌<◌, ◌^◌, ◌≡◌, true}
use Rattle.model.specs.declared.Entry.{Entry}
use Rattle.model.specs.Model.{covers, shown}

-- the entry covers an index of the range
pub record Meets (a z : ℕ) (e : Entry) : Type 0 where
  pub index : ℕ
  pub from : a ≤ index
  pub to : index ≤ z
  pub covered : covers index e ≡ true

-- the widths of a listed entry's fields, of a word as it is shown (R202)
pub record FitsListed (e : Entry) : Type 0 where
  pub base_fits : e.base < 256 ^ 8
  pub order_fits : e.order < 256
  pub word_fits : shown e < 256 ^ 8
  pub marks_fit : e.marks < 256
