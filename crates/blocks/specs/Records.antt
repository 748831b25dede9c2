-- Words in records: an anchor of so many words, and then records of w words each.
use Rattle.std.specs.Prelude.{ℕ, ◌+◌, ◌*◌, ◌-◌, ◌/◌, ◌%◌, List, ltb}
use Rattle.blocks.specs.Choice.{pick}
use Rattle.blocks.specs.Lists.{up_to}

module _ (anchor_words w : ℕ) where
  -- the words of an anchor and n records, which is also where record n begins
  abbrev pub words_of : ℕ → ℕ
  words_of n = anchor_words + w * n

  -- field f of record n
  abbrev pub place : ℕ → ℕ → ℕ
  place n f = words_of n + f

  -- the record that word i after the anchor is of, and its field there
  abbrev pub record_of : ℕ → ℕ
  record_of i = (i - anchor_words) / w

  abbrev pub field_in : ℕ → ℕ
  field_in i = (i - anchor_words) % w

  -- word i, by the words of the anchor and the fields of each record
  abbrev pub word_at : (anchor : ℕ → ℕ) → (field : ℕ → ℕ → ℕ) → ℕ → ℕ
  word_at anchor field i = pick (ltb i anchor_words) (anchor i) (field (record_of i) (field_in i))

  -- all words, of n records
  abbrev pub render : (anchor : ℕ → ℕ) → (field : ℕ → ℕ → ℕ) → ℕ → List ℕ
  render anchor field n = up_to (word_at anchor field) 0 (words_of n)
