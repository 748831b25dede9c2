-- The store before its last step, for any index: all marks of what is replaced are kept, and the target range is the
-- aligned block of order k that holds the index. Trees go by blocks, so plan, write and store, and the laws of trees,
-- speak of this one. With mark 2 over the index cleared it is, of an aligned index, that of `Model`
-- (`Store-is` proofs/AlignedLaws), and no other index comes to a store (R180).
use Rattle.std.specs.Prelude.{ℕ, ◌*◌, ◌^◌, List, map}
use Rattle.blocks.specs.Choice.{pick}
use Rattle.blocks.specs.Lists.{any, keep, without}
use Rattle.blocks.specs.Blocks.{block}
use Rattle.model.specs.declared.Entry.{Entry}
use Rattle.model.specs.Model.{covers, starts, marks_of, insert, over}

abbrev pub inside : List Entry → ℕ → ℕ → List Entry
inside l i k = keep (starts k (block k i)) l

abbrev pub clear : List Entry → ℕ → ℕ → List Entry
clear l i k = without (starts k (block k i)) l

abbrev pub new_entry : List Entry → ℕ → ℕ → ℕ → Entry
new_entry l i k w = record { base = block k i * 2 ^ k; order = k; word = w; marks = marks_of (inside l i k) }

abbrev pub store_new : List Entry → ℕ → ℕ → ℕ → List Entry
store_new l i k w = insert (new_entry l i k w) (clear l i k)

-- the word alone changes
abbrev pub with_word : ℕ → ℕ → Entry → Entry
with_word i w e =
    record { base = e.base; order = e.order; word = pick (covers i e) w e.word; marks = e.marks }

abbrev pub store : List Entry → ℕ → ℕ → ℕ → List Entry
store l i k w = pick (any (over i k) l) (map (with_word i w) l) (store_new l i k w)
