-- One command, held to what an inspector signs (R245 to R248), and a small copy of the model in which a mistake can be
-- tried: in the model itself it would meet other laws first.
use Rattle.std.specs.Prelude.{ℕ, Bool, true, false, not, List, map, leb, ltb, eqb}
use Rattle.std.proofs.Math.Option.{Option, none, some}
use Rattle.blocks.specs.Choice.{pick, both, either}
use Rattle.blocks.specs.Lists.{any, without}
use Rattle.blocks.specs.Blocks.{set_bit}
use Rattle.model.specs.declared.Entry.{Entry}
use Rattle.model.specs.Model.{
  storable,
  reserved_word,
  max_order,
  aligned,
  mark_count,
  matched_mark,
  covers,
  covering,
  present,
  starts_in,
  inside,
  insert,
  kept_marks,
  over,
  takes_mark,
}
use Rattle.lookup.specs.Load.{depth}
use Rattle.lookup.specs.Find.{any_mark, find}
use Rattle.batch.specs.declared.Command.{Command}
use Rattle.batch.specs.declared.Command.TheVariants.{Store, Load, Erase, Mark, Unmark, Find, Reserve}
use Rattle.batch.specs.Reply.{reply_tag}
use Rattle.execute.specs.Execute.{finding, tree}
use Rattle.commands.specs.Commands.{Executed, leave, refuse, reply_of, storing}
use Rattle.answers.specs.Answers.{bad_order, bad_entry, bad_mark, first_above_last, no_budget, not_aligned, is_covered}
use Rattle.trace.specs.Trace.{stands, matched, enters, names, marks, unmarks}

-- TESTS of a command c that met the list l and came to x, for the record e
abbrev implies : Bool → Bool → Bool
implies a b = either (not a) b

module _ (e : Entry) (l : List Entry) (c : Command) (x : Executed) where
  abbrev done : Bool
  done = eqb x.reply.answer 0

  -- R245: if it stands after the command and not before, the command entered it
  abbrev pub sourced : Bool
  sourced = implies (both (stands e x.list) (not (stands e l))) (both done (enters e c))

  -- R246: if it stands before and not after, the command named it
  abbrev pub accounted : Bool
  accounted = implies (both (stands e l) (not (stands e x.list))) (both done (names e c))

  -- R247: if it is matched after and not before, the command marked it
  abbrev pub vouched : Bool
  vouched = implies (both (matched e x.list) (not (matched e l))) (both done (marks e c))

  -- R247: a command that takes it or its mark 2 leaves it unmatched
  abbrev pub withdrawn : Bool
  withdrawn = implies (both done (either (names e c) (unmarks e c))) (not (matched e x.list))

  -- R248: if it stands and the command marked it, it is matched
  abbrev pub matching : Bool
  matching = implies (both (stands e l) (both done (marks e c))) (matched e x.list)

-- R248: a store with answer 0 leaves a record that it entered
abbrev pub stored : (i k w : ℕ) → Executed → Bool
stored i k w x = implies (eqb x.reply.answer 0) (any (λ y. enters y (Store i k w)) x.list)

-- THE COPY
abbrev new_entry : List Entry → ℕ → ℕ → ℕ → Entry
new_entry l i k w = record { base = i; order = k; word = w; marks = kept_marks (inside l i k) }

abbrev store_new : List Entry → ℕ → ℕ → ℕ → List Entry
store_new l i k w = insert (new_entry l i k w) (without (starts_in i k) l)

abbrev with_word : ℕ → ℕ → Entry → Entry
with_word i w e =
    record {
      base = e.base;
      order = e.order;
      word = pick (covers i e) w e.word;
      marks = pick (covers i e) (set_bit matched_mark false e.marks) e.marks;
    }

abbrev store : List Entry → ℕ → ℕ → ℕ → List Entry
store l i k w = pick (any (over i k) l) (map (with_word i w) l) (store_new l i k w)

abbrev erase : List Entry → ℕ → List Entry
erase l i = without (covers i) l

abbrev with_mark : ℕ → ℕ → Bool → Entry → Entry
with_mark i m b e =
    record {
      base = e.base;
      order = e.order;
      word = e.word;
      marks = pick (takes_mark i e) (set_bit m b e.marks) e.marks;
    }

abbrev marking : (tag : ℕ) → List Entry → (i m : ℕ) → Bool → Executed
marking t l i m b =
    record {
      reply = reply_of t 0 (present (covering (map (with_mark i m b) l) i));
      list = map (with_mark i m b) l;
    }

abbrev reserving : ℕ → (tag : ℕ) → List Entry → ℕ → Option Entry → Executed
reserving n t l i none = storing (tree n) t l i (store l i 0 reserved_word)
reserving n t l i (some e) = refuse l t is_covered

module _ (n : ℕ) (l : List Entry) where
  abbrev copy_as : (tag : ℕ) → Command → Executed
  copy_as t (Store i k w) =
      pick (ltb max_order k) (refuse l t bad_order)
      (pick (not (aligned k i)) (refuse l t not_aligned)
      (pick (not (storable w)) (refuse l t bad_entry) (storing (tree n) t l i (store l i k w))))
  copy_as t (Load i) = leave l (reply_of t (depth l i) (present (covering l i)))
  copy_as t (Erase i) = record { reply = reply_of t 0 (covering l i); list = erase l i }
  copy_as t (Mark i m) = pick (leb mark_count m) (refuse l t bad_mark) (marking t l i m true)
  copy_as t (Unmark i m) = pick (leb mark_count m) (refuse l t bad_mark) (marking t l i m false)
  copy_as t (Find a z f k) =
      pick (ltb any_mark f) (refuse l t bad_mark)
      (pick (ltb z a) (refuse l t first_above_last)
      (pick (eqb k 0) (refuse l t no_budget) (leave l (finding t (find l a z f k)))))
  copy_as t (Reserve i) = reserving n t l i (covering l i)

  abbrev pub copy : Command → Executed
  copy c = copy_as (reply_tag c) c
