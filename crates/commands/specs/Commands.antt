-- What a command means: its reply (R50 to R55, R73 to R81, R181, R200 to R207) and the list that it leaves (R97 to R101), by
-- any engine. What an engine adds to the list is a record of three; all else is of the list alone.
use Rattle.std.specs.Prelude.{ℕ, Bool, true, false, not, List, leb, ltb, eqb}
use Rattle.std.proofs.Math.Option.{Option, none, some}
use Rattle.blocks.specs.Choice.{pick}
use Rattle.answers.specs.Answers.{
  bad_order,
  bad_entry,
  bad_mark,
  first_above_last,
  no_budget,
  absent,
  too_few_nodes,
  not_aligned,
  is_covered,
}
use Rattle.model.specs.declared.Entry.{Entry}
use Rattle.model.specs.Model.{
  storable,
  reserved_word,
  max_order,
  aligned,
  mark_count,
  covering,
  present,
  store,
  erase,
  remark,
}
use Rattle.batch.specs.declared.Command.{Command}
use Rattle.batch.specs.declared.Command.TheVariants.{Store, Load, Erase, Mark, Unmark, Find, Reserve}
use Rattle.batch.specs.declared.Reply.{Reply}
use Rattle.batch.specs.Reply.{answered, answered_by}

-- what a command comes to
pub record Executed : Type 0 where
  pub reply : Reply
  pub list : List Entry

-- AN ENGINE: when it lacks room for a new list, the count of a load, and how a find that nothing refuses replies
pub record Engine : Type 0 where
  pub lacks : (old new : List Entry) → Bool
  pub count : List Entry → (index : ℕ) → ℕ
  pub finds : (tag : ℕ) → List Entry → (first last filter budget : ℕ) → Reply

-- R101: the list stays
abbrev pub leave : List Entry → Reply → Executed
leave l r = record { reply = r; list = l }

abbrev pub refuse : List Entry → (tag answer : ℕ) → Executed
refuse l t a = leave l (answered t a 0 0)

-- R50, R51, R78: by what covers i in a list, or is present there (R203)
abbrev pub reply_of : (tag count : ℕ) → Option Entry → Reply
reply_of t n none = answered t absent 0 n
reply_of t n (some e) = answered_by t e n

-- R98
abbrev pub storing : Engine → (tag : ℕ) → List Entry → ℕ → List Entry → Executed
storing E t l i l' =
    pick (E.lacks l l') (refuse l t too_few_nodes) (record { reply = reply_of t 0 (covering l' i); list = l' })

-- R204 to R206: by what covers i; a reservation is stored with order 0
abbrev pub reserving : Engine → (tag : ℕ) → List Entry → ℕ → Option Entry → Executed
reserving E t l i none = storing E t l i (store l i 0 reserved_word)
reserving E t l i (some e) = refuse l t is_covered

-- R99, and the entry that went (R51), or the reservation (R207)
abbrev pub erasing : (tag : ℕ) → List Entry → ℕ → Executed
erasing t l i = record { reply = reply_of t 0 (covering l i); list = erase l i }

-- R100
abbrev pub marking : (tag : ℕ) → List Entry → (i m : ℕ) → Bool → Executed
marking t l i m b = record { reply = reply_of t 0 (present (covering (remark l i m b) i)); list = remark l i m b }

-- R81, R181: the tests in the order of their numbers, but for 14, between 5 and 6. A find's filter is a mark, or one more than
-- the last of them, which takes any entry (R64)
module _ (E : Engine) (l : List Entry) where
  abbrev pub execute_as : (tag : ℕ) → Command → Executed
  execute_as t (Store i k w) =
      pick (ltb max_order k) (refuse l t bad_order)
      (pick (not (aligned k i)) (refuse l t not_aligned)
      (pick (not (storable w)) (refuse l t bad_entry) (storing E t l i (store l i k w))))
  execute_as t (Load i) = leave l (reply_of t (E.count l i) (present (covering l i)))
  execute_as t (Erase i) = erasing t l i
  execute_as t (Mark i m) = pick (leb mark_count m) (refuse l t bad_mark) (marking t l i m true)
  execute_as t (Unmark i m) = pick (leb mark_count m) (refuse l t bad_mark) (marking t l i m false)
  execute_as t (Find a z f k) =
      pick (ltb mark_count f) (refuse l t bad_mark)
      (pick (ltb z a) (refuse l t first_above_last)
      (pick (eqb k 0) (refuse l t no_budget) (leave l (E.finds t l a z f k))))
  execute_as t (Reserve i) = reserving E t l i (covering l i)
