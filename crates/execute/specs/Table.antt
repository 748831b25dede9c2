-- The table of answers that stand in a reply (R73 to R81, R181, R205): what a command comes to, a row for every answer of every
-- command. A row has its condition and the failure of those tested before it, so no two rows of a command hold at once.
-- Tags and answers stand in it as numbers, so that it holds `Commands` and `Execute` to them.
use Rattle.std.specs.Prelude.{ℕ, ◌-◌, ◌≤◌, ◌<◌, ◌≡◌, ◌≢◌, true, false, List, length}
use Rattle.std.proofs.Math.Option.{none, some}
use Rattle.model.specs.declared.Entry.{Entry}
use Rattle.model.specs.Model.{
  storable,
  reserved_word,
  max_order,
  aligned,
  mark_count,
  covering,
  present,
  store,
  erase,
  with_mark,
  remark,
}
use Rattle.tree.specs.Tree.{nodes, needed}
use Rattle.lookup.specs.Load.{depth}
use Rattle.lookup.specs.Find.{any_mark, first_match}
use Rattle.lookup.specs.Steps.{steps_in, PausesAt}
use Rattle.batch.specs.declared.Command.{Command}
use Rattle.batch.specs.declared.Command.TheVariants.{Store, Load, Erase, Mark, Unmark, Find, Reserve}
use Rattle.batch.specs.Reply.{answered, answered_by}
use Rattle.commands.specs.Commands.{Executed, leave, refuse}

-- n: the nodes of the pool; l: the list before the command
pub data CommandRow (n : ℕ) (l : List Entry) : Command → Executed → Type 0 where
  -- a store
  store_5 : {i k w : ℕ} → max_order < k → CommandRow n l (Store i k w) (refuse l 129 5)
  store_14 : {i k w : ℕ} → k ≤ max_order → aligned k i ≡ false → CommandRow n l (Store i k w) (refuse l 129 14)
  store_6 : {i k w : ℕ} → k ≤ max_order → aligned k i ≡ true → storable w ≡ false →
      CommandRow n l (Store i k w) (refuse l 129 6)
  store_11 : {i k w : ℕ} → k ≤ max_order → aligned k i ≡ true → storable w ≡ true →
      n - length (nodes l) < needed l (store l i k w) → CommandRow n l (Store i k w) (refuse l 129 11)
  store_0 : {i k w : ℕ} {e : Entry} → k ≤ max_order → aligned k i ≡ true → storable w ≡ true →
      needed l (store l i k w) ≤ n - length (nodes l) → covering (store l i k w) i ≡ some e →
      CommandRow n l (Store i k w) (record { reply = answered_by 129 e 0; list = store l i k w })
  -- a load
  load_10 : {i : ℕ} → present (covering l i) ≡ none → CommandRow n l (Load i) (leave l (answered 130 10 0 (depth l i)))
  load_0 : {i : ℕ} {e : Entry} → present (covering l i) ≡ some e →
      CommandRow n l (Load i) (leave l (answered_by 130 e (depth l i)))
  -- an erase
  erase_10 : {i : ℕ} → covering l i ≡ none → CommandRow n l (Erase i) (refuse l 131 10)
  erase_0 : {i : ℕ} {e : Entry} → covering l i ≡ some e →
      CommandRow n l (Erase i) (record { reply = answered_by 131 e 0; list = erase l i })
  -- a mark
  mark_7 : {i m : ℕ} → mark_count ≤ m → CommandRow n l (Mark i m) (refuse l 132 7)
  mark_10 : {i m : ℕ} → m < mark_count → present (covering l i) ≡ none → CommandRow n l (Mark i m) (refuse l 132 10)
  mark_0 : {i m : ℕ} {e : Entry} → m < mark_count → present (covering l i) ≡ some e →
      CommandRow n l (Mark i m) (record { reply = answered_by 132 (with_mark i m true e) 0; list = remark l i m true })
  -- an unmark
  unmark_7 : {i m : ℕ} → mark_count ≤ m → CommandRow n l (Unmark i m) (refuse l 133 7)
  unmark_10 : {i m : ℕ} → m < mark_count → present (covering l i) ≡ none → CommandRow n l (Unmark i m) (refuse l 133 10)
  unmark_0 : {i m : ℕ} {e : Entry} → m < mark_count → present (covering l i) ≡ some e →
      CommandRow n l (Unmark i m) (record { reply = answered_by 133 (with_mark i m false e) 0; list = remark l i m false })
  -- a reservation; done, its reply has the index and all else 0
  reserve_15 : {i : ℕ} {e : Entry} → covering l i ≡ some e → CommandRow n l (Reserve i) (refuse l 135 15)
  reserve_11 : {i : ℕ} → covering l i ≡ none → n - length (nodes l) < needed l (store l i 0 reserved_word) →
      CommandRow n l (Reserve i) (refuse l 135 11)
  reserve_0 : {i : ℕ} → covering l i ≡ none → needed l (store l i 0 reserved_word) ≤ n - length (nodes l) →
      CommandRow n l (Reserve i) (record { reply = answered 135 0 i 0; list = store l i 0 reserved_word })
  -- a find from a to z with filter f and budget k
  find_7 : {a z f k : ℕ} → any_mark < f → CommandRow n l (Find a z f k) (refuse l 134 7)
  find_8 : {a z f k : ℕ} → f ≤ any_mark → z < a → CommandRow n l (Find a z f k) (refuse l 134 8)
  find_9 : {a z f k : ℕ} → f ≤ any_mark → a ≤ z → k ≡ 0 → CommandRow n l (Find a z f k) (refuse l 134 9)
  -- the first match, none, or the budget used up before either
  find_0 : {a z f k : ℕ} {e : Entry} → f ≤ any_mark → a ≤ z → k ≢ 0 → first_match l a z f ≡ some e →
      steps_in l a z f ≤ k → CommandRow n l (Find a z f k) (leave l (answered_by 134 e (steps_in l a z f)))
  find_12 : {a z f k : ℕ} → f ≤ any_mark → a ≤ z → k ≢ 0 → first_match l a z f ≡ none → steps_in l a z f ≤ k →
      CommandRow n l (Find a z f k) (leave l (answered 134 12 0 (steps_in l a z f)))
  find_13 : {a z f k p : ℕ} → f ≤ any_mark → a ≤ z → k ≢ 0 → k < steps_in l a z f → PausesAt l a z f k p →
      CommandRow n l (Find a z f k) (leave l (answered 134 13 p k))
