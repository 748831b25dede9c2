-- The answers of calls and replies (R68 to R80, R181, R205, R272 to R274, R325), under the names of include/xapool.h, and the report
-- that a host gets of a call.
use Rattle.std.specs.Prelude.{ℕ, Result, Ok, Err}
use Rattle.answers.specs.declared.Answer.{Answer}
use Rattle.answers.specs.declared.Answer.TheVariants.{
  PoolLength,
  NotWellFormed,
  BadBatch,
  ReplySpace,
  BadOrder,
  BadEntry,
  BadMark,
  FirstAboveLast,
  NoBudget,
  Absent,
  TooFewNodes,
  Ended,
  Paused,
  NotAligned,
  Covered,
  BadKey,
  BadScript,
  BadGate,
  NoTotal,
  PartAboveTotal,
}
pub use Rattle.answers.specs.declared.Refusal.{Refusal}
pub use Rattle.answers.specs.declared.Report.{Report}

-- OF A CALL; `done` also of a reply
abbrev pub done : ℕ
done = 0

abbrev pub pool_length : ℕ
pool_length = 1

abbrev pub not_well_formed : ℕ
not_well_formed = 2

abbrev pub bad_batch : ℕ
bad_batch = 3

abbrev pub reply_space : ℕ
reply_space = 4

-- OF A REPLY; `first_above_last` also of a listing
abbrev pub bad_order : ℕ
bad_order = 5

abbrev pub bad_entry : ℕ
bad_entry = 6

abbrev pub bad_mark : ℕ
bad_mark = 7

abbrev pub first_above_last : ℕ
first_above_last = 8

abbrev pub no_budget : ℕ
no_budget = 9

abbrev pub absent : ℕ
absent = 10

abbrev pub too_few_nodes : ℕ
too_few_nodes = 11

abbrev pub ended : ℕ
ended = 12

abbrev pub paused : ℕ
paused = 13

abbrev pub not_aligned : ℕ
not_aligned = 14

-- (`covered` is the model's)
abbrev pub is_covered : ℕ
is_covered = 15

-- OF A POOL OF NAMES
abbrev pub bad_key : ℕ
bad_key = 16

-- OF APPLYING
abbrev pub bad_script : ℕ
bad_script = 17

-- OF A GATE
abbrev pub bad_gate : ℕ
bad_gate = 18

abbrev pub no_total : ℕ
no_total = 19

abbrev pub part_above_total : ℕ
part_above_total = 20

-- THE NUMBER OF AN ANSWER OTHER THAN DONE
abbrev pub number_of : Answer → ℕ
number_of PoolLength = pool_length
number_of NotWellFormed = not_well_formed
number_of BadBatch = bad_batch
number_of ReplySpace = reply_space
number_of BadOrder = bad_order
number_of BadEntry = bad_entry
number_of BadMark = bad_mark
number_of FirstAboveLast = first_above_last
number_of NoBudget = no_budget
number_of Absent = absent
number_of TooFewNodes = too_few_nodes
number_of Ended = ended
number_of Paused = paused
number_of NotAligned = not_aligned
number_of Covered = is_covered
number_of BadKey = bad_key
number_of BadScript = bad_script
number_of BadGate = bad_gate
number_of NoTotal = no_total
number_of PartAboveTotal = part_above_total

-- THE REPORT: the answer, and the number that goes with it (R68 to R72)
abbrev pub result_of : (answer number : ℕ) → Report
result_of a n = record { answer = a; number = n }

-- a refusal with nothing to count
abbrev pub refused : Answer → Refusal
refused a = record { answer = a; number = 0 }

abbrev pub report_of : Result ℕ Refusal → Report
report_of (Ok n) = result_of done n
report_of (Err r) = result_of (number_of r.answer) r.number

-- 0 for done, else the answer's number
abbrev pub answer_of : {A : Type 0} → Result A Answer → ℕ
answer_of (Ok _) = done
answer_of (Err a) = number_of a
