-- Every list of calls on four slices, and the plain list fed the same calls (R308), as calls/Demand has it for the tree.
--
-- the slices  Call; slices_after, slices_after_all: the slices that calls leave
-- the model   list_after, list_after_all: the plain list that calls leave
-- the claim   ShortExact, ReserveShort: when room is short; Commanded: one command; AtCall: one call; Demand3: all of them
use Rattle.std.specs.Prelude.{ℕ, ◌*◌, ◌^◌, ◌≤◌, ◌<◌, ◌≡◌, true, List, [], ◌∷◌, ◌++◌, length, get_or, take, drop}
use Rattle.std.proofs.Math.Option.{none}
use Rattle.answers.specs.Answers.{result_of, done, bad_batch, reply_space, too_few_nodes}
use Rattle.words.specs.Bytes.{Bytes}
use Rattle.model.specs.declared.Entry.{Entry}
use Rattle.model.specs.Model.{storable, max_order, aligned, store, reserved_word, covering}
use Rattle.batch.specs.declared.Command.{Command}
use Rattle.batch.specs.declared.Command.TheVariants.{Store, Reserve}
use Rattle.batch.specs.Batch.{Parsed, Parsed.commands, Parsed.refused, parse}
use Rattle.batch.specs.Reply.{reply_bytes}
use Rattle.commands.specs.Batches.{replies_by, list_by, feed_by}
use Rattle.xaplain.specs.Slices.{Slices, Prescribes, room_of, list_in, check_answer, init_answer, init_slices}
use Rattle.xaplain.specs.Engine.{execute}
use Rattle.xaplain_calls.specs.Calls.{run, refuse_call, init_result, check_result}

-- each run with a batch and a reply space of its own
pub data Call : Type 0 where
  init : Call
  check : Call
  batch : (bytes reply : List ℕ) → Call

-- THE SLICES
abbrev pub slices_after : Slices → Call → Slices
slices_after s init = init_slices s
slices_after s check = s
slices_after s (batch bs rs) = (run s bs rs).slices

abbrev pub slices_after_all : Slices → List Call → Slices
slices_after_all s [] = s
slices_after_all s (c ∷ cs) = slices_after_all (slices_after s c) cs

-- THE MODEL: no word of the slices, and of a reply only the length
module _ (room : ℕ) where
  abbrev pub list_after : List Entry → Call → List Entry
  list_after l init = []
  list_after l check = l
  list_after l (batch bs rs) = feed_by (execute room) l (length rs) (parse bs)

  abbrev pub list_after_all : List Entry → List Call → List Entry
  list_after_all l [] = l
  list_after_all l (c ∷ cs) = list_after_all (list_after l c) cs

-- THE CLAIM
-- a batch is a list of bytes
abbrev pub Bytewise : Call → Type 0
Bytewise init = Unit
Bytewise check = Unit
Bytewise (batch bs rs) = Bytes bs

-- R307: a store answers 11 exactly if nothing before it applies and its list would not fit
pub record ShortExact (room : ℕ) (l : List Entry) (i k w : ℕ) : Type 0 where
  pub only : (execute room l (Store i k w)).reply.answer ≡ too_few_nodes →
      (k ≤ max_order) × (aligned k i ≡ true) × (storable w ≡ true) × (room < length (store l i k w))
  pub always : k ≤ max_order → aligned k i ≡ true → storable w ≡ true → room < length (store l i k w) →
      (execute room l (Store i k w)).reply.answer ≡ too_few_nodes

-- R307: a reservation, exactly if nothing covers its index and its list would not fit
pub record ReserveShort (room : ℕ) (l : List Entry) (i : ℕ) : Type 0 where
  pub only : (execute room l (Reserve i)).reply.answer ≡ too_few_nodes →
      (covering l i ≡ none) × (room < length (store l i 0 reserved_word))
  pub always : covering l i ≡ none → room < length (store l i 0 reserved_word) →
      (execute room l (Reserve i)).reply.answer ≡ too_few_nodes

-- ONE COMMAND, where the list is l: the slices before it are s, those after it s'
pub record Commanded (room : ℕ) (l : List Entry) (c : Command) (s s' : Slices) : Type 0 where
  pub before : Prescribes room l s
  pub after : Prescribes room (execute room l c).list s'
  -- R40, R83
  pub refused : ((execute room l c).reply.answer ≡ 0 → ⊥) → s' ≡ s
  pub shortage : (i k w : ℕ) → c ≡ Store i k w → ShortExact room l i k w
  pub reserve_shortage : (i : ℕ) → c ≡ Reserve i → ReserveShort room l i

-- ONE CALL, where the slices are s and the list is l
module _ (room : ℕ) (l : List Entry) (s : Slices) where
  -- command c of a batch, after the commands ds, between the batch cut just before it and just after it
  pub record AtCommand (bs rs : List ℕ) (ds : List Command) (c : Command) : Type 0 where
    pub from : ℕ
    pub to : ℕ
    pub cut_from : parse (take from bs) ≡ Parsed.commands ds
    pub cut_to_lem : parse (take to bs) ≡ Parsed.commands (ds ++ (c ∷ []))
    pub does : Commanded room (list_by (execute room) l ds) c (run s (take from bs) rs).slices (run s (take to bs) rs).slices

  -- a batch that runs: its result (R68), its replies (R96), the bytes that stay (R87), and each of its commands
  pub record Ran (bs rs : List ℕ) (cs : List Command) : Type 0 where
    pub result_is : (run s bs rs).result ≡ result_of done (length cs)
    pub reply_is : (run s bs rs).reply ≡ replies_by (execute room) l cs ++ drop (reply_bytes * length cs) rs
    pub each : (ds : List Command) (c : Command) (es : List Command) → cs ≡ ds ++ (c ∷ es) → AtCommand bs rs ds c

  -- R71, R72, R82: a refused batch alters neither words nor bytes
  abbrev pub AtBatch : (bs rs : List ℕ) → Parsed → Type 0
  AtBatch bs rs (refused at) = run s bs rs ≡ refuse_call s rs bad_batch at
  AtBatch bs rs (commands cs) =
      (length rs < reply_bytes * length cs → run s bs rs ≡ refuse_call s rs reply_space (length cs))
      × (reply_bytes * length cs ≤ length rs → Ran bs rs cs)

  abbrev pub AtCall : Call → Type 0
  AtCall init = init_result s ≡ result_of done 0
  AtCall check = check_result s ≡ result_of done 0
  AtCall (batch bs rs) = AtBatch bs rs (parse bs)

-- ALL CALLS: the slices after the list, and every call of it at its moment
pub record Demand3 (room : ℕ) (l : List Entry) (s : Slices) (cs : List Call) : Type 0 where
  pub slices : Prescribes room (list_after_all room l cs) (slices_after_all s cs)
  pub calls : (ds : List Call) (c : Call) (es : List Call) → cs ≡ ds ++ (c ∷ es) →
      AtCall room (list_after_all room l ds) (slices_after_all s ds) c

-- indices and words of 64 bits: all that a machine word can be
pub record Words (s : Slices) : Type 0 where
  pub index_small : (k : ℕ) → get_or s.index k 0 < 2 ^ 64
  pub word_small : (k : ℕ) → get_or s.word k 0 < 2 ^ 64

-- how slices and their list start: just initialised, or accepted by the check
pub data Starts : ℕ → List Entry → Slices → Type 0 where
  fresh : (s : Slices) → init_answer s ≡ done → Starts (room_of s) [] (init_slices s)
  checked : (s : Slices) → Words s → check_answer s ≡ done → Starts (room_of s) (list_in s) s
