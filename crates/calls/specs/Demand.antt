-- Demand 3: the pool after a list of calls, and the model fed the same calls (R88 to R105, R149, R335).
--
-- the pool    Call; words_after, words_after_all: the words that calls leave
-- the model   list_after, list_after_all: the plain list that calls leave
-- the claim   Stands: words of a list; ShortExact: when room is short; Commanded: one command; AtCall: one call; Demand3: all of them
use Rattle.std.specs.Prelude.{ℕ, ◌*◌, ◌-◌, ◌≤◌, ◌<◌, ◌≡◌, true, false, List, [], ◌∷◌, ◌++◌, length, get_or, take, drop}
use Rattle.std.proofs.Math.Option.{Option, none, some}
use Rattle.blocks.specs.Lists.{All}
use Rattle.model.specs.declared.Entry.{Entry}
use Rattle.model.specs.Model.{storable, max_order, aligned, store, reserved_word, covering}
use Rattle.tree.specs.Tree.{nodes, needed}
use Rattle.layout.specs.Words.{node_words, place}
use Rattle.layout.specs.Places.{Places, new_places}
use Rattle.layout.specs.WellFormed.{Prescribed}
use Rattle.layout.specs.Decode.{list_of}
use Rattle.layout.specs.Decide.{node_count}
use Rattle.words.specs.Bytes.{Bytes}
use Rattle.batch.specs.declared.Command.{Command}
use Rattle.batch.specs.declared.Command.TheVariants.{Store, Reserve}
use Rattle.batch.specs.Batch.{Parsed, Parsed.commands, Parsed.refused, parse}
use Rattle.batch.specs.Reply.{reply_bytes}
use Rattle.listing.specs.Listing.{listed}
use Rattle.listing.specs.Claims.{FitsListed}
use Rattle.execute.specs.Execute.{execute}
use Rattle.commands.specs.Commands.{Executed}
use Rattle.commands.specs.Batches.{list_by, feed_by}
use Rattle.answers.specs.Answers.{too_few_nodes, result_of, done, bad_batch, reply_space}
use Rattle.execute.specs.Part.{may_write}
use Rattle.execute.specs.Table.{CommandRow}
use Rattle.execute.specs.Widths.{FitsReply}
use Rattle.verify.specs.Answers.{check_answer, init_answer, init_words}
use Rattle.script.specs.Script.{script}
use Rattle.preparing.specs.Prepare.{yielding, the_one}
use Rattle.preparing.specs.Prepare as Y
use Rattle.calls.specs.Calls.{run, replies, refuse_call, init_result, check_result, list_over}
use Rattle.calls.specs.Calls as C

-- R105: each run with a batch (document 01: a sheet) and a reply space of its own
pub data Call : Type 0 where
  init : Call
  check : Call
  batch : (bytes reply : List ℕ) → Call
  -- R149
  list : (first last : ℕ) (buffer : List ℕ) → Call
  -- R335
  prepare : (bytes slice : List ℕ) → Call

-- THE POOL
abbrev pub words_after : List ℕ → Call → List ℕ
words_after ws init = init_words ws
words_after ws check = ws
words_after ws (batch bs rs) = (run ws bs rs).words
words_after ws (list a z bs) = ws
words_after ws (prepare bs out) = ws

abbrev pub words_after_all : List ℕ → List Call → List ℕ
words_after_all ws [] = ws
words_after_all ws (c ∷ cs) = words_after_all (words_after ws c) cs

-- THE MODEL (R88, R89): no word of the pool, and of a reply only the length
module _ (n : ℕ) where
  -- R96
  abbrev pub execute_all : List Entry → List Command → List Entry
  execute_all = list_by (execute n)

  -- R95
  abbrev pub feed : List Entry → (reply_length : ℕ) → Parsed → List Entry
  feed = feed_by (execute n)

  -- R93, R94, R149, R335
  abbrev pub list_after : List Entry → Call → List Entry
  list_after l init = []
  list_after l check = l
  list_after l (batch bs rs) = feed l (length rs) (parse bs)
  list_after l (list a z bs) = l
  list_after l (prepare bs out) = l

  abbrev pub list_after_all : List Entry → List Call → List Entry
  list_after_all l [] = l
  list_after_all l (c ∷ cs) = list_after_all (list_after l c) cs

-- THE CLAIM
-- a batch is a list of bytes, and so is a record that is prepared
abbrev pub Bytewise : Call → Type 0
Bytewise init = Unit
Bytewise check = Unit
Bytewise (batch bs rs) = Bytes bs
Bytewise (list a z bs) = Unit
Bytewise (prepare bs out) = Bytes bs

-- R103: the words are those that the list prescribes at some numbering, and every node without a place is free (R30)
pub record Stands (n : ℕ) (l : List Entry) (ws : List ℕ) : Type 0 where
  pub places : Places
  pub prescribed : Prescribed n l places ws
  pub others_free : (m : ℕ) → m < n → get_or places m none ≡ none → (f : ℕ) → f < node_words → get_or ws (place m f) 0 ≡ 0

-- R79, R85, R86: a store answers 11 exactly if nothing before it applies and it needs more nodes than are free
pub record ShortExact (n : ℕ) (l : List Entry) (i k w : ℕ) : Type 0 where
  pub only : (execute n l (Store i k w)).reply.answer ≡ too_few_nodes →
      (k ≤ max_order) × (aligned k i ≡ true) × (storable w ≡ true) × (n - length (nodes l) < needed l (store l i k w))
  pub always : k ≤ max_order → aligned k i ≡ true → storable w ≡ true → n - length (nodes l) < needed l (store l i k w) →
      (execute n l (Store i k w)).reply.answer ≡ too_few_nodes

-- R205, R206: a reservation answers 11 exactly if nothing covers its index and it needs more nodes than are free
pub record ReserveShort (n : ℕ) (l : List Entry) (i : ℕ) : Type 0 where
  pub only : (execute n l (Reserve i)).reply.answer ≡ too_few_nodes →
      (covering l i ≡ none) × (n - length (nodes l) < needed l (store l i 0 reserved_word))
  pub always : covering l i ≡ none → n - length (nodes l) < needed l (store l i 0 reserved_word) →
      (execute n l (Reserve i)).reply.answer ≡ too_few_nodes

-- ONE COMMAND, where the model is l: the words before it are ws, those after it ws'
pub record Commanded (n : ℕ) (l : List Entry) (c : Command) (ws ws' : List ℕ) : Type 0 where
  pub before : Stands n l ws
  pub after : Stands n (execute n l c).list ws'
  -- R35 to R37
  pub numbers : after.places ≡ new_places l (execute n l c).list before.places
  -- R39, R41
  pub outside : (w : ℕ) → may_write n (record { list = l; places = before.places }) c w ≡ false →
      get_or ws' w 0 ≡ get_or ws w 0
  -- R40, R83
  pub refused : ((execute n l c).reply.answer ≡ 0 → ⊥) → ws' ≡ ws
  pub shortage : (i k w : ℕ) → c ≡ Store i k w → ShortExact n l i k w
  pub reserve_shortage : (i : ℕ) → c ≡ Reserve i → ReserveShort n l i
  -- R73 to R81: what it comes to has a row of the table, and a row whose condition holds is what it comes to
  pub row : CommandRow n l c (execute n l c)
  pub sole : {x : Executed} → CommandRow n l c x → x ≡ execute n l c
  -- R49: no field of its reply is cut
  pub fits : FitsReply (execute n l c).reply

-- ONE CALL, where the pool has the words ws and the model is l
module _ (n : ℕ) (l : List Entry) (ws : List ℕ) where
  -- R104: command c of a batch, after the commands ds, between the batch cut just before it and just after it
  pub record AtCommand (bs rs : List ℕ) (ds : List Command) (c : Command) : Type 0 where
    pub from : ℕ
    pub to : ℕ
    pub cut_from : parse (take from bs) ≡ Parsed.commands ds
    pub cut_to_lem : parse (take to bs) ≡ Parsed.commands (ds ++ (c ∷ []))
    pub does : Commanded n (execute_all n l ds) c (run ws (take from bs) rs).words (run ws (take to bs) rs).words

  -- a batch that runs: its result (R68), its replies, which are the model's (R96), the bytes that stay (R87), and each
  -- of its commands
  pub record Ran (bs rs : List ℕ) (cs : List Command) : Type 0 where
    pub result_is : (run ws bs rs).result ≡ result_of done (length cs)
    pub reply_is : (run ws bs rs).reply ≡ replies n l cs ++ drop (reply_bytes * length cs) rs
    pub each : (ds : List Command) (c : Command) (es : List Command) → cs ≡ ds ++ (c ∷ es) → AtCommand bs rs ds c

  -- R71, R72, R82: a refused batch alters neither words nor bytes
  abbrev pub AtBatch : (bs rs : List ℕ) → Parsed → Type 0
  AtBatch bs rs (refused at) = run ws bs rs ≡ refuse_call ws rs bad_batch at
  AtBatch bs rs (commands cs) =
      (length rs < reply_bytes * length cs → run ws bs rs ≡ refuse_call ws rs reply_space (length cs))
      × (reply_bytes * length cs ≤ length rs → Ran bs rs cs)

  -- R335: a changing command that is prepared: its own answer on the list that stands here, or the script of the words that it leaves
  -- by that list and the numbering of its nodes
  pub record Prepares (bs out : List ℕ) (c : Command) : Type 0 where
    pub words : List ℕ
    pub does : Commanded n l c ws words
    pub own : ((execute n l c).reply.answer ≡ 0 → ⊥) → Y.prepare ws bs out ≡ Y.refused (execute n l c).reply.answer out
    pub yields : (execute n l c).reply.answer ≡ 0 → Y.prepare ws bs out ≡ yielding (script ws words) out

  -- R330: bytes that are no such record
  abbrev pub AtPrepare : (bs out : List ℕ) → Option Command → Type 0
  AtPrepare bs out none = Y.prepare ws bs out ≡ Y.refused bad_batch out
  AtPrepare bs out (some c) = Prepares bs out c

  -- of a listing its result and bytes, and that no field of an entry in it is cut (R144)
  abbrev pub AtCall : Call → Type 0
  AtCall init = init_result ws ≡ result_of done 0
  AtCall check = check_result ws ≡ result_of done 0
  AtCall (batch bs rs) = AtBatch bs rs (parse bs)
  AtCall (list a z bs) = (C.list ws a z bs ≡ list_over l a z bs) × All FitsListed (listed l a z)
  AtCall (prepare bs out) = AtPrepare bs out (the_one bs)

-- ALL CALLS (R102): the words after the list, and every call of it at its moment
pub record Demand3 (n : ℕ) (l : List Entry) (ws : List ℕ) (cs : List Call) : Type 0 where
  pub words : Stands n (list_after_all n l cs) (words_after_all ws cs)
  pub calls : (ds : List Call) (c : Call) (es : List Call) → cs ≡ ds ++ (c ∷ es) →
      AtCall n (list_after_all n l ds) (words_after_all ws ds) c

-- how a pool of n nodes and its model start: just initialised (R91), or accepted by the check (R92)
pub data Starts : ℕ → List Entry → List ℕ → Type 0 where
  fresh : (ws : List ℕ) → init_answer ws ≡ done → Starts (node_count ws) [] (init_words ws)
  checked : (ws : List ℕ) → check_answer ws ≡ done → Starts (node_count ws) (list_of ws) ws
