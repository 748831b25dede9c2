-- What an inspector signs (R240 to R251): where a record of the model comes from, how it goes, and what its mark 2 is
-- worth. No word of the pool is read.
use Rattle.std.specs.Prelude.{ℕ, ◌+◌, ◌-◌, ◌*◌, ◌^◌, ◌≤◌, ◌≡◌, Bool, true, false, not, ◌⊎◌, List, [], ◌∷◌, ◌++◌, map, leb, ltb, eqb, length}
use Rattle.std.proofs.Math.ListN as L
use Rattle.blocks.specs.Choice.{pick, both, either}
use Rattle.blocks.specs.Lists.{any, All}
use Rattle.model.specs.declared.Entry.{Entry}
use Rattle.model.specs.Model.{storable, reserved_word, matched_mark, covers, meets, has_mark, starts_in}
use Rattle.batch.specs.declared.Command.{Command}
use Rattle.batch.specs.declared.Command.TheVariants.{Store, Load, Erase, Mark, Unmark, Find, Reserve}
use Rattle.batch.specs.Batch.{Parsed, Parsed.commands, Parsed.refused, parse}
use Rattle.batch.specs.Reply.{reply_bytes}
use Rattle.listing.specs.Listing.{entry_bytes, listing}
use Rattle.execute.specs.Execute.{execute}
use Rattle.calls.specs.Calls.{Listing}
use Rattle.calls.specs.Demand.{Call, Call.init, Call.check, Call.batch, Call.list, Call.prepare, words_after_all, Stands}

-- STEPS (R240)
pub data Step : Type 0 where
  -- an init
  cleared : Step
  -- a command of a batch that runs
  ran : Command → Step

-- R240: none of a batch with a bad record, or whose reply space is too small
abbrev pub fed : (reply_length : ℕ) → Parsed → List Step
fed k (refused at) = []
fed k (commands cs) = pick (ltb k (reply_bytes * length cs)) [] (map ran cs)

-- R240, R335: none of a check, a listing or a preparing
abbrev pub steps_of : Call → List Step
steps_of init = cleared ∷ []
steps_of check = []
steps_of (batch bs rs) = fed (length rs) (parse bs)
steps_of (list a z bs) = []
steps_of (prepare bs out) = []

abbrev pub steps : List Call → List Step
steps [] = []
steps (c ∷ cs) = steps_of c ++ steps cs

-- MOMENTS of a pool of n nodes (R241): before the first step, and after each
module _ (n : ℕ) where
  abbrev pub next : List Entry → Step → List Entry
  next l cleared = []
  next l (ran c) = (execute n l c).list

  abbrev pub after : List Entry → List Step → List Entry
  after l [] = l
  after l (s ∷ ss) = after (next l s) ss

  -- R241: the test holds at every moment
  abbrev pub throughout : (List Entry → Bool) → List Entry → List Step → Bool
  throughout q l [] = q l
  throughout q l (s ∷ ss) = both (q l) (throughout q (next l s) ss)

  -- R241: no step passes, each tested with the list that it meets
  abbrev pub never : (List Entry → Step → Bool) → List Entry → List Step → Bool
  never p l [] = true
  never p l (s ∷ ss) = both (not (p l s)) (never p (next l s) ss)

  -- R241: the steps that pass
  abbrev pub those : (List Entry → Step → Bool) → List Entry → List Step → List Step
  those p l [] = []
  those p l (s ∷ ss) = pick (p l s) (s ∷ those p (next l s) ss) (those p (next l s) ss)

  -- the answer is 0
  abbrev pub did : List Entry → Command → Bool
  did l c = eqb (execute n l c).reply.answer 0

-- A RECORD (R242): base, order and word; its marks may change
abbrev pub same : Entry → Entry → Bool
same e x = both (eqb x.base e.base) (both (eqb x.order e.order) (eqb x.word e.word))

-- R242: it stands in a list
abbrev pub stands : Entry → List Entry → Bool
stands e l = any (same e) l

-- R242: it stands there with mark 2
abbrev pub matched : Entry → List Entry → Bool
matched e l = any (λ x. both (same e x) (has_mark matched_mark x)) l

-- WHAT A COMMAND DOES TO IT
-- R243: it enters it: a store of its word, of an order at most its own, at an index that it covers; or its reservation
abbrev pub enters : Entry → Command → Bool
enters e (Store i k w) = both (storable w) (both (eqb w e.word) (both (covers i e) (leb k e.order)))
enters e (Reserve i) = both (eqb e.word reserved_word) (both (eqb e.order 0) (eqb e.base i))
enters e (Load i) = false
enters e (Erase i) = false
enters e (Mark i m) = false
enters e (Unmark i m) = false
enters e (Find a z f k) = false

-- R244: it names it: an erase of an index that it covers, or a store at one, or in whose target range (R10) it starts
abbrev pub names : Entry → Command → Bool
names e (Store i k w) = either (covers i e) (starts_in i k e)
names e (Erase i) = covers i e
names e (Load i) = false
names e (Mark i m) = false
names e (Unmark i m) = false
names e (Find a z f k) = false
names e (Reserve i) = false

-- R247: it marks it as matched
abbrev pub marks : Entry → Command → Bool
marks e (Mark i m) = both (eqb m matched_mark) (covers i e)
marks e (Store i k w) = false
marks e (Load i) = false
marks e (Erase i) = false
marks e (Unmark i m) = false
marks e (Find a z f k) = false
marks e (Reserve i) = false

-- R247: it takes that mark back
abbrev pub unmarks : Entry → Command → Bool
unmarks e (Unmark i m) = both (eqb m matched_mark) (covers i e)
unmarks e (Store i k w) = false
unmarks e (Load i) = false
unmarks e (Erase i) = false
unmarks e (Mark i m) = false
unmarks e (Find a z f k) = false
unmarks e (Reserve i) = false

-- STEPS THAT CONCERN IT, with answer 0 (R249)
module _ (n : ℕ) (e : Entry) where
  -- R245
  abbrev pub enter : List Entry → Step → Bool
  enter l cleared = false
  enter l (ran c) = both (did n l c) (enters e c)

  -- R246: an init takes everything
  abbrev pub take : List Entry → Step → Bool
  take l cleared = true
  take l (ran c) = both (did n l c) (names e c)

  -- R247
  abbrev pub match : List Entry → Step → Bool
  match l cleared = false
  match l (ran c) = both (did n l c) (marks e c)

  -- R247: the record or its mark 2 is taken
  abbrev pub unmatch : List Entry → Step → Bool
  unmatch l cleared = true
  unmatch l (ran c) = both (did n l c) (either (names e c) (unmarks e c))

-- WHERE A COMMAND LIES
-- R245: in a batch of the calls that runs, just after the steps xs
pub record InBatch (cs : List Call) (xs : List Step) (c : Command) : Type 0 where
  pub calls : List Call
  pub bytes : List ℕ
  pub reply : List ℕ
  pub rest : List Call
  pub call : cs ≡ calls ++ (batch bytes reply ∷ rest)
  pub earlier : List Command
  pub later : List Command
  pub reads : parse bytes ≡ Parsed.commands (earlier ++ (c ∷ later))
  pub room : reply_bytes * length (earlier ++ (c ∷ later)) ≤ length reply
  pub moment : xs ≡ steps calls ++ map ran earlier

-- R245: and its answer there is 0
pub record Done (n : ℕ) (l : List Entry) (cs : List Call) (xs : List Step) (c : Command) : Type 0 where
  pub lies : InBatch cs xs c
  pub answer : (execute n (after n l xs) c).reply.answer ≡ 0

-- WHERE A RECORD COMES FROM, that stands after the steps xs
module _ (n : ℕ) (l : List Entry) (cs : List Call) (xs : List Step) (e : Entry) where
  -- R245: the command that entered it, and it stands at every moment since
  pub record Source : Type 0 where
    pub before : List Step
    pub command : Command
    pub later : List Step
    pub among : xs ≡ before ++ (ran command ∷ later)
    pub done : Done n l cs before command
    pub entering : enters e command ≡ true
    pub since : throughout n (stands e) (next n (after n l before) (ran command)) later ≡ true

  -- R245: or it stood at the start, and at every moment
  abbrev pub Origin : Type 0
  Origin = Source ⊎ (throughout n (stands e) l xs ≡ true)

-- HOW IT GOES
-- R246: a step that takes it from the list l: an init, or with answer 0 an erase of an index that it covers, or a store whose
-- target range meets its run
pub data Taking (n : ℕ) (l : List Entry) (e : Entry) : Step → Type 0 where
  by_init : Taking n l e cleared
  by_erase : (i : ℕ) → (execute n l (Erase i)).reply.answer ≡ 0 → covers i e ≡ true → Taking n l e (ran (Erase i))
  by_store : (i k w : ℕ) → (execute n l (Store i k w)).reply.answer ≡ 0 → meets i (i + 2 ^ k - 1) e ≡ true →
      Taking n l e (ran (Store i k w))

-- R246: it stands at every moment until such a step
pub record Lost (n : ℕ) (l : List Entry) (ss : List Step) (e : Entry) : Type 0 where
  pub before : List Step
  pub step : Step
  pub later : List Step
  pub among : ss ≡ before ++ (step ∷ later)
  pub held : throughout n (stands e) l before ≡ true
  pub taking : Taking n (after n l before) e step

-- WHAT MARK 2 IS WORTH
-- R247: the last of the steps xs is the mark that made it matched
pub record MarkedBy (n : ℕ) (l : List Entry) (cs : List Call) (xs : List Step) (e : Entry) : Type 0 where
  pub before : List Step
  pub index : ℕ
  pub last : xs ≡ before ++ (ran (Mark index matched_mark) ∷ [])
  pub done : Done n l cs before (Mark index matched_mark)
  pub marking : covers index e ≡ true

-- R247: a matched record, told in full
pub record Confirmed (n : ℕ) (l : List Entry) (cs : List Call) (e : Entry) : Type 0 where
  -- the steps up to its mark; or none, if it had mark 2 at the start
  pub until : List Step
  pub later : List Step
  pub among : steps cs ≡ until ++ later
  pub mark : MarkedBy n l cs until e ⊎ ((until ≡ []) × (matched e l ≡ true))
  -- how it came to stand there
  pub origin : Origin n l cs until e
  -- it stands with mark 2 at every moment since
  pub since : throughout n (matched e) (after n l until) later ≡ true
  -- no init, no store or erase that names it, no unmark of it since
  pub spared : never n (unmatch n e) (after n l until) later ≡ true

-- WHAT A LISTING SHOWS
-- R251: its number and its bytes (R144, R146) are those of these entries; each came by its command, and is confirmed if it
-- is shown with mark 2
pub record Shown (n : ℕ) (l : List Entry) (cs : List Call) (buffer : List ℕ) (told : Listing) : Type 0 where
  pub entries : List Entry
  pub number : told.result.number ≡ length entries
  pub bytes : told.buffer ≡ listing entries ++ L.drop (entry_bytes * length entries) buffer
  pub origins : All (Origin n l cs (steps cs)) entries
  pub confirmed : All (λ e. has_mark matched_mark e ≡ true → Confirmed n l cs e) entries

-- THE POOL
-- R250: calls that begin as others do: the same calls, and then no more, or a batch cut short (R104)
pub data Begins : (calls all : List Call) → Type 0 where
  no_more : {cs : List Call} → Begins [] cs
  cut_short : {bs rs : List ℕ} {cs : List Call} (p : ℕ) → Begins (batch (L.take p bs) rs ∷ []) (batch bs rs ∷ cs)
  and_then : {c : Call} {ds cs : List Call} → Begins ds cs → Begins (c ∷ ds) (c ∷ cs)

-- R250: at the moment after the steps xs of the calls cs its words are those of the list (R103)
pub record Words (n : ℕ) (l : List Entry) (ws : List ℕ) (cs : List Call) (xs : List Step) : Type 0 where
  pub calls : List Call
  pub begins : Begins calls cs
  pub are : steps calls ≡ xs
  pub stand : Stands n (after n l xs) (words_after_all ws calls)
