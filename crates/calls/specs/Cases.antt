-- The starred cases (R106 to R118, R182, R191, R192, R208) as one table, of batches as bytes. proofs/Cases has the theorem that they
-- all hold.
use Rattle.std.specs.Prelude.{ℕ, ◌+◌, ◌*◌, ◌-◌, ◌^◌, Bool, true, List, [], ◌∷◌, ◌++◌, map, eqb, length, get_or, drop, replicate}
use Rattle.blocks.specs.Choice.{both}
use Rattle.blocks.specs.Lists.{up_to, equal}
use Rattle.model.specs.declared.Entry.{Entry}
use Rattle.model.specs.Model.{reserved_word, store}
use Rattle.tree.specs.Tree.{tier_order, Node, nodes, needed}
use Rattle.layout.specs.Words.{pool_words, head_word, marks_word, mark_place, slot_place}
use Rattle.layout.specs.Decode.{list_of, places_of}
use Rattle.verify.specs.Answers.{init_words}
use Rattle.words.specs.Bytes.{bytes_then}
use Rattle.batch.specs.declared.Command.{Command}
use Rattle.batch.specs.declared.Command.TheVariants.{Store, Load, Erase, Mark, Unmark, Find, Reserve}
use Rattle.batch.specs.Reply.{reply_bytes, encode, answered}
use Rattle.batch.specs.declared.Reply.{Reply}
use Rattle.execute.specs.Part.{part_of}
use Rattle.calls.specs.Calls.{Called, run}
use Rattle.answers.specs.Answers.{done}

-- what a case says of its last command, by its reply and by the pool's words
pub data Fact : Type 0 where
  -- the whole reply
  replies : Reply → Fact
  -- the nodes that the store or the reservation needs
  needs : ℕ → Fact
  -- the shifts of the nodes that then stand, widest first
  shifts : List ℕ → Fact
  -- a word of the pool
  word : (place value : ℕ) → Fact
  -- the same words as after other commands
  as_after : List Command → Fact
  -- it may write the words of the anchor and of the nodes with these numbers, and no others (R39)
  writes : List ℕ → Fact
  -- it may write no word at all (R40)
  writes_none : Fact

-- a case: a pool of n nodes just initialised, commands, then one more
pub record Case : Type 0 where
  pub n : ℕ
  pub before : List Command
  pub last : Command
  pub facts : List Fact

-- THE BYTES OF COMMANDS (R42, R44 to R48, R204), to be read back by `run`
abbrev pub record_then : Command → List ℕ → List ℕ
record_then (Store i k w) more = bytes_then 1 1 (bytes_then 2 17 (bytes_then 8 i (bytes_then 1 k (bytes_then 8 w more))))
record_then (Load i) more = bytes_then 1 2 (bytes_then 2 8 (bytes_then 8 i more))
record_then (Erase i) more = bytes_then 1 3 (bytes_then 2 8 (bytes_then 8 i more))
record_then (Mark i m) more = bytes_then 1 4 (bytes_then 2 9 (bytes_then 8 i (bytes_then 1 m more)))
record_then (Unmark i m) more = bytes_then 1 5 (bytes_then 2 9 (bytes_then 8 i (bytes_then 1 m more)))
record_then (Find a z f k) more =
    bytes_then 1 6 (bytes_then 2 19 (bytes_then 8 a (bytes_then 8 z (bytes_then 1 f (bytes_then 2 k more)))))
record_then (Reserve i) more = bytes_then 1 7 (bytes_then 2 8 (bytes_then 8 i more))

abbrev pub batch_of : List Command → List ℕ
batch_of [] = []
batch_of (c ∷ cs) = record_then c (batch_of cs)

-- CHECKING A CASE
-- the commands as one batch on a pool of zeros that was initialised
abbrev pub ran : ℕ → List Command → Called
ran n cs = run (init_words (replicate (pool_words n) 0)) (batch_of cs) (replicate (reply_bytes * length cs) 0)

abbrev pub shift_of : Node → ℕ
shift_of p = tier_order (p.tier - 1)

abbrev pub needed_by : List Entry → Command → ℕ
needed_by l (Store i k w) = needed l (store l i k w)
needed_by l (Load i) = 0
needed_by l (Erase i) = 0
needed_by l (Mark i m) = 0
needed_by l (Unmark i m) = 0
needed_by l (Find a z f k) = 0
needed_by l (Reserve i) = needed l (store l i 0 reserved_word)

-- the places of all words of some nodes, in numbers (R27)
abbrev pub words_at : List ℕ → List ℕ
words_at [] = []
words_at (m ∷ ms) = up_to (λ w. w) (4 + 70 * m) 70 ++ words_at ms

-- what a command may write, on the words before it
abbrev pub part_on : ℕ → List ℕ → Command → List ℕ
part_on n ws c = part_of n (record { list = list_of ws; places = places_of ws }) c

-- the last reply, and the words; lists are those that words decode to
module _ (n : ℕ) (before : List Command) (c : Command) (words reply : List ℕ) where
  abbrev pub holds : Fact → Bool
  holds (replies r) = equal (drop (reply_bytes * length before) reply) (encode r)
  holds (needs k) = eqb (needed_by (list_of (ran n before).words) c) k
  holds (shifts ss) = equal (map shift_of (nodes (list_of words))) ss
  holds (word p x) = eqb (get_or words p 0) x
  holds (as_after cs) = equal words (ran n cs).words
  holds (writes ms) = equal (part_on n (ran n before).words c) (0 ∷ 1 ∷ 2 ∷ 3 ∷ words_at ms)
  holds writes_none = equal (part_on n (ran n before).words c) []

  abbrev pub all_hold : List Fact → Bool
  all_hold [] = true
  all_hold (f ∷ fs) = both (holds f) (all_hold fs)

abbrev pub ends_well : Case → Called → Bool
ends_well k r =
    both (eqb r.result.answer done)
    (both (eqb r.result.number (length k.before + 1))
    (all_hold k.n k.before k.last r.words r.reply k.facts))

abbrev pub case_holds : Case → Bool
case_holds k = ends_well k (ran k.n (k.before ++ (k.last ∷ [])))

abbrev pub cases_hold : List Case → Bool
cases_hold [] = true
cases_hold (k ∷ ks) = both (case_holds k) (cases_hold ks)

-- THE TABLE
abbrev entry : (tag base order word marks count : ℕ) → Fact
entry t b k w m n =
    replies (record { tag = 128 + t; answer = 0; index = b; order = k; word = w; marks = m; count = n })

abbrev answer : (tag answer index count : ℕ) → Fact
answer t a i n = replies (answered (128 + t) a i n)

abbrev store2 : List Command
store2 = Store 0 0 3 ∷ []

abbrev store3 : List Command
store3 = store2 ++ (Store 64 0 5 ∷ [])

abbrev reserve5 : List Command
reserve5 = Reserve 5 ∷ []

-- the nodes 0, 1, .., n in all
abbrev first_nodes : ℕ → List ℕ
first_nodes n = up_to (λ m. m) 0 n

-- slots from .. of node m, count of them, hold x
abbrev slots_hold : (m from count x : ℕ) → List Fact
slots_hold m from count x = up_to (λ j. word (slot_place m j) x) from count

-- the words of mark m in nodes 0, 1, ..
abbrev marks_hold : (m : ℕ) → List ℕ → List Fact
marks_hold m xs = up_to (λ j. word (mark_place j m) (get_or xs j 0)) 0 (length xs)

-- an entry with mark 0 below nodes 0, 1 and 2, a brother with mark 2 below nodes 0, 1 and 3
abbrev marked : List Command
marked = Store 4096 0 5 ∷ Mark 4096 0 ∷ []

abbrev matched : List Command
matched = marked ++ (Mark 4096 2 ∷ [])

abbrev brother : List Command
brother = Store 4160 0 7 ∷ Mark 4160 2 ∷ []

abbrev last64 : ℕ
last64 = 2 ^ 64 - 1

unfoldable pub cases : List Case
cases =
    -- case 1 (R106)
    record { n = 1; before = []; last = Load 0; facts = writes_none ∷ answer 2 10 0 0 ∷ [] }
    -- case 2 (R107)
    ∷ record { n = 1; before = []; last = Store 0 0 3; facts = writes [] ∷ entry 1 0 0 3 0 0 ∷ word head_word 3 ∷ shifts [] ∷ [] }
    -- case 3 (R108): with 2 nodes and with 3
    ∷ record { n = 2; before = store2; last = Store 64 0 5; facts = writes_none ∷ needs 3 ∷ answer 1 11 0 0 ∷ as_after store2 ∷ [] }
    ∷ record {
      n = 3;
      before = store2;
      last = Store 64 0 5;
      facts = writes (0 ∷ 1 ∷ 2 ∷ []) ∷ needs 3 ∷ entry 1 64 0 5 0 0 ∷ shifts (6 ∷ 0 ∷ 0 ∷ []) ∷ [];
    }
    -- case 4 (R109); of five nodes the last stays free
    ∷ record {
      n = 6;
      before = store3;
      last = Store 4096 0 7;
      facts = writes (0 ∷ 3 ∷ 4 ∷ 5 ∷ []) ∷ needs 3 ∷ entry 1 4096 0 7 0 0 ∷ [];
    }
    ∷ record { n = 5; before = store3; last = Store 4095 0 7; facts = writes (0 ∷ 3 ∷ []) ∷ needs 1 ∷ entry 1 4095 0 7 0 0 ∷ [] }
    -- case 5 (R110)
    ∷ record {
      n = 11;
      before = [];
      last = Store last64 0 5;
      facts = writes (first_nodes 11) ∷ needs 11 ∷ entry 1 last64 0 5 0 0 ∷ [];
    }
    -- case 6 (R111)
    ∷ record {
      n = 21;
      before = store2;
      last = Store last64 0 5;
      facts = writes (first_nodes 21) ∷ needs 21 ∷ entry 1 last64 0 5 0 0 ∷ [];
    }
    -- case 7 (R112)
    ∷ record { n = 1; before = []; last = Store 0 6 5; facts = writes (0 ∷ []) ∷ needs 1 ∷ shifts (6 ∷ []) ∷ [] }
    ∷ record { n = 1; before = Store 0 6 5 ∷ []; last = Load 63; facts = writes_none ∷ entry 2 0 6 5 0 1 ∷ [] }
    -- case 8 (R113)
    ∷ record {
      n = 1;
      before = [];
      last = Store 8 3 5;
      facts = writes (0 ∷ []) ∷ entry 1 8 3 5 0 0 ∷ word (slot_place 0 8) 5 ∷ slots_hold 0 9 7 34;
    }
    -- case 8a (R182): 14, and the tests before it and after it
    ∷ record { n = 1; before = []; last = Store 13 3 5; facts = writes_none ∷ answer 1 14 0 0 ∷ as_after [] ∷ [] }
    ∷ record { n = 1; before = []; last = Store 13 64 0; facts = writes_none ∷ answer 1 5 0 0 ∷ as_after [] ∷ [] }
    ∷ record { n = 1; before = []; last = Store 13 3 0; facts = writes_none ∷ answer 1 14 0 0 ∷ as_after [] ∷ [] }
    ∷ record { n = 1; before = []; last = Store 8 3 0; facts = writes_none ∷ answer 1 6 0 0 ∷ as_after [] ∷ [] }
    -- case 9 (R114): the load, then the erase
    ∷ record {
      n = 1;
      before = Store 8 3 5 ∷ Store 10 0 9 ∷ [];
      last = Load 15;
      facts = writes_none ∷ entry 2 8 3 9 0 1 ∷ [];
    }
    ∷ record {
      n = 1;
      before = Store 8 3 5 ∷ Store 10 0 9 ∷ [];
      last = Erase 11;
      facts = writes (0 ∷ []) ∷ entry 3 8 3 9 0 0 ∷ shifts [] ∷ as_after [] ∷ [];
    }
    -- case 10 (R115)
    ∷ record {
      n = 2;
      before = Store 64 0 5 ∷ Mark 64 0 ∷ Store 65 0 7 ∷ Mark 65 1 ∷ [];
      last = Store 64 6 9;
      facts = writes (0 ∷ 1 ∷ []) ∷ entry 1 64 6 9 3 0 ∷ word marks_word 3 ∷ shifts (6 ∷ []) ∷ [];
    }
    -- case 10a (R191): alone, and beside a brother that has mark 2
    ∷ record {
      n = 3;
      before = matched;
      last = Store 4096 3 9;
      facts =
          writes (0 ∷ 1 ∷ 2 ∷ [])
          ∷ entry 1 4096 3 9 1 0
          ∷ word marks_word 1
          ∷ marks_hold 0 (2 ∷ 1 ∷ 1 ∷ []) ++ marks_hold 2 (0 ∷ 0 ∷ 0 ∷ []);
    }
    ∷ record {
      n = 4;
      before = matched ++ brother;
      last = Store 4096 3 9;
      facts = writes (0 ∷ 1 ∷ 2 ∷ []) ∷ entry 1 4096 3 9 1 0 ∷ word marks_word 5 ∷ marks_hold 2 (2 ∷ 2 ∷ 0 ∷ 1 ∷ []);
    }
    -- case 10b (R192): the same, and an entry as head
    ∷ record {
      n = 3;
      before = matched;
      last = Store 4096 0 5;
      facts = writes (0 ∷ 1 ∷ 2 ∷ []) ∷ entry 1 4096 0 5 1 0 ∷ word marks_word 1 ∷ as_after marked ∷ marks_hold 2 (0 ∷ 0 ∷ 0 ∷ []);
    }
    ∷ record {
      n = 4;
      before = matched ++ brother;
      last = Store 4096 0 5;
      facts =
          writes (0 ∷ 1 ∷ 2 ∷ [])
          ∷ entry 1 4096 0 5 1 0
          ∷ word marks_word 5
          ∷ as_after (marked ++ brother)
          ∷ marks_hold 2 (2 ∷ 2 ∷ 0 ∷ 1 ∷ []);
    }
    ∷ record {
      n = 1;
      before = store2 ++ (Mark 0 2 ∷ []);
      last = Store 0 0 3;
      facts = writes [] ∷ entry 1 0 0 3 0 0 ∷ as_after store2 ∷ [];
    }
    -- case 11 (R116)
    ∷ record {
      n = 3;
      before = store3;
      last = Erase 64;
      facts = writes (0 ∷ 1 ∷ 2 ∷ []) ∷ entry 3 64 0 5 0 0 ∷ as_after store2 ∷ [];
    }
    -- case 12 (R117)
    ∷ record {
      n = 1;
      before = [];
      last = Store (2 ^ 63) 63 5;
      facts =
          writes (0 ∷ [])
          ∷ entry 1 (2 ^ 63) 63 5 0 0
          ∷ shifts (60 ∷ [])
          ∷ word (slot_place 0 7) 0
          ∷ word (slot_place 0 8) 5
          ∷ slots_hold 0 9 7 34 ++ (word (slot_place 0 16) 0 ∷ []);
    }
    ∷ record { n = 1; before = []; last = Store (2 ^ 63) 64 5; facts = writes_none ∷ answer 1 5 0 0 ∷ as_after [] ∷ [] }
    -- case 13 (R118): found, paused, and by a mark
    ∷ record { n = 3; before = store3; last = Find 1 last64 3 64; facts = writes_none ∷ entry 6 64 0 5 0 64 ∷ [] }
    ∷ record { n = 3; before = store3; last = Find 1 last64 3 63; facts = writes_none ∷ answer 6 13 64 63 ∷ [] }
    ∷ record {
      n = 3;
      before = store3 ++ (Mark 64 0 ∷ []);
      last = Find 1 last64 0 64;
      facts = writes_none ∷ entry 6 64 0 5 1 2 ∷ [];
    }
    -- reserved places (R208): on a fresh pool, and alone at index 0
    ∷ record {
      n = 1;
      before = [];
      last = Reserve 5;
      facts = writes (0 ∷ []) ∷ needs 1 ∷ answer 7 0 5 0 ∷ word (slot_place 0 5) 1030 ∷ shifts (0 ∷ []) ∷ [];
    }
    ∷ record { n = 1; before = []; last = Reserve 0; facts = writes [] ∷ answer 7 0 0 0 ∷ word head_word 1030 ∷ shifts [] ∷ [] }
    -- what is covered, by an entry and by a reservation
    ∷ record {
      n = 1;
      before = Store 8 3 5 ∷ [];
      last = Reserve 9;
      facts = writes_none ∷ answer 7 15 0 0 ∷ as_after (Store 8 3 5 ∷ []) ∷ [];
    }
    ∷ record { n = 1; before = reserve5; last = Reserve 5; facts = writes_none ∷ answer 7 15 0 0 ∷ as_after reserve5 ∷ [] }
    -- a store over it, of order 0 and of order 3
    ∷ record {
      n = 1;
      before = reserve5;
      last = Store 5 0 9;
      facts = writes (0 ∷ []) ∷ entry 1 5 0 9 0 0 ∷ as_after (Store 5 0 9 ∷ []) ∷ [];
    }
    ∷ record {
      n = 1;
      before = reserve5;
      last = Store 0 3 9;
      facts = writes (0 ∷ []) ∷ entry 1 0 3 9 0 0 ∷ as_after (Store 0 3 9 ∷ []) ∷ [];
    }
    -- load, find, mark and erase of it
    ∷ record { n = 1; before = reserve5; last = Load 5; facts = writes_none ∷ answer 2 10 0 1 ∷ [] }
    ∷ record {
      n = 1;
      before = reserve5 ++ (Store 7 0 9 ∷ []);
      last = Find 5 last64 3 3;
      facts = writes_none ∷ entry 6 7 0 9 0 3 ∷ [];
    }
    ∷ record { n = 1; before = Reserve 0 ∷ []; last = Find 0 last64 3 5; facts = writes_none ∷ answer 6 12 0 2 ∷ [] }
    ∷ record { n = 1; before = reserve5; last = Mark 5 0; facts = writes_none ∷ answer 4 10 0 0 ∷ as_after reserve5 ∷ [] }
    ∷ record { n = 1; before = reserve5; last = Erase 5; facts = writes (0 ∷ []) ∷ answer 3 0 5 0 ∷ as_after [] ∷ [] }
    -- short of nodes
    ∷ record { n = 2; before = store2; last = Reserve 64; facts = writes_none ∷ needs 3 ∷ answer 7 11 0 0 ∷ as_after store2 ∷ [] }
    ∷ []
