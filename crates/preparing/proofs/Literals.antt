-- Preparing in numbers: the smallest pools, records as bytes, and what comes out.
use Prim.Native.Nat.{ℕ}
use mathlib.Core.Path.{◌≡◌, refl}
use mathlib.Core.List.{List, [], ◌∷◌, ◌++◌}
use lib.ListN.{replicate}
use Rattle.tree.specs.Tree.{tall, has, slot_mark}
use Rattle.tree.specs.Slots.{slot}
use Rattle.layout.specs.Words.{field_of}
use Rattle.layout.specs.Pool.{slot_of}
use Rattle.layout.specs.Pool as P
use Rattle.layout.specs.Decode.{span, below}
use Rattle.layout.specs.Decide.{is_well_formed}
use Rattle.lookup.specs.Load.{depth_to}
use Rattle.batch.specs.Batch.{read_at}
use Rattle.execute.specs.Execute.{execute}
use Rattle.script.specs.Script.{script_from}
use Rattle.preparing.specs.Prepare.{Yield, the_one, prepare}

-- an empty pool of one node; one that holds the word 3 at index 0
abbrev empty : List ℕ
empty = 1 ∷ replicate 73 0

abbrev three : List ℕ
three = 1 ∷ 3 ∷ replicate 72 0

-- eight bytes of a small number
abbrev wide : ℕ → List ℕ
wide x = 0 ∷ 0 ∷ 0 ∷ 0 ∷ 0 ∷ 0 ∷ 0 ∷ x ∷ []

abbrev storing : (i k w : ℕ) → List ℕ
storing i k w = 1 ∷ 0 ∷ 17 ∷ wide i ++ k ∷ wide w

abbrev erasing : ℕ → List ℕ
erasing i = 3 ∷ 0 ∷ 8 ∷ wide i

abbrev marking : (i m : ℕ) → List ℕ
marking i m = 4 ∷ 0 ∷ 9 ∷ wide i ++ m ∷ []

abbrev reserving : ℕ → List ℕ
reserving i = 7 ∷ 0 ∷ 8 ∷ wide i

abbrev gives : (answer number : ℕ) → (slice : List ℕ) → Yield
gives a k out = record { result = record { answer = a; number = k }; slice = out }

-- done: the head's word of an entry at index 0, and the rest of the slice; a mark on it; the erase; a reservation; no word changes
pub done_in_numbers :
    (prepare empty (storing 0 0 3) (9 ∷ 9 ∷ 9 ∷ []) ≡ gives 0 2 (1 ∷ 3 ∷ 9 ∷ []))
    × (prepare three (marking 0 2) (9 ∷ 9 ∷ []) ≡ gives 0 2 (2 ∷ 4 ∷ []))
    × (prepare three (erasing 0) (9 ∷ 9 ∷ []) ≡ gives 0 2 (1 ∷ 0 ∷ []))
    × (prepare empty (reserving 0) (9 ∷ 9 ∷ []) ≡ gives 0 2 (1 ∷ 1030 ∷ []))
    × (prepare three (storing 0 0 3) [] ≡ gives 0 0 [])
unfolding tall has slot_mark slot field_of slot_of span below depth_to read_at execute is_well_formed P.run script_from the_one prepare
done_in_numbers = (refl, refl, refl, refl, refl)

-- an entry in a node: the head's word, the node's shift and count, and its slot 5
pub node_in_numbers :
    prepare empty (storing 5 0 7) (replicate 9 9) ≡ gives 0 8 (1 ∷ 4098 ∷ 4 ∷ 1 ∷ 6 ∷ 1 ∷ 15 ∷ 7 ∷ 9 ∷ [])
unfolding tall has slot_mark slot field_of slot_of span below depth_to read_at execute is_well_formed P.run script_from the_one prepare
node_in_numbers = refl

-- the pool: a word too few, a word that no list prescribes; each before the bytes are looked at
pub pool_in_numbers :
    (prepare (1 ∷ replicate 72 0) [] (9 ∷ []) ≡ gives 1 0 (9 ∷ []))
    × (prepare (1 ∷ 0 ∷ 1 ∷ replicate 71 0) [] (9 ∷ []) ≡ gives 2 0 (9 ∷ []))
unfolding tall has slot_mark slot field_of slot_of span below is_well_formed P.run the_one prepare
pool_in_numbers = (refl, refl)

-- 3: no byte, a record cut short, a byte after it, a second record, a tag that no command has, a load
pub record_in_numbers :
    (prepare empty [] (9 ∷ []) ≡ gives 3 0 (9 ∷ []))
    × (prepare empty (4 ∷ 0 ∷ 9 ∷ wide 0) (9 ∷ []) ≡ gives 3 0 (9 ∷ []))
    × (prepare empty (marking 0 9 ++ 0 ∷ []) (9 ∷ []) ≡ gives 3 0 (9 ∷ []))
    × (prepare empty (marking 0 9 ++ marking 0 9) (9 ∷ []) ≡ gives 3 0 (9 ∷ []))
    × (prepare empty (8 ∷ 0 ∷ 8 ∷ wide 0) (9 ∷ []) ≡ gives 3 0 (9 ∷ []))
    × (prepare empty (2 ∷ 0 ∷ 8 ∷ wide 0) (9 ∷ []) ≡ gives 3 0 (9 ∷ []))
unfolding tall has slot_mark slot field_of slot_of span below read_at is_well_formed P.run the_one prepare
record_in_numbers = (refl, refl, refl, refl, refl, refl)

-- the command's own answers, with no room at all: 5, 14, 6, 11 of a store, 7 and 10 of a mark, 10 of an erase, 15 and 11 of a
-- reservation
pub own_in_numbers :
    (prepare empty (storing 0 64 3) [] ≡ gives 5 0 [])
    × (prepare empty (storing 1 1 3) [] ≡ gives 14 0 [])
    × (prepare empty (storing 0 0 2) [] ≡ gives 6 0 [])
    × (prepare empty (storing 64 0 3) [] ≡ gives 11 0 [])
    × (prepare empty (marking 0 3) [] ≡ gives 7 0 [])
    × (prepare empty (marking 0 2) [] ≡ gives 10 0 [])
    × (prepare empty (erasing 0) [] ≡ gives 10 0 [])
    × (prepare three (reserving 0) [] ≡ gives 15 0 [])
    × (prepare empty (reserving 64) [] ≡ gives 11 0 [])
unfolding tall has slot_mark slot field_of slot_of span below depth_to read_at execute is_well_formed P.run script_from the_one prepare
own_in_numbers = (refl, refl, refl, refl, refl, refl, refl, refl, refl)

-- 4: a script of two words into one, with the length of the script
pub room_in_numbers :
    (prepare empty (storing 0 0 3) (9 ∷ []) ≡ gives 4 2 (9 ∷ [])) × (prepare three (erasing 0) [] ≡ gives 4 2 [])
unfolding tall has slot_mark slot field_of slot_of span below depth_to read_at execute is_well_formed P.run script_from the_one prepare
room_in_numbers = (refl, refl)
