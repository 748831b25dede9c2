-- The starred cases (R106 to R118, R182, R191, R192, R208) hold, by computation from the definitions: bytes of a batch in, bytes
-- of the replies and words of the pool out, with the words that the last command may write. And case 14, in numbers alone.
use mathlib.Core.Path.{◌≡◌, refl}
use mathlib.Core.Bool.{true}
use mathlib.Core.List.{[], ◌∷◌, ◌++◌}
use lib.ListN.{replicate}
use Rattle.verify.specs.Answers.{init_words}
use Rattle.tree.specs.Tree.{tall, has, slot_mark}
use Rattle.tree.specs.Slots.{slot}
use Rattle.layout.specs.Words.{field_of}
use Rattle.layout.specs.Pool.{slot_of}
use Rattle.layout.specs.Pool as P
use Rattle.layout.specs.Decode.{span, below}
use Rattle.layout.specs.Decide.{is_well_formed}
use Rattle.lookup.specs.Load.{depth_to}
use Rattle.lookup.specs.Find.{stop_tier, turn_at, step, find_from}
use Rattle.batch.specs.Batch.{read_at, parse_from, rest_at, parse}
use Rattle.execute.specs.Execute.{execute}
use Rattle.calls.specs.Calls as C
use Rattle.calls.specs.Cases.{cases, cases_hold}

pub starred_cases : cases_hold cases ≡ true
unfolding tall has slot_mark slot field_of slot_of span below depth_to stop_tier turn_at step find_from read_at parse_from rest_at parse execute
    is_well_formed P.run C.run cases
starred_cases = refl

-- case 14 (R119) in numbers alone, the whole call: result, every word and every byte. Nothing is made by the definitions' own
-- encoders
pub case_14 :
    C.run (init_words (replicate 214 0))
    (0x01 ∷ 0x00 ∷ 0x11 ∷ replicate 8 0x00 ++ 0x00 ∷ replicate 7 0x00 ++ 0x03
    ∷ 0x01 ∷ 0x00 ∷ 0x11 ∷ replicate 7 0x00 ++ 0x40 ∷ 0x00 ∷ replicate 7 0x00 ++ 0x05
    ∷ 0x02 ∷ 0x00 ∷ 0x08 ∷ replicate 7 0x00 ++ 0x40 ∷ [])
    (replicate 73 0xff)
    ≡ record {
      result = record { answer = 0; number = 3 };
      words =
          3 ∷ 4098 ∷ 0 ∷ 0
          ∷ 7 ∷ 0 ∷ 2 ∷ 0 ∷ 0 ∷ 0 ∷ 4102 ∷ 4106 ∷ replicate 62 0
          ++ 1 ∷ 1 ∷ 1 ∷ 0 ∷ 0 ∷ 0 ∷ 3 ∷ replicate 63 0
          ++ 1 ∷ 2 ∷ 1 ∷ 0 ∷ 0 ∷ 0 ∷ 5 ∷ replicate 63 0;
      reply =
          0x81 ∷ 0x00 ∷ 0x15 ∷ 0x00 ∷ replicate 8 0x00 ++ 0x00 ∷ replicate 7 0x00 ++ 0x03 ∷ 0x00 ∷ 0x00 ∷ 0x00
          ∷ 0x81 ∷ 0x00 ∷ 0x15 ∷ 0x00 ∷ replicate 7 0x00 ++ 0x40 ∷ 0x00 ∷ replicate 7 0x00 ++ 0x05 ∷ 0x00 ∷ 0x00 ∷ 0x00
          ∷ 0x82 ∷ 0x00 ∷ 0x15 ∷ 0x00 ∷ replicate 7 0x00 ++ 0x40 ∷ 0x00 ∷ replicate 7 0x00 ++ 0x05 ∷ 0x00 ∷ 0x00 ∷ 0x02
          ∷ 0xff ∷ [];
    }
unfolding tall has slot_mark slot field_of slot_of span below depth_to stop_tier turn_at step find_from read_at parse_from rest_at parse execute
    is_well_formed P.run C.run
case_14 = refl

-- and its listing from 1 on, into 22 bytes: R144 in numbers alone
pub case_14_listed :
    C.list
    (3 ∷ 4098 ∷ 0 ∷ 0
    ∷ 7 ∷ 0 ∷ 2 ∷ 0 ∷ 0 ∷ 0 ∷ 4102 ∷ 4106 ∷ replicate 62 0
    ++ 1 ∷ 1 ∷ 1 ∷ 0 ∷ 0 ∷ 0 ∷ 3 ∷ replicate 63 0
    ++ 1 ∷ 2 ∷ 1 ∷ 0 ∷ 0 ∷ 0 ∷ 5 ∷ replicate 63 0)
    1 100 (replicate 22 0xff)
    ≡ record {
      result = record { answer = 0; number = 1 };
      buffer =
          0x20 ∷ 0x00 ∷ 0x12 ∷ replicate 7 0x00 ++ 0x40 ∷ 0x00 ∷ replicate 7 0x00 ++ 0x05 ∷ 0x00 ∷ 0xff ∷ [];
    }
unfolding tall has slot_mark slot field_of slot_of span below is_well_formed P.run C.list
case_14_listed = refl
