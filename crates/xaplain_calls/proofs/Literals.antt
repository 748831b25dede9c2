-- Calls of the plain engine in numbers alone: result, every word and every byte (R301, R304, R305, R307). The batch is that of case 14
-- of the tree (calls/Cases): a store at 0, one at 64, a load of 64.
use mathlib.Core.Path.{◌≡◌, refl}
use mathlib.Core.List.{[], ◌∷◌, ◌++◌}
use lib.ListN.{replicate}
use Rattle.batch.specs.Batch.{read_at, parse_from, rest_at, parse}
use Rattle.xaplain.specs.Slices.{slices, list_of, in_order, zeros_from, init_slices}
use Rattle.xaplain.specs.Engine.{execute}
use Rattle.xaplain_calls.specs.Calls.{run}

-- with room to spare: in place of the load's count 0
pub roomy_in_bytes :
    run (init_slices (slices (replicate 3 7) (replicate 3 7) (replicate 3 7) (replicate 3 7)))
    (0x01 ∷ 0x00 ∷ 0x11 ∷ replicate 8 0x00 ++ 0x00 ∷ replicate 7 0x00 ++ 0x03
    ∷ 0x01 ∷ 0x00 ∷ 0x11 ∷ replicate 7 0x00 ++ 0x40 ∷ 0x00 ∷ replicate 7 0x00 ++ 0x05
    ∷ 0x02 ∷ 0x00 ∷ 0x08 ∷ replicate 7 0x00 ++ 0x40 ∷ [])
    (replicate 73 0xff)
    ≡ record {
      result = record { answer = 0; number = 3 };
      slices = slices (0 ∷ 64 ∷ 0 ∷ []) (0 ∷ 0 ∷ 0 ∷ []) (3 ∷ 5 ∷ 0 ∷ []) (0 ∷ 0 ∷ 0 ∷ []);
      reply =
          0x81 ∷ 0x00 ∷ 0x15 ∷ 0x00 ∷ replicate 8 0x00 ++ 0x00 ∷ replicate 7 0x00 ++ 0x03 ∷ 0x00 ∷ 0x00 ∷ 0x00
          ∷ 0x81 ∷ 0x00 ∷ 0x15 ∷ 0x00 ∷ replicate 7 0x00 ++ 0x40 ∷ 0x00 ∷ replicate 7 0x00 ++ 0x05 ∷ 0x00 ∷ 0x00 ∷ 0x00
          ∷ 0x82 ∷ 0x00 ∷ 0x15 ∷ 0x00 ∷ replicate 7 0x00 ++ 0x40 ∷ 0x00 ∷ replicate 7 0x00 ++ 0x05 ∷ 0x00 ∷ 0x00 ∷ 0x00
          ∷ 0xff ∷ [];
    }
unfolding run list_of in_order zeros_from execute read_at parse_from rest_at parse
roomy_in_bytes = refl

-- with room for one: 11, and then 10
pub short_in_bytes :
    run (slices (0 ∷ []) (0 ∷ []) (0 ∷ []) (0 ∷ []))
    (0x01 ∷ 0x00 ∷ 0x11 ∷ replicate 8 0x00 ++ 0x00 ∷ replicate 7 0x00 ++ 0x03
    ∷ 0x01 ∷ 0x00 ∷ 0x11 ∷ replicate 7 0x00 ++ 0x40 ∷ 0x00 ∷ replicate 7 0x00 ++ 0x05
    ∷ 0x02 ∷ 0x00 ∷ 0x08 ∷ replicate 7 0x00 ++ 0x40 ∷ [])
    (replicate 72 0xff)
    ≡ record {
      result = record { answer = 0; number = 3 };
      slices = slices (0 ∷ []) (0 ∷ []) (3 ∷ []) (0 ∷ []);
      reply =
          0x81 ∷ 0x00 ∷ 0x15 ∷ 0x00 ∷ replicate 8 0x00 ++ 0x00 ∷ replicate 7 0x00 ++ 0x03 ∷ 0x00 ∷ 0x00 ∷ 0x00
          ∷ 0x81 ∷ 0x00 ∷ 0x15 ∷ 0x0b ∷ replicate 20 0x00
          ++ 0x82 ∷ 0x00 ∷ 0x15 ∷ 0x0a ∷ replicate 20 0x00;
    }
unfolding run list_of in_order zeros_from execute read_at parse_from rest_at parse
short_in_bytes = refl
