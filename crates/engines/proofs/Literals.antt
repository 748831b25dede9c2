-- What is left out, in numbers alone: the tree's count of a load, and nothing of a store's reply (R309).
use mathlib.Core.Path.{◌≡◌, refl}
use mathlib.Core.List.{[], ◌∷◌, ◌++◌}
use lib.ListN.{replicate}
use Rattle.engines.specs.Seen.{but_counts}

-- the last two replies of case 14 (calls/Cases), and a byte behind them
pub left_out_in_bytes :
    but_counts (record {
      answer = 0;
      number = 2;
      reply =
          0x81 ∷ 0x00 ∷ 0x15 ∷ 0x00 ∷ replicate 7 0x00 ++ 0x40 ∷ 0x00 ∷ replicate 7 0x00 ++ 0x05 ∷ 0x00 ∷ 0x00 ∷ 0x00
          ∷ 0x82 ∷ 0x00 ∷ 0x15 ∷ 0x00 ∷ replicate 7 0x00 ++ 0x40 ∷ 0x00 ∷ replicate 7 0x00 ++ 0x05 ∷ 0x00 ∷ 0x00 ∷ 0x02
          ∷ 0xff ∷ [];
    })
    ≡ record {
      answer = 0;
      number = 2;
      reply =
          0x81 ∷ 0x00 ∷ 0x15 ∷ 0x00 ∷ replicate 7 0x00 ++ 0x40 ∷ 0x00 ∷ replicate 7 0x00 ++ 0x05 ∷ 0x00 ∷ 0x00 ∷ 0x00
          ∷ 0x82 ∷ 0x00 ∷ 0x15 ∷ 0x00 ∷ replicate 7 0x00 ++ 0x40 ∷ 0x00 ∷ replicate 7 0x00 ++ 0x05 ∷ 0x00 ∷ 0x00 ∷ 0x00
          ∷ 0xff ∷ [];
    }
left_out_in_bytes = refl
