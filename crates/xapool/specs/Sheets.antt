-- The call on a base sheet and a supplement: what a look-up gives a host (R256 to R261).
use Rattle.std.specs.Prelude.{ℕ}
use Rattle.answers.specs.Answers.{done, bad_batch, absent}
use Rattle.evidence.specs.declared.Found.{Found}
use Rattle.evidence.specs.declared.Found.TheVariants.{Nowhere, InBase, InSupplement, BadSheet}
pub use Rattle.xapool.specs.declared.sheets.Part.{Part}

abbrev pub part : (answer sheet place length : ℕ) → Part
part a s p n = record { answer = a; sheet = s; place = p; length = n }

-- sheet 0 is the base sheet, 1 the supplement
abbrev pub part_result : Found → Part
part_result BadSheet = part bad_batch 0 0 0
part_result Nowhere = part absent 0 0 0
part_result (InBase p n) = part done 0 p n
part_result (InSupplement p n) = part done 1 p n
