-- When a batch is refused, as R71 words it.
use Rattle.std.specs.Prelude.{ℕ, ◌+◌, ◌≤◌, ◌<◌, ◌≡◌, true, false, List, length, get_or}
use Rattle.batch.specs.Batch.{max_batch, head_bytes, field_bytes, is_record}

-- where records begin: at 0, and where a good one ends
pub data Begins (s : List ℕ) : ℕ → Type 0 where
  first : Begins s 0
  later : {at : ℕ} → Begins s at → at < length s → is_record s at ≡ true →
      Begins s (at + head_bytes + field_bytes (get_or s at 0))

-- R71: the batch is too long, or a record that begins there is bad (all before it are good, so it is the first such)
pub data Refuses (s : List ℕ) : ℕ → Type 0 where
  too_long : max_batch < length s → Refuses s max_batch
  bad_record : {at : ℕ} → length s ≤ max_batch → Begins s at → at < length s → is_record s at ≡ false → Refuses s at
