-- Walks of a few finds, computed: over pauses, and over a change that makes an index reported twice (R293, R295).
use Prim.Native.Nat.{ℕ}
use mathlib.Core.Path.{◌≡◌, refl}
use mathlib.Core.List.{List, [], ◌∷◌}
use mathlib.Core.Option.{some}
use Rattle.model.specs.declared.Entry.{Entry}
use Rattle.tree.specs.Tree.{tall, has, slot_mark}
use Rattle.lookup.specs.declared.Outcome.TheVariants.{Found, Ended}
use Rattle.lookup.specs.Find.{stop_tier, turn_at, step, find_from}
use Rattle.walks.specs.Walk.{Moment, walk, still}

abbrev entry : (base order : ℕ) → Entry
entry b k = record { base = b; order = k; word = 3; marks = 0 }

-- two entries, four slots apart: one find of a report each, or one step a find
abbrev apart : List Entry
apart = entry 0 0 ∷ entry 4 0 ∷ []

pub in_one_find : walk 3 9 (still apart (99 ∷ 99 ∷ 99 ∷ [])) 0 0 ≡ some (Found (entry 0 0) 1 ∷ Found (entry 4 0) 4 ∷ Ended 5 ∷ [])
unfolding tall has slot_mark stop_tier turn_at step find_from walk
in_one_find = refl

pub step_by_step : walk 3 9 (still apart (1 ∷ 1 ∷ 1 ∷ 1 ∷ 1 ∷ 1 ∷ 1 ∷ 1 ∷ 1 ∷ 1 ∷ [])) 0 0
    ≡ some (Found (entry 0 0) 1 ∷ Found (entry 4 0) 4 ∷ Ended 5 ∷ [])
unfolding tall has slot_mark stop_tier turn_at step find_from walk
step_by_step = refl

-- 0 is reported, then an entry of order 1 is stored over it
abbrev changing : List Moment
changing = record { list = entry 0 0 ∷ []; budget = 9 } ∷ record { list = entry 0 1 ∷ []; budget = 9 } ∷ []

pub reported_twice : walk 3 1 changing 0 0 ≡ some (Found (entry 0 0) 1 ∷ Found (entry 0 1) 1 ∷ [])
unfolding tall has slot_mark stop_tier turn_at step find_from walk
reported_twice = refl
