-- The decoding computes: the words of two entries at three places, there and back.
use mathlib.Core.Path.{◌≡◌, refl}
use mathlib.Core.List.{List, [], ◌∷◌}
use mathlib.Core.Option.{none, some}
use Rattle.model.specs.declared.Entry.{Entry}
use Rattle.model.specs.Model.{store}
use Rattle.tree.specs.Tree.{tall, has, slot_mark}
use Rattle.tree.specs.Slots.{slot}
use Rattle.layout.specs.Words.{field_of}
use Rattle.layout.specs.Places.{Places, render}
use Rattle.layout.specs.Pool.{slot_of, run}
use Rattle.layout.specs.Decode.{span, below, list_of, places_of}

abbrev pub two : List Entry
two = store (store [] 0 0 3) 64 0 5

abbrev pub at_places : Places
at_places =
    some (record { tier = 2; number = 0 }) ∷ some (record { tier = 1; number = 1 })
    ∷ some (record { tier = 1; number = 0 }) ∷ none ∷ []

list_of_two : list_of (render two at_places 4) ≡ two
unfolding tall has slot slot_mark field_of slot_of run span below
list_of_two = refl

places_of_two : places_of (render two at_places 4) ≡ at_places
unfolding tall has slot slot_mark field_of slot_of run span below
places_of_two = refl
