-- A pool as the model sees it, and what commands make of it.
use Rattle.std.specs.Prelude.{ℕ, List, [], ◌∷◌}
use Rattle.model.specs.declared.Entry.{Entry}
use Rattle.model.specs.Model.{Valid}
use Rattle.layout.specs.Places.{Places, Placed, new_places}
use Rattle.batch.specs.declared.Command.{Command}
use Rattle.execute.specs.Execute.{execute}

-- the list, and which node stands at each number
pub record State : Type 0 where
  pub list : List Entry
  pub places : Places

-- what every command keeps: the list is valid, and each node of its tree stands at one number below n
pub record Kept (n : ℕ) (s : State) : Type 0 where
  pub valid : Valid s.list
  pub placed : Placed n s.list s.places

module _ (n : ℕ) where
  -- one command: the list after it, and the places after it (R35 to R37)
  abbrev pub next : State → Command → State
  next s c =
      let l = (execute n s.list c).list in record { list = l; places = new_places s.list l s.places }

  -- the commands in order (R96)
  abbrev pub states : State → List Command → State
  states s [] = s
  states s (c ∷ cs) = states (next s c) cs
