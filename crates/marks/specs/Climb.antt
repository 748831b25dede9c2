-- What a climb needs: a well-formed pool, and an entry that stands at a spot of it and may be marked.
use Rattle.std.specs.Prelude.{ℕ, ◌≡◌, Bool, true, false, List}
use Rattle.std.proofs.Math.Option.{some}
use Rattle.model.specs.declared.Entry.{Entry}
use Rattle.model.specs.Model.{reserved, covering}
use Rattle.layout.specs.WellFormed.{WellFormed, num}
use Rattle.lookup.specs.Views.{Holds}

-- a mark of e can be set, or cleared: none is set on a reservation (R203)
abbrev pub Markable : Entry → Bool → Type 0
Markable e on = reserved e ≡ true → on ≡ false

-- the entry that covers i has its first slot at slot o of node n, whose slots are of tier v
pub record StandsAt (i n v o : ℕ) (on : Bool) (ws : List ℕ) : Type 0 where
  pub formed : WellFormed ws
  pub holds : Holds formed.list (num formed) i n v o
  pub markable : (s : WellFormed ws) (e : Entry) → covering s.list i ≡ some e → Markable e on
