-- A store of a new entry, or a reservation: what is known of it, and the marks that it keeps.
use Rattle.std.specs.Prelude.{ℕ, ◌+◌, ◌*◌, ◌<◌, ◌≡◌, Bool, true, false, List, get_or}
use Rattle.std.proofs.Math.Option.{Option}
use Rattle.blocks.specs.Blocks.{bit}
use Rattle.model.specs.declared.Entry.{Entry}
use Rattle.model.specs.Model.{storable, reserved_word, store}
use Rattle.layout.specs.Words.{mark_place}
use Rattle.layout.specs.WellFormed.{WellFormed}
use Rattle.plan.specs.declared.Heads.{Heads}
use Rattle.plan.specs.declared.Target.{Target}
use Rattle.script_new.specs.New.{NewList, NewPlanned}

-- the word of a store, or a reservation's order and word
pub record Puttable (k w : ℕ) (reserve : Bool) : Type 0 where
  pub stores : reserve ≡ false → storable w ≡ true
  pub reserves : reserve ≡ true → (k ≡ 0) × (w ≡ reserved_word)

-- the range becomes an entry with the word w and the marks m
pub record NewMade {ws : List ℕ} (s : WellFormed ws) (i k w m : ℕ) : Type 0 where
  pub option : Option Entry
  pub new : NewList s i k w m option (store s.list i k w)

-- the numbers of the nodes over the index are planned
pub record PathPlanned {ws : List ℕ} (s : WellFormed ws) (target : Target) (heads : Heads) (ps : List ℕ) : Type 0 where
  pub chain : List ℕ
  pub planned : NewPlanned s target heads ps chain

-- r is 1 if one of the bits of w from o on, c of them, is set, and 0 if none is
pub record AnyBit (w o c r : ℕ) : Type 0 where
  pub some : (t : ℕ) → t < c → bit (o + t) w ≡ 1 → r ≡ 1
  pub none : ((t : ℕ) → t < c → bit (o + t) w ≡ 0) → r ≡ 0

-- r is marks 0 and 1 of the slots of node n from o on, c of them
pub record RunMarks (ws : List ℕ) (n o c r : ℕ) : Type 0 where
  pub low : ℕ
  pub high : ℕ
  pub low_is : AnyBit (get_or ws (mark_place n 0) 0) o c low
  pub high_is : AnyBit (get_or ws (mark_place n 1) 0) o c high
  pub sum_is : r ≡ low + 2 * high
