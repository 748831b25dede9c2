-- What a find looks for, whatever keeps the list (R61 to R64, R67).
use Rattle.std.specs.Prelude.{ℕ, Bool, not, List, eqb}
use Rattle.std.proofs.Math.Option.{Option}
use Rattle.blocks.specs.Choice.{both, either}
use Rattle.blocks.specs.Lists.{first}
use Rattle.model.specs.declared.Entry.{Entry}
use Rattle.model.specs.Model.{reserved, has_mark}
use Rattle.model.specs.Model as M

-- R64
abbrev pub any_mark : ℕ
any_mark = 3

-- R62, R64; a reservation matches no filter (R203)
abbrev pub matches : ℕ → Entry → Bool
matches f e = both (not (reserved e)) (either (eqb f any_mark) (has_mark f e))

-- what an unpaused find answers: the first entry in index order that matches and whose run meets first .. last
abbrev pub meets : ℕ → ℕ → ℕ → Entry → Bool
meets f a z e = both (matches f e) (M.meets a z e)

abbrev pub first_match : List Entry → (first last filter : ℕ) → Option Entry
first_match l a z f = first (meets f a z) l
