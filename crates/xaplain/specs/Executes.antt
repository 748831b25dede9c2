-- What the functions of this crate promise of one command.
use Rattle.std.specs.Prelude.{ℕ, ◌≡◌, List, length}
use Rattle.batch.specs.declared.Command.{Command}
pub use Rattle.xaplain.specs.declared.Turned.{Turned}
use Rattle.xaplain.specs.Moves.{Holds, Columns}
use Rattle.xaplain.specs.Engine.{execute}

-- the reply, the number of entries and the slices after a command, where the slices before hold a list
pub record Executes {is os ws ms : List ℕ} {n : ℕ} (h : Holds is os ws ms n) (c : Command) (r : Turned)
    (is' os' ws' ms' : List ℕ) : Type 0
  where
    pub reply_is : r.reply ≡ (execute (length is) h.list c).reply
    pub count_is : r.count ≡ length (execute (length is) h.list c).list
    pub columns : Columns is' os' ws' ms' (length is) (execute (length is) h.list c).list
