-- One command by the tree: what this engine adds to what a command means (crate commands). No word of the pool is read.
use Rattle.std.specs.Prelude.{ℕ, ◌-◌, Bool, List, ltb, length}
use Rattle.answers.specs.Answers.{ended, paused}
use Rattle.model.specs.declared.Entry.{Entry}
use Rattle.tree.specs.Tree.{nodes, needed}
use Rattle.lookup.specs.declared.Outcome.{Outcome}
use Rattle.lookup.specs.declared.Outcome.TheVariants.{Found, Ended, Paused}
use Rattle.lookup.specs.Load.{depth}
use Rattle.lookup.specs.Find.{find}
use Rattle.batch.specs.declared.Command.{Command}
use Rattle.batch.specs.declared.Reply.{Reply}
use Rattle.batch.specs.Reply.{reply_tag, answered, answered_by}
use Rattle.commands.specs.Commands.{Executed, Engine, execute_as}

-- R85, R86: more nodes are needed than were free (document 01: blank) before the command
abbrev pub short : ℕ → List Entry → List Entry → Bool
short n l l' = ltb (n - length (nodes l)) (needed l l')

-- R52, R53, R80
abbrev pub finding : (tag : ℕ) → Outcome → Reply
finding t (Found e n) = answered_by t e n
finding t (Ended n) = answered t ended 0 n
finding t (Paused p n) = answered t paused p n

-- the tree in a pool of n nodes
abbrev pub tree : ℕ → Engine
tree n = record { lacks = short n; count = depth; finds = λ t l a z f k. finding t (find l a z f k) }

module _ (n : ℕ) (l : List Entry) where
  unfoldable pub execute : Command → Executed
  execute c = execute_as (tree n) l (reply_tag c) c
