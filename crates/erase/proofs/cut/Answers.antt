-- `cut`: takes out the entry that covers i, which has no marks.
use Prim.Native.Nat.{ℕ}
use mathlib.Core.Path.{◌≡◌, subst}
use Rattle.model.specs.Model.{erase}
use Rattle.tree.specs.Tree.{height}
use Rattle.layout.specs.WellFormed.{WellFormed, num}
use Rattle.lookup.specs.Views.{Holds}
use Rattle.erase.specs.Tall.{Tall}
use Rattle.erase.specs.Leaving.{Unmarked}
use Rattle.erase.proofs.cut.Goals as goal

tall : (c : goal.After-shrink-arg-2-1) (s : WellFormed c.args.pool.now) →
    Holds s.list (num s) c.args.i c.args.at.node
    c.args.at.tier c.args.at.slot →
    Unmarked s.list c.args.i →
    height s.list ≡ c.args.at.top →
    Tall s.n c.args.at.top (erase s.list c.args.i)
    s.places c.prune_up.new.pool
tall c s h un z =
    subst (λ (x : ℕ). Tall s.n x (erase s.list c.args.i) s.places
    c.prune_up.new.pool) z
    (c.prune_up.ensures.by_index _ s
    (c.cut_run.ensures.cut s h un))

tall_2 : (c : goal.After-slice_known-7-1) (s : WellFormed c.args.pool.now) →
    Holds s.list (num s) c.args.i c.args.at.node
    c.args.at.tier c.args.at.slot →
    Unmarked s.list c.args.i →
    height s.list ≡ c.args.at.top →
    Tall s.n c.args.at.top (erase s.list c.args.i)
    s.places c.prune_up.new.pool
tall_2 c s h un z =
    subst (λ (x : ℕ). Tall s.n x (erase s.list c.args.i) s.places
    c.prune_up.new.pool) z
    (c.prune_up.ensures.by_index _ s
    (c.cut_run.ensures.cut s h un))

pub prune_up-requires-clause-cutting : goal.prune_up-requires-clause-cutting
prune_up-requires-clause-cutting c =
    record {
      before = c.args.pool.now;
      formed = c.requires.leaves.formed;
      state = c.cut_run.ensures.cut c.requires.leaves.formed c.requires.leaves.holds c.requires.leaves.unmarked;
    }

pub shrink-requires-clause-tower : goal.shrink-requires-clause-tower
shrink-requires-clause-tower c =
    record {
      n = c.requires.leaves.formed.n;
      list = erase c.requires.leaves.formed.list c.args.i;
      places = c.requires.leaves.formed.places;
      tall = tall c c.requires.leaves.formed c.requires.leaves.holds c.requires.leaves.unmarked c.requires.leaves.height_is;
    }

pub returns-clause-pool_after : goal.returns-clause-pool_after
returns-clause-pool_after c =
    λ s h un z. c.shrink.ensures.by_index s.n (erase s.list c.args.i) s.places (tall_2 c s h un z)
