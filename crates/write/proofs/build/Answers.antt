-- The counts, the edges, then the entry at its seat.
use Prim.Native.Nat.{ℕ, ◌+◌, ◌-◌, ◌/◌}
use mathlib.Core.Path.{◌≡◌, ◌∙◌}
use mathlib.Core.List.{List}
use lib.ListN.{get_or}
use Rattle.tree.specs.Tree.{slot_bits}
use Rattle.layout.specs.Words.{filled_place}
use Rattle.write.specs.declared.Seat.{Seat}
use Rattle.write.specs.Writes.{seat_of, path_counts, joins, entered, built}
use Rattle.write.proofs.build.Goals as goal

built-is : (ws ps : List ℕ) (i k w u : ℕ) {ws₁ ws₂ ws₃ : List ℕ} {f : ℕ} {s : Seat} → f ≡ get_or ws (filled_place (get_or ps (u + 1) 0)) 0 →
    ws₁ ≡ path_counts ws ps k (u + 1) f → ws₂ ≡ joins ps i ws₁ (k / slot_bits + 1) (u + 1 - (k / slot_bits + 1)) →
    s ≡ seat_of i k (get_or ps (k / slot_bits + 1) 0) → ws₃ ≡ entered ws₂ s.node s.slot s.count w →
    ws₃ ≡ built ws ps i k w u
unfolding built
built-is ws ps i k w u f e₁ e₂ q e₃ = e₃ ∙ rw (e₂, e₁, f, q)

-- THE PLACES IN THE CODE, each from one after it

pub returns : goal.returns
returns c =
    built-is c.args.pool.now c.args.path.now c.args.target.index c.args.target.order c.args.target.word c.args.u
    c.filled_of.ensures c.count_path.ensures c.join_all.ensures c.seat_of.ensures.value c.put_entry.ensures
