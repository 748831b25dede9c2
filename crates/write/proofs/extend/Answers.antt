-- The counts, the path, what stands above the old head, then the entry at its seat.
use Prim.Native.Nat.{ℕ, ◌+◌, ◌/◌}
use mathlib.Core.Path.{◌≡◌, ◌∙◌}
use mathlib.Core.List.{List}
use lib.ListN.{get_or}
use Rattle.tree.specs.Tree.{slot_bits}
use Rattle.write.specs.declared.Seat.{Seat}
use Rattle.write.specs.Writes.{seat_of, grown_counts, linked, grown, entered, extended}
use Rattle.write.proofs.extend.Goals as goal

extended-is : (ws ps cs : List ℕ) (i k w h top head m : ℕ) {ws₀ ws₁ ws₂ ws₃ : List ℕ} {s : Seat} →
    ws₀ ≡ grown_counts ws ps cs k h top head → ws₁ ≡ linked ws₀ ps i (k / slot_bits) top →
    ws₂ ≡ grown ws₁ ps cs m h top head → s ≡ seat_of i k (get_or ps (k / slot_bits + 1) 0) →
    ws₃ ≡ entered ws₂ s.node s.slot s.count w → ws₃ ≡ extended ws ps cs i k w h top head m
unfolding extended
extended-is ws ps cs i k w h top head m e₀ e₁ e₂ q e₃ = e₃ ∙ rw (e₂, e₁, e₀, q)

-- THE PLACES IN THE CODE, each from one after it

pub returns : goal.returns
returns c =
    extended-is c.args.pool.now c.args.path.now c.args.chain.now c.args.target.index c.args.target.order c.args.target.word
    c.args.heads.old c.args.heads.new c.args.heads.word c.args.heads.marks c.count_grown.ensures c.link.ensures
    c.grow.ensures c.seat_of.ensures.value c.put_entry.ensures
