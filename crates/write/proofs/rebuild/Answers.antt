-- What gives way is freed, then the count, the path, the head's marks and the entry are written, and its slots' marks folded.
use Prim.Native.Nat.{ℕ, ◌+◌, ◌/◌}
use mathlib.Core.Path.{◌≡◌, ap, ap₂, subst, ◌∙◌}
use mathlib.Core.List.{List}
use lib.Dec.{ltb}
use lib.ListN.{get_or, set}
use Rattle.tree.specs.Tree.{slot_bits}
use Rattle.layout.specs.Words.{filled_place}
use Rattle.write.specs.declared.Seat.{Seat}
use Rattle.write.specs.Writes.{seat_of, filled_then, cleared, given_way, linked, top_marked, entered, fold_all, rebuilt}
use Rattle.freenodes.specs.FreeNodes.{Follows}
use Rattle.write.proofs.rebuild.Goals as goal

module _ (ws ps : List ℕ) (i k w n h top head m : ℕ) {s : Seat} (seat-is : s ≡ seat_of i k (get_or ps (k / slot_bits + 1) 0))
  where
    rebuilt-is : {ws₀ ws₁ ws₂ ws₃ ws₄ ws₅ : List ℕ} {f : ℕ} → f ≡ filled_then ws s.node s.slot s.count →
        ws₀ ≡ cleared ws n s.node s.slot s.count s.tier (ltb h top) head h →
        ws₁ ≡ set ws₀ (filled_place (get_or ps (k / slot_bits + 1) 0)) f →
        ws₂ ≡ linked ws₁ ps i (k / slot_bits) top → ws₃ ≡ top_marked ws₂ ps m h top →
        ws₄ ≡ entered ws₃ s.node s.slot s.count w → ws₅ ≡ fold_all ws₄ s.node s.slot s.count →
        ws₅ ≡ rebuilt ws ps i k w n h top head m
    unfolding rebuilt
    rebuilt-is f e₀ e₁ e₂ e₃ e₄ e₅ = e₅ ∙ (ap (λ (y : List ℕ). fold_all y s.node s.slot s.count)
        (e₄ ∙ ap (λ (y : List ℕ). entered y s.node s.slot s.count w)
        (e₃ ∙ ap (λ (y : List ℕ). top_marked y ps m h top) (e₂ ∙ ap (λ (y : List ℕ). linked y ps i (k / slot_bits) top)
        (e₁ ∙ ap₂ (λ (y : List ℕ) (x : ℕ). set y (filled_place (get_or ps (k / slot_bits + 1) 0)) x) e₀ f)))) ∙
        ap (λ (x : Seat). fold_all (entered (top_marked (linked
        (set (cleared ws n x.node x.slot x.count x.tier (ltb h top) head h) (filled_place (get_or ps (k / slot_bits + 1) 0))
        (filled_then ws x.node x.slot x.count)) ps i (k / slot_bits) top) ps m h top)
        x.node x.slot x.count w) x.node x.slot x.count) seat-is)

    follows_is : {ws₀ ms ms' : List ℕ} →
        ws₀ ≡ cleared ws n s.node s.slot s.count s.tier (ltb h top) head h → Follows ws ws₀ ms ms' →
        Follows ws (given_way ws ps i k n h top head) ms ms'
    follows_is {ms = ms} {ms'} e = subst (λ (y : List ℕ). Follows ws y ms ms')
        (e ∙ ap (λ (x : Seat). cleared ws n x.node x.slot x.count x.tier (ltb h top) head h) seat-is)

pub returns-clause-pool_after : goal.returns-clause-pool_after
returns-clause-pool_after c =
    rebuilt-is c.args.pool.now c.args.path.now c.args.target.index c.args.target.order c.args.target.word c.args.n c.args.heads.old c.args.heads.new c.args.heads.word
    c.args.heads.marks c.seat_of-seat.ensures.value c.filled_then-f.ensures c.clear.ensures.pool_after c.put_filled.ensures c.link.ensures
    c.mark_top.ensures c.put_entry.ensures c.fold_all.ensures
