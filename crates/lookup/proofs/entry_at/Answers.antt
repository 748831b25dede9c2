-- `entry_at`: the entry whose first slot is c, in node n.
use Prim.Native.Nat.{ℕ, ◌+◌, ◌*◌}
use mathlib.Core.Path.{◌≡◌, refl, sym, ap, ◌∙◌}
use Rattle.tree.specs.Tree.{tier_order}
use Rattle.lookup.proofs.WordLaws.{slot_read}
use Rattle.lookup.proofs.StandLaws.{stands_base, entry_word_lem}
use Rattle.lookup.proofs.entry_at.Goals as goal

pub returns : goal.returns
returns c =
    λ s e a st.
    let x = c.args in
    let b : x.c * c.pow2.result ≡ e.base = ap (λ (y : ℕ). x.c * y) c.pow2.ensures ∙ sym
    (stands_base s.valid st) in
    let k : tier_order x.v + c.order_of-k.result ≡ e.order = sym
    (c.order_of-k.ensures.order_value s x.v x.c e a refl st) in
    let w : c.slot_word-w.result ≡ e.word = c.slot_word-w.ensures ∙
    (slot_read s x.c _ a refl ∙ entry_word_lem s.valid st _) in
    let m : c.marks_of-m.result ≡ e.marks = c.marks_of-m.ensures s x.v x.c e a
    refl st in
    λ i. record { base = b i; order = k i; word = w i; marks = m i }
