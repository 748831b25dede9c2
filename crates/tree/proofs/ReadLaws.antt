-- What a walk down sees: a slot's word, and whether an entry of at least order k covers the index.
use Prim.Native.Nat.{ℕ, ◌*◌, ◌%◌, ◌^◌, ◌<◌}
use mathlib.Core.Path.{◌≡◌, refl, subst, ◌∙◌}
use mathlib.Core.Bool.{true, false}
use mathlib.Core.List.{List}
use mathlib.Core.Option.{Option, none, some}
use native.Mathlib.Omega.{arith}
use native.Mathlib.Nat.{le_refl}
use lib.Dec.{leb}
use borrow.Author.Tests.{eqb-true}
use Rattle.blocks.specs.Lists.{any, All}
use Rattle.blocks.specs.Blocks.{block}
use Rattle.blocks.proofs.BoolLaws.{clash, by_t, iff, both_l, both_r}
use Rattle.blocks.proofs.ListLaws.{All-map, any_none, each, any_in_lem, in_any, first_yes, first_no, first_none}
use Rattle.blocks.proofs.BlockLaws.{block_up}
use Rattle.model.specs.declared.Entry.{Entry}
use Rattle.model.specs.Model.{EntryOk, covers, covering, starts, within, over, Valid}
use Rattle.model.proofs.ValidLaws.{unique}
use Rattle.model.proofs.WordLaws.{word_kind}
use Rattle.tree.specs.Slots.{slot, entry_word, Numbering, node_word, sibling_word}
use Rattle.tree.specs.Tree.{height, slots, tier_order}
use Rattle.tree.proofs.HeightLaws.{Low, height_fits, fits_order, fits_base}

-- what a slot of tier u stands for, and its word
pub data Seen (l : List Entry) (ν : Numbering) (u c : ℕ) : ℕ → Type 0 where
  nothing : any (within (tier_order u) c) l ≡ false → covering l (c * 2 ^ (tier_order u)) ≡ none → Seen l ν u c 0
  lower : any (within (tier_order u) c) l ≡ true → Seen l ν u c (node_word (ν u c))
  entry : (e : Entry) → any (within (tier_order u) c) l ≡ false → covering l (c * 2 ^ (tier_order u)) ≡ some e →
      starts (tier_order u) c e ≡ true → EntryOk e → Seen l ν u c e.word
  sibling : (e : Entry) → any (within (tier_order u) c) l ≡ false → covering l (c * 2 ^ (tier_order u)) ≡ some e →
      starts (tier_order u) c e ≡ false → EntryOk e → Seen l ν u c
      (sibling_word (block (tier_order u) e.base % slots))

pub see : (l : List Entry) (ν : Numbering) (u c : ℕ) → All EntryOk l → Seen l ν u c (slot l ν u c)
unfolding slot
see l ν u c ok = by_t (any (within (tier_order u) c) l) (λ t. rw t (lower t))
    (λ t. rw t (go t (covering l (c * 2 ^ (tier_order u))) refl))
  where
    go : any (within (tier_order u) c) l ≡ false → (o : Option Entry) → covering l (c * 2 ^ (tier_order u)) ≡ o →
        Seen l ν u c (entry_word u c o)
    go t none q = nothing t q
    go t (some e) q =
        let y : EntryOk e = (first_yes (covers (c * 2 ^ (tier_order u))) ok q).1 in
        by_t (starts (tier_order u) c e) (λ s. rw s (entry e t q s y)) (λ s. rw s (sibling e t q s y))

-- by the word alone
pub seen_node : (l : List Entry) (ν : Numbering) (u c x : ℕ) → Seen l ν u c x → x % 4 ≡ 2 → 4096 < x →
    (any (within (tier_order u) c) l ≡ true) × (x ≡ node_word (ν u c))
seen_node l ν u c x (nothing t q) m g = absurd (omega arith)
seen_node l ν u c x (lower t) m g = (t, refl)
seen_node l ν u c x (entry e t q s ok) m g = absurd (omega (arith, (word_kind e ok.word_ok).1 m))
seen_node l ν u c x (sibling e t q s ok) m g = absurd (omega arith)

-- an entry of order k or more over i
pub over_some : (l : List Entry) (i k : ℕ) (e : Entry) → Valid l → covering l i ≡ some e →
    any (over i k) l ≡ leb k e.order
over_some l i k e v q =
    let (c, m) = first_yes (covers i) (each l (λ x m. m)) q in
    iff (any (over i k) l) (leb k e.order)
    (λ t. let (x, n, s) = any_in_lem (over i k) l t in
    subst (λ (y : Entry). leb k y.order ≡ true) (unique i v n m (both_l (covers i x) (leb k x.order) s) c)
    (both_r (covers i x) (leb k x.order) s))
    (λ t. in_any (over i k) m (rw (c, t)))

pub over_none : (l : List Entry) (i k : ℕ) → covering l i ≡ none → any (over i k) l ≡ false
over_none l i k q = any_none (over i k) (All-map (λ x n t. clash (both_l (covers i x) (leb k x.order) t) n)
    (first_no (covers i) l q))

-- past the head's block nothing covers
pub past_head : (l : List Entry) (y : ℕ) → All Low l → (block (tier_order (height l)) y ≡ 0 → ⊥) → covering l y ≡ none
past_head l y low n =
    first_none (covers y) (All-map (λ x f t. n (block_up {j = x.order} {k = tier_order (height l)} y x.base
    (omega (arith, fits_order (height l) x f)) (eqb-true _ _ t) ∙ fits_base (height l) x f))
    (height_fits low (le_refl _)))
