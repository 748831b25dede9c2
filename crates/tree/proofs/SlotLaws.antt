-- Slots of a valid list: what a zero word says, an index found through its slot, marks upwards.
use Prim.Native.Nat.{ℕ, suc, ◌*◌, ◌/◌, ◌^◌, ◌≤◌, ◌<◌}
use mathlib.Core.Path.{◌≡◌, refl, sym, ap, subst, ◌∙◌}
use mathlib.Core.Bool.{true, false}
use mathlib.Core.List.{List}
use mathlib.Core.Option.{Option, none, some}
use native.Mathlib.Omega.{arith}
use lib.Dec.{ltb}
use borrow.Author.Tests.{eqb-true, ltb-true, ltb-false, lt-ltb, eq-eqb}
use Rattle.blocks.specs.Choice.{both}
use Rattle.blocks.specs.Lists.{any, All, In}
use Rattle.blocks.specs.Blocks.{block}
use Rattle.blocks.proofs.BoolLaws.{clash, by_t, is_false, both_l, both_r}
use Rattle.blocks.proofs.ListLaws.{
  All-map,
  All-both,
  any_none,
  any_no,
  first_no,
  first_yes,
  first_same,
  first_none,
  look,
  each,
  any_in_lem,
  in_any,
}
use Rattle.blocks.proofs.BlockLaws.{block_up, block_at}
use Rattle.model.specs.declared.Entry.{Entry}
use Rattle.model.specs.Model.{EntryOk, covers, covering, starts, within, has_mark}
use Rattle.model.proofs.WordLaws.{word_kind}
use Rattle.tree.specs.Slots.{slot, entry_word, Numbering}
use Rattle.tree.specs.Tree.{slot_mark, slot_bits, slots, tier_order}
use Rattle.tree.proofs.StoreLaws.{within_only}
use Rattle.tree.proofs.NodeListLaws.{finer}
use Rattle.blocks.proofs.TierLaws as T

-- the slots of a node are told by so many bits
pub slots_are : slots ≡ 2 ^ slot_bits
slots_are = refl

pub tier_up : (u x : ℕ) → block (tier_order (suc u)) x ≡ block (tier_order u) x / slots
tier_up u x = T.tier_up slot_bits u x ∙ ap (λ (d : ℕ). block (tier_order u) x / d) (sym slots_are)

-- what lies in a slot of a node lies in the node's block
pub within_up : (l : List Entry) (u b : ℕ) → any (within (tier_order u) b) l ≡ true →
    any (within (tier_order (suc u)) (b / slots)) l ≡ true
within_up l u b t =
    subst (λ (d : ℕ). any (within (tier_order (suc u)) (b / d)) l ≡ true) (sym slots_are)
    (T.lies_up (λ e. e.base) finer slot_bits u b l
    (λ x s. let o : x.order < tier_order u = ltb-true _ _ s in
    lt-ltb x.order (tier_order (suc u)) (omega arith)) t)

-- an index whose slot holds no node is covered as the slot's first index is
pub covering_slot : (l : List Entry) (j c y : ℕ) → any (within j c) l ≡ false → block j y ≡ c →
    covering l y ≡ covering l (c * 2 ^ j)
covering_slot l j c y n e = first_same (covers y) (covers (c * 2 ^ j)) (All-map same (any_no (within j c) l n))
  where
    out : (x : Entry) (z : ℕ) → within j c x ≡ false → x.order < j → block j z ≡ c → covers z x ≡ false
    out x z f o q = is_false (λ t. clash {b = within j c x}
        (rw (
          lt-ltb x.order j o,
          eq-eqb _ _ (sym (block_up {j = x.order} {k = j} z x.base (omega arith)
              (eqb-true _ _ t)) ∙ q),
        )) f)

    same : (x : Entry) → within j c x ≡ false → covers y x ≡ covers (c * 2 ^ j) x
    same x f =
        by_t (ltb x.order j) (λ t. out x y f (ltb-true _ _ t) e ∙ sym
        (out x (c * 2 ^ j) f (ltb-true _ _ t) (block_at j c)))
        (λ t. rw (block_up {j = j} {k = x.order} y (c * 2 ^ j) (ltb-false _ _ t) (e ∙ sym (block_at j c))))

-- a slot that holds 0
entry_word_lem : (u c : ℕ) (o : Option Entry) → ((e : Entry) → o ≡ some e → EntryOk e) → entry_word u c o ≡ 0 → o ≡ none
entry_word_lem u c none f z = refl
entry_word_lem u c (some e) f z = absurd (by_t (starts (tier_order u) c e)
    (λ t. (word_kind e (f e refl).word_ok).0 (rw t at z)) (λ t. omega (arith, rw t at z)))

module _ (l : List Entry) (ν : Numbering) (u c : ℕ) (ok : All EntryOk l) (z : slot l ν u c ≡ 0) where
  pub zero_within : any (within (tier_order u) c) l ≡ false
  unfolding slot
  zero_within = is_false (λ t. omega (arith, rw t at z))

  pub zero_covering : covering l (c * 2 ^ (tier_order u)) ≡ none
  unfolding slot
  zero_covering = entry_word_lem u c (covering l (c * 2 ^ (tier_order u)))
      (λ e q. (first_yes (covers (c * 2 ^ (tier_order u))) ok q).1) (rw zero_within at z)

  pub zero_starts : All (λ x. block (tier_order u) x.base ≡ c → ⊥) l
  zero_starts =
      All-map (λ x h q. by_t (ltb x.order (tier_order u))
      (λ t. clash {b = within (tier_order u) c x} (rw (t, eq-eqb _ _ q)) h.0)
      (λ t. clash {b = covers (c * 2 ^ (tier_order u)) x}
      (eq-eqb _ _ (block_up {j = tier_order u} {k = x.order} (c * 2 ^ (tier_order u)) x.base (ltb-false _ _ t)
      (block_at (tier_order u) c ∙ sym q))) h.1))
      (All-both (any_no (within (tier_order u) c) l zero_within)
      (first_no (covers (c * 2 ^ (tier_order u))) l zero_covering))

-- all 64 slots of the node (u + 1, c) hold 0: nothing lies there
pub node_empty : (l : List Entry) (ν : Numbering) (u c : ℕ) → All EntryOk l →
    ((d : ℕ) → d / slots ≡ c → slot l ν u d ≡ 0) → any (within (tier_order (suc u)) c) l ≡ false
node_empty l ν u c ok z =
    any_none (within (tier_order (suc u)) c) (each l (λ x m t. look
    (zero_starts l ν u (block (tier_order u) x.base) ok
    (z _ (sym (tier_up u x.base) ∙ within_only (tier_order (suc u)) c x t))) m refl))

-- nothing lies in the node's block, and no entry covers it whole: all its slots hold 0
pub empty_node : (l : List Entry) (ν : Numbering) (u c : ℕ) → any (within (tier_order (suc u)) c) l ≡ false →
    All (λ x. tier_order (suc u) ≤ x.order → covers (c * 2 ^ (tier_order (suc u))) x ≡ true → ⊥) l → (d : ℕ) →
    d / slots ≡ c → slot l ν u d ≡ 0
unfolding slot
empty_node l ν u c n o d q = rw (no_node, first_none (covers (d * 2 ^ (tier_order u))) (each l no_entry))
  where
    up : (x : ℕ) → block (tier_order u) x ≡ d → block (tier_order (suc u)) x ≡ c
    up x e = tier_up u x ∙ ap (λ (a : ℕ). a / slots) e ∙ q

    inner : (x : Entry) → In x l → x.order < tier_order (suc u) → block (tier_order (suc u)) x.base ≡ c → ⊥
    inner x m h e = clash (in_any (within (tier_order (suc u)) c) m
        (rw (lt-ltb x.order (tier_order (suc u)) h, eq-eqb _ _ e))) n

    no_node : any (within (tier_order u) d) l ≡ false
    no_node = any_none (within (tier_order u) d) (each l
        (λ x m t. inner x m (let h : x.order < tier_order u = ltb-true _ _ (both_l (ltb x.order (tier_order u)) _ t)
        in omega arith) (up x.base (within_only (tier_order u) d x t))))

    no_entry : (x : Entry) → In x l → covers (d * 2 ^ (tier_order u)) x ≡ true → ⊥
    no_entry x m t =
        let top : block (tier_order (suc u)) (d * 2 ^ (tier_order u)) ≡ c = up (d * 2 ^ (tier_order u))
        (block_at (tier_order u) d) in
        by_t (ltb x.order (tier_order (suc u)))
        (λ s. inner x m (ltb-true _ _ s) (sym (block_up {j = x.order} {k = tier_order (suc u)} (d * 2 ^ (tier_order u))
        x.base (let h : x.order < tier_order (suc u) = ltb-true _ _ s in omega arith) (eqb-true _ _ t)) ∙ top))
        (λ s. look o m (ltb-false _ _ s) (eq-eqb _ _ (block_up {j = tier_order (suc u)} {k = x.order}
        (c * 2 ^ (tier_order (suc u))) (d * 2 ^ (tier_order u)) (ltb-false _ _ s)
        (block_at (tier_order (suc u)) c ∙ sym top) ∙ eqb-true _ _ t)))

-- the mark of a slot is the OR of the marks of the 64 slots below
pub mark_up : (l : List Entry) (m u c : ℕ) → slot_mark l m (suc u) c ≡ true →
    (d : ℕ) × (d / slots ≡ c) × (slot_mark l m u d ≡ true)
unfolding slot_mark
mark_up l m u c t =
    let (x, i, s) = any_in_lem (λ e. both (starts (tier_order (suc u)) c e) (has_mark m e)) l t in (
      block (tier_order u) x.base,
      sym (tier_up u x.base) ∙ eqb-true _ _ (both_l (starts (tier_order (suc u)) c x) (has_mark m x) s),
      in_any (λ e. both (starts (tier_order u) (block (tier_order u) x.base) e) (has_mark m e)) i
          (rw (eq-eqb _ _ refl) (both_r (starts (tier_order (suc u)) c x) (has_mark m x) s)),
    )

pub mark_down : (l : List Entry) (m u d : ℕ) → slot_mark l m u d ≡ true → slot_mark l m (suc u) (d / slots) ≡ true
unfolding slot_mark
mark_down l m u d t =
    let (x, i, s) = any_in_lem (λ e. both (starts (tier_order u) d e) (has_mark m e)) l t in
    in_any (λ e. both (starts (tier_order (suc u)) (d / slots) e) (has_mark m e)) i
    (rw (eq-eqb (block (tier_order (suc u)) x.base) (d / slots)
    (tier_up u x.base ∙ ap (λ (a : ℕ). a / slots)
    (eqb-true _ _ (both_l (starts (tier_order u) d x) (has_mark m x) s))))
    (both_r (starts (tier_order u) d x) (has_mark m x) s))

-- nothing starts in a slot of an empty block: its marks are clear
pub empty_marks : (l : List Entry) (u c : ℕ) → any (within (tier_order (suc u)) c) l ≡ false →
    All (λ x. tier_order (suc u) ≤ x.order → covers (c * 2 ^ (tier_order (suc u))) x ≡ true → ⊥) l → (m d : ℕ) →
    d / slots ≡ c → slot_mark l m u d ≡ false
unfolding slot_mark
empty_marks l u c n o m d q =
    any_none (λ e. both (starts (tier_order u) d e) (has_mark m e)) (each l (λ x i t.
    let s : block (tier_order (suc u)) x.base ≡ c = tier_up u x.base ∙ ap (λ (a : ℕ). a / slots)
    (eqb-true _ _ (both_l (starts (tier_order u) d x) (has_mark m x) t)) ∙ q in
    by_t (ltb x.order (tier_order (suc u))) (λ f. clash
    (in_any (within (tier_order (suc u)) c) i (rw (f, eq-eqb _ _ s))) n)
    (λ f. look o i (ltb-false _ _ f) (eq-eqb _ _ (block_up {j = tier_order (suc u)} {k = x.order}
    (c * 2 ^ (tier_order (suc u))) x.base (ltb-false _ _ f) (block_at (tier_order (suc u)) c ∙ sym s))))))

-- a slot under two numberings that give its node the same number
pub slot_num : (l : List Entry) (ν ν' : Numbering) (u c : ℕ) →
    (any (within (tier_order u) c) l ≡ true → ν' u c ≡ ν u c) → slot l ν' u c ≡ slot l ν u c
unfolding slot
slot_num l ν ν' u c e = by_t (any (within (tier_order u) c) l) (λ t. rw (t, e t)) (λ t. rw t)
