-- What a slot's word says, and the words that say it.
use Prim.Native.Nat.{ℕ, ◌*◌, ◌-◌, ◌/◌, ◌%◌, ◌<◌}
use mathlib.Core.Path.{◌≡◌, refl, ap, subst}
use mathlib.Core.Logic.{◌≢◌}
use mathlib.Core.Bool.{true}
use native.Mathlib.Omega.{arith}
use lib.Dec.{eqb, ltb}
use borrow.Author.Tests.{eqb-true, eqb-false, eq-eqb, ne_eqb, ltb-true, ltb-false, lt-ltb, le-ltb}
use Rattle.blocks.proofs.BoolLaws.{by_t, clash}
use Rattle.model.specs.Model.{reserved_word}
use Rattle.tree.specs.Tree.{slots}
use Rattle.tree.specs.Slots.{node_word, sibling_word, node_offset}
use Rattle.layout.specs.declared.Slot.{Slot}
use Rattle.layout.specs.declared.Slot.TheVariants.{Empty, Reserved, Held, Sibling, Child}
use Rattle.layout.specs.Pool.{slot_of, child_of}
use Rattle.layout.specs.Reading.{is_child, is_node}

abbrev pub Says : ℕ → Slot → Type 0
Says w Empty = w ≡ 0
Says w Reserved = w ≡ reserved_word
Says w Held = (w ≢ 0) × (w % 4 ≢ 2)
Says w (Sibling o) = (w ≡ sibling_word o) × (o < node_offset) × (w ≢ reserved_word)
Says w (Child m) = w ≡ node_word m

pub says : (w : ℕ) → Says w (slot_of w)
unfolding slot_of
says w =
    by_t (eqb w 0) (λ p. rw p (eqb-true _ _ p)) (λ p.
    by_t (eqb (w % 4) 2)
    (λ q. by_t (eqb w reserved_word) (λ z. rw (p, q, z) (eqb-true _ _ z)) (λ z. by_t (ltb w (4 * node_offset))
    (λ r. rw (p, q, z, r) (
      omega (arith, eqb-true (w % 4) 2 q),
      omega (arith, ltb-true w (4 * node_offset) r),
      eqb-false _ _ z,
    ))
    (λ r. rw (p, q, z, r) (omega (arith, eqb-true (w % 4) 2 q, ltb-false w (4 * node_offset) r)))))
    (λ q. rw (p, q) (eqb-false _ _ p, eqb-false _ _ q)))

pub said : (w : ℕ) (κ : Slot) → Says w κ → slot_of w ≡ κ
unfolding slot_of
said w Empty e = rw e
said w Reserved e = rw e
said w Held e = rw (ne_eqb _ _ e.0, ne_eqb _ _ e.1)
said w (Sibling o) e =
    let d = e.0 in let f = e.1 in
    let a : w / 4 ≡ o = omega arith in
    rw (
      ne_eqb w 0 (λ (z : w ≡ 0). omega arith),
      eq-eqb (w % 4) 2 (omega arith),
      ne_eqb w reserved_word e.2,
      lt-ltb w (4 * node_offset) (omega arith),
      a,
    )
said w (Child m) e =
    let a : w / 4 - node_offset ≡ m = omega arith in
    rw (
      ne_eqb w 0 (λ (z : w ≡ 0). omega arith),
      eq-eqb (w % 4) 2 (omega arith),
      ne_eqb w reserved_word (λ (z : w ≡ reserved_word). omega arith),
      le-ltb w (4 * node_offset) (omega arith),
      a,
    )

pub word_of_lem : (w : ℕ) (κ : Slot) → slot_of w ≡ κ → Says w κ
word_of_lem w κ e = subst (Says w) e (says w)

-- of a slot of a node
pub said_sibling : (w o : ℕ) → w ≡ sibling_word o → o < slots → slot_of w ≡ Sibling o
said_sibling w o e h = said w (Sibling o) (e, omega arith, λ (z : w ≡ reserved_word). omega arith)

-- a word leads to a node exactly if it is a node's
pub node_word_of : (w : ℕ) → is_node w ≡ true → (m : ℕ) × (w ≡ node_word m)
node_word_of w t = go (slot_of w) (says w) t
  where
    go : (κ : Slot) → Says w κ → is_child κ ≡ true → (m : ℕ) × (w ≡ node_word m)
    go Empty e t = absurd (clash t refl)
    go Reserved e t = absurd (clash t refl)
    go Held e t = absurd (clash t refl)
    go (Sibling o) e t = absurd (clash t refl)
    go (Child m) e t = (m, e)

pub is_node_word : (w m : ℕ) → w ≡ node_word m → is_node w ≡ true
is_node_word w m e = ap is_child (said w (Child m) e)

pub child_is : (w m : ℕ) → w ≡ node_word m → child_of (slot_of w) ≡ m
child_is w m e = ap child_of (said w (Child m) e)
