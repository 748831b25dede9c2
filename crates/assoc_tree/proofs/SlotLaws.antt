-- What the slots of a node lead to, by the sizes of blocks.
use Prim.Native.Nat.{ℕ, zero, suc, ◌+◌, ◌*◌, ◌-◌, ◌/◌, ◌≤◌, ◌<◌}
use mathlib.Core.Path.{◌≡◌, refl, sym, ap, ◌∙◌, subst}
use mathlib.Core.Bool.{Bool, true, false, not}
use mathlib.Core.List.{List, [], ◌∷◌}
use mathlib.Core.Option.{some}
use mathlib.Core.Logic.{◌⊎◌, inl, inr}
use native.Mathlib.Omega.{arith}
use lib.ListN.{length}
use borrow.Author.Tests.{ne_eqb, lt-ltb, le-leb, lt-leb}
use Rattle.blocks.specs.Choice.{pick}
use Rattle.blocks.specs.Lists.{keep, In, here, there}
use Rattle.blocks.proofs.BoolLaws.{by_t, either_yes}
use Rattle.blocks.proofs.ListLaws.{in_cons}
use Rattle.assoc_tree.specs.Keys.{Item}
use Rattle.assoc_tree.specs.Parts.{slot_bits, block_of, over, in_block, size, size_over, skipped, low_from, leaf, is_upper, full, top_tier, leads, nth, leaf_of, slot, slots}
use Rattle.assoc_tree.proofs.SizeLaws.{in_own, size_step}
use Rattle.blocks.proofs.TierLaws as T

-- the slot of k in a node, over the bits of a slot
pub tier_up : (v x : ℕ) → block_of (suc v) x ≡ block_of v x / slots
tier_up v x = T.tier_up slot_bits v x

pub in_keep : {A : Type 0} (p : A → Bool) {l : List A} {x : A} → In x l → p x ≡ true → In x (keep p l)
in_keep p here t = rw t here
in_keep p (there {y = y} m) t = by_t (p y) (λ e. rw e (there (in_keep p m t))) (λ e. rw e (in_keep p m t))

pub keep_in : {A : Type 0} (p : A → Bool) (l : List A) {x : A} → In x (keep p l) → In x l × (p x ≡ true)
keep_in {A = A} p [] {x = x} m = elim m [ ]
keep_in p (y ∷ l) {x} m =
    by_t (p y) (λ e. go e (in_cons (rw e at m)) (λ k. keep_in p l k))
    (λ e. let (a, b) = keep_in p l (rw e at m) in (there a, b))
  where
    go : p y ≡ true → (x ≡ y) ⊎ In x (keep p l) → (In x (keep p l) → In x l × (p x ≡ true)) → In x (y ∷ l) × (p x ≡ true)
    go e (inl q) f = rw q (here, e)
    go e (inr k) f = let (a, b) = f k in (there a, b)

pub nth_in : (zs : List Item) (i : ℕ) {y : Item} → nth zs i ≡ some y → In y zs
nth_in [] i e = let z : ◌≡◌ {A = ℕ} 0 1 = cc in absurd (omega arith)
nth_in (z ∷ zs) zero {y} e = let d : z ≡ y = cc in subst (λ (r : Item). In r (z ∷ zs)) d here
nth_in (z ∷ zs) (suc i) e = there (nth_in zs i e)

pub nth_some : (zs : List Item) (j : ℕ) → j < length zs → (y : Item) × (nth zs j ≡ some y)
nth_some [] j h = absurd (omega arith)
nth_some (z ∷ zs) zero h = (z, refl)
nth_some (z ∷ zs) (suc j) h = nth_some zs j (omega arith)

pub nth_lt : (zs : List Item) (i : ℕ) {y : Item} → nth zs i ≡ some y → i < length zs
nth_lt [] i e = let z : ◌≡◌ {A = ℕ} 0 1 = cc in absurd (omega arith)
nth_lt (z ∷ zs) zero e = omega arith
nth_lt (z ∷ zs) (suc i) e = omega (arith, nth_lt zs i e)

pub slot_packed : (l : List Item) (v c i : ℕ) {y : Item} → size l v c ≤ full → nth (in_block l v c) i ≡ some y →
    slot l v c i ≡ some (leaf l y.key)
unfolding slot
slot_packed l v c i h q = rw (le-leb (size l v c) full h) (ap leaf_of q)

pub slot_spread : (l : List Item) (v c j : ℕ) → full < size l v c → slot l v c j ≡ leads l (v - 1) (slots * c + j)
unfolding slot
slot_spread l v c j h = rw (lt-leb (size l v c) full h)

-- one key at most in a block: the same
one_in : {A : Type 0} (zs : List A) {x y : A} → length zs ≤ 1 → In x zs → In y zs → x ≡ y
one_in [] h m k = elim m [ ]
one_in (z ∷ []) {x} {y} h m k = go (in_cons m) (in_cons k)
  where
    go : (x ≡ z) ⊎ In x [] → (y ≡ z) ⊎ In y [] → x ≡ y
    go (inl a) (inl b) = a ∙ sym b
    go (inr a) b = elim a [ ]
    go (inl a) (inr b) = elim b [ ]
one_in (z ∷ w ∷ zs) h m k = absurd (omega arith)

pub one_key : (l : List Item) (w c : ℕ) {x y : Item} → size l w c < 2 → In x l → In y l → over w c x ≡ true → over w c y ≡ true →
    x ≡ y
unfolding size
one_key l w c h m k a b = one_in (in_block l w c) (omega arith) (in_keep (over w c) m a) (in_keep (over w c) k b)

-- what a node's slot leads to has its upper end there
pub upper_child : (l : List Item) (w x : ℕ) → 1 ≤ w → w < top_tier → 2 ≤ size_over l w x → full < size_over l (suc w) x →
    skipped l (suc w) x ≡ false → is_upper l w x ≡ true
unfolding is_upper
upper_child l zero x p h a b t = absurd (omega arith)
upper_child l (suc w) x p h a b t =
    rw (ne_eqb (suc w) top_tier (omega arith), le-leb 2 _ a, lt-ltb full _ b, t) (either_yes (not (skipped l (suc w) x)))

-- the node at the end of a run
pub low_here : (l : List Item) (u x : ℕ) → skipped l u x ≡ false → low_from l x u ≡ u
unfolding low_from
low_here l zero x t = refl
low_here l (suc u) x t = rw t

pub upper_here : (l : List Item) (u x : ℕ) → 1 ≤ u → u < top_tier → full < size_over l u x → skipped l u x ≡ false →
    is_upper l u x ≡ true
unfolding is_upper
upper_here l zero x p h b t = absurd (omega arith)
upper_here l (suc u) x p h b t =
    rw (
      ne_eqb (suc u) top_tier (omega arith),
      le-leb 2 (size_over l (suc u) x) (omega arith),
      lt-ltb full (size_over l (suc (suc u)) x) (omega (arith, size_step l (suc u) x)),
      t,
    )

pub size_pos : {l : List Item} {x : Item} (v : ℕ) → In x l → 1 ≤ size_over l v x.key
unfolding size
size_pos {l} {x} v m = go l m
  where
    p : Item → Bool
    p = over v (block_of v x.key)

    go : (t : List Item) → In x t → 1 ≤ length (keep (over v (block_of v x.key)) t)
    go [] x'' = elim x'' [ ]
    go (y ∷ t) here = rw (in_own v x) (omega arith)
    go (y ∷ t) (there i) = elim (over v (block_of v x.key) y) as
        (λ (b : Bool). 1 ≤ length (pick b (y ∷ keep (over v (block_of v x.key)) t) (keep (over v (block_of v x.key)) t)))
        [ true ↦ omega arith | false ↦ go t i ]

pub root_upper : (l : List Item) (x : ℕ) → 1 ≤ size_over l top_tier x → is_upper l top_tier x ≡ true
unfolding is_upper
root_upper l x h = rw (le-leb 1 (size_over l top_tier x) h) (either_yes (not (skipped l top_tier x)))
