-- The decoding of prescribed words is the list, and its numbering.
use Prim.Native.Nat.{ℕ, zero, suc, ◌+◌, ◌*◌, ◌-◌, ◌/◌, ◌%◌, ◌^◌, ◌≤◌, ◌<◌}
use mathlib.Core.Path.{◌≡◌, refl, sym, ap, ◌∙◌, subst}
use mathlib.Core.Logic.{inl, inr}
use mathlib.Core.Bool.{true, false}
use mathlib.Core.List.{List, [], ◌∷◌}
use native.Mathlib.Omega.{arith}
use lib.Pow.{pow_pos}
use borrow.Author.Tests.{eqb-true, eq-eqb, ltb-true, lt-ltb}
use Rattle.blocks.proofs.BoolLaws.{by_t}
use Rattle.model.specs.declared.Entry.{Entry}
use Rattle.model.specs.Model.{marks_of}
use Rattle.model.proofs.WordLaws.{by_word, storable_kind}
use Rattle.tree.specs.Slots.{Numbering}
use Rattle.tree.specs.Tree.{height, fits, tier_order, slots}
use Rattle.tree.proofs.HeightLaws.{Low, fits_order, fits_base, fits_tall, tall_fits}
use Rattle.layout.specs.declared.Slot.{Slot}
use Rattle.layout.specs.declared.Slot.TheVariants.{Empty, Reserved, Held, Child}
use Rattle.layout.specs.Pool.{slot_of, Pool, slot_at}
use Rattle.layout.specs.Decode.{wide, list_in, level_of}
use Rattle.decode.proofs.Restrict.{part, in_block, Chain, low_order, has_level, Prescribes}
use Rattle.decode.proofs.KeepLaws.{
  Every,
  Some,
  all_map,
  keep_all,
  some_with,
  some_get,
  some_keep,
  keep_some,
  some_map,
  some_no,
}
use Rattle.decode.proofs.BelowLaws.{up}
use Rattle.layout.proofs.SaysLaws.{said}
use Rattle.decode.proofs.FitLaws.{chain_low, base_low}
use Rattle.decode.proofs.ChainLaws.{wide_pow}
use Rattle.decode.proofs.SlotsShown.{
  entry_eq,
  has_parts,
  make_has,
  Shown,
  an_empty,
  a_sibling,
  an_entry,
  a_reserved,
  a_child,
  shown,
  below_is,
}
use Rattle.model.proofs.MarkLaws.{marks_one}

-- an entry of the list needs the height
pub tallest_some : (t : ℕ) (l : List Entry) → height l ≡ suc t → Some (λ e. fits t e ≡ false) l
tallest_some t [] e = absurd (omega arith)
tallest_some t (x ∷ xs) e =
    by_t (fits t x)
    (λ f. inr (tallest_some t xs (omega (arith, fits_tall t x f))))
    (λ f. inl f)

-- and all fit under it
height_all : (h : ℕ) (l : List Entry) → Every Low l → height l ≤ h → Every (λ e. fits h e ≡ true) l
height_all h [] a le = tt
height_all h (x ∷ xs) a le = (tall_fits h x a.0 (omega arith), height_all h xs a.1 (omega arith))

module _ (P : Pool) (l : List Entry) (ν : Numbering) (R : Prescribes P l ν) where
  low : Every Low l
  low = chain_low l R.valid

  pub data Head : Type 0 where
    no_node : height l ≡ 0 → Head
    a_node : (t : ℕ) → height l ≡ suc t → Head

  pub head : Head
  head = go (height l) refl
    where
      go : (h : ℕ) → height l ≡ h → Head
      go zero e = no_node e
      go (suc t) e = a_node t e

  -- the head's block holds all
  module _ (t : ℕ) (ht : height l ≡ suc t) where
    fit : Every (λ e. (e.base / wide (suc t) ≡ 0) × (e.order < tier_order (suc t))) l
    fit =
        all_map {A = Entry} (λ e. fits (suc t) e ≡ true) _
        (λ e f. (
          ap (λ (w : ℕ). e.base / w) (sym (wide_pow (suc t))) ∙ fits_base (suc t) e f,
          omega (arith, fits_order (suc t) e f),
        ))
        l (height_all (suc t) l low (omega arith))

    pub in_head : Every (λ e. e.base / wide (suc t) ≡ 0) l
    in_head = all_map {A = Entry} (λ e. (e.base / wide (suc t) ≡ 0) × (e.order < tier_order (suc t))) _ (λ e h. h.0)
        l fit

    pub head_all : part (wide (suc t)) 0 l ≡ l
    head_all = keep_all (in_block (wide (suc t)) 0) l (all_map {A = Entry} (λ e. e.base / wide (suc t) ≡ 0) _
        (λ e h. eq-eqb (e.base / wide (suc t)) 0 h) l in_head)

    some_all : (Q : Entry → Type 0) (xs : List Entry) → height xs ≡ suc t → Every Q xs → Some Q xs
    some_all Q [] e a = absurd (omega arith)
    some_all Q (x ∷ xs) e a = inl a.0

    pub has_head : has_level l t 0 ≡ true
    has_head =
        make_has P l ν R t 0 (omega (arith, ht))
        (rw head_all (some_all (λ e. low_order (suc t) e ≡ true) l ht
        (all_map {A = Entry} (λ e. (e.base / wide (suc t) ≡ 0) × (e.order < tier_order (suc t))) _
        (λ e h. lt-ltb e.order (tier_order (suc t)) h.1) l fit)))

    pub head_slot_lem : slot_of P.head ≡ Child (ν t 0)
    head_slot_lem = rw (R.head_is, ht) (said _ (Child (ν t 0)) refl)

    pub head_level : level_of P (ν t 0) ≡ t
    head_level = omega (arith, (R.nodes t 0 has_head).shift_is)

    list_tree : list_in P ≡ l
    list_tree = rw (head_slot_lem, head_level) (below_is P l ν R t 0 has_head ∙ head_all)

    pub head_zero : (b : ℕ) → has_level l t b ≡ true → b ≡ 0
    head_zero b h =
        some_get (b ≡ 0) l (some_with {A = Entry} (λ e. e.base / wide (suc t) ≡ 0)
        (λ e. (in_block (wide (suc t)) b e ≡ true) × (low_order (suc t) e ≡ true)) (λ e. b ≡ 0)
        (λ e p q. sym (eqb-true (e.base / wide (suc t)) b q.0) ∙ p) l in_head
        (keep_some (in_block (wide (suc t)) b) (λ e. low_order (suc t) e ≡ true) l (has_parts P l ν R t b h).1))

    -- a node that is not the head has one above, which holds it
    pub has_up : (v b : ℕ) → suc v ≤ t → has_level l v b ≡ true → has_level l (suc v) (b / slots) ≡ true
    has_up v b p h =
        make_has P l ν R (suc v) (b / slots) (omega (arith, ht))
        (some_keep (in_block (wide (suc (suc v))) (b / slots)) (λ x. low_order (suc (suc v)) x ≡ true) l
        (some_map (λ x. (in_block (wide (suc v)) b x ≡ true) × (low_order (suc v) x ≡ true)) _
        (λ x z. (
          eq-eqb (x.base / wide (suc (suc v))) (b / slots)
              (up x.base (suc v) ∙ ap (λ (y : ℕ). y / slots) (eqb-true (x.base / wide (suc v)) b z.0)),
          lt-ltb x.order (tier_order (suc (suc v))) (omega (arith, ltb-true x.order (tier_order (suc v)) z.1)),
        ))
        l (keep_some (in_block (wide (suc v)) b) (λ e. low_order (suc v) e ≡ true) l (has_parts P l ν R v b h).1)))

    low_child : (v b j : ℕ) (κ : Slot) → Shown P l ν R (suc v) b j κ →
        Some (λ e. low_order (suc v) e ≡ true) (part (wide (suc v)) (slots * b + j) l) →
        κ ≡ Child (ν v (slots * b + j))
    low_child v b j _ (an_empty e f) s = absurd (rw e at s)
    low_child v b j _ (a_sibling y e f) s = absurd (rw e at s)
    low_child v b j _ (an_entry x e f) s = absurd (some_no (λ z. ⊥) (λ z q. q) (x ∷ [])
        (some_with {A = Entry} (λ z. tier_order (suc v) ≤ z.order) (λ z. low_order (suc v) z ≡ true) (λ z. ⊥)
        (λ z p q. omega (arith, ltb-true z.order (tier_order (suc v)) q)) (x ∷ []) (f, tt) (rw e at s)))
    low_child v b j _ (a_reserved x e f r) s = absurd (some_no (λ z. ⊥) (λ z q. q) (x ∷ [])
        (some_with {A = Entry} (λ z. tier_order (suc v) ≤ z.order) (λ z. low_order (suc v) z ≡ true) (λ z. ⊥)
        (λ z p q. omega (arith, ltb-true z.order (tier_order (suc v)) q)) (x ∷ []) (f, tt) (rw e at s)))
    low_child v b j _ (a_child x xs e f) s = let z : suc v - 1 ≡ v = omega arith in rw z

    pub child_slot : (v b : ℕ) → suc v ≤ t → has_level l v b ≡ true →
        slot_at P (ν (suc v) (b / slots)) (b % slots) ≡ Child (ν v b)
    child_slot v b p h =
        let q : slots * (b / slots) + b % slots ≡ b = omega arith in
        subst (λ (c : ℕ). slot_at P (ν (suc v) (b / slots)) (b % slots) ≡ Child (ν v c)) q
        (low_child v (b / slots) (b % slots) _ (shown P l ν R (suc v) (b / slots) (b % slots) (has_up v b p h)
        (omega arith))
        (subst (λ (c : ℕ). Some (λ e. low_order (suc v) e ≡ true) (part (wide (suc v)) c l)) (sym q)
        (has_parts P l ν R v b h).1))

  -- without a node there is one entry at most, at 0 and of order 0
  pub at_zero : height l ≡ 0 → Every (λ e. (e.base ≡ 0) × (e.order ≡ 0)) l
  at_zero z =
      all_map {A = Entry} (λ e. fits 0 e ≡ true) _ (λ e f. let b : e.base < 1 = base_low 0 e.base
      (fits_base 0 e f) in (omega arith, omega (arith, fits_order 0 e f)))
      l (height_all 0 l low (omega arith))

  pub two_apart : {A : Type 0} (x y : Entry) (xs : List Entry) → l ≡ x ∷ y ∷ xs → height l ≡ 0 → A
  two_apart x y xs e z =
      let vv : Chain 0 (x ∷ y ∷ xs) (2 ^ 64) = subst (λ (s : List Entry). Chain 0 s (2 ^ 64)) e R.valid in
      let zz : Every (λ e. (e.base ≡ 0) × (e.order ≡ 0)) (x ∷ y ∷ xs) = subst
      (λ (s : List Entry). Every (λ e. (e.base ≡ 0) × (e.order ≡ 0)) s) e (at_zero z) in
      absurd (omega (arith, vv.2.0, zz.1.0.0, pow_pos x.order))

  list_lone : (xs : List Entry) → l ≡ xs → height l ≡ 0 → list_in P ≡ l
  list_lone [] e z =
      let k : slot_of P.head ≡ Empty = rw (R.head_is, z, e) (said 0 Empty refl) in
      rw (k, e)
  list_lone (x ∷ []) e z =
      let hd : P.head ≡ x.word = R.head_is ∙ (rw (z, e)) in
      let vv : Chain 0 (x ∷ []) (2 ^ 64) = subst (λ (y : List Entry). Chain 0 y (2 ^ 64)) e R.valid in
      let k : list_in P ≡ record { base = 0; order = 0; word = P.head; marks = P.marks } ∷ [] = by_word x vv.1.word_ok
      (λ s. let q : slot_of P.head ≡ Held = rw hd (said x.word Held (storable_kind x.word s)) in rw q)
      (λ r o m. let q : slot_of P.head ≡ Reserved = said P.head Reserved (hd ∙ r) in rw q) in
      let zz : Every (λ e. (e.base ≡ 0) × (e.order ≡ 0)) (x ∷ []) = subst
      (λ (s : List Entry). Every (λ e. (e.base ≡ 0) × (e.order ≡ 0)) s) e (at_zero z) in
      rw e (k ∙ ap (λ (y : Entry). y ∷ []) (entry_eq (record
      { base = 0; order = 0; word = P.head; marks = P.marks }) x (sym zz.0.0) (sym zz.0.1) hd
      (R.marks_are ∙ ap marks_of e ∙ marks_one x vv.1.marks_fit)))
  list_lone (x ∷ y ∷ xs) e z = two_apart x y xs e z

  pub list_back : list_in P ≡ l
  list_back = elim head [ no_node z ↦ list_lone l refl z | a_node t z ↦ list_tree t z ]
