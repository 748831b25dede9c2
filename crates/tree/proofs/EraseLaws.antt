-- Clearing a range: slots, the nodes that go, and where the head can be lower.
use Prim.Native.Nat.{ℕ, suc, ◌*◌, ◌/◌, ◌^◌, ◌≤◌, ◌<◌, max}
use mathlib.Core.Path.{◌≡◌, refl, sym, ap, ◌∙◌}
use mathlib.Core.Bool.{Bool, true, false}
use mathlib.Core.List.{List, [], ◌∷◌}
use mathlib.Core.Option.{some}
use mathlib.Core.Logic.{◌⊎◌, inl, inr}
use native.Mathlib.Omega.{arith}
use native.Mathlib.Nat.{le_refl, div-one, pow-le-pow_right}
use lib.Dec.{leb, ltb, eqb, lit<}
use borrow.Author.Tests.{leb-true, leb-false, eqb-true, eqb-false, ltb-true, ltb-false, le-leb, eq-eqb}
use Rattle.blocks.specs.Choice.{pick}
use Rattle.blocks.specs.Lists.{any, without, All, In}
use Rattle.blocks.specs.Blocks.{block}
use Rattle.blocks.proofs.BoolLaws.{clash, by_t, both_l, both_r, either_yes}
use Rattle.blocks.proofs.ListLaws.{
  All-map,
  any_none,
  any_split,
  first_no,
  first_yes,
  first_none,
  look,
  each,
  any_in_lem,
  in_any,
  in_without,
}
use Rattle.blocks.proofs.BlockLaws.{block_up, block_at}
use Rattle.model.specs.declared.Entry.{Entry}
use Rattle.model.specs.Model.{covers, covering, starts, within, Valid}
use Rattle.model.specs.ByBlock.{clear}
use Rattle.model.proofs.RangeLaws.{
  Room,
  InRun,
  Apart,
  Inside,
  clear_apart,
  clear_inside,
  clear_uncovered,
  clear_covering_not,
}
use Rattle.model.proofs.ValidLaws.{unique, covers_self, covers_i, sorted_ok}
use Rattle.tree.specs.Slots.{slot, Numbering, node_word}
use Rattle.tree.specs.Tree.{has, height, fits, slots, tier_order}
use Rattle.tree.proofs.StoreLaws.{within_only}
use Rattle.tree.proofs.HeightLaws.{Low, height_le, height_fits, fits_i, fits_order, fits_base}
use Rattle.tree.proofs.SlotLaws.{tier_up, covering_slot, zero_covering, zero_starts}

module _ (i k : ℕ) (l : List Entry) (room : All (Room i k) l) where
  pub clear_slot_apart : (ν ν' : Numbering) (u c : ℕ) → Apart i k (tier_order u) c →
      (any (within (tier_order u) c) l ≡ true → ν' u c ≡ ν u c) → slot (clear l i k) ν' u c ≡ slot l ν u c
  unfolding slot
  clear_slot_apart ν ν' u c a e =
      rw (
        clear_apart i k l (within (tier_order u) c) (tier_order u) c (within_only (tier_order u) c) a,
        clear_covering_not i k l room (c * 2 ^ (tier_order u)) (a _ (block_at (tier_order u) c)),
      )
      (by_t (any (within (tier_order u) c) l) (λ t. rw (t, e t)) (λ t. rw t))

  pub clear_slot_inside : (ν : Numbering) (u c : ℕ) → Inside i k (tier_order u) c → slot (clear l i k) ν u c ≡ 0
  unfolding slot
  clear_slot_inside ν u c a =
      rw (
        clear_inside i k l (within (tier_order u) c) (tier_order u) c (within_only (tier_order u) c) a,
        first_none (covers (c * 2 ^ (tier_order u))) (clear_uncovered i k l room (c * 2 ^ (tier_order u))
            (a _ (block_at (tier_order u) c))),
      )

  pub clear_slot_path : (ν : Numbering) (u : ℕ) → slot (clear l i k) ν u (block (tier_order u) i) ≡ pick
      (any (within (tier_order u) (block (tier_order u) i)) (clear l i k)) (node_word (ν u (block (tier_order u) i))) 0
  unfolding slot
  clear_slot_path ν u =
      by_t (any (within (tier_order u) (block (tier_order u) i)) (clear l i k)) (λ t. rw t)
      (λ t. rw (
        t,
        ← covering_slot (clear l i k) (tier_order u) (block (tier_order u) i) i t refl,
        first_none (covers i) (clear_uncovered i k l room i refl),
      ))

-- the head
pub height_clear : (q : Entry → Bool) (l : List Entry) → height (without q l) ≤ height l
height_clear q [] = le_refl _
height_clear q (x ∷ l) = by_t (q x) (λ t. rw t (omega (arith, height_clear q l)))
    (λ t. rw t (omega (arith, height_clear q l)))

-- no node appears
pub has_clear : (i k : ℕ) (l : List Entry) (u b : ℕ) → has (clear l i k) u b ≡ true → has l u b ≡ true
unfolding has
has_clear i k l u b t =
    let p : u ≤ height (clear l i k) = leb-true _ _ (both_l (leb u (height (clear l i k)))
    (any (within (tier_order u) b) (clear l i k)) t) in
    let q : any (within (tier_order u) b) (clear l i k) ≡ true = both_r (leb u (height (clear l i k)))
    (any (within (tier_order u) b) (clear l i k)) t in
    rw (
      le-leb u (height l) (omega (arith, height_clear (starts k (block k i)) l)),
      ← any_split (within (tier_order u) b) (starts k (block k i)) l,
      q,
      either_yes,
    )

-- where the head can be one tier lower
module _ (l : List Entry) (v : Valid l) (low : All Low l) (ν : Numbering) (h : ℕ) where
  pub shrunk : height l ≤ h → (d : ℕ) → 0 < d → slot l ν h d ≡ 0
  unfolding slot
  shrunk le d pos = rw (
    any_none (within (tier_order h) d)
        (All-map (λ x f t. omega (arith, fits_base h x f, within_only (tier_order h) d x t)) fit),
    first_none (covers (d * 2 ^ (tier_order h))) (All-map out fit),
  )
    where
      fit : All (λ x. fits h x ≡ true) l
      fit = height_fits low le

      out : (x : Entry) → fits h x ≡ true → covers (d * 2 ^ (tier_order h)) x ≡ true → ⊥
      out x f t =
          let o : x.order ≤ tier_order h = omega (arith, fits_order h x f) in
          omega (
            arith,
            fits_base h x f,
            block_at (tier_order h) d,
            block_up (d * 2 ^ (tier_order h)) x.base o (eqb-true _ _ t),
          )

  pub shrink : height l ≤ suc h → ((d : ℕ) → 0 < d → d < slots → slot l ν h d ≡ 0) →
      (any (within (tier_order h) 0) l ≡ true) ⊎ (h ≡ 0) → height l ≤ h
  shrink le z c = height_le (each l (λ x m. fits_i h x (small x m c) (first_block x m)))
    where
      up : (x : Entry) → In x l → fits (suc h) x ≡ true
      up x m = look (height_fits low le) m

      first_block : (x : Entry) → In x l → block (tier_order h) x.base ≡ 0
      first_block x m =
          let s : block (tier_order h) x.base / slots ≡ 0 = sym (tier_up h x.base) ∙ fits_base (suc h) x (up x m)
          in
          by_t (eqb (block (tier_order h) x.base) 0) (eqb-true _ _)
          (λ t. let ne : block (tier_order h) x.base ≡ 0 → ⊥ = eqb-false _ _ t in
          absurd (look (zero_starts l ν h (block (tier_order h) x.base) (sorted_ok v)
          (z _ (omega arith) (omega arith))) m refl))

      small : (x : Entry) → In x l → (any (within (tier_order h) 0) l ≡ true) ⊎ (h ≡ 0) →
          x.order < max 1 (tier_order h)
      small x m (inl t) =
          let (y, n, s) = any_in_lem (within (tier_order h) 0) l t in
          let o : y.order < tier_order h = ltb-true _ _ (both_l (ltb y.order (tier_order h)) _ s) in
          by_t (ltb x.order (max 1 (tier_order h))) (ltb-true _ _)
          (λ f. let over : covers y.base x ≡ true = eq-eqb _ _
          (block_up {j = tier_order h} {k = x.order} y.base x.base (omega (arith, ltb-false))
          (within_only (tier_order h) 0 y s ∙ sym (first_block x m))) in
          let same : x.order ≡ y.order = ap (λ (e : Entry). e.order) (unique y.base v m n over (covers_self y))
          in
          absurd (omega (arith, ltb-false)))
      small x m (inr e) =
          let one : 2 ^ (tier_order h) ≡ 1 = ap (λ (h : ℕ). 2 ^ (tier_order h)) e in
          let zero : x.base ≡ 0 = sym (div-one x.base) ∙ (rw one at (first_block x m)) in
          by_t (ltb x.order (max 1 (tier_order h))) (ltb-true _ _)
          (λ f. let over : covers (1 * 2 ^ (tier_order h)) x ≡ true = covers_i x (1 * 2 ^ (tier_order h))
          (look (sorted_ok v) m) (omega arith) (omega
          (arith, pow-le-pow_right {n = 2} (lit< tt) {i = 1} {j = x.order} (omega (arith, ltb-false)))) in
          absurd (clash over (look (first_no (covers (1 * 2 ^ (tier_order h))) l
          (zero_covering l ν h 1 (sorted_ok v) (z 1 (omega arith) (omega arith)))) m)))

-- an entry of a tested block that is gone started in the run
pub gone : (i k : ℕ) (l : List Entry) (p : Entry → Bool) → any p l ≡ true → any p (clear l i k) ≡ false →
    (x : Entry) × In x l × (p x ≡ true) × InRun i k x.base
gone i k l p t n =
    let (x, m, s) = any_in_lem p l t in (
      x,
      m,
      s,
      by_t (starts k (block k i) x) (eqb-true _ _)
          (λ f. absurd (clash (in_any p (in_without (starts k (block k i)) m f) s) n)),
    )

-- the nodes that an erase gives up: on the entry's path, or above the new head
pub lost : (l : List Entry) (i : ℕ) (e : Entry) → Valid l → covering l i ≡ some e → (u b : ℕ) → has l u b ≡ true →
    has (clear l i e.order) u b ≡ false →
    (height (clear l i e.order) < u) ⊎ ((e.order < tier_order u) × (b ≡ block (tier_order u) i))
unfolding has
lost l i e v q u b t n =
    by_t (leb u (height (clear l i e.order))) (λ g. inr (on_path_lem (rw g at n))) (λ g. inl (leb-false _ _ g))
  where
    on_path_lem : any (within (tier_order u) b) (clear l i e.order) ≡ false →
        (e.order < tier_order u) × (b ≡ block (tier_order u) i)
    on_path_lem n' =
        let (x, m, s, r) = gone i e.order l (within (tier_order u) b)
        (both_r (leb u (height l)) (any (within (tier_order u) b) l) t) n' in
        let (c, k) = first_yes (covers i) (each l (λ x m. m)) q in
        let same : x ≡ e = unique x.base v m k (covers_self x) (eq-eqb _ _ (r ∙ eqb-true _ _ c)) in
        let o : x.order < tier_order u = ltb-true _ _ (both_l (ltb x.order (tier_order u)) _ s) in
        let o' : e.order < tier_order u = rw same at o in (
          o',
          sym (within_only (tier_order u) b x s) ∙ block_up {j = e.order} {k = tier_order u} x.base i
              (omega arith) r,
        )
