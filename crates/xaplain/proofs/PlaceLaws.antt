-- The entry over an index, by where the search for it stops.
use Prim.Native.Nat.{ℕ, suc, ◌+◌, ◌-◌, ◌^◌, ◌≤◌, ◌<◌}
use mathlib.Core.Path.{◌≡◌, refl, sym, ap, subst, ◌∙◌}
use mathlib.Core.Bool.{true, false}
use mathlib.Core.Logic.{◌≢◌}
use mathlib.Core.List.{List}
use mathlib.Core.Option.{none, some}
use native.Mathlib.Omega.{arith}
use lib.Dec.{eqb, ltb}
use lib.ListN.{length, get_or}
use borrow.Author.Tests.{eqb-true, eqb-false, eq-eqb, ltb-true, ltb-false}
use Rattle.blocks.proofs.BoolLaws.{by_t, is_false}
use Rattle.blocks.proofs.ListLaws.{look, each, first_yes}
use Rattle.model.specs.declared.Entry.{Entry}
use Rattle.model.specs.Model.{EntryOk, Sorted, reserved_word, covers, covering, present}
use Rattle.model.proofs.ValidLaws.{covers_lo, covers_hi, sorted_ok}
use Rattle.xaplain.specs.Slices.{entry_at}
use Rattle.xaplain.specs.Moves.{Holds, Searchable, Reaches, Unreached}
use Rattle.xaplain.proofs.PlainLaws.{
  nth,
  nth_in,
  apart,
  index_at,
  order_at,
  word_at,
  marks_at,
  entry_ok,
  holds_rises,
  before_first,
  last_none,
  last_some,
}

-- at most one entry covers an index
pub covers_one : {m : ℕ} {l : List Entry} (i j k : ℕ) → Sorted m l → j < length l → k < length l → j ≢ k → covers i (nth l k) ≡ true →
    covers i (nth l j) ≡ false
covers_one {m} {l} i j k s a b ne t = is_false (λ u.
    let lo : (nth l k).base ≤ i = covers_lo (nth l k) i (ok k b) t in
    let hi : i < (nth l k).base + 2 ^ (nth l k).order = covers_hi (nth l k) i (ok k b) t in
    let lo' : (nth l j).base ≤ i = covers_lo (nth l j) i (ok j a) u in
    let hi' : i < (nth l j).base + 2 ^ (nth l j).order = covers_hi (nth l j) i (ok j a) u in
    by_t (ltb j k) (λ v. omega (arith, apart j k s (ltb-true _ _ v) b))
    (λ v. omega (arith, apart k j s (omega (arith, ne, ltb-false j k v)) a)))
  where
    ok : (x : ℕ) → x < length l → EntryOk (nth l x)
    ok x g = look (sorted_ok s) (nth_in l x g)

-- what covers does
pub covering_covers : (l : List Entry) (i : ℕ) {e : Entry} → covering l i ≡ some e → covers i e ≡ true
covering_covers l i q = (first_yes (covers i) (each l (λ x m. m)) q).0

module _ {index order word marks : List ℕ} {n : ℕ} (h : Holds index order word marks n) where
  pub searchable : Searchable index order n
  searchable = record {
    fits = h.fits;
    order_fits = omega (arith, h.fits, h.order_fits);
    rises = holds_rises h;
    orders = λ k g. omega (arith, order_at h k g, (entry_ok h k g).order_le);
  }

  -- the entry in a place
  pub entry_is : (k : ℕ) → k < n → entry_at index order word marks k ≡ nth h.list k
  entry_is k g =
      let a = index_at h k g in
      let b = order_at h k g in
      let c = word_at h k g in
      let d = marks_at h k g in
      λ j. record { base = a j; order = b j; word = c j; marks = d j }

  pub place_none : (i : ℕ) → Unreached index order n i → covering h.list i ≡ none
  place_none i d =
      by_t (eqb d.at 0) (λ t. before_first h i d.at d.splits (eqb-true _ _ t))
      (λ t. let p : d.at ≢ 0 = eqb-false _ _ t in last_none h i d.at d.splits p (d.short p))

  module _ (i k : ℕ) (d : Reaches index order n i k) where
    pub place_in : k < n
    place_in = omega (arith, d.splits.within)

    pub place_some : covering h.list i ≡ some (nth h.list k)
    place_some =
        let e : suc k - 1 ≡ k = omega arith in
        subst (λ (x : ℕ). covering h.list i ≡ some (nth h.list x)) e
        (last_some h i (suc k) d.splits (λ z. omega arith) (rw e d.near))

    -- a reservation is not seen
    pub place_reserved : get_or word k 0 ≡ reserved_word → present (covering h.list i) ≡ none
    place_reserved e = ap present place_some ∙ rw (eq-eqb (nth h.list k).word reserved_word (sym (word_at h k place_in) ∙ e)) refl
