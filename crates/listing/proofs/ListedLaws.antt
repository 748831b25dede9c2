-- The listing is in index order, has each entry once, and has exactly those whose run meets the range (R143); no field of theirs is
-- cut (R144).
use Prim.Native.Nat.{ℕ, ◌+◌, ◌^◌, ◌≤◌, ◌<◌, max}
use mathlib.Core.List.{List}
use native.Mathlib.Omega.{arith}
use lib.Dec.{leb, ltb}
use borrow.Author.Tests.{leb-true, ltb-true}
use Rattle.blocks.specs.Lists.{In, All, Distinct, d_end, d_more}
use Rattle.blocks.proofs.BoolLaws.{by_t, both_l, both_r}
use Rattle.blocks.proofs.BlockLaws.{pow_pos}
use Rattle.blocks.proofs.ListLaws.{each, look}
use Rattle.model.specs.declared.Entry.{Entry}
use Rattle.model.specs.Model.{EntryOk, Sorted, done, more, Valid, meets, reserved}
use Rattle.model.proofs.ValidLaws.{covers_i, covers_lo, covers_hi, sorted_ok}
use Rattle.listing.specs.Listing.{listed}
use Rattle.listing.specs.Claims.{Meets, FitsListed}
use Rattle.listing.proofs.BetweenLaws.{keep_in, in_keep, sorted_keep, sorted_above, meets_i}

-- in index order, and apart
pub listed_sorted : {l : List Entry} (a z : ℕ) → Valid l → Valid (listed l a z)
listed_sorted a z v = sorted_keep (meets a z) v

distinct : {n : ℕ} {l : List Entry} → Sorted n l → Distinct l
distinct done = d_end
distinct (more {e} h ok s) = d_more {p = e} (λ m. omega (arith, sorted_above s m, pow_pos e.order)) (distinct s)

-- each once
pub listed_once : {l : List Entry} (a z : ℕ) → Valid l → Distinct (listed l a z)
listed_once a z v = distinct (listed_sorted a z v)

-- exactly those
module _ {l : List Entry} (a z : ℕ) (v : Valid l) {e : Entry} where
  pub listed_meets : a ≤ z → In e (listed l a z) → In e l × Meets a z e
  listed_meets le m =
      let (i, t) = keep_in (meets a z) l m in
      let lo : e.base ≤ z = leb-true _ _ (both_l (leb e.base z) (ltb a (e.base + 2 ^ e.order)) t) in
      let hi : a < e.base + 2 ^ e.order = ltb-true _ _ (both_r (leb e.base z) (ltb a (e.base + 2 ^ e.order)) t) in (
        i,
        record {
          index = max a e.base;
          from = omega arith;
          to = omega arith;
          covered = covers_i e (max a e.base) (look (sorted_ok v) i) (omega arith) (omega (arith, pow_pos e.order));
        },
      )

  pub meets_listed : In e l → Meets a z e → In e (listed l a z)
  meets_listed i m =
      let lo : e.base ≤ m.index = covers_lo e m.index (look (sorted_ok v) i) m.covered in
      let hi : m.index < e.base + 2 ^ e.order = covers_hi e m.index (look (sorted_ok v) i) m.covered in
      in_keep (meets a z) i (meets_i a z e (omega (arith, m.to)) (omega (arith, m.from)))

-- R144
entry_fits_lem : {e : Entry} → EntryOk e → FitsListed e
entry_fits_lem {e} ok = record {
  base_fits = ok.in_range;
  order_fits = omega (arith, ok.order_le);
  word_fits = by_t (reserved e) (λ r. rw r (omega arith)) (λ r. rw r ok.word_fits);
  marks_fit = omega (arith, ok.marks_fit);
}

pub listed_fits : {l : List Entry} (a z : ℕ) → Valid l → All FitsListed (listed l a z)
listed_fits {l} a z v = each (listed l a z) (λ e m. entry_fits_lem (look (sorted_ok (listed_sorted a z v)) m))
