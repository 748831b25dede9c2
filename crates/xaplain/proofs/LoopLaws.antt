-- The loops of the check.
use Prim.Native.Nat.{ℕ, zero, suc, ◌+◌, ◌-◌, ◌*◌, ◌%◌, ◌^◌, ◌≤◌, ◌<◌}
use mathlib.Core.Path.{◌≡◌, refl, sym, ap, ◌∙◌}
use mathlib.Core.Bool.{Bool, true, false}
use mathlib.Core.List.{List, [], ◌∷◌}
use native.Mathlib.Omega.{arith}
use native.Mathlib.Nat.{one-mul, mod-eq_of_lt, div-lt_iff_lt-mul, mul-le-mul_right}
use lib.Dec.{leb, eqb}
use lib.ListN.{length, get_or, take, drop}
use lib.Seq.{drop-cons}
use lib.Pow.{pow-lt, pow-add}
use borrow.Author.Tests.{eq-eqb, ne_eqb, eqb-true}
use Rattle.std.specs.Prelude.{Some}
use Rattle.std.specs.List.{list_all}
use Rattle.blocks.specs.Choice.{both}
use Rattle.blocks.specs.Blocks.{block}
use Rattle.blocks.proofs.BoolLaws.{by_t, both_l, both_r, both_no}
use Rattle.blocks.proofs.BlockLaws.{pow_pos}
use Rattle.model.specs.declared.Entry.{Entry}
use Rattle.model.specs.Model.{EntryOk}
use Rattle.xaplain.specs.Slices.{entry_at, entries_from, list_of, fits_entry, in_order, zeros_from, sized_as}
use Rattle.xaplain.specs.Moves.{Counts, low_of}
use Rattle.xaplain.proofs.CheckLaws.{entry_ok}

-- 1 << o
pub shl_one : (o : ℕ) → o ≤ 63 → 1 * 2 ^ o % 18446744073709551616 ≡ 2 ^ o
shl_one o h = let q : o < 64 = omega arith in let p : 2 ^ o < 2 ^ 64 = pow-lt q in rw one-mul (mod-eq_of_lt p)

-- the end of a run
pub end_fits : (o x : ℕ) → o ≤ 63 → x < 2 ^ 64 → block o x * 2 ^ o ≡ x → x + 2 ^ o ≤ 2 ^ 64
end_fits o x h lt a =
    let i : 64 - o + o ≡ 64 = omega arith in
    let e : 2 ^ (64 - o) * 2 ^ o ≡ 2 ^ 64 = sym (pow-add 2 (64 - o) o) ∙ ap (λ (j : ℕ). 2 ^ j) i in
    let b : block o x < 2 ^ (64 - o) = (div-lt_iff_lt-mul (pow_pos o)).1 (rw e lt) in
    let m : suc (block o x) * 2 ^ o ≤ 2 ^ (64 - o) * 2 ^ o = mul-le-mul_right (2 ^ o) b in
    omega arith

-- zeros from a place on
pub all_zeros : (xs : List ℕ) (n k : ℕ) → k + n ≤ length xs → list_all (λ x. eqb x 0) (take n (drop k xs)) ≡ zeros_from xs n k
unfolding zeros_from
all_zeros xs zero k h = refl
all_zeros xs (suc n) k h =
    let d : drop k xs ≡ get_or xs k 0 ∷ drop (suc k) xs = drop-cons xs k 0 (omega arith) in
    let r : list_all (λ x. eqb x 0) (take n (drop (suc k) xs)) ≡ zeros_from xs n (suc k) = all_zeros xs n (suc k) (omega arith) in
    by_t (eqb (get_or xs k 0) 0) (λ t. rw (d, t) r) (λ t. rw (d, t) refl)

-- the entries from a place on
module _ (is os ws ms : List ℕ) where
  abbrev pub rest_list : ℕ → List Entry
  rest_list k = entries_from is os ws ms (length is - k) k

  pub list_start : rest_list 0 ≡ list_of is os ws ms
  unfolding list_of
  list_start = let e : length is - 0 ≡ length is = omega arith in ap (λ (n : ℕ). entries_from is os ws ms n 0) e

  module _ (n : ℕ) (lw : length ws ≡ length is) (c : Counts ws n) where
    pub list_on : (k : ℕ) → k < n → rest_list k ≡ entry_at is os ws ms k ∷ rest_list (k + 1)
    list_on k h =
        let d : length is - k ≡ suc (length is - (k + 1)) = omega (arith, c.within) in
        let s : suc k ≡ k + 1 = omega arith in
        ap (λ (x : ℕ). entries_from is os ws ms x k) d
        ∙ rw (ne_eqb (get_or ws k 0) 0 (c.some k h))
        (ap (λ (x : ℕ). entry_at is os ws ms k ∷ entries_from is os ws ms (length is - (k + 1)) x) s)

    pub list_end : (k : ℕ) → k ≡ n → rest_list k ≡ []
    list_end k e = go (length is - k) refl
      where
        go : (m : ℕ) → length is - k ≡ m → entries_from is os ws ms m k ≡ []
        go zero d = refl
        go (suc m) d =
            let z : get_or ws k 0 ≡ 0 = ap (λ (x : ℕ). get_or ws x 0) e ∙ c.none (omega arith) in
            rw (eq-eqb (get_or ws k 0) 0 z)

    -- one turn
    pub order_low : (k low : ℕ) → k < n → leb low (get_or is k 0) ≡ false → in_order low (rest_list k) ≡ false
    unfolding in_order
    order_low k low h t = ap (in_order low) (list_on k h) ∙ rw t

    pub order_bad : (k low : ℕ) → k < n → fits_entry (entry_at is os ws ms k) ≡ false → in_order low (rest_list k) ≡ false
    unfolding in_order
    order_bad k low h t =
        ap (in_order low) (list_on k h)
        ∙ ap (λ (x : Bool). both (leb low (get_or is k 0)) (both x (in_order (get_or is k 0 + 2 ^ get_or os k 0) (rest_list (k + 1))))) t
        ∙ both_no (leb low (get_or is k 0))

    pub order_on : (k low : ℕ) → k < n → leb low (get_or is k 0) ≡ true → fits_entry (entry_at is os ws ms k) ≡ true →
        in_order low (rest_list k) ≡ in_order (get_or is k 0 + 2 ^ get_or os k 0) (rest_list (k + 1))
    unfolding in_order
    order_on k low h t u =
        ap (in_order low) (list_on k h)
        ∙ ap (λ (x : Bool). both x (both (fits_entry (entry_at is os ws ms k)) (in_order (get_or is k 0 + 2 ^ get_or os k 0) (rest_list (k + 1))))) t
        ∙ ap (λ (x : Bool). both x (in_order (get_or is k 0 + 2 ^ get_or os k 0) (rest_list (k + 1)))) u

    pub order_end : (k low : ℕ) → k ≡ n → in_order low (rest_list k) ≡ true
    unfolding in_order
    order_end k low e = ap (in_order low) (list_end k e)

-- what fits has a last index
module _ (b o w m : ℕ) (lt : b < 2 ^ 64) (lw : w < 2 ^ 64) (t : fits_entry (record { base = b; order = o; word = w; marks = m }) ≡ true) where
  ok : EntryOk (record { base = b; order = o; word = w; marks = m })
  ok = entry_ok (record { base = b; order = o; word = w; marks = m }) (lt, lw) t

  pub order_small : o ≤ 63
  order_small = ok.order_le

  pub last_fits : b + (1 * 2 ^ o % 18446744073709551616 - 1) < 2 ^ 64
  last_fits = let e = end_fits o b order_small lt ok.aligned in
      rw (shl_one o order_small) (omega (arith, e, pow_pos o))

  pub next_low : low_of (Some (b + (1 * 2 ^ o % 18446744073709551616 - 1))) ≡ b + 2 ^ o
  next_low = rw (shl_one o order_small) (omega (arith, pow_pos o))

-- the count is the list's length
pub count_is : (is os ws ms : List ℕ) (n : ℕ) → length ws ≡ length is → Counts ws n → n ≡ length (list_of is os ws ms)
count_is is os ws ms n lw c = sym (go n 0 (omega arith)) ∙ ap length (list_start is os ws ms)
  where
    go : (j k : ℕ) → k + j ≡ n → length (rest_list is os ws ms k) ≡ j
    go zero k e = ap length (list_end is os ws ms n lw c k (omega arith))
    go (suc j) k e = ap length (list_on is os ws ms n lw c k (omega arith)) ∙ ap suc (go j (k + 1) (omega arith))

pub sized_lengths : (is os ws ms : List ℕ) → sized_as is os ws ms ≡ true →
    (length os ≡ length is) × (length ws ≡ length is) × (length ms ≡ length is)
sized_lengths is os ws ms t =
    let a : Bool = leb (length is) 4096 in
    let b : Bool = eqb (length os) (length is) in
    let c : Bool = eqb (length ws) (length is) in
    let d : Bool = eqb (length ms) (length is) in
    let t₁ : both b (both c d) ≡ true = both_r a (both b (both c d)) t in
    let t₂ : both c d ≡ true = both_r b (both c d) t₁ in
    (eqb-true _ _ (both_l b (both c d) t₁), eqb-true _ _ (both_l c d t₂), eqb-true _ _ (both_r c d t₂))
