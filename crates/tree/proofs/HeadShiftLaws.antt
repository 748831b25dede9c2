-- The head's tier is that of the rules' wording (R17 to R19).
use Prim.Native.Nat.{ℕ, ◌+◌, ◌^◌, ◌-◌, ◌≤◌, ◌<◌, max}
use mathlib.Core.Path.{◌≡◌, refl, sym, ◌∙◌}
use mathlib.Core.Bool.{true, false}
use mathlib.Core.List.{List, [], ◌∷◌}
use native.Mathlib.Omega.{arith}
use native.Mathlib.Nat.{div-one, div-eq_of_lt, one-mul}
use lib.Dec.{leb, eqb}
use borrow.Author.Tests.{leb-true, leb-false, eqb-true, ltb-true, lt-ltb, le-leb, eq-eqb}
use Rattle.blocks.specs.Choice.{both}
use Rattle.blocks.specs.Blocks.{block}
use Rattle.blocks.specs.Lists.{All, end, also}
use Rattle.blocks.proofs.BoolLaws.{clash, by_t, iff, both_l, both_r}
use Rattle.blocks.proofs.ListLaws.{All-map}
use Rattle.blocks.proofs.LeastLaws.{least_is}
use Rattle.blocks.proofs.BlockLaws.{block_up, block_at, block_hi, pow_pos}
use Rattle.model.specs.declared.Entry.{Entry}
use Rattle.model.specs.Model.{EntryOk, covers, more, Valid}
use Rattle.model.proofs.ValidLaws.{covers_i, sorted_ok}
use Rattle.tree.specs.Tree.{fits, tall, height, tier_order, top_tier}
use Rattle.tree.proofs.HeightLaws.{
  fits_i,
  fits_order,
  fits_base,
  height_fits,
  tall_fits,
  fits_tall,
  height_most,
}
use Rattle.tree.specs.HeadShift.{lone, fits_under, all_fit, head_tier}

fits_in : (h : ℕ) (x : Entry) → EntryOk x → 1 ≤ h → fits_under h x ≡ fits h x
fits_in h x ok pos = iff (fits_under h x) (fits h x)
    (λ t. let o : x.order < tier_order h = ltb-true _ _
    (both_r (leb (x.base + 2 ^ x.order) (2 ^ (tier_order h))) _ t) in
    let b : x.base + 2 ^ x.order ≤ 2 ^ (tier_order h) = leb-true _ _
    (both_l (leb (x.base + 2 ^ x.order) (2 ^ (tier_order h))) _ t) in
    fits_i h x (omega arith) (div-eq_of_lt (omega (arith, pow_pos x.order))))
    (λ t. let o : x.order < tier_order h = omega (arith, fits_order h x t) in
    let z : block (tier_order h) x.base ≡ 0 = fits_base h x t in
    let lo : x.base < 2 ^ (tier_order h) = omega (arith, rw z at (block_hi (tier_order h) x.base)) in
    rw (
      lt-ltb x.order (tier_order h) o,
      le-leb (x.base + 2 ^ x.order) (2 ^ (tier_order h))
          (by_t (leb (x.base + 2 ^ x.order) (2 ^ (tier_order h))) (leb-true _ _)
          (λ f. let c : covers (2 ^ (tier_order h)) x ≡ true = covers_i x (2 ^ (tier_order h)) ok (omega arith)
          (leb-false _ _ f) in
          absurd (omega (
            arith,
            z,
            rw one-mul at (block_at (tier_order h) 1),
            block_up {j = x.order} {k = tier_order h} (2 ^ (tier_order h)) x.base (omega arith)
                (eqb-true _ _ c),
          )))),
    ))

all_fit_lem : (h : ℕ) {l : List Entry} → All EntryOk l → 1 ≤ h → all_fit h l ≡ leb (height l) h
all_fit_lem h end pos = sym (le-leb 0 h (omega arith))
all_fit_lem h (also {x} {l} ok a) pos =
    rw (fits_in h x ok pos, all_fit_lem h a pos) (iff (both (fits h x) (leb (height l) h)) _
    (λ t. le-leb (max (tall x) (height l)) h (let p : tall x ≤ h = fits_tall h x (both_l (fits h x) _ t) in
    let q : height l ≤ h = leb-true _ _ (both_r (fits h x) _ t) in omega arith))
    (λ t. let p : max (tall x) (height l) ≤ h = leb-true _ _ t in
    rw (tall_fits h x (ok.order_le, ok.in_range) (omega arith), le-leb (height l) h (omega arith))))

-- a list whose entries all fit under no node is empty or bare
not_lone : {l : List Entry} {e : Entry} → Valid (e ∷ l) → lone (e ∷ l) ≡ false → 1 ≤ height (e ∷ l)
not_lone {l} {e} v n = by_t (leb 1 (height (e ∷ l))) (leb-true _ _)
    (λ t. absurd (go l v n (height_fits {h = 0} (All-map (λ x ok. (ok.order_le, ok.in_range)) (sorted_ok v))
    (omega (arith, leb-false 1 (height (e ∷ l)) t)))))
  where
    at0 : (x : Entry) → fits 0 x ≡ true → (x.base ≡ 0) × (x.order ≡ 0)
    at0 x f = (sym (div-one x.base) ∙ fits_base 0 x f, omega (arith, fits_order 0 x f))

    go : (l : List Entry) → Valid (e ∷ l) → lone (e ∷ l) ≡ false → All (λ x. fits 0 x ≡ true) (e ∷ l) → ⊥
    go [] v n (also f a) = clash {b = lone (e ∷ [])} (let (b, o) = at0 e f in rw (eq-eqb _ _ b, eq-eqb _ _ o)) n
    go (x ∷ l) (more h ok (more g ok' s)) n (also f (also f' a)) = omega (arith, pow_pos e.order, at0 x f')

lone_zero : (l : List Entry) → lone l ≡ true → height l ≡ 0
lone_zero [] t = refl
lone_zero (e ∷ []) t =
    let b : e.base ≡ 0 = eqb-true _ _ (both_l (eqb e.base 0) (eqb e.order 0) t) in
    let o : e.order ≡ 0 = eqb-true _ _ (both_r (eqb e.base 0) (eqb e.order 0) t) in
    omega (arith, fits_tall 0 e (fits_i 0 e (omega arith) (div-one e.base ∙ b)))
lone_zero (e ∷ f ∷ l) t = absurd (clash t refl)

pub height_text : {l : List Entry} → Valid l → head_tier (lone l) l ≡ height l
height_text {l = []} v = refl
height_text {l = e ∷ l} v =
    by_t (lone (e ∷ l)) (λ t. rw t (sym (lone_zero (e ∷ l) t)))
    (λ t. rw t (least_is (λ h. all_fit h (e ∷ l)) (top_tier - 1) (height (e ∷ l)) (not_lone v t)
    (height_most (e ∷ l)) (λ h pos. all_fit_lem h (sorted_ok v) pos)))
