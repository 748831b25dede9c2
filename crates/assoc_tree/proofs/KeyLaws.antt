-- Keys of a sorted list: each once, and short; finding one; leaves.
use Prim.Native.Nat.{ℕ, ◌*◌, ◌/◌, ◌^◌, ◌≤◌, ◌<◌}
use mathlib.Core.Path.{◌≡◌, refl, sym, ap, ◌∙◌}
use mathlib.Core.Bool.{true}
use mathlib.Core.List.{List, []}
use mathlib.Core.Option.{none, some}
use native.Mathlib.Omega.{arith}
use native.Mathlib.Nat.{div-one, mul-one, le_trans, div-lt_iff_lt-mul, le_refl, one-le-pow}
use lib.Dec.{leb, eqb}
use borrow.Author.Tests.{eqb-true, eqb-false, leb-true, eq-eqb, ne_eqb}
use Rattle.blocks.specs.Lists.{keep, In, here, there}
use Rattle.blocks.proofs.BoolLaws.{by_t, both_l, both_r}
use Rattle.blocks.proofs.ListLaws.{first_none, each}
use Rattle.assoc_tree.specs.Keys.{Item, find, is_key_of, is_item, length_of, max_key, Sorted, done, more}
use Rattle.assoc_tree.specs.Parts.{part, block_of, over, size, size_over, low_from, branch, leaf, is_upper, has}
use Rattle.assoc_tree.proofs.SizeLaws.{first_found, low_size, has_branch}
use Rattle.words.specs.Bits.{word_bits}
use Rattle.assoc_keys.specs.Number.{key_words}

-- KEYS
pub block_zero : (x : ℕ) → block_of 0 x ≡ x
block_zero x = div-one x

pub sorted_in : {n : ℕ} {l : List Item} {x : Item} → Sorted n l → In x l → (n ≤ x.key) × (is_item x ≡ true)
sorted_in (done {n = n}) x8 = elim x8 [ ]
sorted_in (more h t s) here = (h, t)
sorted_in (more h t s) (there m) = let (a, b) = sorted_in s m in (omega arith, b)

pub unique : {n : ℕ} {l : List Item} {x y : Item} → Sorted n l → In x l → In y l → x.key ≡ y.key → x ≡ y
unique {y = y} (done {n = n}) x14 _ e = elim x14 [ ]
unique (more h t s) here here e = refl
unique (more h t s) here (there k) e = let (a, b) = sorted_in s k in absurd (omega arith)
unique (more h t s) (there m) here e = let (a, b) = sorted_in s m in absurd (omega arith)
unique (more h t s) (there m) (there k) e = unique s m k e

pub key_short : {n : ℕ} {l : List Item} {x : Item} → Sorted n l → In x l → x.key < 2 ^ (word_bits * key_words)
key_short {x} s m =
    let t : is_item x ≡ true = (sorted_in s m).1 in
    let a : length_of x.key ≤ max_key = leb-true _ _ (both_r (leb 1 (length_of x.key)) _ (both_l _ _ (both_l _ _ t))) in
    le_trans ((div-lt_iff_lt-mul {k = 256 ^ max_key} (pos 32)).0 (next _ a))
    (leb-true (33 * 256 ^ max_key) (2 ^ (word_bits * key_words)) refl)
  where
    pos : (n : ℕ) → 0 < 256 ^ n
    pos n = one-le-pow n 256 (leb-true 1 256 refl)

    next : (n : ℕ) → n ≤ max_key → n < 33
    next n h = omega arith

-- no two keys are one number
none_below : (c : ℕ) {n : ℕ} {l : List Item} → c < n → Sorted n l → keep (over 0 c) l ≡ []
none_below c h done = refl
none_below c h (more {x} g t s) =
    rw (ne_eqb (block_of 0 x.key) c (let e : block_of 0 x.key ≡ x.key = block_zero x.key in omega arith))
    (none_below c (omega arith) s)

pub size_zero : (c : ℕ) {n : ℕ} {l : List Item} → Sorted n l → size l 0 c ≤ 1
unfolding size
size_zero c done = omega arith
size_zero c (more {x} {l} g t s) =
    by_t (over 0 c x)
    (λ e. let q : c ≡ x.key = sym (eqb-true _ _ e) ∙ block_zero x.key in
    let z : keep (over 0 c) l ≡ [] = none_below c (omega arith) s in rw (e, z) (le_refl _))
    (λ e. rw e (size_zero c s))

pub low_pos : {l : List Item} → Sorted 0 l → (x v : ℕ) → 1 ≤ v → 1 ≤ low_from l x v
low_pos {l} s x v h =
    by_t (eqb (low_from l x v) 0)
    (λ e. let z : low_from l x v ≡ 0 = eqb-true _ _ e in
    let (a, b) = low_size l x v (omega arith) in
    let c : size_over l 0 x ≡ size_over l v x = ap (λ (u : ℕ). size_over l u x) (sym z) ∙ a in
    absurd (omega (arith, size_zero (block_of 0 x) s)))
    (λ e. let ne : low_from l x v ≡ 0 → ⊥ = eqb-false _ _ e in omega arith)

-- FINDING
pub find_some : {l : List Item} {x : Item} (k : ℕ) → Sorted 0 l → In x l → x.key ≡ k → find k l ≡ some x
find_some k s m e =
    let (y, f, i, t) = first_found (is_key_of k) m (eq-eqb _ _ e) in
    f ∙ ap some (unique s i m (eqb-true _ _ t ∙ sym e))

pub find_none : {l : List Item} (k : ℕ) → ((y : Item) → In y l → y.key ≡ k → ⊥) → find k l ≡ none
find_none {l} k f = first_none (is_key_of k) (each l (λ y m t. f y m (eqb-true _ _ t)))

-- LEAVES
pub leaf_is : (l : List Item) (x : ℕ) → branch l 0 x ≡ leaf l x
unfolding low_from
leaf_is l x = ap (λ (b : ℕ). part 0 0 b) (mul-one (x / 1) ∙ div-one x)

pub has_leaf : (l : List Item) {x : Item} → In x l → has l (leaf l x.key) ≡ true
unfolding is_upper
has_leaf l {x} m = ap (has l) (sym (leaf_is l x.key)) ∙ has_branch l 0 m refl

-- THE ROOT
pub key_top : {n : ℕ} {l : List Item} {x : Item} → Sorted n l → In x l → x.key < 2 ^ 264
key_top {x} s m =
    let t : is_item x ≡ true = (sorted_in s m).1 in
    let a : length_of x.key ≤ max_key = leb-true _ _ (both_r (leb 1 (length_of x.key)) _ (both_l _ _ (both_l _ _ t))) in
    le_trans ((div-lt_iff_lt-mul {k = 256 ^ max_key} (one-le-pow 32 256 (leb-true 1 256 refl))).0 (next _ a))
    (leb-true (33 * 256 ^ max_key) (2 ^ 264) refl)
  where
    next : (n : ℕ) → n ≤ max_key → n < 33
    next n h = omega arith
