-- What a valid list has in one block.
use Prim.Native.Nat.{ℕ, zero, suc, ◌+◌, ◌*◌, ◌-◌, ◌/◌, ◌%◌, ◌^◌, ◌≤◌, ◌<◌}
use mathlib.Core.Path.{◌≡◌, refl, sym, ap, ◌∙◌, subst}
use mathlib.Core.Logic.{inl, inr, ◌≢◌}
use mathlib.Core.Bool.{Bool, true, false}
use mathlib.Core.List.{List, [], ◌∷◌, ◌++◌}
use mathlib.Core.Option.{some}
use native.Mathlib.Omega.{arith}
use native.Mathlib.Nat.{mul-le-mul_right, div-add-mod', div-mul-le_self, lt-div-mul-add, div-eq_of_eq-mul_left}
use lib.Dec.{eqb, leb}
use lib.Pow.{pow_pos, pow_mono}
use borrow.Author.Tests.{eqb-true, eqb-false, eq-eqb, ne_eqb, leb-true, leb-false}
use Rattle.blocks.proofs.BoolLaws.{by_t}
use Rattle.blocks.specs.Lists.{keep, first}
use Rattle.model.specs.declared.Entry.{Entry}
use Rattle.model.specs.Model.{covers}
use Rattle.tree.specs.Tree.{tier_order, slots}
use Rattle.layout.specs.Decode.{wide, span}
use Rattle.decode.proofs.Restrict.{part, in_block, Chain, EntryGood}
use Rattle.decode.proofs.KeepLaws.{
  Every,
  Some,
  all_map,
  all_with,
  keep_none,
  some_get,
  some_keep,
  keep_some,
  some_map,
}
use Rattle.decode.proofs.BelowLaws.{wide_pos, nest, up}
use Rattle.decode.proofs.ChainLaws.{wide_pow, order_pow, chain_lower}
use Rattle.decode.proofs.FitLaws.{chain_oks}
use Rattle.decode.proofs.CoverLaws.{covers_in}

-- a number lies in its block
pub block_lo : (x w : ℕ) → x / w * w ≤ x
block_lo x w = div-mul-le_self x w

pub block_hi : (x w : ℕ) → 0 < w → x < (x / w + 1) * w
block_hi x w h = omega (arith, lt-div-mul-add {a = x} {b = w} h)

-- an entry of order 6v or more begins at a block of level v, and fills it
pub wide_entry : (v : ℕ) (e : Entry) → EntryGood e → tier_order v ≤ e.order →
    (e.base ≡ e.base / wide v * wide v) × (e.base + wide v ≤ e.base + 2 ^ e.order)
wide_entry v e ok h =
    let r : ℕ = e.order - tier_order v in
    let o : e.order ≡ tier_order v + r = omega arith in
    let K : ℕ = e.base / 2 ^ e.order * 2 ^ r in
    let g : 2 ^ e.order ≡ wide v * 2 ^ r = ap (λ (x : ℕ). 2 ^ x) o ∙ order_pow v r in
    let f : e.base ≡ K * wide v =
    sym (div-add-mod' e.base (2 ^ e.order)) ∙ (omega
    (arith, ok.aligned, ap (λ (x : ℕ). e.base / 2 ^ e.order * x) g)) in (
      f ∙ ap (λ (x : ℕ). x * wide v) (sym (div-eq_of_eq-mul_left (wide_pos v) f)),
      omega (arith, rw wide_pow at (pow_mono {i = tier_order v} {j = e.order} h)),
    )

pub chain_bases : (a c : ℕ) (xs : List Entry) → Chain a xs c → Every (λ e. a ≤ e.base) xs
chain_bases a c [] p = tt
chain_bases a c (x ∷ xs) p = (
  p.0,
  all_map {A = Entry} (λ e. x.base + 2 ^ x.order ≤ e.base) (λ e. a ≤ e.base)
      (λ e q. omega (arith, p.0)) xs (chain_bases (x.base + 2 ^ x.order) c xs p.2),
)

pub all_keep : (p : Entry → Bool) (Q : Entry → Type 0) (xs : List Entry) → Every Q xs →
    Every (λ x. (p x ≡ true) × Q x) (keep p xs)
all_keep p Q [] a = tt
all_keep p Q (x ∷ xs) a = by_t (p x) (λ e. rw e ((e, a.0), all_keep p Q xs a.1))
    (λ e. rw e (all_keep p Q xs a.1))

pub keep_chain : (p : Entry → Bool) (a c : ℕ) (xs : List Entry) → Chain a xs c → Chain a (keep p xs) c
keep_chain p a c [] h = h
keep_chain p a c (x ∷ xs) h =
    by_t (p x)
    (λ e. rw e (h.0, h.1, keep_chain p (x.base + 2 ^ x.order) c xs h.2))
    (λ e. rw e (chain_lower a (x.base + 2 ^ x.order) c (keep p xs) (omega (arith, h.0))
    (keep_chain p _ c xs h.2)))

pub data Shape (v : ℕ) : List Entry → Type 0 where
  empty : Shape v []
  one : (x : Entry) → tier_order v ≤ x.order → Shape v (x ∷ [])
  low : (x : Entry) (xs : List Entry) → x.order < tier_order v → Every (λ e. e.order < tier_order v) xs →
      Shape v (x ∷ xs)

module _ (v c : ℕ) where
  -- x fills the block: nothing after it lies there
  full : (x y : Entry) → EntryGood x → x.base / wide v ≡ c → tier_order v ≤ x.order → y.base / wide v ≡ c →
      x.base + 2 ^ x.order ≤ y.base → ⊥
  full x y ok e h f g =
      let we = wide_entry v x ok h in
      let p : x.base / wide v * wide v ≡ c * wide v = ap (λ (z : ℕ). z * wide v) e in
      let q : (y.base / wide v + 1) * wide v ≡ (c + 1) * wide v = ap (λ (z : ℕ). (z + 1) * wide v) f in
      omega (arith, we.0, we.1, block_hi y.base (wide v) (wide_pos v))

  late : (x y : Entry) → EntryGood y → x.base / wide v ≡ c → tier_order v ≤ y.order → y.base / wide v ≡ c →
      x.base + 2 ^ x.order ≤ y.base → ⊥
  late x y ok e h f g =
      let we = wide_entry v y ok h in
      let p : x.base / wide v * wide v ≡ c * wide v = ap (λ (z : ℕ). z * wide v) e in
      let q : y.base / wide v * wide v ≡ c * wide v = ap (λ (z : ℕ). z * wide v) f in
      omega (arith, we.0, block_lo x.base (wide v), pow_pos x.order)

  add : (x : Entry) → EntryGood x → x.base / wide v ≡ c → (ys : List Entry) →
      Every (λ y. (y.base / wide v ≡ c) × (x.base + 2 ^ x.order ≤ y.base) × EntryGood y) ys → Shape v ys →
      Shape v (x ∷ ys)
  add x ok e _ a empty = by_t (leb (tier_order v) x.order) (λ t. one x (leb-true _ _ t))
      (λ t. low x [] (leb-false _ _ t) tt)
  add x ok e _ a (one y h) = absurd (late x y a.0.2 e h a.0.0 a.0.1)
  add x ok e _ a (low y ys p q) =
      by_t (leb (tier_order v) x.order)
      (λ t. absurd (full x y ok e (leb-true (tier_order v) x.order t) a.0.0 a.0.1))
      (λ t. low x (y ∷ ys) (leb-false _ _ t) (p, q))

  pub shape : (lo hi : ℕ) (l : List Entry) → Chain lo l hi → Shape v (part (wide v) c l)
  shape lo hi [] h = empty
  shape lo hi (x ∷ xs) h =
      by_t (in_block (wide v) c x)
      (λ t. rw t (add x h.1 (eqb-true (x.base / wide v) c t) (part (wide v) c xs)
      (all_map {A = Entry} (λ y. (in_block (wide v) c y ≡ true) × ((x.base + 2 ^ x.order ≤ y.base) × EntryGood y)) _
      (λ y z. (eqb-true (y.base / wide v) c z.0, z.1.0, z.1.1)) (part (wide v) c xs)
      (all_keep (in_block (wide v) c) _ xs (all_with {A = Entry} (λ y. x.base + 2 ^ x.order ≤ y.base) EntryGood _
      (λ y p q. (p, q)) xs (chain_bases _ hi xs h.2) (chain_oks _ hi xs h.2))))
      (shape (x.base + 2 ^ x.order) hi xs h.2)))
      (λ t. rw t (shape _ hi xs h.2))

-- ---- the slots of a block, one after another

pub span_ext : (f g : ℕ → List Entry) (j k : ℕ) → ((i : ℕ) → j ≤ i → i < j + k → f i ≡ g i) → span f j k ≡ span g j k
unfolding span
span_ext f g j zero h = refl
span_ext f g j (suc k) h = rw (
  h j (omega arith) (omega arith),
  span_ext f g (suc j) k (λ i a b. h i (omega arith) (omega arith)),
)

pub span_nil : (f : ℕ → List Entry) (j k : ℕ) → ((i : ℕ) → j ≤ i → i < j + k → f i ≡ []) → span f j k ≡ []
unfolding span
span_nil f j zero h = refl
span_nil f j (suc k) h = rw (
  h j (omega arith) (omega arith),
  span_nil f (suc j) k (λ i a b. h i (omega arith) (omega arith)),
)

-- one more entry, before all of g's
span_cons : (x : Entry) (f g : ℕ → List Entry) (o j k : ℕ) → j ≤ o → o < j + k →
    ((i : ℕ) → j ≤ i → i < o → (f i ≡ []) × (g i ≡ [])) → f o ≡ x ∷ g o →
    ((i : ℕ) → o < i → i < j + k → f i ≡ g i) → span f j k ≡ x ∷ span g j k
unfolding span
span_cons x f g o j zero a b h e d = absurd (omega arith)
span_cons x f g o j (suc k) a b h e d =
    by_t (eqb j o)
    (λ q. let z : j ≡ o = eqb-true j o q in
    rw (span_ext f g (suc j) k (λ i r s. d i (omega arith) (omega arith)))
    (ap (λ (y : List Entry). y ++ span g (suc j) k) (subst (λ (i : ℕ). f i ≡ x ∷ g i) (sym z) e)))
    (λ q. let z : j ≢ o = eqb-false j o q in
    let w = h j (omega arith) (omega arith) in
    rw (w.0, w.1) (span_cons x f g o (suc j) k (omega arith) (omega arith) (λ i r s. h i (omega arith) s) e
    (λ i r s. d i r (omega arith))))

pub none_before : (v c a hi : ℕ) (xs : List Entry) → Chain a xs hi → c < a / wide v → part (wide v) c xs ≡ []
none_before v c a hi xs h lt =
    keep_none _ xs (all_map {A = Entry} (λ e. a ≤ e.base) (λ e. in_block (wide v) c e ≡ false)
    (λ e p. ne_eqb (e.base / wide v) c (λ (q : e.base / wide v ≡ c).
    let r : (e.base / wide v + 1) * wide v ≡ (c + 1) * wide v = ap (λ (z : ℕ). (z + 1) * wide v) q in
    let k : (c + 1) * wide v ≤ a / wide v * wide v = mul-le-mul_right (wide v) (omega arith) in
    omega (arith, block_hi e.base (wide v) (wide_pos v), block_lo a (wide v))))
    xs (chain_bases a hi xs h))

-- a list in index order is, in a block, what it is slot by slot
pub part_slots : (v b lo hi : ℕ) (l : List Entry) → Chain lo l hi →
    part (wide (suc v)) b l ≡ span (λ j. part (wide v) (slots * b + j) l) 0 slots
part_slots v b lo hi [] h = sym (span_nil _ 0 slots (λ i p q. refl))
part_slots v b lo hi (x ∷ xs) h =
    by_t (in_block (wide (suc v)) b x)
    (λ t.
    let d : x.base / wide v / slots ≡ b = sym (up x.base v) ∙ eqb-true (x.base / wide (suc v)) b t in
    let o : ℕ = x.base / wide v % slots in
    let e : x.base / wide v ≡ slots * b + o = omega arith in
    rw (t, part_slots v b (x.base + 2 ^ x.order) hi xs h.2)
    (sym (span_cons x (λ j. part (wide v) (slots * b + j) (x ∷ xs)) (λ j. part (wide v) (slots * b + j) xs) o 0 slots
    (omega arith) (omega arith)
    (λ i p q.
    let z = none_before v (slots * b + i) x.base hi xs
    (chain_lower x.base (x.base + 2 ^ x.order) hi xs (omega arith) h.2) (omega arith) in
    (rw (ne_eqb (x.base / wide v) (slots * b + i) (λ (y : x.base / wide v ≡ slots * b + i). omega arith)) z, z))
    (rw (eq-eqb (x.base / wide v) (slots * b + o) e))
    (λ i p q. rw (ne_eqb (x.base / wide v) (slots * b + i)
    (λ (y : x.base / wide v ≡ slots * b + i). omega arith))))))
    (λ t.
    rw (t, part_slots v b _ hi xs h.2)
    (span_ext (λ j. part (wide v) (slots * b + j) xs) (λ j. part (wide v) (slots * b + j) (x ∷ xs)) 0 slots
    (λ i p q. sym (rw (ne_eqb (x.base / wide v) (slots * b + i)
    (λ (y : x.base / wide v ≡ slots * b + i). eqb-false (x.base / wide (suc v)) b t
    (nest x.base v b i y q)))))))

abbrev pub Mem : Entry → List Entry → Type 0
Mem x xs = Some (λ e. e ≡ x) xs

pub all_mem : (Q : Entry → Type 0) (x : Entry) (xs : List Entry) → Every Q xs → Mem x xs → Q x
all_mem Q x [] a x3 = elim x3 [ ]
all_mem Q x (y ∷ ys) a (inl e) = subst Q e a.0
all_mem Q x (y ∷ ys) a (inr m) = all_mem Q x ys a.1 m

pub mem_all : (Q : Entry → Type 0) (xs : List Entry) → ((x : Entry) → Mem x xs → Q x) → Every Q xs
mem_all Q [] f = tt
mem_all Q (x ∷ xs) f = (f x (inl refl), mem_all Q xs (λ y m. f y (inr m)))

pub mem_keep : (p : Entry → Bool) (x : Entry) (xs : List Entry) → p x ≡ true → Mem x xs → Mem x (keep p xs)
mem_keep p x xs e m = some_keep p (λ y. y ≡ x) xs (some_map (λ y. y ≡ x) _ (λ y q. (ap p q ∙ e, q)) xs m)

pub keep_mem : (p : Entry → Bool) (x : Entry) (xs : List Entry) → Mem x (keep p xs) → Mem x xs × (p x ≡ true)
keep_mem p x xs m = (
  some_map (λ y. (p y ≡ true) × (y ≡ x)) (λ y. y ≡ x) (λ y q. q.1) xs (keep_some p _ xs m),
  some_get (p x ≡ true) xs (some_map (λ y. (p y ≡ true) × (y ≡ x)) (λ y. p x ≡ true) (λ y q. ap p (sym q.1) ∙ q.0)
      xs (keep_some p _ xs m)),
)

pub first_mem : (p : Entry → Bool) (xs : List Entry) (x : Entry) → first p xs ≡ some x → Mem x xs × (p x ≡ true)
first_mem p [] x e = absurd (let z : ◌≡◌ {A = ℕ} 0 1 = cc in omega arith)
first_mem p (y ∷ ys) x e =
    by_t (p y)
    (λ t. let q : y ≡ x = cc (rw t at e) in (inl q, ap p (sym q) ∙ t))
    (λ t. let r = first_mem p ys x (rw t at e) in (inr r.0, r.1))

-- two entries of a list that cover one index are one
pub first_at : (i a c : ℕ) (xs : List Entry) (x : Entry) → Chain a xs c → Mem x xs → covers i x ≡ true →
    first (covers i) xs ≡ some x
first_at i a c [] x h x5 q = elim x5 [ ]
first_at i a c (y ∷ ys) x h (inl e) q = subst (λ (z : Entry). first (covers i) (z ∷ ys) ≡ some x) (sym e) (rw q)
first_at i a c (y ∷ ys) x h (inr m) q =
    by_t (covers i y)
    (λ t.
    let lo = all_mem _ x ys (chain_bases (y.base + 2 ^ y.order) c ys h.2) m in
    let ok = all_mem _ x ys (chain_oks (y.base + 2 ^ y.order) c ys h.2) m in
    absurd (omega (arith, lo, (covers_in i y h.1 t).1, (covers_in i x ok q).0)))
    (λ t. rw t (first_at i (y.base + 2 ^ y.order) c ys x h.2 m q))
