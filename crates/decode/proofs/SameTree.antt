-- On valid lists the tree by restriction is the tree of `Tree`, slot by slot and mark by mark.
use Prim.Native.Nat.{ℕ, zero, suc, ◌+◌, ◌*◌, ◌-◌, ◌/◌, ◌%◌, ◌^◌, ◌≤◌, ◌<◌}
use mathlib.Core.Path.{◌≡◌, refl, sym, ap, subst, ◌∙◌}
use mathlib.Core.Bool.{Bool, true, false}
use mathlib.Core.Logic.{inl, inr}
use mathlib.Core.List.{List, [], ◌∷◌}
use mathlib.Core.Option.{Option, none, some}
use native.Mathlib.Omega.{arith}
use native.Mathlib.Nat.{div-add-mod', mul-le-mul_right, mod-eq_of_lt, zero-add, div-one}
use lib.Dec.{leb, ltb, eqb, lit≤}
use borrow.Author.Tests.{leb-true, leb-false, eqb-true, ltb-true, ltb-false, lt-ltb, le-ltb, le-leb, lt-leb, eq-eqb}
use Rattle.blocks.specs.Choice.{pick, both}
use Rattle.blocks.specs.Lists.{any, keep, first, All, end, also, In, here, there}
use Rattle.blocks.specs.Blocks.{block, bits_to}
use Rattle.blocks.proofs.BoolLaws.{clash, by_t, is_false, iff, both_l, both_r}
use Rattle.blocks.proofs.ListLaws.{All-of, All-map, any_keep_both, any_same, any_none, look, each, any_in_lem, first_yes}
use Rattle.blocks.proofs.BlockLaws.{pow-add, pow_pos, block_up, block_at}
use Rattle.blocks.proofs.BitLaws.{bits_lt, bits_read, bits_same}
use Rattle.model.specs.declared.Entry.{Entry}
use Rattle.model.specs.Model.{covers, covering, starts, has_mark, EntryOk, Sorted, done, more, Valid, within}
use Rattle.model.proofs.ValidLaws.{covers_self, sorted_ok, sole, unique}
use Rattle.tree.specs.Tree.{height, has, slot_mark, tier_order, slots}
use Rattle.tree.specs.Slots.{slot, entry_word, node_word, Numbering}
use Rattle.tree.proofs.StoreLaws.{within_only}
use Rattle.tree.proofs.HeightLaws.{Low, height_fits, fits_base}
use Rattle.tree.proofs.SlotLaws.{tier_up}
use Rattle.layout.specs.Words.{owner}
use Rattle.layout.proofs.OwnerLaws.{head_node_lem}
use Rattle.layout.specs.Decode.{wide}
use Rattle.decode.proofs.Restrict.{
  in_block,
  part,
  low_order,
  has_level,
  EntryGood,
  Chain,
  part_word,
  sibling_of,
  level_slot,
  level_mark,
  level_marks,
  bits_of,
  level_owner,
  head_slot,
}
use Rattle.decode.proofs.ChainLaws.{wide_pow}
use Rattle.decode.proofs.FitLaws.{chain_le}
use Rattle.decode.proofs.CoverLaws.{bits_are}
use Rattle.decode.proofs.BlockShape.{Shape, empty, one, low, shape, wide_entry, Mem, mem_keep, keep_mem}

-- VALID LISTS
ok_to : {e : Entry} → EntryOk e → EntryGood e
ok_to {e} o = record {
  order_le = o.order_le;
  aligned = let d : e.base / 2 ^ e.order * 2 ^ e.order + e.base % 2 ^ e.order ≡ e.base = div-add-mod' e.base
      (2 ^ e.order) in omega (arith, o.aligned);
  word_ok = o.word_ok;
  word_fits = o.word_fits;
  marks_fit = o.marks_fit;
}

ok_from : {e : Entry} → EntryGood e → e.base < 2 ^ 64 → EntryOk e
ok_from {e} o h = record {
  order_le = o.order_le;
  aligned = let d : e.base / 2 ^ e.order * 2 ^ e.order + e.base % 2 ^ e.order ≡ e.base = div-add-mod' e.base
      (2 ^ e.order) in omega (arith, o.aligned);
  in_range = h;
  word_ok = o.word_ok;
  word_fits = o.word_fits;
  marks_fit = o.marks_fit;
}

ends : {e : Entry} → EntryOk e → e.base + 2 ^ e.order ≤ 2 ^ 64
ends {e} o =
    let K : ℕ = 2 ^ e.order in
    let A : ℕ = 2 ^ (64 - e.order) in
    let q : ℕ = e.base / K in
    let s : 64 - e.order + e.order ≡ 64 = omega (arith, o.order_le) in
    let m : A * K ≡ 2 ^ 64 = pow-add (64 - e.order) e.order ∙ ap (λ (x : ℕ). 2 ^ x) s in
    by_t (ltb q A) (λ t. let k : (q + 1) * K ≤ A * K = mul-le-mul_right K (omega (arith, ltb-true q A t)) in
    omega (arith, o.aligned))
    (λ t. absurd (let k : A * K ≤ q * K = mul-le-mul_right K (ltb-false q A t) in
    omega (arith, o.aligned, o.in_range)))

chain_from : {n : ℕ} {l : List Entry} → Sorted n l → n ≤ 2 ^ 64 → Chain n l (2 ^ 64)
chain_from done le = le
chain_from (more h ok s) le = (h, ok_to ok, chain_from s (ends ok))

pub to_chain : {l : List Entry} → Valid l → Chain 0 l (2 ^ 64)
to_chain v = chain_from v (lit≤ tt)

pub to_sorted : (n : ℕ) (l : List Entry) → Chain n l (2 ^ 64) → Sorted n l
to_sorted n [] p = done
to_sorted n (e ∷ l) p = more p.0 (ok_from p.1 (omega (arith, chain_le _ _ l p.2, pow_pos e.order)))
    (to_sorted (e.base + 2 ^ e.order) l p.2)

-- NODES
both_comm : (a b : Bool) → both a b ≡ both b a
both_comm true true = refl
both_comm true false = refl
both_comm false true = refl
both_comm false false = refl

pub any_within : (u b : ℕ) (l : List Entry) → any (low_order u) (part (wide u) b l) ≡ any (within (tier_order u) b) l
any_within u b l =
    any_keep_both (low_order u) (in_block (wide u) b) l
    ∙ any_same (λ x. both (in_block (wide u) b x) (low_order u x)) (within (tier_order u) b)
    (All-of (λ x. rw (wide_pow u) (both_comm (eqb (x.base / wide u) b) (ltb x.order (tier_order u)))) l)

pub has_same : {l : List Entry} → Valid l → (v b : ℕ) → has_level l v b ≡ has l (suc v) b
unfolding has
has_same {l} v u b = rw (any_within (suc u) b l, up (height l))
  where
    up : (h : ℕ) → ltb u h ≡ leb (suc u) h
    up h = iff (ltb u h) (leb (suc u) h) (λ t. le-leb (suc u) h (ltb-true u h t))
        (λ t. lt-ltb u h (leb-true (suc u) h t))

-- SLOTS
-- where a node covers block b, an entry that covers an index there starts there
in_block_lem : {l : List Entry} → Valid l → (j b i : ℕ) (y : Entry) → any (within j b) l ≡ true → block j i ≡ b → In y l →
    covers i y ≡ true → block j y.base ≡ b
in_block_lem {l} v j b i y t q m c =
    by_t (leb j y.order)
    (λ s.
    let (x, n, r) = any_in_lem (within j b) l t in
    let o : j ≤ y.order = leb-true _ _ s in
    let p : x.order < j = ltb-true _ _ (both_l (ltb x.order j) _ r) in
    let k : covers x.base y ≡ true = eq-eqb _ _ (block_up {j = j} {k = y.order} x.base i o
    (within_only j b x r ∙ sym q) ∙ eqb-true _ _ c) in
    let e : x.order ≡ y.order = ap (λ (z : Entry). z.order) (unique x.base v n m (covers_self x) k) in
    absurd (omega arith))
    (λ s. let o : y.order < j = leb-false _ _ s in sym
    (block_up {j = y.order} {k = j} i y.base (omega arith) (eqb-true _ _ c)) ∙ q)

first_keep : (p q : Entry → Bool) {l : List Entry} → All (λ x. p x ≡ true → q x ≡ true) l →
    first p (keep q l) ≡ first p l
first_keep p q end = refl
first_keep p q (also {x} h a) =
    by_t (q x) (λ t. rw (t, first_keep p q a)) (λ t. rw (t, is_false (λ s. clash (h s) t), first_keep p q a))

mem_in : (x : Entry) (l : List Entry) → Mem x l → In x l
mem_in x [] x'' = elim x'' [ ]
mem_in x (y ∷ l) (inl e) = subst (λ (z : Entry). In z (y ∷ l)) e here
mem_in x (y ∷ l) (inr m) = there (mem_in x l m)

in_mem : {x : Entry} {l : List Entry} → In x l → Mem x l
in_mem here = inl refl
in_mem (there m) = inr (in_mem m)

abbrev pub lower : Numbering → Numbering
lower ν v b = ν (suc v) b

module _ {l : List Entry} (valid : Valid l) (ν : Numbering) (v c : ℕ) where
  top : any (within (tier_order (suc v)) (c / slots)) l ≡ true →
      covering l (c * 2 ^ (tier_order v)) ≡ first (covers (c * wide v)) (part (wide (suc v)) (c / slots) l)
  top t =
      let w : 2 ^ (tier_order (suc v)) ≡ wide (suc v) = wide_pow (suc v) in
      let block_is : block (tier_order (suc v)) (c * wide v) ≡ c / slots =
      tier_up v (c * wide v) ∙ ap (λ (x : ℕ). x / slots)
      (ap (λ (d : ℕ). block (tier_order v) (c * d)) (sym (wide_pow v)) ∙ block_at (tier_order v) c) in
      rw (wide_pow v)
      (sym (first_keep (covers (c * wide v)) (in_block (wide (suc v)) (c / slots)) (each l (λ x m k.
      eq-eqb _ _ (ap (λ (d : ℕ). x.base / d) (sym w) ∙ in_block_lem valid (tier_order (suc v)) (c / slots) (c * wide v) x
      t block_is m k)))))

  pub slot_same : any (within (tier_order (suc v)) (c / slots)) l ≡ true → level_slot l (lower ν) v c ≡ slot l ν v c
  unfolding slot
  slot_same t = go (part (wide v) c l) refl (shape v c 0 (2 ^ 64) l (to_chain valid))
    where
      sib : (o : Option Entry) → covering l (c * 2 ^ (tier_order v)) ≡ o → part (wide v) c l ≡ [] →
          sibling_of v o ≡ entry_word v c o
      sib none q e = refl
      sib (some y) q e =
          let (k, m) = first_yes (covers (c * 2 ^ (tier_order v))) (each l (λ x m. m)) q in
          let f : starts (tier_order v) c y ≡ false =
          is_false (λ s. subst (Mem y) e (mem_keep (in_block (wide v) c) y l
          (eq-eqb _ _ (ap (λ (d : ℕ). y.base / d) (sym (wide_pow v)) ∙ eqb-true _ _ s)) (in_mem m))) in
          rw (f, wide_pow v)

      go : (xs : List Entry) → part (wide v) c l ≡ xs → Shape v xs →
          part_word l (lower ν) v c xs ≡ pick (any (within (tier_order v) c) l) (node_word (ν v c))
          (entry_word v c (covering l (c * 2 ^ (tier_order v))))
      go _ e empty =
          let n : any (within (tier_order v) c) l ≡ false = sym (any_within v c l) ∙ (rw e) in
          rw (n, ← top t) (sib (covering l (c * 2 ^ (tier_order v))) refl e)
      go _ e (one x h) =
          let m = keep_mem (in_block (wide v) c) x l (rw e (inl refl)) in
          let i : In x l = mem_in x l m.0 in
          let n : any (within (tier_order v) c) l ≡ false = sym (any_within v c l) ∙
          (rw (e, le-ltb x.order (tier_order v) h)) in
          let b : x.base ≡ c * 2 ^ (tier_order v) =
          (wide_entry v x (ok_to (look (sorted_ok valid) i)) h).0 ∙ ap (λ (d : ℕ). d * wide v)
          (eqb-true (x.base / wide v) c m.1) ∙ ap (λ (d : ℕ). c * d) (sym (wide_pow v)) in
          let k : covering l (c * 2 ^ (tier_order v)) ≡ some x = look (sole (c * 2 ^ (tier_order v)) valid) i
          (subst (λ (y : ℕ). covers y x ≡ true) b (covers_self x)) in
          let s : starts (tier_order v) c x ≡ true = eq-eqb _ _ (ap (block (tier_order v)) b ∙ block_at (tier_order v) c)
          in
          rw (n, le-leb (tier_order v) x.order h, k, s)
      go _ e (low x xs p q) =
          let n : any (within (tier_order v) c) l ≡ true = sym (any_within v c l) ∙
          (rw (e, lt-ltb x.order (tier_order v) p)) in
          let z : suc (v - 1) ≡ v = omega arith in
          rw (n, lt-leb (tier_order v) x.order p, z)

-- MARKS
mark_same : (l : List Entry) (ν : Numbering) (m v c : ℕ) → level_mark l ν m v c ≡ slot_mark l m v c
unfolding slot_mark
mark_same l ν m v c =
    any_keep_both (has_mark m) (in_block (wide v) c) l
    ∙ any_same (λ x. both (in_block (wide v) c x) (has_mark m x)) (λ x. both (starts (tier_order v) c x) (has_mark m x))
    (All-of (λ x. rw (wide_pow v)) l)

bits_of_lem : (t : ℕ → Bool) (k : ℕ) → bits_of t 0 k ≡ bits_to t k
bits_of_lem t k = bits_are t k 0 (bits_to t k) (λ i h. rw (zero-add i, bits_read t k i h) (one (t i))) ∙ mod-eq_of_lt
    (bits_lt t k)
  where
    one : (b : Bool) → b ≡ eqb (pick b 1 0) 1
    one true = refl
    one false = refl

pub marks_same : (l : List Entry) (ν : Numbering) (m v b : ℕ) →
    level_marks l ν m v b ≡ bits_to (λ j. slot_mark l m v (slots * b + j)) slots
marks_same l ν m v b = bits_of_lem (λ j. level_mark l ν m v (slots * b + j)) slots ∙ bits_same
    (λ j. level_mark l ν m v (slots * b + j)) (λ j. slot_mark l m v (slots * b + j)) slots
    (λ j h. mark_same l ν m v (slots * b + j))

-- OWNERS AND THE HEAD
pub level_owner_lem : {l : List Entry} → Valid l → (ν : Numbering) (v b : ℕ) →
    level_owner l (lower ν) v b ≡ owner l ν (suc v) b
level_owner_lem v ν u b = refl

pub head_same : {l : List Entry} → Valid l → (ν : Numbering) → head_slot l (lower ν) (height l) ≡ slot l ν (height l) 0
unfolding slot has
head_same {l} v ν = go l v (height l) refl
  where
    go : (l : List Entry) → Valid l → (h : ℕ) → height l ≡ h → head_slot l (lower ν) h ≡ slot l ν h 0
    go [] v zero q = refl
    go [] v (suc h) q = absurd (omega arith)
    go (e ∷ l) v zero q =
        let low : All Low (e ∷ l) = All-map (λ x ok. (ok.order_le, ok.in_range)) (sorted_ok v) in
        let f = look (height_fits {h = 0} low (omega arith)) here in
        let b : e.base ≡ 0 = sym (div-one e.base) ∙ fits_base 0 e f in
        let n : any (within (tier_order 0) 0) (e ∷ l) ≡ false = any_none (within (tier_order 0) 0)
        (All-of (λ x t. let o : x.order < tier_order 0 = ltb-true _ _ (both_l (ltb x.order (tier_order 0)) _ t)
        in omega arith) (e ∷ l)) in
        let k : covers (0 * 2 ^ (tier_order 0)) e ≡ true = subst (λ (i : ℕ). covers i e ≡ true) b (covers_self e) in
        let s : starts (tier_order 0) 0 e ≡ true = eq-eqb _ _ (fits_base 0 e f) in
        rw (n, k, s)
    go (e ∷ l) v (suc h) q =
        let low : All Low (e ∷ l) = All-map (λ x ok. (ok.order_le, ok.in_range)) (sorted_ok v) in
        let t : has (e ∷ l) (height (e ∷ l)) 0 ≡ true = head_node_lem e l low (omega arith) in
        let n : any (within (tier_order (suc h)) 0) (e ∷ l) ≡ true = subst
        (λ (u : ℕ). any (within (tier_order u) 0) (e ∷ l) ≡ true) q
        (both_r (leb (height (e ∷ l)) (height (e ∷ l))) _ t) in
        rw n
