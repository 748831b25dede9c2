-- The words that a list prescribes: what stands in each slot, and the decoding below a node gives the list back.
use Prim.Native.Nat.{ℕ, zero, suc, ◌+◌, ◌*◌, ◌-◌, ◌/◌, ◌%◌, ◌^◌, ◌≤◌, ◌<◌}
use mathlib.Core.Path.{◌≡◌, refl, sym, ap, ◌∙◌, subst}
use mathlib.Core.Logic.{inl, inr, ◌≢◌}
use mathlib.Core.Bool.{Bool, true, false}
use mathlib.Core.List.{List, [], ◌∷◌}
use mathlib.Core.Option.{Option, none, some}
use native.Mathlib.Omega.{arith}
use native.Mathlib.Nat.{
  mul-le-mul_right,
  div-add-mod',
  mul-div_cancel,
  mul-lt-mul_of_pos_right,
  add-mul-mod_self_left,
  mul-mod_left,
  le_antisymm,
  le_of_eq,
}
use lib.Dec.{eqb, ltb, lit<}
use lib.Pow.{pow_pos, pow_mono, pow-lt}
use borrow.Author.Tests.{eqb-true, eqb-false, eq-eqb, ne_eqb, ltb-true, ltb-false, lt-ltb, le-leb, lt-leb}
use Rattle.blocks.proofs.BoolLaws.{by_t}
use Rattle.blocks.specs.Choice.{pick, both}
use Rattle.blocks.specs.Lists.{any, first}
use Rattle.blocks.specs.Blocks.{bit}
use Rattle.model.specs.declared.Entry.{Entry}
use Rattle.model.specs.Model.{reserved, covers, has_mark}
use Rattle.model.proofs.WordLaws.{by_word, storable_kind}
use Rattle.tree.specs.Slots.{sibling_word, node_word, Numbering}
use Rattle.tree.specs.Tree.{height, tier_order, slots, slot_bits}
use Rattle.layout.specs.declared.Slot.{Slot}
use Rattle.layout.specs.declared.Slot.TheVariants.{Empty, Reserved, Held, Sibling, Child}
use Rattle.layout.specs.Pool.{slot_of, Pool, slot_at, run, run_from, max_run}
use Rattle.layout.specs.Decode.{wide, entry_at, cell, cell_at, below}
use Rattle.decode.proofs.Restrict.{
  part,
  in_block,
  EntryGood,
  low_order,
  has_level,
  part_word,
  sibling_of,
  bits_of,
  Prescribes,
}
use Rattle.decode.proofs.KeepLaws.{Every, Some, no_both, keep_none, some_with, some_no, any_some, some_any}
use Rattle.decode.proofs.BelowLaws.{wide_pos, nest, up}
use Rattle.layout.proofs.SaysLaws.{said}
use Rattle.decode.proofs.ChainLaws.{order_pow, bit_lt, in_parts}
use Rattle.decode.proofs.FitLaws.{chain_oks}
use Rattle.decode.proofs.CoverLaws.{covers_in, in_covers, bit_suc, unscale, unscale≤}
use Rattle.decode.proofs.BlockShape.{
  Shape,
  empty,
  one,
  low,
  shape,
  part_slots,
  span_ext,
  Mem,
  all_mem,
  mem_all,
  mem_keep,
  keep_mem,
  first_mem,
  first_at,
  wide_entry,
  keep_chain,
  block_lo,
  block_hi,
}

pub both_parts : (s t : Bool) → both s t ≡ true → (s ≡ true) × (t ≡ true)
both_parts true t e = (refl, e)
both_parts false t e = no_both e refl

pub bit_of_bits : (t : ℕ → Bool) (i j k : ℕ) → i < k → bit i (bits_of t j k) ≡ pick (t (j + i)) 1 0
unfolding bits_of
bit_of_bits t i j zero h = absurd (omega arith)
bit_of_bits t zero j (suc k) h =
    let z : j + 0 ≡ j = omega arith in
    rw z (by_t (t j) (λ e. rw e (omega arith)) (λ e. rw e (omega arith)))
bit_of_bits t (suc i) j (suc k) h =
    let z : j + suc i ≡ suc j + i = omega arith in
    let q : (pick (t j) 1 0 + 2 * bits_of t (suc j) k) / 2 ≡ bits_of t (suc j) k = by_t (t j) (λ e. rw e (omega arith))
    (λ e. rw e (omega arith)) in
    rw (bit_suc, q, z) (bit_of_bits t i (suc j) k (omega arith))

pub slot_mod : (v b j r base K : ℕ) → r ≤ max_run → base ≡ (slots * b + j) * wide v → base ≡ K * (wide v * 2 ^ r) →
    j % 2 ^ r ≡ 0
slot_mod v b j r base K small e f =
    let R : ℕ = 2 ^ r in
    let A : ℕ = 2 ^ (slot_bits - r) in
    let s : A * R ≡ slots = in_parts r small in
    let g : (slots * b + j) * wide v ≡ K * R * wide v = sym e ∙ f ∙ (omega arith) in
    let h : slots * b + j ≡ K * R = le_antisymm (unscale≤ v (slots * b + j) (K * R) (le_of_eq g))
    (unscale≤ v (K * R) (slots * b + j) (le_of_eq (sym g))) in
    let k : j + R * (A * b) ≡ K * R = omega (arith, ap (λ (x : ℕ). x * b) s) in
    sym (add-mul-mod_self_left j R (A * b)) ∙ ap (λ (x : ℕ). x % R) k ∙ mul-mod_left K R

pub slot_end : (j r : ℕ) → r ≤ max_run → j < slots → j % 2 ^ r ≡ 0 → j + 2 ^ r ≤ slots
slot_end j r small lt e =
    let R : ℕ = 2 ^ r in
    let A : ℕ = 2 ^ (slot_bits - r) in
    let s : A * R ≡ slots = in_parts r small in
    let d : j / R * R + j % R ≡ j = div-add-mod' j R in
    by_t (ltb (j / R) A)
    (λ t. let q : (j / R + 1) * R ≤ A * R = mul-le-mul_right R (omega (arith, ltb-true (j / R) A t)) in omega arith)
    (λ t. absurd (let q : A * R ≤ j / R * R = mul-le-mul_right R (ltb-false (j / R) A t) in omega arith))

pub entry_eq : (x y : Entry) → x.base ≡ y.base → x.order ≡ y.order → x.word ≡ y.word → x.marks ≡ y.marks →
    x ≡ y
entry_eq x y p q r s = λ i. record { base = p i; order = q i; word = r i; marks = s i }

module _ (P : Pool) (l : List Entry) (ν : Numbering) (R : Prescribes P l ν) where
  pub has_parts : (v b : ℕ) → has_level l v b ≡ true → (v < height l) × Some (λ e. low_order (suc v) e ≡ true)
      (part (wide (suc v)) b l)
  has_parts v b t =
      let q = both_parts _ _ t in
      (ltb-true v (height l) q.0, any_some _ (part (wide (suc v)) b l) q.1)

  pub make_has : (v b : ℕ) → v < height l → Some (λ e. low_order (suc v) e ≡ true) (part (wide (suc v)) b l) →
      has_level l v b ≡ true
  make_has v b h s = rw (lt-ltb v (height l) h) (some_any (low_order (suc v)) (part (wide (suc v)) b l) s)

  -- a node's block holds low orders only
  pub node_low : (v b : ℕ) → has_level l v b ≡ true → Every (λ e. e.order < tier_order (suc v))
      (part (wide (suc v)) b l)
  node_low v b t = go (part (wide (suc v)) b l) (shape (suc v) b 0 _ l R.valid) (has_parts v b t).1
    where
      go : (xs : List Entry) → Shape (suc v) xs → Some (λ e. low_order (suc v) e ≡ true) xs →
          Every (λ e. e.order < tier_order (suc v)) xs
      go _ empty s = tt
      go _ (one x h) (inl s) = absurd (omega (arith, ltb-true x.order (tier_order (suc v)) s))
      go _ (one x h) (inr s) = absurd s
      go _ (low x xs p q) s = (p, q)

  pub from_within : (w c : ℕ) (x : Entry) → Mem x (part w c l) → Mem x l
  from_within w c x m = (keep_mem (in_block w c) x l m).0

  pub mem_ok : (x : Entry) → Mem x l → EntryGood x
  mem_ok x m = all_mem EntryGood x l (chain_oks 0 _ l R.valid) m

  -- what slot j of the node at (v, b) holds
  pub data Shown (v b j : ℕ) : Slot → Type 0 where
    an_empty : part (wide v) (slots * b + j) l ≡ [] → first (covers ((slots * b + j) * wide v))
        (part (wide (suc v)) b l) ≡ none → Shown v b j Empty
    a_sibling : (y : Entry) → part (wide v) (slots * b + j) l ≡ [] →
        first (covers ((slots * b + j) * wide v)) (part (wide (suc v)) b l) ≡ some y →
        Shown v b j (Sibling (y.base / wide v % slots))
    an_entry : (x : Entry) → part (wide v) (slots * b + j) l ≡ x ∷ [] → tier_order v ≤ x.order → Shown v b j Held
    a_reserved : (x : Entry) → part (wide v) (slots * b + j) l ≡ x ∷ [] → tier_order v ≤ x.order →
        reserved x ≡ true → Shown v b j Reserved
    a_child : (x : Entry) (xs : List Entry) → part (wide v) (slots * b + j) l ≡ x ∷ xs →
        Every (λ e. e.order < tier_order v) (x ∷ xs) → Shown v b j (Child (ν (v - 1) (slots * b + j)))

  pub shown : (v b j : ℕ) → has_level l v b ≡ true → j < slots → Shown v b j (slot_at P (ν v b) j)
  shown v b j t lt = rw ((R.nodes v b t).slots_are j lt)
      (go (part (wide v) (slots * b + j) l) refl (shape v (slots * b + j) 0 _ l R.valid))
    where
      c : ℕ
      c = slots * b + j

      emptied : part (wide v) c l ≡ [] → (o : Option Entry) → first (covers (c * wide v)) (part (wide (suc v)) b l) ≡ o
          → Shown v b j (slot_of (sibling_of v o))
      emptied e none f = rw (said 0 Empty refl) (an_empty e f)
      emptied e (some y) f = rw (said (sibling_word (y.base / wide v % slots)) (Sibling (y.base / wide v % slots))
          (refl, omega arith, omega arith)) (a_sibling y e f)

      go : (xs : List Entry) → part (wide v) c l ≡ xs → Shape v xs → Shown v b j (slot_of (part_word l ν v c xs))
      go _ e empty = let q : c / slots ≡ b = omega arith in
          rw q (emptied e (first (covers (c * wide v)) (part (wide (suc v)) b l)) refl)
      go _ e (one x h) = rw (le-leb (tier_order v) x.order h)
          (by_word x (mem_ok x (from_within (wide v) c x (rw e (inl refl)))).word_ok
          (λ s. rw (said x.word Held (storable_kind x.word s)) (an_entry x e h))
          (λ r o m. rw (said x.word Reserved r) (a_reserved x e h (eq-eqb _ _ r))))
      go _ e (low x xs p q) = rw (
        lt-leb (tier_order v) x.order p,
        said (node_word (ν (v - 1) c)) (Child (ν (v - 1) c)) refl,
      ) (a_child x xs e (p, q))

  -- an entry in its first slot
  pub record Fact (v b j : ℕ) (x : Entry) : Type 0 where
    pub mem : Mem x l
    pub ok : EntryGood x
    pub r : ℕ
    pub order_is : x.order ≡ tier_order v + r
    pub small : r ≤ max_run
    pub base_is : x.base ≡ (slots * b + j) * wide v
    pub end_is : x.base + 2 ^ x.order ≡ (slots * b + (j + 2 ^ r)) * wide v
    pub aligned : j % 2 ^ r ≡ 0
    pub ends : j + 2 ^ r ≤ slots
    pub only : (y : Entry) → Mem y l → y.base / wide v ≡ slots * b + j → y ≡ x

  fact_of : (v b j r : ℕ) (x : Entry) → has_level l v b ≡ true → j < slots → part (wide v) (slots * b + j) l ≡ x ∷ [] →
      x.order ≡ tier_order v + r →
      Mem x l → x.base / wide v ≡ slots * b + j → EntryGood x → r ≤ max_run → Fact v b j x
  fact_of v b j r x t lt e o m q ok small =
      let bs : x.base ≡ (slots * b + j) * wide v = (wide_entry v x ok (omega arith)).0 ∙ ap (λ (z : ℕ). z * wide v)
      q in
      let pw : 2 ^ x.order ≡ wide v * 2 ^ r = ap (λ (z : ℕ). 2 ^ z) o ∙ order_pow v r in
      let al : j % 2 ^ r ≡ 0 = slot_mod v b j r x.base (x.base / 2 ^ x.order) small bs
      (sym (div-add-mod' x.base (2 ^ x.order)) ∙ (omega
      (arith, ok.aligned, ap (λ (z : ℕ). x.base / 2 ^ x.order * z) pw))) in
      record {
        mem = m;
        ok = ok;
        r = r;
        order_is = o;
        small = small;
        base_is = bs;
        end_is = rw (pw, bs) (omega arith);
        aligned = al;
        ends = slot_end j r small lt al;
        only = λ y my f. all_mem (λ z. z ≡ x) y (part (wide v) (slots * b + j) l) (rw e (refl, tt))
            (mem_keep (in_block (wide v) (slots * b + j)) y l (eq-eqb (y.base / wide v) (slots * b + j) f) my);
      }

  pub fact : (v b j : ℕ) (x : Entry) → has_level l v b ≡ true → j < slots → part (wide v) (slots * b + j) l ≡ x ∷ [] →
      tier_order v ≤ x.order → Fact v b j x
  fact v b j x t lt e h =
      let m : Mem x (part (wide v) (slots * b + j) l) = rw e (inl refl) in
      let mm = keep_mem (in_block (wide v) (slots * b + j)) x l m in
      let q : x.base / wide v ≡ slots * b + j = eqb-true (x.base / wide v) (slots * b + j) mm.1 in
      let lo : x.order < tier_order (suc v) = all_mem (λ e. e.order < tier_order (suc v)) x (part (wide (suc v)) b l)
      (node_low v b t)
      (mem_keep (in_block (wide (suc v)) b) x l (eq-eqb (x.base / wide (suc v)) b (nest x.base v b j q lt))
      mm.0) in
      fact_of v b j (x.order - tier_order v) x t lt e (omega arith) mm.0 q (mem_ok x mm.0) (omega arith)

  -- within an entry's run there is no other entry, and each further slot is its sibling
  module _ (v b j : ℕ) (x : Entry) (t : has_level l v b ≡ true) (lt : j < slots) (F : Fact v b j x) where
    pub covers_slot : (i : ℕ) → j ≤ i → i < j + 2 ^ F.r → covers ((slots * b + i) * wide v) x ≡ true
    covers_slot i p q =
        in_covers _ x F.ok (rw F.base_is (mul-le-mul_right (wide v) (omega arith)))
        (rw F.end_is (mul-lt-mul_of_pos_right (omega arith) (wide_pos v)))

    pub in_node : Mem x (part (wide (suc v)) b l)
    in_node = mem_keep (in_block (wide (suc v)) b) x l (eq-eqb (x.base / wide (suc v)) b
        (nest x.base v b j (rw F.base_is (mul-div_cancel (slots * b + j) (wide_pos v))) lt)) F.mem

    pub run_free : (i : ℕ) → j < i → i < j + 2 ^ F.r → part (wide v) (slots * b + i) l ≡ []
    run_free i p q =
        keep_none _ l (mem_all (λ y. in_block (wide v) (slots * b + i) y ≡ false) l (λ y m.
        ne_eqb (y.base / wide v) (slots * b + i) (λ (f : y.base / wide v ≡ slots * b + i).
        let a : y.base / wide v * wide v ≡ (slots * b + i) * wide v = ap (λ (z : ℕ). z * wide v) f in
        let a' : (y.base / wide v + 1) * wide v ≡ (slots * b + i + 1) * wide v = ap (λ (z : ℕ). (z + 1) * wide v) f
        in
        let c : (slots * b + j) * wide v ≤ (slots * b + i) * wide v = mul-le-mul_right (wide v) (omega arith) in
        let d : (slots * b + i + 1) * wide v ≤ (slots * b + (j + 2 ^ F.r)) * wide v = mul-le-mul_right (wide v)
        (omega arith) in
        let cx : covers y.base x ≡ true = in_covers y.base x F.ok
        (omega (arith, F.base_is, block_lo y.base (wide v)))
        (omega (arith, F.end_is, block_hi y.base (wide v) (wide_pos v))) in
        let cy : covers y.base y ≡ true = in_covers y.base y (mem_ok y m) (omega arith)
        (omega (arith, pow_pos y.order)) in
        let same : x ≡ y = cc (
          first_at y.base 0 (2 ^ 64) l x R.valid F.mem cx,
          first_at y.base 0 (2 ^ 64) l y R.valid m cy,
        ) in
        let bx : x.base / wide v ≡ slots * b + j = rw F.base_is (mul-div_cancel (slots * b + j) (wide_pos v)) in
        omega (arith, sym bx ∙ ap (λ (z : Entry). z.base / wide v) same ∙ f))))

    pub first_slot : (i : ℕ) → j ≤ i → i < j + 2 ^ F.r →
        first (covers ((slots * b + i) * wide v)) (part (wide (suc v)) b l) ≡ some x
    first_slot i p q =
        first_at ((slots * b + i) * wide v) 0 (2 ^ 64) (part (wide (suc v)) b l) x
        (keep_chain (in_block (wide (suc v)) b) 0 (2 ^ 64) l R.valid) in_node (covers_slot i p q)

    pub run_slot : (i : ℕ) → j < i → i < j + 2 ^ F.r → P.slot (ν v b) i ≡ sibling_word j
    run_slot i p q =
        let z : (slots * b + i) / slots ≡ b = omega (arith, F.ends) in
        let w : (slots * b + j) % slots ≡ j = omega arith in
        let k : x.base / wide v ≡ slots * b + j = rw F.base_is (mul-div_cancel (slots * b + j) (wide_pos v)) in
        (R.nodes v b t).slots_are i (omega (arith, F.ends))
        ∙ (rw (run_free i p q, z, first_slot i (omega arith) q, k, w))

    -- and no slot after the run is
    pub not_after : (i : ℕ) (κ : Slot) → Shown v b i κ → κ ≡ Sibling j → i < slots → i < j + 2 ^ F.r
    not_after i _ (an_empty e f) k h = absurd (let z : ◌≡◌ {A = ℕ} 0 1 = cc in omega arith)
    not_after i _ (a_sibling y e f) k h =
        let m = first_mem (covers ((slots * b + i) * wide v)) (part (wide (suc v)) b l) y f in
        let mm = keep_mem (in_block (wide (suc v)) b) y l m.0 in
        let q : y.base / wide v % slots ≡ j = cc in
        let r : y.base / wide v / slots ≡ b = sym (up y.base v) ∙ eqb-true (y.base / wide (suc v)) b mm.1 in
        let s : y ≡ x = F.only y mm.0 (omega arith) in
        let c : (slots * b + i) * wide v < x.base + 2 ^ x.order =
        (covers_in ((slots * b + i) * wide v) x F.ok
        (subst (λ (z : Entry). covers ((slots * b + i) * wide v) z ≡ true) s m.1)).1 in
        let d : slots * b + i < slots * b + (j + 2 ^ F.r) = unscale v _ _
        (subst (λ (z : ℕ). (slots * b + i) * wide v < z) F.end_is c) in
        omega arith
    not_after i _ (an_entry y e f) k h = absurd (let z : ◌≡◌ {A = ℕ} 0 1 = cc in omega arith)
    not_after i _ (a_reserved y e f r) k h = absurd (let z : ◌≡◌ {A = ℕ} 0 1 = cc in omega arith)
    not_after i _ (a_child y ys e f) k h = absurd (let z : ◌≡◌ {A = ℕ} 0 1 = cc in omega arith)

    tests : (a : ℕ) → both (ltb (j + 2 ^ a) slots) (eqb (P.slot (ν v b) (j + 2 ^ a)) (sibling_word j)) ≡ ltb a F.r
    tests a =
        by_t (ltb a F.r)
        (λ e.
        let q : 2 ^ a < 2 ^ F.r = pow-lt (ltb-true a F.r e) in
        rw (
          e,
          lt-ltb (j + 2 ^ a) slots (omega (arith, F.ends)),
          eq-eqb (P.slot (ν v b) (j + 2 ^ a)) (sibling_word j)
              (run_slot (j + 2 ^ a) (omega (arith, pow_pos a)) (omega arith)),
        ))
        (λ e.
        let q : 2 ^ F.r ≤ 2 ^ a = pow_mono (ltb-false a F.r e) in
        by_t (ltb (j + 2 ^ a) slots)
        (λ f. by_t (eqb (P.slot (ν v b) (j + 2 ^ a)) (sibling_word j))
        (λ g.
        let gg : P.slot (ν v b) (j + 2 ^ a) ≡ sibling_word j = eqb-true (P.slot (ν v b) (j + 2 ^ a)) (sibling_word j)
        g in
        let ff : j + 2 ^ a < slots = ltb-true (j + 2 ^ a) slots f in
        let n = not_after (j + 2 ^ a) (slot_at P (ν v b) (j + 2 ^ a)) (shown v b (j + 2 ^ a) t ff)
        (said _ (Sibling j) (gg, omega arith, omega arith)) ff in
        absurd (omega (arith, n)))
        (λ g. rw (e, f, g)))
        (λ f. rw (e, f)))

    run_from_lem : (k a : ℕ) → a ≤ F.r → F.r ≤ a + k → run_from P (ν v b) j k a ≡ F.r
    run_from_lem zero a p q = omega arith
    run_from_lem (suc k) a p q =
        by_t (ltb a F.r)
        (λ e. rw (tests a, e) (run_from_lem k (suc a) (ltb-true a F.r e) (omega arith)))
        (λ e. rw (tests a, e) (omega (arith, ltb-false a F.r e)))

    pub run_is : run P (ν v b) j ≡ F.r
    unfolding run
    run_is = run_from_lem max_run 0 (omega arith) (omega (arith, F.small))

  -- ---- the decode gives the list back

  pub slot_bit : (v b j μ : ℕ) → has_level l v b ≡ true → j < slots → μ < 3 →
      bit j (P.mark (ν v b) μ) ≡ pick (any (has_mark μ) (part (wide v) (slots * b + j) l)) 1 0
  slot_bit v b j μ t lt three =
      let z : 0 + j ≡ j = omega arith in
      rw ((R.nodes v b t).marks_are μ three) (bit_of_bits _ j 0 slots lt ∙ (rw z))

  pub mark_bit_lem : (μ : ℕ) (x : Entry) → pick (any (has_mark μ) (x ∷ [])) 1 0 ≡ bit μ x.marks
  mark_bit_lem μ x =
      by_t (has_mark μ x)
      (λ e. rw e (sym (eqb-true (bit μ x.marks) 1 e)))
      (λ e. let q : bit μ x.marks ≢ 1 = eqb-false (bit μ x.marks) 1 e in
      rw e (omega (arith, bit_lt μ x.marks)))

  pub entry_is : (v b j : ℕ) (x : Entry) → has_level l v b ≡ true → j < slots →
      part (wide v) (slots * b + j) l ≡ x ∷ [] → tier_order v ≤ x.order → entry_at P v (ν v b) b j ≡ x
  entry_is v b j x t lt e h =
      let F = fact v b j x t lt e h in
      entry_eq (entry_at P v (ν v b) b j) x
      (sym F.base_is)
      (rw (run_is v b j x t lt F) (sym F.order_is))
      ((R.nodes v b t).slots_are j lt ∙ (rw (e, le-leb (tier_order v) x.order h)))
      (rw (
        slot_bit v b j 0 t lt (lit< tt),
        slot_bit v b j 1 t lt (lit< tt),
        slot_bit v b j 2 t lt (lit< tt),
        e,
        mark_bit_lem 0 x,
        mark_bit_lem 1 x,
        mark_bit_lem 2 x,
      ) (omega (arith, F.ok.marks_fit)))

  cell_is : (v b j : ℕ) → has_level l v b ≡ true → j < slots →
      ((c : ℕ) → Some (λ e. Unit {0}) (part (wide v) c l) → Every (λ e. e.order < tier_order v) (part (wide v) c l) →
      below P v (ν (v - 1) c) c ≡ part (wide v) c l) →
      (κ : Slot) → Shown v b j κ → cell (below P v) (entry_at P v (ν v b) b j) (slots * b + j) κ ≡ part (wide v)
      (slots * b + j) l
  cell_is v b j t lt ih _ (an_empty e f) = sym e
  cell_is v b j t lt ih _ (a_sibling y e f) = sym e
  cell_is v b j t lt ih _ (an_entry x e f) = rw (e, entry_is v b j x t lt e f)
  cell_is v b j t lt ih _ (a_reserved x e f r) = rw (e, entry_is v b j x t lt e f)
  cell_is v b j t lt ih _ (a_child x xs e f) = ih (slots * b + j) (rw e (inl tt)) (rw e f)

  pub has_child : (v c : ℕ) → suc v < height l → Some (λ e. Unit {0}) (part (wide (suc v)) c l) →
      Every (λ e. e.order < tier_order (suc v)) (part (wide (suc v)) c l) → has_level l v c ≡ true
  has_child v c h s a =
      make_has v c (omega arith) (some_with {A = Entry} (λ e. e.order < tier_order (suc v)) (λ e. Unit {0})
      (λ e. low_order (suc v) e ≡ true) (λ e p u. lt-ltb e.order (tier_order (suc v)) p)
      (part (wide (suc v)) c l) a s)

  -- what the decode finds below a node is what the list has in its block
  pub below_is : (v b : ℕ) → has_level l v b ≡ true → below P (suc v) (ν v b) b ≡ part (wide (suc v)) b l
  unfolding below
  below_is zero b t =
      span_ext (cell_at P 0 (ν 0 b) b) (λ j. part (wide 0) (slots * b + j) l) 0 slots
      (λ j p q. cell_is 0 b j t q (λ c s a. absurd (some_no (λ e. ⊥) (λ e z. z) (part (wide 0) c l)
      (some_with {A = Entry} (λ e. e.order < 0) (λ e. Unit {0}) (λ e. ⊥) (λ e z u. omega arith)
      (part (wide 0) c l) a s)))
      (slot_at P (ν 0 b) j) (shown 0 b j t q))
      ∙ sym (part_slots 0 b 0 (2 ^ 64) l R.valid)
  below_is (suc v) b t =
      span_ext (cell_at P (suc v) (ν (suc v) b) b) (λ j. part (wide (suc v)) (slots * b + j) l) 0 slots
      (λ j p q. cell_is (suc v) b j t q
      (λ c s a. let z : suc v - 1 ≡ v = omega arith in
      rw z (below_is v c (has_child v c (has_parts (suc v) b t).0 s a)))
      (slot_at P (ν (suc v) b) j) (shown (suc v) b j t q))
      ∙ sym (part_slots (suc v) b 0 (2 ^ 64) l R.valid)
