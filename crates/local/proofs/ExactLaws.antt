-- What the check looks at holds of prescribed words.
use Prim.Native.Nat.{ℕ, zero, suc, ◌+◌, ◌*◌, ◌-◌, ◌/◌, ◌%◌, ◌^◌, ◌≤◌, ◌<◌, max}
use mathlib.Core.Path.{◌≡◌, refl, sym, ap, ◌∙◌, subst}
use mathlib.Core.Logic.{◌⊎◌, inl, inr, ◌≢◌}
use mathlib.Core.Bool.{Bool, true, false, not}
use mathlib.Core.List.{List, [], ◌∷◌}
use mathlib.Core.Option.{some}
use native.Mathlib.Omega.{arith}
use native.Mathlib.Nat.{mul-le-mul_right, div-add-mod', div-mul-le_self, zero-div}
use lib.Dec.{eqb, leb, ltb, lit<}
use lib.Pow.{pow-add, pow_pos, pow-lt}
use borrow.Author.Tests.{eqb-true, eqb-false, eq-eqb, ne_eqb, ltb-true, ltb-false, leb-true, leb-false}
use Rattle.blocks.specs.Choice.{pick}
use Rattle.blocks.specs.Lists.{any, first}
use Rattle.blocks.proofs.BoolLaws.{by_t}
use Rattle.model.specs.declared.Entry.{Entry}
use Rattle.model.specs.Model.{covers, has_mark, marks_of, reserved}
use Rattle.tree.specs.Slots.{sibling_word, Numbering}
use Rattle.tree.specs.Tree.{height, fits, tier_order, slots}
use Rattle.tree.proofs.HeightLaws.{fits_i, height_most}
use Rattle.layout.specs.Pool.{Free, slot_of, Pool, slot_at}
use Rattle.layout.specs.declared.Slot.{Slot}
use Rattle.layout.specs.declared.Slot.TheVariants.{Empty, Reserved, Held, Sibling, Child}
use Rattle.layout.specs.Decode.{wide}
use Rattle.decode.proofs.Restrict.{part, in_block, Chain, EntryGood, has_level, Prescribes}
use Rattle.decode.proofs.KeepLaws.{Every, Some, no_both, some_map}
use Rattle.decode.proofs.BelowLaws.{wide_pos, up}
use Rattle.layout.proofs.SaysLaws.{said, said_sibling}
use Rattle.decode.proofs.ChainLaws.{wide_pow}
use Rattle.decode.proofs.FitLaws.{chain_ends, low_base}
use Rattle.decode.proofs.CoverLaws.{covers_in, unscale, unscale≤, any_span}
use Rattle.decode.proofs.BlockShape.{
  Shape,
  one,
  low,
  shape,
  part_slots,
  Mem,
  all_mem,
  mem_keep,
  keep_mem,
  first_mem,
  block_lo,
  block_hi,
}
use Rattle.decode.proofs.SlotsShown.{
  has_parts,
  Shown,
  an_empty,
  a_sibling,
  an_entry,
  a_reserved,
  a_child,
  shown,
  Fact,
  fact,
  run_is,
  run_slot,
  slot_bit,
  has_child,
  mem_ok,
  mark_bit_lem,
  not_after,
  from_within,
}
use Rattle.decode.proofs.ListBack.{
  no_node,
  a_node,
  head,
  tallest_some,
  two_apart,
  head_slot_lem,
  has_head,
  head_zero,
  has_up,
  child_slot,
  head_all,
  in_head,
}
use Rattle.local.specs.Local.{cap, HeldOk, ReservedOk, SiblingOk, ChildOk, SlotOk, NoMark, Live, OwnedBy, HeadNodeOk, HeadOk, UsedFrom, top_level}
use Rattle.model.proofs.MarkLaws.{marks_one}
use Rattle.model.proofs.WordLaws.{by_word, storable_kind, reserved_bare}

-- an entry of order 6v or less stays in its block of level v
pub low_end : (v : ℕ) (e : Entry) → EntryGood e → e.order ≤ tier_order v →
    e.base + 2 ^ e.order ≤ (e.base / wide v + 1) * wide v
low_end v e ok h =
    let K : ℕ = 2 ^ e.order in
    let A : ℕ = 2 ^ (tier_order v - e.order) in
    let w : wide v ≡ A * K = let x : tier_order v - e.order + e.order ≡ tier_order v = omega arith in
    sym (wide_pow v) ∙ ap (λ (z : ℕ). 2 ^ z) (sym x) ∙ pow-add 2 (tier_order v - e.order) e.order in
    let B : ℕ = e.base / wide v + 1 in
    let q : ℕ = e.base / K in
    let hi : q * K < B * wide v = omega (arith, block_hi e.base (wide v) (wide_pos v), div-mul-le_self e.base K)
    in
    let d : q * K + e.base % K ≡ e.base = div-add-mod' e.base K in
    let bw : B * wide v ≡ B * A * K = ap (λ (z : ℕ). B * z) w ∙ (omega arith) in
    by_t (ltb q (B * A))
    (λ t. let k : (q + 1) * K ≤ B * A * K = mul-le-mul_right K (omega (arith, ltb-true q (B * A) t)) in
    omega (arith, ok.aligned))
    (λ t. absurd (let k : B * A * K ≤ q * K = mul-le-mul_right K (ltb-false q (B * A) t) in omega arith))

shape_one : (v : ℕ) (y : Entry) (xs : List Entry) → Shape v xs → Mem y xs → tier_order v ≤ y.order → xs ≡ y ∷ []
shape_one v y _ Rattle.decode.proofs.BlockShape.empty m g = elim m [ ]
shape_one v y _ (one x h) (inl e) g = ap (λ (z : Entry). z ∷ []) e
shape_one v y _ (one x h) (inr m) g = absurd m
shape_one v y _ (low x xs p q) m g = absurd (let z = all_mem (λ e. e.order < tier_order v) y (x ∷ xs) (p, q) m in
    omega (arith, z))

module _ (P : Pool) (l : List Entry) (ν : Numbering) (R : Prescribes P l ν) where
  end_le : (x : Entry) → Mem x l → x.base + 2 ^ x.order ≤ 2 ^ 64
  end_le x m = all_mem (λ e. e.base + 2 ^ e.order ≤ 2 ^ 64) x l (chain_ends 0 (2 ^ 64) l R.valid) m

  -- slots past 2^64 are not used
  cap_of : (v a : ℕ) → a ≤ slots → a * wide v ≤ 2 ^ 64 → a ≤ cap v
  cap_of v a p q =
      by_t (eqb v top_level)
      (λ e. let z : v ≡ top_level = eqb-true v top_level e in rw e (unscale≤ top_level a 16 (subst (λ (x : ℕ). a * wide x ≤ 2 ^ 64) z q)))
      (λ e. rw e p)

  cap_lt : (v a : ℕ) → a < slots → a * wide v < 2 ^ 64 → a < cap v
  cap_lt v a p q =
      by_t (eqb v top_level)
      (λ e. let z : v ≡ top_level = eqb-true v top_level e in rw e (unscale top_level a 16 (subst (λ (x : ℕ). a * wide x < 2 ^ 64) z q)))
      (λ e. rw e p)

  pick_bit : (s : Bool) → eqb (pick s 1 0) 1 ≡ s
  pick_bit true = refl
  pick_bit false = refl

  unmarked : (v b j : ℕ) → has_level l v b ≡ true → j < slots → part (wide v) (slots * b + j) l ≡ [] →
      NoMark P (ν v b) j
  unmarked v b j t lt e μ three = slot_bit P l ν R v b j μ t lt three ∙ (rw e)

  mark_any : (v b μ : ℕ) → has_level l v b ≡ true → μ < 3 →
      not (eqb (P.mark (ν v b) μ) 0) ≡ any (has_mark μ) (part (wide (suc v)) b l)
  mark_any v b μ t three = rw ((R.nodes v b t).marks_are μ three, part_slots v b 0 (2 ^ 64) l R.valid, any_span)

  slot_held : (v b j : ℕ) (x : Entry) (κ : Slot) → Shown P l ν R v b j κ → part (wide v) (slots * b + j) l ≡ x ∷ [] →
      tier_order v ≤ x.order → 0 < x.order → κ ≡ Held
  slot_held v b j x _ (an_empty e f) q h p = absurd (let z : ◌≡◌ {A = ℕ} 0 1 = cc in omega arith)
  slot_held v b j x _ (a_sibling y e f) q h p = absurd (let z : ◌≡◌ {A = ℕ} 0 1 = cc in omega arith)
  slot_held v b j x _ (an_entry y e f) q h p = refl
  slot_held v b j x _ (a_reserved y e f r) q h p = let z : y ≡ x = cc in
      let ok = mem_ok P l ν R y (from_within P l ν R (wide v) (slots * b + j) y (rw e (inl refl))) in
      absurd (omega (arith, (reserved_bare y ok.word_ok r).0, ap (λ (u : Entry). u.order) z))
  slot_held v b j x _ (a_child y ys e f) q h p = let z : y ≡ x = cc in
      absurd (omega (arith, f.0, ap (λ (u : Entry). u.order) z))

  -- an entry that covers a slot in which nothing begins has an order of this level
  sibling_order : (v c : ℕ) (y : Entry) → Mem y l → part (wide v) c l ≡ [] → covers (c * wide v) y ≡ true →
      tier_order v ≤ y.order
  sibling_order v c y m e k =
      by_t (leb (tier_order v) y.order)
      (λ t. leb-true _ _ t)
      (λ t.
      let ok = mem_ok P l ν R y m in
      let r = covers_in (c * wide v) y ok k in
      let hi : c < y.base / wide v + 1 = unscale v _ _
      (omega (arith, r.1, low_end v y ok (omega (arith, leb-false (tier_order v) y.order t)))) in
      let lo : y.base / wide v ≤ c = unscale≤ v _ _ (omega (arith, r.0, block_lo y.base (wide v))) in
      absurd (subst (Mem y) e (mem_keep (in_block (wide v) c) y l (eq-eqb (y.base / wide v) c (omega arith)) m)))

  sibling_at : (v b j o : ℕ) (y : Entry) → has_level l v b ≡ true → j < slots → o < slots →
      part (wide v) (slots * b + j) l ≡ [] → covers ((slots * b + j) * wide v) y ≡ true → Mem y l →
      y.base / wide v ≡ slots * b + o →
      SiblingOk P (ν v b) v j o
  sibling_at v b j o y t lt lo e k m q =
      let h : tier_order v ≤ y.order = sibling_order v (slots * b + j) y m e k in
      let w : part (wide v) (slots * b + o) l ≡ y ∷ [] =
      shape_one v y _ (shape v (slots * b + o) 0 (2 ^ 64) l R.valid)
      (mem_keep (in_block (wide v) (slots * b + o)) y l (eq-eqb (y.base / wide v) (slots * b + o) q) m) h in
      let F = fact P l ν R v b o y t lo w h in
      let c = covers_in ((slots * b + j) * wide v) y F.ok k in
      let above : slots * b + o ≤ slots * b + j = unscale≤ v _ _ (omega (arith, c.0, F.base_is)) in
      let before : slots * b + j < slots * b + (o + 2 ^ F.r) = unscale v _ _ (omega (arith, c.1, F.end_is)) in
      let other : o ≢ j = λ (z : o ≡ j). let y : ◌≡◌ {A = ℕ} 0 1 = cc (w, e, z) in omega arith in
      record {
        unmarked = unmarked v b j t lt e;
        after = omega arith;
        of_held = slot_held v b o y _ (shown P l ν R v b o t lo) w h (omega (arith, F.order_is, wide_run F.r (omega arith)));
        in_run_lem = rw (run_is P l ν R v b o y t lo F) (omega arith);
      }
    where
      wide_run : (r : ℕ) → 1 < 2 ^ r → 0 < r
      wide_run zero p = absurd (omega arith)
      wide_run (suc r) p = omega arith

  sibling_ok : (v b j : ℕ) (y : Entry) → has_level l v b ≡ true → j < slots → part (wide v) (slots * b + j) l ≡ [] →
      first (covers ((slots * b + j) * wide v)) (part (wide (suc v)) b l) ≡ some y →
      SiblingOk P (ν v b) v j (y.base / wide v % slots)
  sibling_ok v b j y t lt e f =
      let m = first_mem (covers ((slots * b + j) * wide v)) (part (wide (suc v)) b l) y f in
      let mm = keep_mem (in_block (wide (suc v)) b) y l m.0 in
      let r : y.base / wide v / slots ≡ b = sym (up y.base v) ∙ eqb-true (y.base / wide (suc v)) b mm.1 in
      sibling_at v b j (y.base / wide v % slots) y t lt (omega arith) e m.1 mm.0 (omega arith)

  held_ok : (v b j : ℕ) (x : Entry) → has_level l v b ≡ true → j < slots → Fact P l ν R v b j x → HeldOk P (ν v b) v j
  held_ok v b j x t lt F =
      let r = run_is P l ν R v b j x t lt F in
      record {
        short = rw r (omega (arith, F.order_is, F.ok.order_le));
        small = rw r F.small;
        aligned = rw r F.aligned;
        ends = rw r (cap_of v (j + 2 ^ F.r) F.ends (omega (arith, F.end_is, end_le x F.mem)));
        siblings = rw r (λ i p q. said_sibling _ j (run_slot P l ν R v b j x t lt F i p q) lt);
      }

  reserved_ok_lem : (v b j : ℕ) (x : Entry) → has_level l v b ≡ true → j < slots → part (wide v) (slots * b + j) l ≡ x ∷ [] →
      tier_order v ≤ x.order → reserved x ≡ true → ReservedOk P (ν v b) v j
  reserved_ok_lem v b j x t lt e h r =
      let F = fact P l ν R v b j x t lt e h in
      let (o, m) = reserved_bare x F.ok.word_ok r in
      let w : F.r ≡ 0 = omega (arith, F.order_is) in
      record {
        bottom = omega (arith, F.order_is);
        unmarked = λ μ three. slot_bit P l ν R v b j μ t lt three ∙ (rw e) ∙ mark_bit_lem P l ν R μ x ∙ (rw m (ap (λ (z : ℕ). z % 2) (zero-div (2 ^ μ))));
        alone = λ in_node d. let q : j + 1 < j + 2 ^ F.r = not_after P l ν R v b j x t lt F (j + 1) _
            (shown P l ν R v b (j + 1) t in_node) (said_sibling _ j d lt) in_node in
            omega (arith, ap (λ (z : ℕ). 2 ^ z) w);
      }

  child_ok_lem : (v b j : ℕ) (x : Entry) (xs : List Entry) → has_level l v b ≡ true → j < slots →
      part (wide v) (slots * b + j) l ≡ x ∷ xs → Every (λ e. e.order < tier_order v) (x ∷ xs) →
      ChildOk P (ν v b) v j (ν (v - 1) (slots * b + j))
  child_ok_lem zero b j x xs t lt e a = absurd (omega (arith, a.0))
  child_ok_lem (suc v) b j x xs t lt e a =
      let c : ℕ = slots * b + j in
      let z : suc v - 1 ≡ v = omega arith in
      let s : has_level l v c ≡ true = has_child P l ν R v c (has_parts P l ν R (suc v) b t).0 (rw e (inl tt))
      (rw e a) in
      let mx = keep_mem (in_block (wide (suc v)) c) x l (rw e (inl refl)) in
      let q : c / slots ≡ b = omega arith in
      let r : c % slots ≡ j = omega arith in
      let bx : x.base / wide (suc v) * wide (suc v) ≡ c * wide (suc v) = ap (λ (y : ℕ). y * wide (suc v))
      (eqb-true (x.base / wide (suc v)) c mx.1) in
      rw z (record {
        lower = v;
        is_lower = refl;
        there = R.below v c s;
        level = (R.nodes v c s).shift_is;
        owned = (R.nodes v c s).owner_is ∙ (rw (
          ne_eqb (suc v) (height l)
              (λ (y : suc v ≡ height l). omega (arith, (has_parts P l ν R (suc v) b t).0)),
          q,
          r,
        ));
        used = cap_lt (suc v) j lt (omega (
          arith,
          bx,
          block_lo x.base (wide (suc v)),
          end_le x mx.0,
          pow_pos x.order,
          mul-le-mul_right {m = j} {n = c} (wide (suc v)) (omega arith),
        ));
        marked = λ μ three. rw (slot_bit P l ν R (suc v) b j μ t lt three, mark_any v c μ s three)
            (pick_bit (any (has_mark μ) (part (wide (suc v)) c l)));
      })

  slot_ok : (v b j : ℕ) → has_level l v b ≡ true → j < slots → (κ : Slot) → Shown P l ν R v b j κ →
      SlotOk P (ν v b) v j κ
  slot_ok v b j t lt _ (an_empty e f) = unmarked v b j t lt e
  slot_ok v b j t lt _ (a_sibling y e f) = sibling_ok v b j y t lt e f
  slot_ok v b j t lt _ (an_entry x e f) = held_ok v b j x t lt (fact P l ν R v b j x t lt e f)
  slot_ok v b j t lt _ (a_reserved x e f r) = reserved_ok_lem v b j x t lt e f r
  slot_ok v b j t lt _ (a_child x xs e f) = child_ok_lem v b j x xs t lt e f

  not_empty : (v b j : ℕ) (κ : Slot) → Shown P l ν R v b j κ → Some (λ e. Unit {0}) (part (wide v) (slots * b + j) l) →
      κ ≢ Empty
  not_empty v b j _ (an_empty e f) s z = absurd (rw e at s)
  not_empty v b j _ (a_sibling y e f) s z = absurd (rw e at s)
  not_empty v b j _ (an_entry x e f) s z = let y : ◌≡◌ {A = ℕ} 0 1 = cc in omega arith
  not_empty v b j _ (a_reserved x e f r) s z = let y : ◌≡◌ {A = ℕ} 0 1 = cc in omega arith
  not_empty v b j _ (a_child x xs e f) s z = let y : ◌≡◌ {A = ℕ} 0 1 = cc in omega arith

  -- where an entry of the node's block begins, something stands
  begins : (v b : ℕ) (x : Entry) → has_level l v b ≡ true → Mem x l → x.base / wide (suc v) ≡ b →
      slot_at P (ν v b) (x.base / wide v % slots) ≢ Empty
  begins v b x t m q =
      let r : x.base / wide v / slots ≡ b = sym (up x.base v) ∙ q in
      let j : ℕ = x.base / wide v % slots in
      not_empty v b j _ (shown P l ν R v b j t (omega arith))
      (some_map (λ e. e ≡ x) (λ e. Unit {0}) (λ e z. tt) (part (wide v) (slots * b + j) l)
      (mem_keep (in_block (wide v) (slots * b + j)) x l (eq-eqb (x.base / wide v) (slots * b + j) (omega arith))
      m))

  pub some_mem : (Q : Entry → Type 0) (xs : List Entry) → Some Q xs → (x : Entry) × Mem x xs × Q x
  some_mem Q [] x' = elim x' [ ]
  some_mem Q (x ∷ xs) (inl q) = (x, inl refl, q)
  some_mem Q (x ∷ xs) (inr q) = let r = some_mem Q xs q in (r.0, inr r.1, r.2)

  used_at : (v b : ℕ) → has_level l v b ≡ true → UsedFrom P (ν v b) 0
  used_at v b t =
      let s = some_mem _ (part (wide (suc v)) b l) (has_parts P l ν R v b t).1 in
      let m = keep_mem (in_block (wide (suc v)) b) s.0 l s.1 in (
        s.0.base / wide v % slots,
        omega arith,
        omega arith,
        begins v b s.0 t m.0
            (eqb-true (s.0.base / wide (suc v)) b m.1),
      )

  module _ (t : ℕ) (ht : height l ≡ suc t) where
    owned_at : (v b : ℕ) → has_level l v b ≡ true → ((P.owner (ν v b) ≡ 0) × (slot_of P.head ≡ Child (ν v b))) ⊎
        OwnedBy P (ν v b) v
    owned_at v b h =
        let o = (R.nodes v b h).owner_is in
        by_t (eqb v t)
        (λ e.
        let z : v ≡ t = eqb-true v t e in
        let y : b ≡ 0 = head_zero P l ν R t ht b (subst (λ (x : ℕ). has_level l x b ≡ true) z h) in
        inl (o ∙ (rw (ht, eq-eqb (suc v) (suc t) (ap suc z))), rw (z, y) (head_slot_lem P l ν R t ht)))
        (λ e.
        let z : v ≢ t = eqb-false v t e in
        let p : suc v ≤ t = omega (arith, (has_parts P l ν R v b h).0, ht) in
        let u = has_up P l ν R t ht v b p h in
        inr (record {
          parent = ν (suc v) (b / slots);
          offset = b % slots;
          in_node = omega arith;
          there = R.below (suc v) (b / slots) u;
          owner_is = o ∙ (rw (ht, ne_eqb (suc v) (suc t) (λ (y : suc v ≡ suc t). omega arith)));
          above = (R.nodes (suc v) (b / slots) u).shift_is;
          holds = child_slot P l ν R t ht v b p h;
        }))

    pub live_at : (v b : ℕ) → has_level l v b ≡ true → Live P (ν v b) v
    live_at v b h =
        record {
          level = (R.nodes v b h).shift_is;
          high = omega (arith, (has_parts P l ν R v b h).0, height_most l);
          owned = owned_at v b h;
          slots_ok_lem = λ j lt. slot_ok v b j h lt (slot_at P (ν v b) j) (shown P l ν R v b j h lt);
          filled_is = (R.nodes v b h).filled_is;
          used = used_at v b h;
        }

    in_block_lem : (x : Entry) → Mem x l → x.base / wide (suc t) ≡ 0
    in_block_lem x m = all_mem (λ e. e.base / wide (suc t) ≡ 0) x l (in_head P l ν R t ht) m

    abbrev Tall : Type 0
    Tall = UsedFrom P (ν t 0) 1 ⊎ ((t ≢ 0) × (slot_at P (ν t 0) 0 ≡ Held))

    tall_wide : (x : Entry) → Mem x l → wide t ≤ x.base → Tall
    tall_wide x m h =
        let q : x.base / wide t / slots ≡ 0 = sym (up x.base t) ∙ in_block_lem x m in
        let p : x.base / wide t ≢ 0 = λ (z : x.base / wide t ≡ 0). omega
        (arith, block_hi x.base (wide t) (wide_pos t), ap (λ (y : ℕ). (y + 1) * wide t) z) in
        inl (
          x.base / wide t % slots,
          omega arith,
          omega arith,
          begins t 0 x (has_head P l ν R t ht) m (in_block_lem x m),
        )

    fact_head : (x : Entry) → Mem x l → tier_order t ≤ x.order →
        (part (wide t) (slots * 0 + x.base / wide t) l ≡ x ∷ []) × (x.base / wide t < slots)
    fact_head x m h =
        let q : x.base / wide t / slots ≡ 0 = sym (up x.base t) ∙ in_block_lem x m in (
          shape_one t x _ (shape t (slots * 0 + x.base / wide t) 0 (2 ^ 64) l R.valid)
              (mem_keep (in_block (wide t) (slots * 0 + x.base / wide t)) x l
              (eq-eqb (x.base / wide t) (slots * 0 + x.base / wide t) (omega arith)) m) h,
          omega arith,
        )

    tall_held : (x : Entry) → Mem x l → t ≢ 0 → tier_order t ≤ x.order → Tall
    tall_held x m z h =
        let f = fact_head x m h in
        let k : slot_at P (ν t 0) (x.base / wide t) ≡ Held = slot_held t 0 (x.base / wide t) x _
        (shown P l ν R t 0 (x.base / wide t) (has_head P l ν R t ht) f.1) f.0 h (omega arith) in
        by_t (eqb (x.base / wide t) 0)
        (λ e. inr (z, subst (λ (y : ℕ). slot_at P (ν t 0) y ≡ Held) (eqb-true (x.base / wide t) 0 e) k))
        (λ e. let d : x.base / wide t ≢ 0 = eqb-false (x.base / wide t) 0 e in
        inl (
          x.base / wide t,
          omega arith,
          f.1,
          λ (y : slot_at P (ν t 0) (x.base / wide t) ≡ Empty). let w : ◌≡◌
              {A = ℕ} 0 1 = cc (k, y) in omega arith,
        ))

    tall_run : (x : Entry) → Mem x l → t ≡ 0 → 0 < x.order → Tall
    tall_run x m z h =
        let f = fact_head x m (omega arith) in
        let hh = has_head P l ν R t ht in
        let G = fact P l ν R t 0 (x.base / wide t) x hh f.1 f.0 (omega arith) in
        let j : ℕ = x.base / wide t in
        let p : 2 ^ 0 < 2 ^ G.r = pow-lt {i = 0} {j = G.r} (omega (arith, G.order_is)) in
        let r : P.slot (ν t 0) (j + 1) ≡ sibling_word j = run_slot P l ν R t 0 j x hh f.1 G (j + 1) (omega arith)
        (omega arith) in
        let k : slot_at P (ν t 0) (j + 1) ≡ Sibling j = said_sibling _ j r (omega (arith, f.1)) in
        inl (
          j + 1,
          omega arith,
          omega (arith, G.ends),
          λ (y : slot_at P (ν t 0) (j + 1) ≡ Empty). let w : ◌≡◌ {A = ℕ}
              0 1 = cc (k, y) in omega arith,
        )

    tall_at_lem : Tall
    tall_at_lem =
        let (x, m, f) = some_mem (λ e. fits t e ≡ false) l (tallest_some t l ht) in
        by_t (ltb x.base (wide t))
        (λ p.
        let o : x.order < max 1 (tier_order t) → ⊥ = λ h. no_both
        (fits_i t x h (low_base t x.base (ltb-true x.base (wide t) p))) f in
        by_t (eqb t 0)
        (λ e. let z : t ≡ 0 = eqb-true t 0 e in tall_run x m z
        (by_t (eqb x.order 0) (λ q. absurd (o (omega (arith, eqb-true x.order 0 q))))
        (λ q. let r : x.order ≢ 0 = eqb-false x.order 0 q in omega arith)))
        (λ e. let z : t ≢ 0 = eqb-false t 0 e in tall_held x m z
        (by_t (leb (tier_order t) x.order) (λ q. leb-true _ _ q)
        (λ q. absurd (o (omega (arith, leb-false (tier_order t) x.order q)))))))
        (λ p. tall_wide x m (ltb-false x.base (wide t) p))

    pub head_node_lem : HeadNodeOk P (ν t 0)
    head_node_lem =
        let h = has_head P l ν R t ht in
        let a = head_all P l ν R t ht in
        let z : suc t ≡ suc t = refl in
        record {
          there = R.below t 0 h;
          top = t;
          live = live_at t 0 h;
          no_owner = (R.nodes t 0 h).owner_is ∙ (rw (ht, eq-eqb (suc t) (suc t) refl));
          tall = tall_at_lem;
          marks_are = R.marks_are ∙ sym (rw (
            mark_any t 0 0 h (lit< tt),
            mark_any t 0 1 h (lit< tt),
            mark_any t 0 2 h (lit< tt),
            a,
          ));
        }

  none_has : (v b : ℕ) → height l ≡ 0 → has_level l v b ≡ true → ⊥
  none_has v b z t = omega (arith, (has_parts P l ν R v b t).0, z)

  all_free : height l ≡ 0 → (n : ℕ) → n < P.count → Free P n
  all_free z n lt = R.frees n lt (λ v b t e. none_has v b z t)

  head_lone : (xs : List Entry) → l ≡ xs → height l ≡ 0 → HeadOk P (slot_of P.head)
  head_lone [] e z =
      let k : slot_of P.head ≡ Empty = rw (R.head_is, z, e) (said 0 Empty refl) in
      rw k (all_free z, R.marks_are ∙ (rw e))
  head_lone (x ∷ []) e z =
      let vv : Chain 0 (x ∷ []) (2 ^ 64) = subst (λ (y : List Entry). Chain 0 y (2 ^ 64)) e R.valid in
      let m : P.marks ≡ x.marks = R.marks_are ∙ ap marks_of e ∙ marks_one x vv.1.marks_fit in
      let hd : P.head ≡ x.word = R.head_is ∙ (rw (z, e)) in
      by_word x vv.1.word_ok
      (λ s. let k : slot_of P.head ≡ Held = rw hd (said x.word Held (storable_kind x.word s)) in
      rw k (all_free z, rw m vv.1.marks_fit))
      (λ r o b. let k : slot_of P.head ≡ Reserved = said P.head Reserved (hd ∙ r) in rw k (all_free z, m ∙ b))
  head_lone (x ∷ y ∷ xs) e z = two_apart P l ν R x y xs e z

  -- the head is as the check wants it
  pub exact_head : HeadOk P (slot_of P.head)
  exact_head = elim (head P l ν R) [
    | no_node z ↦ head_lone l refl z
    | a_node t z ↦ rw (head_slot_lem P l ν R t z)
        (head_node_lem t z)
  ]

  -- and so is each node: none fails
  pub exact_node : (n : ℕ) → n < P.count → (Free P n ⊎ ((v : ℕ) × Live P n v) → ⊥) → ⊥
  exact_node n lt f = f (inl (R.frees n lt (λ v b t e.
      elim (head P l ν R) [
        | no_node z ↦ none_has v b z t
        | a_node u z ↦ f (inr (v, subst (λ (x : ℕ). Live P x v) e (live_at u z v b t)))
      ])))
