-- What a slot shows of the entries that start in it.
use Prim.Native.Nat.{ℕ, zero, suc, ◌+◌, ◌*◌, ◌-◌, ◌/◌, ◌^◌, ◌≤◌, ◌<◌}
use mathlib.Core.Path.{◌≡◌, refl, sym, ap, subst, ◌∙◌}
use mathlib.Core.Bool.{true, false}
use mathlib.Core.List.{List, [], ◌∷◌, ◌++◌, append-nil}
use mathlib.Core.Option.{none, some}
use native.Mathlib.Omega.{arith}
use native.Mathlib.Nat.{mul-suc, mul_comm, mul_assoc, add-mul, mul-le-mul_right}
use lib.Dec.{leb, ltb}
use lib.ListN.{length}
use borrow.Author.Tests.{ltb-true, ltb-false, lt-ltb, eq-eqb, le-leb}
use Rattle.blocks.specs.Choice.{both}
use Rattle.blocks.specs.Lists.{In, any}
use Rattle.blocks.specs.Blocks.{block}
use Rattle.blocks.proofs.BoolLaws.{by_t, clash, both_l}
use Rattle.blocks.proofs.BlockLaws.{pow-add, pow_pos, block_at, block_hi}
use Rattle.blocks.proofs.ListLaws.{All-map, look, each, in_any, any_in_lem, first_no, first_yes, keep_none}
use Rattle.model.specs.declared.Entry.{Entry}
use Rattle.model.specs.Model.{max_order, EntryOk, Valid, within, covers, covering, meets}
use Rattle.model.proofs.RangeLaws.{covers_run}
use Rattle.model.proofs.ValidLaws.{block_in, covers_i, covers_self, sorted_ok, unique}
use Rattle.tree.specs.Slots.{Numbering}
use Rattle.tree.specs.Tree.{slot_bits, slots, tier_order, top_tier, height, fits}
use Rattle.tree.proofs.HeightLaws.{height_fits, fits_base}
use Rattle.tree.proofs.NodeListLaws.{has_in, has_le}
use Rattle.tree.proofs.SlotLaws.{tier_up}
use Rattle.layout.specs.WellFormed.{WellFormed, num}
use Rattle.lookup.specs.Views.{AtNode, Stands, Sees, Enters}
use Rattle.lookup.specs.declared.Sight.{Sight}
use Rattle.lookup.specs.declared.Sight.TheVariants.{Gap, Shows, Below}
use Rattle.lookup.specs.declared.Entered.{Entered}
use Rattle.lookup.specs.declared.Entered.TheVariants.{Outside, HeadEntry, Under}
use Rattle.lookup.proofs.HeadLaws.{flat_entry, entered_outside, entered_head_entry, entered_under}
use Rattle.lookup.proofs.WayLaws.{is_gap, is_entry_lem, is_node_lem}
use Rattle.lookup.specs.Find.{headed}
use Rattle.lookup.proofs.StandLaws.{low_aligned, covers_high, stands_base, end_fits}
use Rattle.listing.specs.Listing.{listed}
use Rattle.listing.specs.Visits.{between, Emits, Ready}
use Rattle.listing.proofs.BetweenLaws.{keep_all, keep_one, keep_length, between_in, between_none, between_one}
use Rattle.listing.proofs.BetweenLaws.{before_no, listed_join, listed_past, below_join}
use Rattle.listing.proofs.EmitLaws.{emits_none, emits_then}
use Rattle.listing.proofs.CountLaws.{entries_few}

-- SLOT c OF TIER u
module _ {l : List Entry} (v : Valid l) (u c : ℕ) where
  ok : {e : Entry} → In e l → EntryOk e
  ok m = look (sorted_ok v) m

  end_is : suc c * 2 ^ tier_order u ≡ c * 2 ^ tier_order u + 2 ^ tier_order u
  end_is = omega arith

  in_slot_lem : (e : Entry) → c * 2 ^ tier_order u ≤ e.base → e.base < suc c * 2 ^ tier_order u →
      block (tier_order u) e.base ≡ c
  in_slot_lem e a b = block_in (tier_order u) c e.base a (omega (arith, end_is))

  module _ (n : any (within (tier_order u) c) l ≡ false) where
    -- with no node below, an entry that starts in the slot starts where the slot does
    starts_it : (e : Entry) → In e l → c * 2 ^ tier_order u ≤ e.base → e.base < suc c * 2 ^ tier_order u →
        e.base ≡ c * 2 ^ tier_order u
    starts_it e m a b =
        let q : block (tier_order u) e.base ≡ c = in_slot_lem e a b in
        by_t (ltb e.order (tier_order u))
        (λ t. absurd (clash (in_any (within (tier_order u) c) m (rw t (eq-eqb _ c q))) n))
        (λ t. sym (low_aligned (tier_order u) e.order e.base (ltb-false _ _ t) (ok m).aligned)
        ∙ ap (λ (x : ℕ). x * 2 ^ tier_order u) q)

    covers_it : (e : Entry) → In e l → c * 2 ^ tier_order u ≤ e.base → e.base < suc c * 2 ^ tier_order u →
        covers (c * 2 ^ tier_order u) e ≡ true
    covers_it e m a b = subst (λ (x : ℕ). covers x e ≡ true) (starts_it e m a b) (covers_self e)

    gap_none : covering l (c * 2 ^ tier_order u) ≡ none →
        between l (c * 2 ^ tier_order u) (suc c * 2 ^ tier_order u) ≡ []
    gap_none q = between_none l _ _
        (λ e m a b. clash (covers_it e m a b) (look (first_no (covers (c * 2 ^ tier_order u)) l q) m))

    module _ {e : Entry} (q : covering l (c * 2 ^ tier_order u) ≡ some e) where
      it_in : (covers (c * 2 ^ tier_order u) e ≡ true) × In e l
      it_in = first_yes (covers (c * 2 ^ tier_order u)) (each l (λ x m. m)) q

      -- so it is the entry over the slot
      it : (z : Entry) → In z l → c * 2 ^ tier_order u ≤ z.base → z.base < suc c * 2 ^ tier_order u → z ≡ e
      it z m a b = unique (c * 2 ^ tier_order u) v m it_in.1 (covers_it z m a b) it_in.0

      entry_only : Stands l u c e → between l (c * 2 ^ tier_order u) (suc c * 2 ^ tier_order u) ≡ e ∷ []
      entry_only st =
          let b : e.base ≡ c * 2 ^ tier_order u = stands_base v st in
          between_one _ _ v it_in.1 (omega arith) (omega (arith, end_is, pow_pos (tier_order u))) it

      sibling_none : (d : ℕ) → Stands l u d e → (d ≡ c → ⊥) →
          between l (c * 2 ^ tier_order u) (suc c * 2 ^ tier_order u) ≡ []
      sibling_none d st ne = between_none l _ _
          (λ z m a b. ne (sym st.slot_is ∙ ap (λ (x : Entry). block (tier_order u) x.base) (sym (it z m a b)) ∙ in_slot_lem z a b))

  -- with a node below, what starts in the slot ends there
  module _ (t : any (within (tier_order u) c) l ≡ true) where
    ends_in : (e : Entry) → In e l → c * 2 ^ tier_order u ≤ e.base → e.base < suc c * 2 ^ tier_order u →
        e.base + 2 ^ e.order ≤ suc c * 2 ^ tier_order u
    ends_in e m a b =
        let q : block (tier_order u) e.base ≡ c = in_slot_lem e a b in
        let low : e.order < tier_order u = covers_high v (tier_order u) e.base
        (subst (λ (x : ℕ). any (within (tier_order u) x) l ≡ true) (sym q) t) m (covers_self e) in
        let z : ℕ = e.base + 2 ^ e.order - 1 in
        let last : covers z e ≡ true = covers_i e z (ok m) (omega (arith, pow_pos e.order))
        (omega (arith, pow_pos e.order)) in
        let same : block (tier_order u) z ≡ c = covers_run z (tier_order u) e z (omega arith) last ∙ q in
        let hi : z < block (tier_order u) z * 2 ^ tier_order u + 2 ^ tier_order u = block_hi (tier_order u) z in
        let hi' : z < c * 2 ^ tier_order u + 2 ^ tier_order u = subst (λ (x : ℕ). z < x * 2 ^ tier_order u + 2 ^ tier_order u) same hi in
        omega (arith, end_is)

    pub node_before : (a z : ℕ) → suc c * 2 ^ tier_order u ≤ a →
        listed (between l (c * 2 ^ tier_order u) (suc c * 2 ^ tier_order u)) a z ≡ []
    node_before a z h = keep_none (meets a z) (each _ (λ e m.
        let (i, p, q) = between_in l (c * 2 ^ tier_order u) (suc c * 2 ^ tier_order u) m in
        let g : e.base + 2 ^ e.order ≤ suc c * 2 ^ tier_order u = ends_in e i p q in
        before_no a z e (omega arith)))

-- the node below a slot
child_node : (l : List Entry) (ν : Numbering) (v b c n m : ℕ) → AtNode l ν v b n →
    any (within (tier_order v) c) l ≡ true → m ≡ ν v c → (0 < v) × AtNode l ν (v - 1) c m
child_node l ν zero b c n m a t q =
    let (x, i, w) = any_in_lem (within (tier_order 0) c) l t in
    let lt : x.order < tier_order 0 = ltb-true _ _ (both_l (ltb x.order (tier_order 0)) _ w) in
    absurd (omega arith)
child_node l ν (suc u) b c n m a t q =
    let e : suc u - 1 ≡ u = omega arith in
    let le : suc (suc u) ≤ height l = has_le l (suc (suc u)) b a.there in
    (omega arith, rw e (record { there = has_in l (suc u) c (omega arith) t; number = q }))

-- THE HEAD
zero_block : (k : ℕ) → block (tier_order k) 0 ≡ 0
zero_block k = ap (block (tier_order k)) (omega arith) ∙ block_at (tier_order k) 0

none_headed : (l : List Entry) → headed l 0 ≡ false → l ≡ []
none_headed [] h = refl
none_headed (e ∷ l) h = absurd (clash (eq-eqb (block (tier_order (height (e ∷ l))) 0) 0 (zero_block _)) h)

-- an entry as head is the whole list
lone_list : {l : List Entry} {e : Entry} → Valid l → In e l →
    ((x : Entry) → In x l → (x.order ≡ 0) × (x.base ≡ 0)) → l ≡ e ∷ []
lone_list {l} {e} v m flat =
    sym (keep_all (λ x. true) (each l (λ x i. refl))) ∙ keep_one (λ x. true) v m refl
    (λ x i t. unique 0 v i m (subst (λ (y : ℕ). covers y x ≡ true) (flat x i).1 (covers_self x))
    (subst (λ (y : ℕ). covers y e ≡ true) (flat e m).1 (covers_self e)))

-- a node as head is over all entries
head_whole : {l : List Entry} (v : ℕ) → Valid l → height l ≡ suc v →
    between l (0 * 2 ^ tier_order (suc v)) (1 * 2 ^ tier_order (suc v)) ≡ l
head_whole {l} v val h =
    keep_all (λ e. both (leb (0 * 2 ^ tier_order (suc v)) e.base) (ltb e.base (1 * 2 ^ tier_order (suc v)))) (each l (λ e m.
    let t : fits (suc v) e ≡ true = look (height_fits (All-map (λ x o. (o.order_le, o.in_range)) (sorted_ok val))
    (omega arith)) m in
    let z : block (tier_order (suc v)) e.base ≡ 0 = fits_base (suc v) e t in
    let hi : e.base < block (tier_order (suc v)) e.base * 2 ^ tier_order (suc v) + 2 ^ tier_order (suc v) =
    block_hi (tier_order (suc v)) e.base in
    let hi' : e.base < 0 * 2 ^ tier_order (suc v) + 2 ^ tier_order (suc v) = subst (λ (x : ℕ). e.base < x * 2 ^ tier_order
    (suc v) + 2 ^ tier_order (suc v)) z hi in
    rw (le-leb (0 * 2 ^ tier_order (suc v)) e.base (omega arith)) (lt-ltb e.base (1 * 2 ^ tier_order (suc v)) (omega arith))))

-- A NODE, SLOT BY SLOT
block_past : (j z c : ℕ) → block j z < c → z < c * 2 ^ j
block_past j z c h =
    let m : suc (block j z) * 2 ^ j ≤ c * 2 ^ j = mul-le-mul_right (2 ^ j) h in
    omega (arith, block_hi j z)

-- where slot o of the node over block b starts
pub slot_start : (v b o : ℕ) → (slots * b + o) * 2 ^ tier_order v ≡ b * 2 ^ tier_order (suc v) + o * 2 ^ tier_order v
slot_start v b o =
    let e : 2 ^ tier_order (suc v) ≡ slots * 2 ^ tier_order v = ap (λ (j : ℕ). 2 ^ j) (mul-suc slot_bits v) ∙ sym (pow-add
    (slot_bits * v) slot_bits) ∙ mul_comm (2 ^ tier_order v) slots in
    add-mul (slots * b) o (2 ^ tier_order v)
    ∙ ap (λ (x : ℕ). x + o * 2 ^ tier_order v) (ap (λ (x : ℕ). x * 2 ^ tier_order v) (mul_comm slots b)
    ∙ mul_assoc b slots (2 ^ tier_order v) ∙ ap (λ (x : ℕ). b * x) (sym e))

module _ {l : List Entry} (val : Valid l) (room a z v b : ℕ) where
  abbrev Done : ℕ → List ℕ → ℕ → List ℕ → ℕ → Type 0
  Done o bs k bs' at = Emits room
      (listed (between l (b * 2 ^ tier_order (suc v)) ((slots * b + o) * 2 ^ tier_order v)) a z) bs k bs' at

  ends_at : suc b * 2 ^ tier_order (suc v) ≡ (slots * b + slots) * 2 ^ tier_order v
  ends_at =
      let f : slots * suc b + 0 ≡ slots * b + slots = omega arith in
      let g : (slots * suc b + 0) * 2 ^ tier_order v ≡ suc b * 2 ^ tier_order (suc v) + 0 * 2 ^ tier_order v =
      slot_start v (suc b) 0 in
      let h : (slots * suc b + 0) * 2 ^ tier_order v ≡ (slots * b + slots) * 2 ^ tier_order v = ap
      (λ (x : ℕ). x * 2 ^ tier_order v) f in
      omega arith

  -- so far no slot
  pub node_begins : (bs : List ℕ) (k : ℕ) → Done 0 bs k bs k
  node_begins bs k =
      let none : between l (b * 2 ^ tier_order (suc v)) ((slots * b + 0) * 2 ^ tier_order v) ≡ [] = between_none l _ _
      (λ e m p q. omega (arith, slot_start v b 0)) in
      subst (λ (es : List Entry). Emits room (listed es a z) bs k bs k) (sym none) (emits_none room bs k)

  -- one slot more
  pub node_goes_on : (o : ℕ) {bs bs₁ bs₂ : List ℕ} {k at r : ℕ} → Done o bs k bs₁ at →
      Emits room (listed (between l ((slots * b + o) * 2 ^ tier_order v) (suc (slots * b + o) * 2 ^ tier_order v)) a z)
      bs₁ at bs₂ r → Done (o + 1) bs k bs₂ r
  node_goes_on o {bs} {bs₂ = bs₂} {k} {r = r} d e =
      let f : suc (slots * b + o) ≡ slots * b + (o + 1) = omega arith in
      subst (λ (x : ℕ). Emits room (listed (between l (b * 2 ^ tier_order (suc v)) (x * 2 ^ tier_order v)) a z) bs k bs₂ r)
      f
      (subst (λ (es : List Entry). Emits room es bs k bs₂ r)
      (listed_join a z (b * 2 ^ tier_order (suc v)) ((slots * b + o) * 2 ^ tier_order v)
      (suc (slots * b + o) * 2 ^ tier_order v) (omega (arith, slot_start v b o)) (omega (arith, end_is val v (slots * b + o))) val)
      (emits_then d e))

  -- all slots
  pub node_ends : (o : ℕ) {bs bs' : List ℕ} {k at : ℕ} → o ≡ slots → Done o bs k bs' at →
      Emits room (listed (between l (b * 2 ^ tier_order (suc v)) (suc b * 2 ^ tier_order (suc v))) a z) bs k bs' at
  node_ends o {bs} {bs'} {k} {at} h d =
      subst (λ (y : ℕ). Emits room (listed (between l (b * 2 ^ tier_order (suc v)) y) a z) bs k bs' at)
      (sym (ends_at ∙ ap (λ (x : ℕ). (slots * b + x) * 2 ^ tier_order v) (sym h))) d

  -- those from slot o on start past the last index
  pub node_stops : (o : ℕ) {bs bs' : List ℕ} {k at : ℕ} → o ≤ slots → block (tier_order v) z < slots * b + o → Done o bs k bs' at →
      Emits room (listed (between l (b * 2 ^ tier_order (suc v)) (suc b * 2 ^ tier_order (suc v))) a z) bs k bs' at
  node_stops o {bs} {bs'} {k} {at} h lt d =
      let past : z < (slots * b + o) * 2 ^ tier_order v = block_past (tier_order v) z (slots * b + o) lt in
      let le : o * 2 ^ tier_order v ≤ slots * 2 ^ tier_order v = mul-le-mul_right (2 ^ tier_order v) h in
      let none : listed (between l ((slots * b + o) * 2 ^ tier_order v) (suc b * 2 ^ tier_order (suc v))) a z ≡ [] =
      listed_past l a z ((slots * b + o) * 2 ^ tier_order v) (suc b * 2 ^ tier_order (suc v)) past in
      subst (λ (es : List Entry). Emits room es bs k bs' at)
      (listed_join a z (b * 2 ^ tier_order (suc v)) ((slots * b + o) * 2 ^ tier_order v) (suc b * 2 ^ tier_order (suc v))
      (omega (arith, slot_start v b o)) (omega (arith, slot_start v b o, slot_start v b slots, ends_at)) val)
      (subst (λ (es : List Entry). Emits room
      (listed (between l (b * 2 ^ tier_order (suc v)) ((slots * b + o) * 2 ^ tier_order v)) a z ++ es) bs k bs' at) (sym none)
      (subst (λ (es : List Entry). Emits room es bs k bs' at) (sym (append-nil _)) d))

  -- what the visit of slot o finds
  pub slot_ready : (ν : Numbering) (n o : ℕ) {bs bs' : List ℕ} {k at : ℕ} → o < slots →
      Ready l ν v b n (b * 2 ^ tier_order (suc v)) k → Done o bs k bs' at →
      Ready l ν v ((slots * b + o) / slots) n ((slots * b + o) * 2 ^ tier_order v) at
  slot_ready ν n o h r d =
      let e : b ≡ (slots * b + o) / slots = omega arith in
      let x : ℕ = b * 2 ^ tier_order (suc v) in
      let y : ℕ = (slots * b + o) * 2 ^ tier_order v in
      record {
        at_node_lem = subst (λ (c : ℕ). AtNode l ν v c n) e r.at_node_lem;
        counted = omega (
          arith,
          d.count_is,
          r.counted,
          keep_length (meets a z) (between l x y),
          below_join x y (omega (arith, slot_start v b o)) val,
        );
      }

-- so many entries can be counted
pub count_fits : {ws : List ℕ} (s : WellFormed ws) (x k : ℕ) → k ≤ length (between s.list 0 x) → k + 1 < 2 ^ 64
count_fits s x k h = omega (arith, keep_length (λ e. both (leb 0 e.base) (ltb e.base x)) s.list, entries_few s)

-- A SLOT, BY WHAT IT SHOWS
-- the node towards the first index of slot c
pub towards : {l : List Entry} {ν : Numbering} (v c n p : ℕ) → p ≡ c * 2 ^ tier_order v → AtNode l ν v (c / slots) n →
    AtNode l ν v (block (tier_order (suc v)) p) n
towards {l} {ν} v c n p h a =
    let e : block (tier_order (suc v)) p ≡ c / slots = tier_up v p ∙ ap (λ (x : ℕ). x / slots)
    (ap (block (tier_order v)) h ∙ block_at (tier_order v) c) in
    subst (λ (b : ℕ). AtNode l ν v b n) (sym e) a

module _ {ws : List ℕ} (s : WellFormed ws) (v c p : ℕ) {n : ℕ} (h : p ≡ c * 2 ^ tier_order v) {k : Sight}
    (w : Sees s.list (num s) v p n k) where
  slot_is : block (tier_order v) p ≡ c
  slot_is = ap (block (tier_order v)) h ∙ block_at (tier_order v) c

  abbrev started : List Entry
  started = between s.list (c * 2 ^ tier_order v) (suc c * 2 ^ tier_order v)

  pub seen_gap : k ≡ Gap → started ≡ []
  seen_gap e =
      let (t, q) = is_gap w e in
      gap_none s.valid v c (subst (λ (x : ℕ). any (within (tier_order v) x) s.list ≡ false) slot_is t)
      (subst (λ (x : ℕ). covering s.list x ≡ none) h q)

  pub seen_sibling : (d : ℕ) → k ≡ Shows d → (d ≡ c → ⊥) → started ≡ []
  seen_sibling d e ne =
      let (x, t, q, st, a) = is_entry_lem d w e in
      sibling_none s.valid v c (subst (λ (x : ℕ). any (within (tier_order v) x) s.list ≡ false) slot_is t)
      (subst (λ (y : ℕ). covering s.list y ≡ some x) h q) d st ne

  -- the entry whose first slot is c
  pub record Starting : Type 0 where
    pub entry : Entry
    pub only : started ≡ entry ∷ []
    pub at_node_lem : AtNode s.list (num s) v (c / slots) n
    pub stands : Stands s.list v c entry
    pub small : c * 2 ^ tier_order v < 2 ^ 64
    pub order_le : entry.order ≤ max_order
    pub ends : entry.base + 2 ^ entry.order ≤ 2 ^ 64

  pub seen_entry : k ≡ Shows c → Starting
  seen_entry e =
      let (x, t, q, st, a) = is_entry_lem c w e in
      let fine : EntryOk x = look (sorted_ok s.valid) st.inside in
      record {
        entry = x;
        only = entry_only s.valid v c (subst (λ (y : ℕ). any (within (tier_order v) y) s.list ≡ false) slot_is t)
            (subst (λ (y : ℕ). covering s.list y ≡ some x) h q) st;
        at_node_lem = a;
        stands = st;
        small = subst (λ (y : ℕ). y < 2 ^ 64) (stands_base s.valid st) fine.in_range;
        order_le = fine.order_le;
        ends = subst (λ (y : ℕ). y + 2 ^ x.order ≤ 2 ^ 64) fine.aligned
            (end_fits x.order x.base (omega (arith, fine.order_le)) fine.in_range);
      }

  pub seen_node : (m : ℕ) → k ≡ Below m → (any (within (tier_order v) c) s.list ≡ true) × (m ≡ num s v c)
  seen_node m e =
      let (t, q) = is_node_lem m w e in (
        subst (λ (x : ℕ). any (within (tier_order v) x) s.list ≡ true) slot_is t,
        q ∙ ap (num s v) slot_is,
      )

  -- the visit of the node below
  pub below_ready : (x m : ℕ) → Ready s.list (num s) v (c / slots) n (c * 2 ^ tier_order v) x → k ≡ Below m →
      (0 < v) × Ready s.list (num s) (v - 1) c m (c * 2 ^ tier_order (suc (v - 1))) x
  below_ready x m r e =
      let (t, q) = seen_node m e in
      let (pos, a) = child_node s.list (num s) v (c / slots) c n m r.at_node_lem t q in
      let up : suc (v - 1) ≡ v = omega arith in
      (pos, record { at_node_lem = a; counted = rw up r.counted })

-- below the slot of an index lies that of the next tier
pub below_last : (v c z : ℕ) → 0 < v → c ≤ block (tier_order v) z → slots * c ≤ block (tier_order (v - 1)) z
below_last v c z pos h =
    let up : suc (v - 1) ≡ v = omega arith in
    let e : block (tier_order v) z ≡ block (tier_order (v - 1)) z / slots = subst
    (λ (u : ℕ). block (tier_order u) z ≡ block (tier_order (v - 1)) z / slots) up (tier_up (v - 1) z) in
    omega arith

-- THE HEAD, BY WHERE INDEX 0 LIES
module _ {ws : List ℕ} (s : WellFormed ws) {k : Entered} (w : Enters s.list (num s) 0 k) where
  pub head_none : k ≡ Outside → s.list ≡ []
  head_none e = none_headed s.list (entered_outside w e)

  pub head_lone : (e : Entry) → k ≡ HeadEntry e → s.list ≡ e ∷ []
  head_lone e q =
      let (z, h, cov, o, b) = entered_head_entry w e q in
      lone_list s.valid (first_yes (covers 0) (each s.list (λ x m. m)) cov).1 (λ x m. flat_entry s z m)

  pub head_fits : (e : Entry) → k ≡ HeadEntry e → (e.order ≤ max_order) × (e.base + 2 ^ e.order ≤ 2 ^ 64)
  head_fits e q =
      let (z, h, cov, o, b) = entered_head_entry w e q in
      (omega arith, rw (o, b) (omega arith))

  pub head_ready : (n v : ℕ) → k ≡ Under n v → Ready s.list (num s) v 0 n (0 * 2 ^ tier_order (suc v)) 0
  head_ready n v q =
      let (z, lt, h, a) = entered_under w n v q in
      record {
        at_node_lem = subst (λ (b : ℕ). AtNode s.list (num s) v b n) (zero_block (suc v)) a;
        counted = omega arith;
      }

  pub head_low : (n v : ℕ) → k ≡ Under n v → v < top_tier
  head_low n v q = (entered_under w n v q).1

  pub head_all : (n v : ℕ) → k ≡ Under n v →
      between s.list (0 * 2 ^ tier_order (suc v)) (1 * 2 ^ tier_order (suc v)) ≡ s.list
  head_all n v q = head_whole v s.valid (entered_under w n v q).0
