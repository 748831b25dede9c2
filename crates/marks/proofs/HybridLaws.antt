-- Words on the way up: the nodes of the tiers up to v hold the words of the list with the mark changed, the
-- others those of the old list.
use Prim.Native.Nat.{ℕ, suc, ◌+◌, ◌*◌, ◌-◌, ◌/◌, ◌%◌, ◌≤◌, ◌<◌}
use mathlib.Core.Path.{◌≡◌, refl, sym, ap, ap₂, subst, ◌∙◌}
use mathlib.Core.Bool.{Bool, true, false, not}
use mathlib.Core.List.{List}
use mathlib.Core.Option.{Option, none, some}
use native.Mathlib.Omega.{arith}
use native.Mathlib.Nat.{le_refl}
use lib.Dec.{leb, eqb}
use lib.ListN.{length, get_or, set, length-set}
use lib.Seq.{get_or-set_same, get_or-set_other}
use borrow.Author.Tests.{leb-true, leb-false, eqb-true, eqb-false, le-leb, lt-leb}
use Rattle.blocks.specs.Choice.{pick}
use Rattle.blocks.specs.Lists.{any, All}
use Rattle.blocks.specs.Blocks.{block, bit, bits_to, set_bit}
use Rattle.blocks.proofs.BoolLaws.{by_t, both_r}
use Rattle.blocks.proofs.ListLaws.{All-map, look}
use Rattle.blocks.proofs.BitLaws.{bits_read}
use Rattle.model.specs.declared.Entry.{Entry}
use Rattle.model.specs.Model.{covering, within, has_mark, remark, mark_count}
use Rattle.model.proofs.ValidLaws.{sorted_ok, covers_self}
use Rattle.tree.specs.Tree.{slot_mark, has, height, Node, slots, tier_order, top_tier}
use Rattle.tree.specs.Slots.{Numbering}
use Rattle.tree.proofs.SlotLaws.{tier_up}
use Rattle.tree.proofs.HeightLaws.{Low, height_fits, fits_base}
use Rattle.layout.specs.Words.{
  field,
  field_at,
  owner,
  anchor_word,
  pool_words,
  place,
  max_nodes,
  marks_word,
  anchor_words,
  owner_place,
  last_place,
  mark_place,
  IsField,
  field_mark,
  owner_under,
}
use Rattle.layout.proofs.FieldLaws.{level_mark_lem}
use Rattle.layout.proofs.NodeLaws.{get_owner, get_mark}
use Rattle.layout.proofs.OwnerLaws.{parent}
use Rattle.layout.specs.Places.{render}
use Rattle.layout.proofs.RenderLaws.{render_is}
use Rattle.layout.specs.WellFormed.{WellFormed, num}
use Rattle.lookup.specs.Views.{AtNode, Holds}
use Rattle.lookup.proofs.WordLaws.{node_at}
use Rattle.lookup.proofs.StandLaws.{covers_high}
use Rattle.marks.proofs.MarkLaws.{
  entry_in,
  mark_entry,
  same_height,
  field_off,
  field_on,
  anchor_off,
  marks_on,
  marks_same,
  mark_top_lem,
  settled_any,
  field_settled,
  word_mark,
}
use Rattle.marks.proofs.BitSetLaws.{bit_kept}
use Rattle.tree.proofs.NodeListLaws.{has_low, has_tier}
use Rattle.layout.proofs.RenderWordLaws.{pool_length_lem, pool_anchor, place_of, pool_node}
use Rattle.marks.specs.Climb.{Markable}

-- the words where the nodes of the tiers up to v are new
module _ (l l' : List Entry) (ν : Numbering) (v : ℕ) where
  abbrev pub mixed : Option Node → ℕ → ℕ
  mixed none k = 0
  mixed (some p) k = pick (leb p.tier v) (field l' ν p.tier p.number k) (field l ν p.tier p.number k)

pub record Hybrid {ws₀ : List ℕ} (s : WellFormed ws₀) (l' : List Entry) (v : ℕ) (ws : List ℕ) : Type 0 where
  pub size : length ws ≡ pool_words s.n
  pub anchor : (k : ℕ) → k < anchor_words → get_or ws k 0 ≡ anchor_word s.list (num s) s.n k
  pub node : (m k : ℕ) → m < s.n → IsField k → get_or ws (place m k) 0 ≡ mixed s.list l' (num s) v
      (get_or s.places m none) k

module _ {ws₀ : List ℕ} (s : WellFormed ws₀) (i m : ℕ) (m< : m < mark_count) (b : Bool) (e : Entry)
    (q : covering s.list i ≡ some e) (may : Markable e b) where
  abbrev l : List Entry
  l = s.list

  abbrev l' : List Entry
  l' = remark s.list i m b

  abbrev ν : Numbering
  ν = num s

  -- below the entry no node lies over it
  pub hybrid_start : (v : ℕ) → tier_order v ≤ e.order → Hybrid s l' v ws₀
  unfolding has
  hybrid_start v low = record {
    size = pool_length_lem s;
    anchor = pool_anchor s;
    node = λ n k p h. pool_node s n k p h ∙ go n (get_or s.places n none) refl k h;
  }
    where
      go : (n : ℕ) (o : Option Node) → get_or s.places n none ≡ o → (k : ℕ) → IsField k →
          field_at l ν o k ≡ mixed l l' ν v o k
      go n none r k h = refl
      go n (some p) r k h =
          let (a, t) = place_of s n p r in
          by_t (leb p.tier v)
          (λ f. rw f (sym (field_off l s.valid i e q m m< b may ν p.tier p.number k
          (has_tier l p.tier p.number t).0 h (λ _ z. below p t (leb-true _ _ f) z))))
          (λ f. rw f)
        where
          below : (p : Node) → has l p.tier p.number ≡ true → p.tier ≤ v →
              p.number ≡ block (tier_order p.tier) e.base → ⊥
          below p t le z =
              let hi : e.order < tier_order p.tier = covers_high s.valid (tier_order p.tier) e.base
              (subst (λ (x : ℕ). any (within (tier_order p.tier) x) l ≡ true) z
              (both_r (leb p.tier (height l)) _ t)) (entry_in l s.valid i e q) (covers_self e) in
              omega arith

  module _ {v n : ℕ} {ws : List ℕ} (hy : Hybrid s l' v ws) (a : AtNode l ν v (block (tier_order (suc v)) e.base) n)
    where
      n< : (n < s.n) × (get_or s.places n none ≡ some (record
          { tier = suc v; number = block (tier_order (suc v)) e.base }))
      n< = node_at s a

      pub hybrid_old : get_or ws (mark_place n m) 0 ≡ field l ν (suc v) (block (tier_order (suc v)) e.base)
          (field_mark m)
      hybrid_old = hy.node n (field_mark m) n<.0 (omega arith) ∙ rw (n<.1, lt-leb (suc v) v (omega arith)) refl

      pub hybrid_step : Hybrid s l' (suc v) (set ws (mark_place n m)
          (set_bit (block (tier_order v) e.base % slots) (slot_mark l' m v (block (tier_order v) e.base))
          (get_or ws (mark_place n m) 0)))
      hybrid_step =
          let x : ℕ = set_bit (block (tier_order v) e.base % slots) (slot_mark l' m v (block (tier_order v) e.base))
          (get_or ws (mark_place n m) 0) in
          record {
            size = length-set ws (mark_place n m) x ∙ hy.size;
            anchor = λ k h. get_or-set_other ws (mark_place n m) k x 0 (omega arith) ∙ hy.anchor k h;
            node = λ n' k p h. by_t (eqb (place n' k) (mark_place n m))
                (λ t. let z : place n' k ≡ mark_place n m = eqb-true _ _ t in
                let z₁ : n' ≡ n = omega arith in
                let z₂ : k ≡ field_mark m = omega arith in
                here n' k z₁ z₂)
                (λ t. let z : place n' k ≡ mark_place n m → ⊥ = eqb-false _ _ t in
                get_or-set_other ws (mark_place n m) (place n' k) x 0 z ∙
                (hy.node n' k p h ∙ other n' (get_or s.places n' none) refl k h (λ c d. z (omega arith))));
          }
        where
          x : ℕ
          x = set_bit (block (tier_order v) e.base % slots) (slot_mark l' m v (block (tier_order v) e.base))
              (get_or ws (mark_place n m) 0)

          here : (n' k : ℕ) → n' ≡ n → k ≡ field_mark m → get_or (set ws (mark_place n m)
              (set_bit (block (tier_order v) e.base % slots) (slot_mark l' m v (block (tier_order v) e.base))
              (get_or ws (mark_place n m) 0))) (place n' k) 0 ≡ mixed l l' ν (suc v) (get_or s.places n' none)
              k
          here n' k z₁ z₂ =
              rw (z₁, z₂, n<.1, le-leb (suc v) (suc v) (le_refl (suc v)))
              (get_or-set_same ws (mark_place n m)
              (set_bit (block (tier_order v) e.base % slots) (slot_mark l' m v (block (tier_order v) e.base))
              (get_or ws (mark_place n m) 0)) 0 (omega (arith, hy.size, n<.0)) ∙
              (ap (set_bit (block (tier_order v) e.base % slots) (slot_mark l' m v (block (tier_order v) e.base)))
              hybrid_old ∙ field_on l s.valid i e q m m< b may ν v))

          other : (n' : ℕ) (o : Option Node) → get_or s.places n' none ≡ o → (k : ℕ) → IsField k →
              (n' ≡ n → k ≡ field_mark m → ⊥) → mixed l l' ν v o k ≡ mixed l l' ν (suc v) o k
          other n' none r k h ne = refl
          other n' (some p) r k h ne =
              let (y, t) = place_of s n' p r in
              by_t (leb p.tier v) (λ f. rw (
                f,
                le-leb p.tier (suc v)
                    (let g : p.tier ≤ v = leb-true _ _ f in omega arith),
              ))
              (λ f. let g : v < p.tier = leb-false _ _ f in
              by_t (leb p.tier (suc v))
              (λ f'. let g' : p.tier ≤ suc v = leb-true _ _ f' in
              let at : p.tier ≡ suc v = omega arith in
              rw (f, f') (sym (field_off l s.valid i e q m m< b may ν p.tier p.number k (omega arith) h
              (λ c d. ne (y ∙ (ap₂ ν at (d ∙ ap (λ (u : ℕ). block (tier_order u) e.base) at) ∙ sym a.number))
              c))))
              (λ f'. rw (f, f')))

  -- after the step
  module _ {v n : ℕ} {ws : List ℕ} (hy : Hybrid s l' (suc v) ws)
      (a : AtNode l ν v (block (tier_order (suc v)) e.base) n) where
    pub hybrid_new : (k : ℕ) → IsField k → get_or ws (place n k) 0 ≡ field l' ν (suc v)
        (block (tier_order (suc v)) e.base) k
    hybrid_new k h = hy.node n k (node_at s a).0 h ∙ rw ((node_at s a).1, le-leb (suc v) (suc v) (le_refl (suc v)))
        refl

    -- the mark word says whether the slot over the node has the mark
    pub hybrid_mark : not (eqb (get_or ws (mark_place n m) 0) 0) ≡ slot_mark l' m (suc v)
        (block (tier_order (suc v)) e.base)
    hybrid_mark =
        let w : get_or ws (mark_place n m) 0 ≡ bits_to
        (λ j. slot_mark l' m v (slots * block (tier_order (suc v)) e.base + j)) slots = get_mark ws n l' ν (height l') v
        (block (tier_order (suc v)) e.base) hybrid_new m m< in
        ap (λ (x : ℕ). not (eqb x 0)) w ∙ word_mark l' m v (block (tier_order (suc v)) e.base)

    pub hybrid_owner : get_or ws (owner_place n) 0 ≡ owner l ν (suc v) (block (tier_order (suc v)) e.base)
    hybrid_owner = get_owner ws n l' ν (height l') v (block (tier_order (suc v)) e.base) hybrid_new ∙ ap
        (λ (h : ℕ). owner_under h ν (suc v) (block (tier_order (suc v)) e.base)) (same_height l s.valid i e q m m< b may)

    v_top : suc v ≤ height l
    v_top = (has_tier l (suc v) _ a.there).1

    -- the node over it
    pub hybrid_up : (p : ℕ) → p ≡ get_or ws (owner_place n) 0 → (p ≡ 0 → ⊥) →
        AtNode l ν (suc v) (block (tier_order (suc (suc v))) e.base) ((p - 1) / slots) ×
        ((p - 1) % slots ≡ block (tier_order (suc v)) e.base % slots)
    hybrid_up p r z =
        by_t (eqb (suc v) (height l))
        (λ t. absurd (z (r ∙ (hybrid_owner ∙ rw t refl))))
        (λ t. let ne : suc v ≡ height l → ⊥ = eqb-false _ _ t in
        let w : p ≡ 1 + slots * ν (suc (suc v)) (block (tier_order (suc v)) e.base / slots) + block
        (tier_order (suc v)) e.base % slots = r ∙ (hybrid_owner ∙ rw t refl) in
        let y : block (tier_order (suc (suc v))) e.base ≡ block (tier_order (suc v)) e.base / slots = tier_up
        (suc v) e.base in (
          record {
            there = rw y (parent l (suc v) (block (tier_order (suc v)) e.base) a.there
                (omega (arith, v_top)));
            number = rw y (omega arith);
          },
          omega arith,
        ))

    -- at the head
    pub hybrid_top : get_or ws (owner_place n) 0 ≡ 0 → suc v ≡ height l
    hybrid_top z =
        by_t (eqb (suc v) (height l)) (λ t. eqb-true _ _ t)
        (λ t. let w : 0 ≡ 1 + slots * ν (suc (suc v)) (block (tier_order (suc v)) e.base / slots) + block
        (tier_order (suc v)) e.base % slots = sym z ∙ (hybrid_owner ∙ rw t refl) in absurd (omega arith))

  pub hybrid_end : {u : ℕ} {ws : List ℕ} → Hybrid s l' u ws → u ≡ height l → (t : Bool) →
      t ≡ slot_mark l' m u (block (tier_order u) e.base) →
      set ws marks_word (set_bit m t (get_or ws marks_word 0)) ≡ render l' s.places s.n
  hybrid_end {u} {ws} hy top t tq =
      render_is l' s.places s.n (set ws marks_word x) (length-set ws marks_word x ∙ hy.size) anchor node
    where
      x : ℕ
      x = set_bit m t (get_or ws marks_word 0)

      low : All Low l
      low = All-map (λ x o. (o.order_le, o.in_range)) (sorted_ok s.valid)

      flat : block (tier_order u) e.base ≡ 0
      flat = fits_base u e (look (height_fits low (omega arith)) (entry_in l s.valid i e q))

      marked : t ≡ any (has_mark m) l'
      marked = tq ∙ (ap₂ (slot_mark l' m) top flat ∙ mark_top_lem l s.valid i e q m m< b may)

      anchor : (k : ℕ) → k < anchor_words → get_or (set ws marks_word (set_bit m t (get_or ws marks_word 0))) k 0 ≡ anchor_word
          l' ν s.n k
      anchor k h =
          by_t (eqb k marks_word)
          (λ f. let z : k ≡ marks_word = eqb-true _ _ f in
          rw z (get_or-set_same ws marks_word (set_bit m t (get_or ws marks_word 0)) 0 (omega (arith, hy.size)) ∙
          (ap₂ (set_bit m) marked (hy.anchor marks_word (omega arith)) ∙ marks_on l s.valid i e q m m< b may)))
          (λ f. let z : k ≡ marks_word → ⊥ = eqb-false _ _ f in
          get_or-set_other ws marks_word k (set_bit m t (get_or ws marks_word 0)) 0 z ∙
          (hy.anchor k h ∙ sym (anchor_off l s.valid i e q m m< b may ν s.n k z)))

      node : (n k : ℕ) → n < s.n → IsField k → get_or (set ws marks_word (set_bit m t (get_or ws marks_word 0)))
          (place n k) 0 ≡ field_at
          l' ν (get_or s.places n none) k
      node n k p h = get_or-set_other ws marks_word (place n k) (set_bit m t (get_or ws marks_word 0)) 0 (omega arith) ∙
          (hy.node n k p h ∙ go (get_or s.places n none) refl)
        where
          go : (o : Option Node) → get_or s.places n none ≡ o → mixed l l' ν u o k ≡ field_at l' ν o k
          go none r = refl
          go (some p) r = rw (le-leb p.tier u (omega
              (arith, (has_tier l p.tier p.number (place_of s n p r).1).1))) refl

-- where the mark of the path's slot does not change, the rest is as it is to be
module _ {ws₀ : List ℕ} (s : WellFormed ws₀) (i m : ℕ) (m< : m < mark_count) (b : Bool) (e : Entry)
    (q : covering s.list i ≡ some e) (may : Markable e b) where
  pub hybrid_same : {v : ℕ} {ws : List ℕ} → Hybrid s (remark s.list i m b) v ws →
      slot_mark (remark s.list i m b) m v (block (tier_order v) e.base) ≡ slot_mark s.list m v
      (block (tier_order v) e.base) → ws ≡ render (remark s.list i m b) s.places s.n
  hybrid_same {v} {ws} hy same = render_is (remark s.list i m b) s.places s.n ws hy.size anchor
      (λ n k p h. hy.node n k p h ∙ go n k h (get_or s.places n none) refl)
    where
      anchor : (k : ℕ) → k < anchor_words → get_or ws k 0 ≡ anchor_word (remark s.list i m b) (num s) s.n k
      anchor k h =
          by_t (eqb k marks_word)
          (λ f. let z : k ≡ marks_word = eqb-true _ _ f in
          rw z (hy.anchor marks_word (omega arith) ∙ sym (marks_same s.list s.valid i e q m m< b may
          (settled_any s.list s.valid i e q m m< b may v same))))
          (λ f. let z : k ≡ marks_word → ⊥ = eqb-false _ _ f in
          hy.anchor k h ∙ sym (anchor_off s.list s.valid i e q m m< b may (num s) s.n k z))

      go : (n k : ℕ) → IsField k → (o : Option Node) → get_or s.places n none ≡ o →
          mixed s.list (remark s.list i m b) (num s) v o k ≡ field_at (remark s.list i m b) (num s) o k
      go n k h none r = refl
      go n k h (some p) r =
          let (y, t) = place_of s n p r in
          let (pos, le) = has_tier s.list p.tier p.number t in
          by_t (leb p.tier v) (λ g. rw g)
          (λ g. let g' : v < p.tier = leb-false _ _ g in
          rw g (by_t (eqb p.number (block (tier_order p.tier) e.base))
          (λ d. let d' : p.number ≡ block (tier_order p.tier) e.base = eqb-true _ _ d in
          rw d' (sym (field_settled s.list s.valid i e q m m< b may v same (num s) p.tier k g' h)))
          (λ d. sym (field_off s.list s.valid i e q m m< b may (num s) p.tier p.number k pos h
          (λ _ z. eqb-false _ _ d z)))))

-- THE WAY UP, as the loop takes it: the words of the tiers below are new, and b is the mark of the slot
pub record Climbing {ws₀ : List ℕ} (s : WellFormed ws₀) (i m : ℕ) (on : Bool) (v n o : ℕ) (b : Bool) (ws : List ℕ) :
    Type 0 where
  pub entry : Entry
  pub covering_is : covering s.list i ≡ some entry
  pub markable : Markable entry on
  pub at_node_lem : AtNode s.list (num s) v (block (tier_order (suc v)) entry.base) n
  pub slot_is : o ≡ block (tier_order v) entry.base % slots
  pub bit_is : b ≡ slot_mark (remark s.list i m on) m v (block (tier_order v) entry.base)
  pub words_are : Hybrid s (remark s.list i m on) v ws

pub record Bounds (ws₀ ws : List ℕ) (n v o : ℕ) : Type 0 where
  pub node_lt : n < max_nodes
  pub slot_lt : o < slots
  pub tier_le : v < top_tier
  pub node_in : last_place n < length ws
  pub same : length ws ≡ length ws₀

module _ {ws₀ : List ℕ} (s : WellFormed ws₀) {i m : ℕ} (m< : m < mark_count) {on : Bool} where
  pub climb_start : {v n o : ℕ} (h : Holds s.list (num s) i n v o) → Markable h.entry on →
      Climbing s i m on v n o on ws₀
  climb_start {v} h may = record {
    entry = h.entry;
    covering_is = h.covering_is;
    markable = may;
    at_node_lem = h.at_node_lem;
    slot_is = h.slot_is;
    bit_is = sym (mark_entry s.list s.valid i h.entry h.covering_is m m< on may v h.low);
    words_are = hybrid_start s i m m< on h.entry h.covering_is may v h.low;
  }

  module _ {v n o : ℕ} {b : Bool} {ws : List ℕ} (a : Climbing s i m on v n o b ws) where
    pub climb_bounds : Bounds ws₀ ws n v o
    climb_bounds =
        let h : n < s.n = (node_at s a.at_node_lem).0 in
        let t : suc v ≤ top_tier = has_low s.list (suc v) (block (tier_order (suc v)) a.entry.base)
        a.at_node_lem.there in
        record {
          node_lt = omega (arith, s.most);
          slot_lt = omega (arith, a.slot_is);
          tier_le = omega arith;
          node_in = omega (arith, a.words_are.size);
          same = a.words_are.size ∙ sym (pool_length_lem s);
        }

    module _ {ws' : List ℕ} (e : ws' ≡ set ws (mark_place n m)
        (set_bit o b (get_or ws (mark_place n m) 0))) where
      climb_put : Hybrid s (remark s.list i m on) (suc v) ws'
      climb_put = rw (e, a.slot_is, a.bit_is) (hybrid_step s i m m< on a.entry a.covering_is a.markable a.words_are
          a.at_node_lem)

      module _ {b' : Bool} (t : b' ≡ not (eqb (get_or ws' (mark_place n m) 0) 0)) {p : ℕ}
          (r : p ≡ get_or ws' (owner_place n) 0) where
        pub climb_next : (p ≡ 0 → ⊥) → Climbing s i m on (suc v) ((p - 1) / slots) ((p - 1) % slots) b' ws'
        climb_next z =
            let (h, k) = hybrid_up s i m m< on a.entry a.covering_is a.markable climb_put a.at_node_lem p r z in
            record {
              entry = a.entry;
              covering_is = a.covering_is;
              markable = a.markable;
              at_node_lem = h;
              slot_is = k;
              bit_is = t ∙ hybrid_mark s i m m< on a.entry a.covering_is a.markable climb_put a.at_node_lem;
              words_are = climb_put;
            }

        pub climb_end : p ≡ 0 → set ws' marks_word (set_bit m b' (get_or ws' marks_word 0)) ≡ render
            (remark s.list i m on) s.places
            s.n
        climb_end z =
            hybrid_end s i m m< on a.entry a.covering_is a.markable climb_put
            (hybrid_top s i m m< on a.entry a.covering_is a.markable climb_put a.at_node_lem (sym r ∙ z)) b'
            (t ∙ hybrid_mark s i m m< on a.entry a.covering_is a.markable climb_put a.at_node_lem)

    pub climb_stop : set_bit o b (get_or ws (mark_place n m) 0) ≡ get_or ws (mark_place n m) 0 →
        ws ≡ render (remark s.list i m on) s.places s.n
    climb_stop z =
        let old : get_or ws (mark_place n m) 0 ≡ field s.list (num s) (suc v)
        (block (tier_order (suc v)) a.entry.base) (field_mark m) = hybrid_old s i m m< on a.entry a.covering_is a.markable
        a.words_are a.at_node_lem in
        let k : bit o (get_or ws (mark_place n m) 0) ≡ pick b 1 0 = bit_kept o
        (get_or ws (mark_place n m) 0) b z in
        let w : field s.list (num s) (suc v) (block (tier_order (suc v)) a.entry.base) (field_mark m) ≡ bits_to
        (λ j. slot_mark s.list m v (slots * block (tier_order (suc v)) a.entry.base + j)) slots = level_mark_lem
        s.list (num s) v (block (tier_order (suc v)) a.entry.base) m m< in
        let y : block (tier_order (suc v)) a.entry.base ≡ block (tier_order v) a.entry.base / slots = tier_up v
        a.entry.base in
        let at : slots * block (tier_order (suc v)) a.entry.base + o ≡ block (tier_order v) a.entry.base = omega
        (arith, a.slot_is) in
        let r : bit o (get_or ws (mark_place n m) 0) ≡ pick
        (slot_mark s.list m v (block (tier_order v) a.entry.base)) 1 0 = ap (bit o) (old ∙ w) ∙
        (bits_read (λ j. slot_mark s.list m v (slots * block (tier_order (suc v)) a.entry.base + j)) slots o
        (omega (arith, a.slot_is)) ∙ ap (λ (x : ℕ). pick (slot_mark s.list m v x) 1 0) at) in
        hybrid_same s i m m< on a.entry a.covering_is a.markable a.words_are
        (sym a.bit_is ∙ one b (slot_mark s.list m v (block (tier_order v) a.entry.base)) (sym k ∙ r))
      where
        one : (x y : Bool) → pick {A = ℕ} x 1 0 ≡ pick {A = ℕ} y 1 0 → x ≡ y
        one true true e = refl
        one false false e = refl
        one true false e = absurd (omega arith)
        one false true e = absurd (omega arith)
