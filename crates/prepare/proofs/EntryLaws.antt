-- An entry that is there becomes another: its range, the way to it, and the table where it is the head.
use Prim.Native.Nat.{ℕ, zero, suc, ◌/◌, ◌≤◌, ◌<◌}
use mathlib.Core.Path.{◌≡◌, refl, sym, ap, subst, ◌∙◌}
use mathlib.Core.Bool.{true}
use mathlib.Core.List.{List, [], ◌∷◌}
use mathlib.Core.Option.{Option, none, some}
use native.Mathlib.Omega.{arith}
use native.Mathlib.Nat.{le_refl}
use lib.ListN.{length, get_or, set, length-set}
use lib.Seq.{get_or-set_same, get_or-set_other}
use borrow.Author.Tests.{lt-ltb, eq-eqb}
use Rattle.blocks.specs.Choice.{both}
use Rattle.blocks.specs.Lists.{any, All}
use Rattle.blocks.specs.Blocks.{block}
use Rattle.blocks.proofs.BitLaws.{bits_same}
use Rattle.blocks.proofs.BoolLaws.{by_t}
use Rattle.blocks.proofs.ListLaws.{look, in_any}
use Rattle.model.specs.declared.Entry.{Entry}
use Rattle.model.specs.Model.{EntryOk, max_order, aligned, within, starts, has_mark, mark_count, marks_of}
use Rattle.model.proofs.AlignedLaws.{base_aligned}
use Rattle.model.proofs.MarkLaws.{marks_of_bits, marks_one}
use Rattle.model.proofs.RangeLaws.{Inside}
use Rattle.model.proofs.ValidLaws.{sorted_ok}
use Rattle.tree.specs.Tree.{slot_bits, top_tier, tier_order, height, fits, Node}
use Rattle.tree.specs.Slots.{slot, entry_word}
use Rattle.tree.proofs.GrowLaws.{grow_mark}
use Rattle.tree.proofs.HeightLaws.{height_fits, height_most, fits_order, fits_base}
use Rattle.tree.proofs.NodeListLaws.{has_in, has_tier}
use Rattle.layout.specs.Words.{anchor_words, field_at}
use Rattle.layout.specs.Places.{render}
use Rattle.layout.specs.WellFormed.{WellFormed, num}
use Rattle.layout.proofs.RenderWordLaws.{render_anchor, render_node, pool_node, pool_length_lem, pool_anchor, place_of}
use Rattle.script_rows.specs.Becomes.{any_in, word_in, marks_in, Seated}
use Rattle.script_rows.proofs.BecomesLaws.{slot_inside, mark_inside, seated_in}
use Rattle.script_rows.proofs.HeadLaws.{lows}
use Rattle.script_same.specs.Same.{PathThere}
use Rattle.script_table.specs.Table.{row_count, Tables}
use Rattle.prepare.specs.Entries.{EntryThere, Stays}

module _ {ws : List ℕ} (s : WellFormed ws) {i k top : ℕ} (t : EntryThere s i k top) where
  abbrev l : List Entry
  l = s.list

  ok : EntryOk t.entry
  ok = look (sorted_ok s.valid) t.inside

  fit : fits top t.entry ≡ true
  fit = subst (λ (h : ℕ). fits h t.entry ≡ true) (sym t.top_is)
      (look (height_fits (lows s.valid) (le_refl (height l))) t.inside)

  -- what same_rows asks
  pub order_le : k ≤ max_order
  order_le = subst (λ (x : ℕ). x ≤ max_order) t.order_is ok.order_le

  pub is_aligned_lem : aligned k i ≡ true
  is_aligned_lem = subst (λ (x : ℕ). aligned x i ≡ true) t.order_is
      (subst (λ (x : ℕ). aligned t.entry.order x ≡ true) t.base_is (base_aligned t.entry ok))

  pub below_head : 1 ≤ top → k / slot_bits < top
  below_head h = omega (arith, fits_order top t.entry fit, t.order_is)

  pub head_low : top ≤ top_tier
  head_low = subst (λ (h : ℕ). h ≤ top_tier) (sym t.top_is) (height_most l)

  pub path_there_lem : PathThere s i (k / slot_bits) top
  path_there_lem = record {
    top_is = t.top_is;
    there = λ u a z. has_in l u (block (tier_order u) i) (subst (λ (h : ℕ). u ≤ h) t.top_is z)
        (in_any (within (tier_order u) (block (tier_order u) i)) t.inside
        (rw (
          lt-ltb t.entry.order (tier_order u) (omega (arith, t.order_is)),
          eq-eqb (block (tier_order u) t.entry.base) (block (tier_order u) i) (ap (block (tier_order u)) t.base_is),
        ) refl));
  }

  -- AN ENTRY AS HEAD stands at index 0 and has the order 0
  module _ (flat : top ≡ 0) where
    low_order_lem : k ≡ 0
    low_order_lem = omega (arith, fits_order top t.entry fit, t.order_is, flat)

    low_base : i ≡ 0
    low_base =
        let z : block (tier_order top) t.entry.base ≡ 0 = fits_base top t.entry fit in
        omega (arith, subst (λ (h : ℕ). block (tier_order h) t.entry.base ≡ 0) flat z, t.base_is)

    module _ {w m : ℕ} {o : Option Entry} {l' : List Entry} (st : Stays s i k w m o l') where
      flat' : height l' ≡ 0
      flat' = st.same_height ∙ (sym t.top_is ∙ flat)

      inner : Inside i k 0 0
      inner y e = let z : y ≡ 0 = omega (arith, e) in ap (block k) (z ∙ sym low_base)

      at_zero : (e : Entry) → o ≡ some e → e.base ≡ 0
      at_zero e q =
          let a : Seated i k e = st.becomes.seated e q in
          omega (arith, subst (λ (x : ℕ). block x e.base ≡ block x i) low_order_lem a.in_run_lem, low_base)

      word : slot l' (num s) (height l') 0 ≡ w
      word = ap (λ (h : ℕ). slot l' (num s) h 0) flat' ∙ (slot_inside st.becomes (num s) 0 0 (omega arith) inner
          ∙ (go o refl ∙ sym st.word_is))
        where
          go : (x : Option Entry) → o ≡ x → entry_word 0 0 x ≡ word_in x
          go none q = refl
          go (some e) q = rw (eq-eqb (block 0 e.base) 0 (ap (block 0) (at_zero e q))) refl

      marks : marks_of l' ≡ m
      marks = go o refl ∙ sym st.marks_is
        where
          fits_all : All (λ x. fits 0 x ≡ true) l'
          fits_all = height_fits {h = 0} (lows st.valid) (omega (arith, flat'))

          each_is : (x : ℕ) → any (has_mark x) l' ≡ any_in (λ e. both (starts 0 0 e) (has_mark x e)) o
          each_is x = sym (grow_mark l' 0 fits_all x) ∙ mark_inside st.becomes x 0 0 inner

          go : (x : Option Entry) → o ≡ x → marks_of l' ≡ marks_in x
          go none q = marks_of_bits l' ∙ (bits_same (λ y. any (has_mark y) l') (λ y. any (has_mark y) []) mark_count
              (λ y _. each_is y ∙ ap (any_in (λ e. both (starts 0 0 e) (has_mark y e))) q) ∙ sym (marks_of_bits []))
          go (some e) q = marks_of_bits l' ∙ (bits_same (λ y. any (has_mark y) l') (λ y. any (has_mark y) (e ∷ [])) mark_count
              (λ y _. each_is y ∙ (ap (any_in (λ e. both (starts 0 0 e) (has_mark y e))) q ∙ one y))
              ∙ (sym (marks_of_bits (e ∷ [])) ∙ marks_one e (look (sorted_ok st.valid) (seated_in st.becomes e q)).marks_fit))
            where
              one : (y : ℕ) → both (starts 0 0 e) (has_mark y e) ≡ any (has_mark y) (e ∷ [])
              one y = rw (eq-eqb (block 0 e.base) 0 (ap (block 0) (at_zero e q)))
                  (by_t (has_mark y e) (λ h. rw h refl) (λ h. rw h refl))

      -- THE TABLE: the anchor alone changes
      pub head_table : {rs ns : List ℕ} → get_or rs 0 0 ≡ get_or ws 0 0 → get_or rs 1 0 ≡ w → get_or rs 2 0 ≡ m → get_or rs 3 0 ≡ 0 →
          ((r : ℕ) → r < row_count → get_or ns r 0 ≡ get_or ws 0 0) → Tables ws rs ns (render l' s.places s.n) s.n
      head_table {rs} {ns} a b c d none_there = record {
        size = pool_length_lem s;
        anchor = anchor;
        row = λ r h g f q. absurd (omega (arith, none_there r h, count));
        rest = λ n h _ f q. render_node l' s.places s.n n f h q
            ∙ (same n f (get_or s.places n none) refl ∙ sym (pool_node s n f h q));
      }
        where
          count : get_or ws 0 0 ≡ s.n
          count = pool_anchor s 0 (omega arith)

          anchor : (p : ℕ) → p < anchor_words → get_or (render l' s.places s.n) p 0 ≡ get_or rs p 0
          anchor zero h = render_anchor l' s.places s.n 0 h ∙ sym (a ∙ count)
          anchor (suc zero) h = render_anchor l' s.places s.n 1 h ∙ (word ∙ sym b)
          anchor (suc (suc zero)) h = render_anchor l' s.places s.n 2 h ∙ (marks ∙ sym c)
          anchor (suc (suc (suc zero))) h = render_anchor l' s.places s.n 3 h ∙ sym d
          anchor (suc (suc (suc (suc p)))) h = absurd (omega arith)

          -- there is no node
          same : (n f : ℕ) (p : Option Node) → get_or s.places n none ≡ p →
              field_at l' (num s) p f ≡ field_at l (num s) p f
          same n f none e = refl
          same n f (some p) e =
              let (y, h) = place_of s n p e in absurd (omega (
                arith,
                (has_tier l p.tier p.number h).0,
                (has_tier l p.tier p.number h).1,
                t.top_is,
                flat,
              ))

-- what is written for it
pub anchor_written : (rs : List ℕ) (a b c d : ℕ) → 4 ≤ length rs →
    (get_or (set (set (set (set rs 0 a) 1 b) 2 c) 3 d) 0 0 ≡ a) × (get_or (set (set (set (set rs 0 a) 1 b) 2 c) 3 d) 1 0 ≡ b) ×
    (get_or (set (set (set (set rs 0 a) 1 b) 2 c) 3 d) 2 0 ≡ c) × (get_or (set (set (set (set rs 0 a) 1 b) 2 c) 3 d) 3 0 ≡ d)
anchor_written rs a b c d h =
    let r₁ : List ℕ = set rs 0 a in
    let r₂ : List ℕ = set (set rs 0 a) 1 b in
    let r₃ : List ℕ = set (set (set rs 0 a) 1 b) 2 c in
    let l₁ : length (set rs 0 a) ≡ length rs = length-set rs 0 a in
    let l₂ : length (set (set rs 0 a) 1 b) ≡ length rs = length-set (set rs 0 a) 1 b ∙ l₁ in
    let l₃ : length (set (set (set rs 0 a) 1 b) 2 c) ≡ length rs = length-set (set (set rs 0 a) 1 b) 2 c ∙ l₂ in (
      get_or-set_other r₃ 3 0 d 0 (omega arith) ∙ (get_or-set_other r₂ 2 0 c 0 (omega arith)
          ∙ (get_or-set_other r₁ 1 0 b 0 (omega arith) ∙ get_or-set_same rs 0 a 0 (omega arith))),
      get_or-set_other r₃ 3 1 d 0 (omega arith) ∙ (get_or-set_other r₂ 2 1 c 0 (omega arith) ∙ get_or-set_same r₁ 1 b 0 (omega arith)),
      get_or-set_other r₃ 3 2 d 0 (omega arith) ∙ get_or-set_same r₂ 2 c 0 (omega arith),
      get_or-set_same r₃ 3 d 0 (omega arith),
    )
