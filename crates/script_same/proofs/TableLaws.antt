-- A command that leaves the nodes as they are (mark, unmark, a store onto an entry): the rows of the path and the anchor
-- are a table of the words after it.
use Prim.Native.Nat.{ℕ, zero, suc, ◌/◌, ◌≤◌, ◌<◌}
use mathlib.Core.Path.{◌≡◌, refl, sym, ap, subst, ◌∙◌}
use mathlib.Core.Bool.{true}
use mathlib.Core.List.{List}
use mathlib.Core.Option.{Option, none, some}
use native.Mathlib.Omega.{arith}
use native.Mathlib.Nat.{le_refl}
use lib.ListN.{get_or}
use Rattle.blocks.specs.Blocks.{block}
use Rattle.blocks.proofs.BoolLaws.{clash}
use Rattle.blocks.proofs.ListLaws.{any_in_lem, look}
use Rattle.model.specs.declared.Entry.{Entry}
use Rattle.model.specs.Model.{within}
use Rattle.model.proofs.RangeLaws.{Apart}
use Rattle.tree.specs.Tree.{slot_bits, tier_order, height, has, Node}
use Rattle.tree.proofs.HeightLaws.{height_fits, fits_base}
use Rattle.tree.proofs.NodeListLaws.{has_within, has_tier}
use Rattle.tree.proofs.StoreLaws.{within_only}
use Rattle.layout.specs.Words.{anchor_words, IsField, field, field_at, field_under}
use Rattle.layout.specs.Places.{Places, new_places, render, number_in}
use Rattle.layout.specs.WellFormed.{WellFormed, num}
use Rattle.layout.proofs.RenderWordLaws.{render_node, pool_node, pool_length_lem, place_of, node_of}
use Rattle.plan.proofs.AfterStoreLaws.{Lies, lies, on_path_lem, in_run_lem, off}
use Rattle.execute.proofs.LocalLaws.{field_agree}
use Rattle.script_rows.specs.Becomes.{Becomes, Shown}
use Rattle.script_rows.proofs.BecomesLaws.{within_inside}
use Rattle.script_rows.proofs.HeadLaws.{lows}
use Rattle.script_table.specs.Table.{row_count, Tables}

module _ {ws : List ℕ} (s : WellFormed ws) {i k : ℕ} {o : Option Entry} {l' : List Entry}
    (b : Becomes i k o s.list l')
    (same_has : (u c : ℕ) → has l' u c ≡ has s.list u c) (same_height : height l' ≡ height s.list)
    (same_places : new_places s.list l' s.places ≡ s.places)
    (ps : List ℕ) (path_has : has s.list (height s.list) (block (tier_order (height s.list)) i) ≡ true)
    (path_is : (u : ℕ) → k / slot_bits < u → u ≤ height s.list → get_or ps u 0 ≡ num s u (block (tier_order u) i))
    (path_node : (u : ℕ) → k / slot_bits < u → u ≤ height s.list → has s.list u (block (tier_order u) i) ≡ true)
  where
    abbrev l : List Entry
    l = s.list

    abbrev ws' : List ℕ
    ws' = render l' s.places s.n

    -- the head is the node of block 0
    pub head_zero : (c : ℕ) → has l (height l) c ≡ true → c ≡ 0
    head_zero c t =
        let (x, m, e) = any_in_lem (within (tier_order (height l)) c) l (has_within l (height l) c t) in
        sym (within_only (tier_order (height l)) c x e) ∙ fits_base (height l) x
        (look (height_fits (lows s.valid) (le_refl (height l))) m)

    -- a node apart from the range
    apart_same : (u c f : ℕ) → has l u c ≡ true → Apart i k (tier_order u) c → IsField f →
        field l' (num s) u c f ≡ field l (num s) u c f
    apart_same zero c f t a h = absurd (omega (arith, (has_tier l 0 c t).0))
    apart_same (suc v) c f t a h =
        subst (λ (os : Places). field l' (number_in os) (suc v) c f ≡ field l (num s) (suc v) c f) same_places
        (field_agree i k b.agree s.n s.placed v c t (same_has (suc v) c ∙ t) no_head
        (λ e. no_head (e ∙ same_height)) a f h)
      where
        no_head : suc v ≡ height l → ⊥
        no_head e =
            let z : c ≡ 0 = head_zero c (subst (λ (u : ℕ). has l u c ≡ true) e t) in
            let y : block (tier_order (height l)) i ≡ 0 = head_zero _ path_has in
            a i (ap (λ (u : ℕ). block (tier_order u) i) e ∙ (y ∙ sym z)) refl

    -- all words of a node, before and after
    node_same : (m f : ℕ) → m < s.n → IsField f → (p : Option Node) → get_or s.places m none ≡ p →
        ((u : ℕ) → k / slot_bits < u → u ≤ height l → get_or ps u 0 ≡ m → ⊥) →
        field_at l' (num s) p f ≡ field_at l (num s) p f
    node_same m f h g none e n = refl
    node_same m f h g (some p) e n =
        let (y, t) = place_of s m p e in go (lies i k p.tier p.number) y t
      where
        go : Lies i k p.tier p.number → m ≡ num s p.tier p.number → has l p.tier p.number ≡ true →
            field l' (num s) p.tier p.number f ≡ field l (num s) p.tier p.number f
        go (off a) y t = apart_same p.tier p.number f t a g
        go (in_run_lem q a) y t = absurd (clash (has_within l' p.tier p.number (same_has p.tier p.number ∙ t))
            (within_inside b p.tier p.number q a))
        go (on_path_lem q z) y t =
            let le : p.tier ≤ height l = (has_tier l p.tier p.number t).1 in
            absurd (n p.tier (omega arith) le (path_is p.tier (omega arith) le ∙ sym (y ∙ ap (num s p.tier) z)))

    -- THE TABLE: row u for the path's node of tier u; the other rows have no node
    pub tables_same : (rs ns : List ℕ) → height l < row_count →
        ((r : ℕ) → r < row_count → get_or ns r 0 < s.n → (k / slot_bits < r) × (r ≤ height l)) →
        ((u : ℕ) → k / slot_bits < u → u ≤ height l → get_or ns u 0 ≡ get_or ps u 0) →
        ((u : ℕ) → k / slot_bits < u → u ≤ height l → Shown i k l' (num s) rs (height l) u) →
        ((p : ℕ) → p < anchor_words → get_or ws' p 0 ≡ get_or rs p 0) → Tables ws rs ns ws' s.n
    tables_same rs ns few only rows shown anchor = record {
      size = pool_length_lem s;
      anchor = anchor;
      row = λ r h g f q. let (a, z) = only r h g in
          let t : has l r (block (tier_order r) i) ≡ true = path_node r a z in
          let n : get_or ns r 0 ≡ num s r (block (tier_order r) i) = rows r a z ∙ path_is r a z in
          render_node l' s.places s.n (get_or ns r 0) f g q
          ∙ (ap (λ (p : Option Node). field_at l' (num s) p f)
          (ap (λ (m : ℕ). get_or s.places m none) n ∙ (node_of s r (block (tier_order r) i) t).1)
          ∙ (ap (λ (h' : ℕ). field_under l' (num s) h' r (block (tier_order r) i) f) same_height
          ∙ sym ((shown r a z).words f q)));
      rest = λ m h n f q. render_node l' s.places s.n m f h q
          ∙ (node_same m f h q (get_or s.places m none) refl
          (λ u a z e. n u (omega arith) (rows u a z ∙ e))
          ∙ sym (pool_node s m f h q));
    }
