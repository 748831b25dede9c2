-- The rows of the path and of the nodes of block 0 are a table of the words after an erase.
use Prim.Native.Nat.{ℕ, zero, suc, ◌/◌, ◌≤◌, ◌<◌}
use mathlib.Core.Path.{◌≡◌, refl, sym, ap, subst, ◌∙◌}
use mathlib.Core.Bool.{true}
use mathlib.Core.Logic.{◌⊎◌, inl, inr}
use mathlib.Core.List.{List}
use mathlib.Core.Option.{Option, none, some}
use native.Mathlib.Omega.{arith}
use lib.Dec.{leb}
use lib.ListN.{get_or}
use borrow.Author.Tests.{leb-true, leb-false}
use Rattle.blocks.specs.Lists.{any}
use Rattle.blocks.specs.Blocks.{block}
use Rattle.blocks.proofs.BoolLaws.{by_t}
use Rattle.model.specs.declared.Entry.{Entry}
use Rattle.model.specs.Model.{within}
use Rattle.model.proofs.RangeLaws.{Apart}
use Rattle.tree.specs.Tree.{slot_bits, tier_order, height, has, Node}
use Rattle.tree.proofs.HeightLaws.{height_most}
use Rattle.tree.proofs.NodeListLaws.{has_in, has_within, has_le, has_tier}
use Rattle.layout.specs.Words.{anchor_words, place, IsField, field, field_at}
use Rattle.layout.specs.Places.{Places, number_in, keep_if, new_places, render}
use Rattle.layout.specs.WellFormed.{WellFormed, num}
use Rattle.layout.proofs.NumberLaws.{nd}
use Rattle.layout.proofs.RenderWordLaws.{render_node, pool_node, pool_length_lem, place_of, node_of}
use Rattle.plan.proofs.AfterStoreLaws.{Lies, lies, on_path_lem, in_run_lem, off}
use Rattle.execute.proofs.LocalLaws.{field_agree}
use Rattle.script_rows.proofs.BecomesLaws.{within_apart}
use Rattle.script_table.specs.Table.{row_count, Tables}
use Rattle.script_erase.specs.Erased.{Erases, chain_row, tall_field, InChain, Lowered}
use Rattle.script_erase.proofs.ErasesLaws.{height_left, place_left, first_only, top_only, none_inside, tall_left}

module _ {ws : List ℕ} (s : WellFormed ws) {i k top : ℕ} {l' : List Entry} (E : Erases s i k top l') where
  abbrev l : List Entry
  l = s.list

  abbrev os' : Places
  os' = new_places s.list l' s.places

  abbrev ws' : List ℕ
  ws' = render l' (new_places s.list l' s.places) s.n

  -- a word of a node that was there
  word_now : (u c m f : ℕ) → has l u c ≡ true → m ≡ num s u c → m < s.n → IsField f →
      get_or ws' (place m f) 0 ≡ tall_field (height l') l' (num s) u c f
  word_now u c m f t e h q =
      render_node l' os' s.n m f h q
      ∙ (ap (λ (p : Option Node). field_at l' (number_in os') p f)
      (place_left s E m ∙ ap (keep_if l') (ap (λ (x : ℕ). get_or s.places x none) e ∙ (node_of s u c t).1))
      ∙ sym (tall_left s E u c f q))

  -- a node apart from the range that is no head
  apart_same : (u c m f : ℕ) → has l u c ≡ true → Apart i k (tier_order u) c → (height l' ≤ u → c ≡ 0 → ⊥) →
      IsField f → get_or s.places m none ≡ some (nd u c) →
      field_at l' (number_in os') (keep_if l' (some (nd u c))) f ≡ field l (num s) u c f
  apart_same zero c m f t a n q e = absurd (omega (arith, (has_tier l 0 c t).0))
  apart_same (suc v) c m f t a n q e =
      rw there (field_agree i k E.becomes.agree s.n s.placed v c t there no_top no_head a f q)
    where
      inner : any (within (tier_order (suc v)) c) l' ≡ true
      inner = within_apart E.becomes (suc v) c a ∙ has_within l (suc v) c t

      low : suc v ≤ height l'
      low = by_t (leb (suc v) (height l')) (leb-true _ _)
          (λ z. let g : height l' < suc v = leb-false _ _ z in
          absurd (n (omega arith) (first_only s E (suc v) c (omega arith) inner)))

      there : has l' (suc v) c ≡ true
      there = has_in l' (suc v) c low inner

      no_head : suc v ≡ height l' → ⊥
      no_head z = n (omega arith) (first_only s E (suc v) c (omega arith) inner)

      no_top : suc v ≡ height l → ⊥
      no_top z =
          let c0 : c ≡ 0 = top_only s E c (subst (λ (u : ℕ). any (within (tier_order u) c) l ≡ true) z (has_within l (suc v) c t)) in
          n (omega (arith, height_left s E)) c0

  module _ {rs ns : List ℕ} (L : Lowered s i (k / slot_bits) top (height l') l' rs ns) where
    -- a row
    row_is : (r : ℕ) → r < row_count → get_or ns r 0 < s.n → (f : ℕ) → IsField f →
        get_or ws' (place (get_or ns r 0) f) 0 ≡ get_or rs (place r f) 0
    row_is r h g f q = go (L.only r h g)
      where
        go : ((k / slot_bits < r) × (r ≤ top)) ⊎ InChain s i (k / slot_bits) top (height l') r →
            get_or ws' (place (get_or ns r 0) f) 0 ≡ get_or rs (place r f) 0
        go (inl (a, z)) = word_now r (block (tier_order r) i) (get_or ns r 0) f (E.there.there r a z) (L.path_number r a z) g q
            ∙ sym (L.path r a z f q)
        go (inr c) =
            let e : r ≡ chain_row c.tier = c.row_is in
            let n : get_or ns r 0 ≡ num s c.tier 0 = ap (λ (x : ℕ). get_or ns x 0) e
            ∙ L.chain_number c.tier c.low c.high c.off c.there in
            word_now c.tier 0 (get_or ns r 0) f c.there n g q
            ∙ sym (ap (λ (x : ℕ). get_or rs (place x f) 0) e ∙ L.chain c.tier c.low c.high c.off c.there f q)

    -- a node without a row
    rest_is : (m : ℕ) → m < s.n → ((r : ℕ) → r < row_count → get_or ns r 0 ≡ m → ⊥) → (f : ℕ) → IsField f →
        (p : Option Node) → get_or s.places m none ≡ p →
        field_at l' (number_in os') (keep_if l' p) f ≡ field_at l (num s) p f
    rest_is m h n f q none e = refl
    rest_is m h n f q (some p) e =
        let (y, t) = place_of s m p e in go (lies i k p.tier p.number) y t
      where
        go : Lies i k p.tier p.number → m ≡ num s p.tier p.number → has l p.tier p.number ≡ true →
            field_at l' (number_in os') (keep_if l' (some p)) f ≡ field l (num s) p.tier p.number f
        go (in_run_lem g a) y t = absurd (none_inside s E p.tier p.number g a t)
        go (on_path_lem g z) y t =
            let le : p.tier ≤ top = omega (arith, has_le l p.tier p.number t, E.there.top_is) in
            absurd (n p.tier (omega (arith, height_most l, E.there.top_is))
            (L.path_number p.tier (omega arith) le ∙ sym (y ∙ ap (num s p.tier) z)))
        go (off a) y t = apart_same p.tier p.number m f t a no_chain q e
          where
            no_chain : height l' ≤ p.tier → p.number ≡ 0 → ⊥
            no_chain g z =
                let le : p.tier ≤ top = omega (arith, has_le l p.tier p.number t, E.there.top_is) in
                n (chain_row p.tier) (omega (arith, height_most l, E.there.top_is))
                (L.chain_number p.tier g le (λ _ x. a i (x ∙ sym z) refl)
                (subst (λ (c : ℕ). has l p.tier c ≡ true) z t) ∙ sym (y ∙ ap (num s p.tier) z))

    -- THE TABLE
    pub tables_lowered : ((p : ℕ) → p < anchor_words → get_or ws' p 0 ≡ get_or rs p 0) → Tables ws rs ns ws' s.n
    tables_lowered anchor = record {
      size = pool_length_lem s;
      anchor = anchor;
      row = row_is;
      rest = λ m h n f q. render_node l' os' s.n m f h q
          ∙ (ap (λ (p : Option Node). field_at l' (number_in os') p f) (place_left s E m)
          ∙ (rest_is m h n f q (get_or s.places m none) refl ∙ sym (pool_node s m f h q)));
    }
