-- A store of a new entry: its rows are a wide table of the words after it.
use Prim.Native.Nat.{ℕ, zero, suc, ◌+◌, ◌≤◌, ◌<◌}
use mathlib.Core.Path.{◌≡◌, refl, sym, ap, subst, ◌∙◌}
use mathlib.Core.Bool.{true, false}
use mathlib.Core.List.{List}
use mathlib.Core.Option.{Option, none, some}
use native.Mathlib.Omega.{arith}
use lib.ListN.{length, get_or}
use Rattle.blocks.specs.Blocks.{block}
use Rattle.blocks.proofs.BoolLaws.{clash, by_t, is_false}
use Rattle.blocks.proofs.PlacingLaws.{none_some}
use Rattle.model.specs.declared.Entry.{Entry}
use Rattle.model.specs.ByBlock.{store_new}
use Rattle.tree.specs.Tree.{tier_order, height, has, Node, needed}
use Rattle.tree.proofs.HeightLaws.{height_most}
use Rattle.tree.proofs.NodeListLaws.{has_within, has_tier}
use Rattle.layout.specs.Words.{place, IsField, field, field_at}
use Rattle.layout.specs.Places.{free_count, render}
use Rattle.layout.specs.WellFormed.{WellFormed, num}
use Rattle.layout.proofs.NewNumberLaws.{new_at, was, was_not, kept, new_number_of}
use Rattle.layout.proofs.RenderWordLaws.{render_node, pool_node, place_of}
use Rattle.plan.specs.Plan.{NewStore}
use Rattle.execute.proofs.LocalLaws.{field_agree}
use Rattle.script_rows.proofs.BecomesLaws.{within_inside}
use Rattle.script_wide.specs.Wide.{GoesAt, NoRow, Wide}
use Rattle.script_new.specs.New.{
  chain_row,
  NewList,
  RowKind,
  path_row,
  chain_row_lem,
  places_then,
  num_then,
  NewRows,
}
use Rattle.script_new.proofs.StayingLaws.{path_there_lem, chain_there, lost, Staying, staying}

module _ {ws : List ℕ} (s : WellFormed ws) {i k w m : ℕ} {o : Option Entry} {l' : List Entry}
    (new : NewStore s.list i k w) (nl : NewList s i k w m o l')
    (enough : needed s.list (store_new s.list i k w) ≤ free_count s.places) where
  abbrev l : List Entry
  l = s.list

  abbrev ws' : List ℕ
  ws' = render l' (places_then s i k l') s.n

  enough_then : needed l l' ≤ free_count s.places
  enough_then = subst (λ (ps : List Node). length ps ≤ free_count s.places) (sym nl.same_new) enough

  -- a node of the tree then has its words at its number
  node_words_lem : (u c f : ℕ) → has l' u c ≡ true → IsField f →
      get_or ws' (place (num_then s i k l' u c) f) 0 ≡ field l' (num_then s i k l') u c f
  node_words_lem u c f t q =
      let (lt, e) = new_at s.n l s.places s.placed l' enough_then u c t in
      render_node l' (places_then s i k l') s.n (num_then s i k l' u c) f lt q
      ∙ ap (λ (p : Option Node). field_at l' (num_then s i k l') p f) e

  -- what stands at a number then stood there, if anything did
  stood : (j : ℕ) {p q : Node} → get_or s.places j none ≡ some p → get_or (places_then s i k l') j none ≡ some q →
      has l' p.tier p.number ≡ true
  stood j {p} {q} e g =
      let (y, t) = new_number_of s.n l s.places s.placed l' enough_then j q g in
      let b : get_or s.places (num_then s i k l' q.tier q.number) none ≡ some p =
      subst (λ (x : ℕ). get_or s.places x none ≡ some p) y e in
      by_t (has l q.tier q.number)
      (λ h. let d : some q ≡ some p = sym (was s.n l s.places s.placed l' enough_then q.tier q.number t h) ∙ b in
      let z : q ≡ p = cc in subst (λ (x : Node). has l' x.tier x.number ≡ true) z t)
      (λ h. none_some (sym (was_not s.n l s.places s.placed l' enough_then q.tier q.number t h) ∙ b))

  module _ {rs ns : List ℕ} (rows : NewRows s i k l' rs ns) where
    -- ROWS
    row_words : (r : ℕ) → RowKind s i k l' r → (f : ℕ) → IsField f →
        get_or ws' (place (get_or ns r 0) f) 0 ≡ get_or rs (place r f) 0
    row_words _ (path_row u a z) f q =
        ap (λ (x : ℕ). get_or ws' (place x f) 0) (rows.path_number u a z)
        ∙ (node_words_lem u (block (tier_order u) i) f (path_there_lem s new nl u a z) q ∙ sym (rows.path_words u a z f q))
    row_words _ (chain_row_lem u c h) f q =
        ap (λ (x : ℕ). get_or ws' (place x f) 0) (rows.chain_number c u h)
        ∙ (node_words_lem u 0 f (chain_there s new nl c u h) q ∙ sym (rows.chain_words_lem c u h f q))

    -- ZEROS
    zeros : (j f : ℕ) → GoesAt s i k j → (p : Option Node) → get_or (places_then s i k l') j none ≡ p →
        field_at l' (num_then s i k l') p f ≡ 0
    zeros j f g none e = refl
    zeros j f g (some q) e =
        absurd (clash (has_within l' g.node.tier g.node.number (stood j g.place_is e))
        (within_inside nl.becomes g.node.tier g.node.number g.low g.inside))

    -- ALL ELSE
    module _ (j f : ℕ) (q : IsField f) (no_row : NoRow ns j) where
      stays_as : (u c : ℕ) → j ≡ num_then s i k l' u c → has l' u c ≡ true → Staying i k l l' u c
      stays_as u c y t =
          staying s new nl u c t
          (λ a z e. no_row u (omega (arith, height_most l'))
          (rows.path_number u a z ∙ (ap (num_then s i k l' u) (sym e) ∙ sym y)))
          (λ d h e. let b : u < height l' = h.below in no_row (chain_row + u) (omega (arith, height_most l'))
          (rows.chain_number d u h ∙ (ap (num_then s i k l' u) (sym e) ∙ sym y)))

      staying_words : (u c : ℕ) → has l' u c ≡ true → Staying i k l l' u c →
          field l' (num_then s i k l') u c f ≡ field l (num s) u c f
      staying_words zero c t y = absurd (omega (arith, (has_tier l' 0 c t).0))
      staying_words (suc v) c t y =
          field_agree i k nl.becomes.agree s.n s.placed v c y.before t y.not_old y.not_new y.apart f q

      same_words : (GoesAt s i k j → ⊥) → (p p' : Option Node) → get_or s.places j none ≡ p →
          get_or (places_then s i k l') j none ≡ p' → field_at l' (num_then s i k l') p' f ≡ field_at l (num s) p f
      same_words not-inside p (some x) e e' =
          let (y, t) = new_number_of s.n l s.places s.placed l' enough_then j x e' in
          let h : Staying i k l l' x.tier x.number = stays_as x.tier x.number y t in
          let d : get_or s.places j none ≡ some x = ap (λ (n : ℕ). get_or s.places n none) y
          ∙ was s.n l s.places s.placed l' enough_then x.tier x.number t h.before in
          staying_words x.tier x.number t h
          ∙ ap (λ (z : Option Node). field_at l (num s) z f) (sym d ∙ e)
      same_words not-inside none none e e' = refl
      same_words not-inside (some x) none e e' =
          let (y, t) = place_of s j x e in
          let n : has l' x.tier x.number ≡ false = is_false (λ t'. none_some (sym e'
          ∙ (ap (λ (n : ℕ). get_or (places_then s i k l') n none)
          (y ∙ sym (kept s.n l s.places s.placed l' enough_then x.tier x.number t t'))
          ∙ (new_at s.n l s.places s.placed l' enough_then x.tier x.number t').1))) in
          let (a, b) = lost s new nl x.tier x.number t n in
          absurd (not-inside (record { node = x; place_is = e; low = a; inside = b }))

    -- THE TABLE
    pub wide_new : Wide s rs ns ws' i k
    wide_new = record {
      anchor = rows.anchor;
      row = λ r h g f q. row_words r (rows.only r h g) f q;
      gone = λ j h n g f q. render_node l' (places_then s i k l') s.n j f h q ∙ zeros j f g _ refl;
      rest = λ j h n not-inside f q. render_node l' (places_then s i k l') s.n j f h q
          ∙ (same_words j f q n not-inside _ _ refl refl ∙ sym (pool_node s j f h q));
    }
