-- Words that are prescribed as a whole, word by word.
use Prim.Native.Nat.{ℕ, zero, suc, ◌+◌, ◌*◌, ◌/◌, ◌<◌}
use mathlib.Core.Path.{◌≡◌, refl, sym, ap, subst, ◌∙◌}
use mathlib.Core.Bool.{true}
use mathlib.Core.List.{List}
use mathlib.Core.Option.{Option, none, some}
use native.Mathlib.Omega.{arith}
use lib.ListN.{get_or}
use Rattle.blocks.specs.Lists.{any}
use Rattle.model.specs.declared.Entry.{Entry}
use Rattle.model.specs.Model.{within}
use Rattle.tree.specs.Tree.{Node, has, height, tier_order, slots}
use Rattle.layout.specs.Words.{
  field,
  field_at,
  anchor_word,
  place,
  IsField,
  anchor_words,
  count_word,
  head_word,
  marks_word,
  spare_word,
}
use Rattle.layout.specs.Places.{Places, number_of, number_in}
use Rattle.layout.specs.Pool.{pool_of}
use Rattle.layout.specs.WellFormed.{Prescribed}
use Rattle.layout.proofs.FreeLaws.{words_free}
use Rattle.layout.proofs.FieldLaws.{filled_same}
use Rattle.layout.proofs.NodeLaws.{get_shift, get_owner, get_filled, get_mark, get_slot}
use Rattle.tree.specs.Slots.{slot}
use Rattle.layout.proofs.RenderWordLaws.{render_anchor, render_node}
use Rattle.decode.proofs.Restrict.{has_level, Prescribes, NodeIs}
use Rattle.decode.proofs.SameTree.{to_chain, has_same, lower, slot_same, marks_same, level_owner_lem, head_same}
use Rattle.tree.proofs.NodeListLaws.{has_within, has_some}
use Rattle.layout.proofs.NumberLaws.{number_at, in_standing, number_of_lem}

-- PLACES
abbrev pub node : ℕ → ℕ → Node
node u b = record { tier = u; number = b }

-- FROM THE WHOLE TO THE WORDS
module _ (n : ℕ) (l : List Entry) (os : Places) (ws : List ℕ) (S : Prescribed n l os ws) where
  anchor : (i : ℕ) → i < anchor_words → get_or ws i 0 ≡ anchor_word l (number_in os) n i
  anchor i h = ap (λ (x : List ℕ). get_or x i 0) S.words_are ∙ render_anchor l os n i h

  pub count_is : get_or ws count_word 0 ≡ n
  count_is = anchor count_word (omega arith)

  pub spare_is : get_or ws spare_word 0 ≡ 0
  spare_is = anchor spare_word (omega arith)

  pub node_word_lem : (m f : ℕ) → m < n → IsField f → get_or ws (place m f) 0 ≡ field_at l (number_in os) (get_or os m none) f
  node_word_lem m f lt h = ap (λ (x : List ℕ). get_or x (place m f) 0) S.words_are ∙ render_node l os n m f lt h

  found : (v b : ℕ) → has_level l v b ≡ true → (number_in os (suc v) b < n) ×
      (get_or os (number_in os (suc v) b) none ≡ some (node (suc v) b))
  found v b t =
      let (a, k) = number_at (node (suc v) b) os (S.placed.full (node (suc v) b)
      (sym (has_same S.valid v b) ∙ t)) in
      (omega (arith, S.placed.size), k)

  -- what stands at a place is a node of the tree
  pub there_is : (m : ℕ) (p : Node) → get_or os m none ≡ some p →
      (v : ℕ) × (p.tier ≡ suc v) × (has_level l v p.number ≡ true) × (number_in os (suc v) p.number ≡ m)
  there_is m p e = go p (S.placed.sound p (in_standing p os m e)) (number_of_lem p os m S.placed.once e)
    where
      go : (p : Node) → has l p.tier p.number ≡ true → number_of p os ≡ m →
          (v : ℕ) × (p.tier ≡ suc v) × (has_level l v p.number ≡ true) × (number_in os (suc v) p.number ≡ m)
      go p t s = tier p.tier refl t
        where
          tier : (u : ℕ) → p.tier ≡ u → has l u p.number ≡ true →
              (v : ℕ) × (p.tier ≡ suc v) × (has_level l v p.number ≡ true) × (number_in os (suc v) p.number ≡ m)
          tier zero e t = absurd (omega (arith, has_some l 0 p.number t))
          tier (suc v) e t = (
            v,
            e,
            has_same S.valid v p.number ∙ t,
            subst (λ (u : ℕ). number_of (node u p.number) os ≡ m) e s,
          )

  node_is : (v b : ℕ) → has_level l v b ≡ true → NodeIs (pool_of ws) l (lower (number_in os)) (number_in os (suc v) b) v b
  node_is v b t =
      let m : ℕ = number_in os (suc v) b in
      let (lt, k) = found v b t in
      let inside : any (within (tier_order (suc v)) b) l ≡ true = has_within l (suc v) b
      (sym (has_same S.valid v b) ∙ t) in
      let w : (f : ℕ) → IsField f → get_or ws (place m f) 0 ≡ field l (number_in os) (suc v) b f = λ f h. node_word_lem m
      f lt h ∙ ap (λ (o : Option Node). field_at l (number_in os) o f) k in
      record {
        shift_is = get_shift ws m l (number_in os) (height l) v b w;
        owner_is = get_owner ws m l (number_in os) (height l) v b w ∙ sym (level_owner_lem S.valid (number_in os) v b);
        filled_is = get_filled ws m l (number_in os) (height l) v b w
            ∙ sym (filled_same (λ j. slot l (number_in os) v (slots * b + j)) ((pool_of ws).slot m)
            (get_slot ws m l (number_in os) (height l) v b w));
        marks_are = λ μ h. get_mark ws m l (number_in os) (height l) v b w μ h
            ∙ sym (marks_same l (lower (number_in os)) μ v b);
        slots_are = λ j h. let q : (slots * b + j) / slots ≡ b = omega arith in
            get_slot ws m l (number_in os) (height l) v b w j h
            ∙ sym (slot_same S.valid (number_in os) v (slots * b + j) (rw q inside));
      }

  pub from_places : Prescribes (pool_of ws) l (lower (number_in os))
  from_places = record {
    valid = to_chain S.valid;
    below = λ v b t. rw count_is (found v b t).0;
    apart = λ v b v' b' t t' e.
        let q : ◌≡◌ {A = Option Node} (some (node (suc v) b)) (some (node (suc v') b')) = sym (found v b t).1 ∙ ap
        (λ (m : ℕ). get_or os m none) e ∙ (found v' b' t').1 in
        let r : node (suc v) b ≡ node (suc v') b' = cc in
        let x : suc v ≡ suc v' = ap (λ (p : Node). p.tier) r in
        (omega arith, ap (λ (p : Node). p.number) r);
    nodes = node_is;
    frees = λ m lt f. words_free ws m (λ i h.
        let lt' : m < n = subst (λ (x : ℕ). m < x) count_is lt in
        node_word_lem m i lt' h ∙ ap (λ (o : Option Node). field_at l (number_in os) o i) (free m f (get_or os m none) refl));
    head_is = anchor head_word (omega arith) ∙ sym (head_same S.valid (number_in os));
    marks_are = anchor marks_word (omega arith);
  }
    where
      free : (m : ℕ) → ((v b : ℕ) → has_level l v b ≡ true → number_in os (suc v) b ≡ m → ⊥) → (o : Option Node) →
          get_or os m none ≡ o → o ≡ none
      free m f none e = refl
      free m f (some p) e = let (v, _, t, s) = there_is m p e in absurd (f v p.number t s)
