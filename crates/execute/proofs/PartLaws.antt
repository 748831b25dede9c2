-- What lies outside the part of a command stays (R39 to R41).
use Prim.Native.Nat.{ℕ, zero, suc, ◌+◌, ◌*◌, ◌^◌, ◌≤◌, ◌<◌}
use mathlib.Core.Path.{◌≡◌, refl, sym, ap, subst, ◌∙◌}
use mathlib.Core.Bool.{Bool, true, false}
use mathlib.Core.Logic.{◌≢◌}
use mathlib.Core.List.{List}
use mathlib.Core.Option.{Option, none, some}
use native.Mathlib.Omega.{arith}
use lib.Dec.{ltb}
use lib.ListN.{get_or}
use borrow.Author.Tests.{lt-ltb, eqb-false}
use Rattle.blocks.specs.Choice.{either}
use Rattle.blocks.specs.Blocks.{block}
use Rattle.blocks.proofs.BoolLaws.{by_t, clash}
use Rattle.blocks.proofs.BlockLaws.{block_lo, block_hi}
use Rattle.model.specs.declared.Entry.{Entry}
use Rattle.model.specs.Model.{aligned}
use Rattle.model.proofs.RangeLaws.{Apart}
use Rattle.model.proofs.AlignedLaws.{whole}
use Rattle.tree.specs.Tree.{tier_order, height, has, Node}
use Rattle.layout.specs.Words.{anchor_words, node_of, field_in, field_at, field, IsField}
use Rattle.layout.specs.Places.{Places, number_in, new_places, allocate, keep_if, word_at}
use Rattle.layout.proofs.NumberLaws.{prune_get, allocate_stays, keep_some, in_standing}
use Rattle.execute.specs.State.{State, Kept}
use Rattle.execute.specs.Part.{Range, first_of, meets_range, is_head, node_part, in_part}
use Rattle.execute.proofs.LocalLaws.{Agree, field_agree}
use Rattle.tree.proofs.NodeListLaws.{has_tier}

-- A BLOCK THAT DOES NOT MEET THE RANGE lies apart from it
pub apart_range : (r : Range) (p : Node) → aligned r.order r.index ≡ true → meets_range r p ≡ false →
    Apart r.index r.order (tier_order p.tier) p.number
apart_range r p al t y e q =
    let j : ℕ = tier_order p.tier in
    let w : block r.order r.index * 2 ^ r.order ≡ r.index = whole r.index r.order al in
    let lo : first_of p ≤ y = subst (λ (c : ℕ). c * 2 ^ j ≤ y) e (block_lo j y) in
    let hi : y < first_of p + 2 ^ j = subst (λ (c : ℕ). y < c * 2 ^ j + 2 ^ j) e (block_hi j y) in
    let from : r.index ≤ y =
    subst (λ (b : ℕ). b ≤ y) (ap (λ (c : ℕ). c * 2 ^ r.order) q ∙ w) (block_lo r.order y) in
    let to : y < r.index + 2 ^ r.order =
    subst (λ (b : ℕ). y < b + 2 ^ r.order) (ap (λ (c : ℕ). c * 2 ^ r.order) q ∙ w) (block_hi r.order y) in
    clash {b = meets_range r p}
    (rw (lt-ltb r.index (first_of p + 2 ^ j) (omega arith)) (lt-ltb (first_of p) (r.index + 2 ^ r.order) (omega arith))) t

either_no_l : (a b : Bool) → either a b ≡ false → a ≡ false
either_no_l true b t = t
either_no_l false b t = refl

either_no_r : (a b : Bool) → either a b ≡ false → b ≡ false
either_no_r true b t = absurd (clash refl t)
either_no_r false b t = t

-- A WORD OUTSIDE THE PART, where the list changes only within the range
module _ (n : ℕ) (s : State) (kp : Kept n s) (r : Range) (al : aligned r.order r.index ≡ true) (l' : List Entry)
    (ag : Agree r.index r.order s.list l') where
  -- what stands at a number after the command stood there, or the number was free
  stood : (m : ℕ) {p q : Node} → get_or s.places m none ≡ some p →
      get_or (new_places s.list l' s.places) m none ≡ some q → (p ≡ q) × (has l' q.tier q.number ≡ true)
  stood m {p} {q} e g =
      let a : Places = allocate s.places _ in
      let k : keep_if l' (get_or a m none) ≡ some q = sym (prune_get l' a m) ∙ g in
      let (b, t) = keep_some l' (get_or a m none) q k in
      let c : get_or a m none ≡ some p = allocate_stays s.places _ m p e in
      (cc, t)

  same_node : (p : Node) (f : ℕ) → IsField f → has s.list p.tier p.number ≡ true →
      has l' p.tier p.number ≡ true → p.tier ≢ height s.list → p.tier ≢ height l' → meets_range r p ≡ false →
      field l' (number_in (new_places s.list l' s.places)) p.tier p.number f
      ≡ field s.list (number_in s.places) p.tier p.number f
  same_node p f lt t t' h h' z = go p.tier refl
    where
      go : (u : ℕ) → p.tier ≡ u →
          field l' (number_in (new_places s.list l' s.places)) p.tier p.number f
          ≡ field s.list (number_in s.places) p.tier p.number f
      go zero e = absurd (omega (arith, (has_tier s.list p.tier p.number t).0))
      go (suc v) e =
          let F : ℕ → Type 0 = λ u.
          field l' (number_in (new_places s.list l' s.places)) u p.number f
          ≡ field s.list (number_in s.places) u p.number f in
          subst F (sym e)
          (field_agree r.index r.order ag n kp.placed v p.number
          (subst (λ (u : ℕ). has s.list u p.number ≡ true) e t)
          (subst (λ (u : ℕ). has l' u p.number ≡ true) e t') (λ x. h (e ∙ x)) (λ x. h' (e ∙ x))
          (subst (λ (u : ℕ). Apart r.index r.order (tier_order u) p.number) e (apart_range r p al z)) f lt)

  node_same : (m f : ℕ) → IsField f → (o o' : Option Node) → get_or s.places m none ≡ o →
      get_or (new_places s.list l' s.places) m none ≡ o' → node_part s.list l' r o o' ≡ false →
      field_at l' (number_in (new_places s.list l' s.places)) o' f ≡ field_at s.list (number_in s.places) o f
  node_same m f lt none none e e' z = refl
  node_same m f lt none (some q) e e' z = absurd (clash refl z)
  node_same m f lt (some p) none e e' z = absurd (clash refl z)
  node_same m f lt (some p) (some q) e e' z =
      let (d, t') = stood m e e' in
      let t : has s.list p.tier p.number ≡ true = kp.placed.sound p (in_standing p s.places m e) in
      let z₁ : is_head s.list p ≡ false = either_no_l (is_head s.list p) _ z in
      let z₂ : either (is_head l' q) (meets_range r p) ≡ false = either_no_r (is_head s.list p) _ z in
      let z₃ : is_head l' q ≡ false = either_no_l (is_head l' q) (meets_range r p) z₂ in
      let z₄ : meets_range r p ≡ false = either_no_r (is_head l' q) (meets_range r p) z₂ in
      subst (λ (x : Node). field_at l' (number_in (new_places s.list l' s.places)) (some x) f
      ≡ field_at s.list (number_in s.places) (some p) f) d
      (same_node p f lt t (subst (λ (x : Node). has l' x.tier x.number ≡ true) (sym d) t') (eqb-false _ _ z₁)
      (eqb-false _ _ (subst (λ (x : Node). is_head l' x ≡ false) (sym d) z₃)) z₄)

  pub word_same : (w : ℕ) →
      in_part s (record { list = l'; places = new_places s.list l' s.places }) r w ≡ false →
      word_at l' (new_places s.list l' s.places) n w ≡ word_at s.list s.places n w
  word_same w z =
      by_t (ltb w anchor_words) (λ t. absurd (clash refl (rw t at z)))
      (λ t. rw t (node_same (node_of w) (field_in w) (omega arith) _ _ refl refl
      (rw t at z)))
