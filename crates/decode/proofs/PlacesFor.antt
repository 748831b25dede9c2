-- From the words to the whole: places for a numbering.
use Prim.Native.Nat.{ℕ, zero, suc, ◌+◌, ◌*◌, ◌/◌, ◌≤◌, ◌<◌}
use mathlib.Core.Path.{◌≡◌, refl, sym, ap, subst, ◌∙◌}
use mathlib.Core.Bool.{true, Bool}
use mathlib.Core.Logic.{⊎_elim}
use mathlib.Core.List.{List, ◌∷◌}
use mathlib.Core.Option.{Option, none, some}
use native.Mathlib.Omega.{arith}
use native.Mathlib.Nat.{le_refl, zero-add}
use lib.Dec.{eqb}
use lib.ListN.{length, get_or}
use borrow.Author.Tests.{eqb-true, eqb-false, eq-eqb}
use Rattle.blocks.specs.Lists.{any, up_to, In, Distinct, d_end, d_more, first}
use Rattle.blocks.proofs.BoolLaws.{by_t, clash}
use Rattle.blocks.proofs.ListLaws.{in_cons, each, first_yes, look, first_no}
use Rattle.blocks.proofs.UpToLaws.{length_up_to, get_d_up_to_or}
use Rattle.model.specs.declared.Entry.{Entry}
use Rattle.model.specs.Model.{Valid, within}
use Rattle.tree.specs.Tree.{Node, height, has, nodes, tier_order, slots}
use Rattle.tree.specs.Slots.{Numbering, slot}
use Rattle.tree.proofs.NodeListLaws.{nodes_in_lem, in_nodes, has_within, has_some, has_le, has_in}
use Rattle.layout.specs.Words.{owner, field, field_at, anchor_word, place, pool_words, IsField}
use Rattle.layout.specs.Places.{Places, Placed, number_in, standing}
use Rattle.layout.proofs.FieldLaws.{field_same}
use Rattle.layout.proofs.OwnerLaws.{parent}
use Rattle.layout.proofs.RenderLaws.{render_is}
use Rattle.layout.specs.Pool.{pool_of}
use Rattle.layout.specs.WellFormed.{Prescribed}
use Rattle.layout.proofs.FreeLaws.{free_words}
use Rattle.layout.proofs.NodeLaws.{all_words}
use Rattle.decode.proofs.Restrict.{has_level, Prescribes, NodeIs}
use Rattle.decode.proofs.SameTree.{to_sorted, has_same, slot_same, marks_same, level_owner_lem, head_same}
use Rattle.decode.proofs.PrescribedWords.{node}
use Rattle.tree.proofs.SlotLaws.{slot_num}
use Rattle.layout.proofs.NumberLaws.{in_standing, number_of_lem}
use Rattle.blocks.proofs.PlacingLaws.{none_some}

-- a list of places made number by number
module _ (f : ℕ → Option Node) where
  up_in : (p : Node) (from n : ℕ) → In p (standing (up_to f from n)) → (m : ℕ) × (from ≤ m) × (f m ≡ some p)
  up_in p from zero k = elim k [ ]
  up_in p from (suc n) k = go (f from) refl k (up_in p (suc from) n)
    where
      go : (o : Option Node) → f from ≡ o → In p (standing (o ∷ up_to f (suc from) n)) →
          (In p (standing (up_to f (suc from) n)) → (m : ℕ) × (suc from ≤ m) × (f m ≡ some p)) →
          (m : ℕ) × (from ≤ m) × (f m ≡ some p)
      go none e k r = let (m, h, q) = r k in (m, omega arith, q)
      go (some x) e k r =
          ⊎_elim (λ (d : p ≡ x). (from, le_refl from, e ∙ ap some (sym d)))
          (λ (k : In p (standing (up_to f (suc from) n))). let (m, h, q) = r k in (m, omega arith, q)) (in_cons k)

  up_once : ((m m' : ℕ) (p : Node) → f m ≡ some p → f m' ≡ some p → m ≡ m') → (from n : ℕ) →
      Distinct (standing (up_to f from n))
  up_once inj from zero = d_end
  up_once inj from (suc n) = go (f from) refl (up_once inj (suc from) n)
    where
      go : (o : Option Node) → f from ≡ o → Distinct (standing (up_to f (suc from) n)) →
          Distinct (standing (o ∷ up_to f (suc from) n))
      go none e d = d
      go (some x) e d = d_more {p = x} (λ k. let (m, h, q) = up_in x (suc from) n k in
          let z : from ≡ m = inj from m x e q in omega arith) d

-- a numbering by level as one by tier
abbrev pub raise : Numbering → Numbering
raise ν zero b = 0
raise ν (suc v) b = ν v b

-- a slot's word asks the numbering for its own node alone
-- the anchor's words one by one
four : (Q : ℕ → Type 0) → Q 0 → Q 1 → Q 2 → Q 3 → (i : ℕ) → i < 4 → Q i
four Q a b c d zero h = a
four Q a b c d (suc zero) h = b
four Q a b c d (suc (suc zero)) h = c
four Q a b c d (suc (suc (suc zero))) h = d
four Q a b c d (suc (suc (suc (suc i)))) h = absurd (omega arith)

-- PLACES FOR A NUMBERING
-- every node has a number of its own, below n
pub record Numbered (n : ℕ) (l : List Entry) (ν : Numbering) : Type 0 where
  pub below : (u b : ℕ) → has l u b ≡ true → ν u b < n
  pub apart : (u b u' b' : ℕ) → has l u b ≡ true → has l u' b' ≡ true → ν u b ≡ ν u' b' → (u ≡ u') × (b ≡ b')

-- the node with a number
abbrev numbered : Numbering → ℕ → Node → Bool
numbered ν m p = eqb (ν p.tier p.number) m

abbrev pub place_of : List Entry → Numbering → ℕ → Option Node
place_of l ν m = first (numbered ν m) (nodes l)

module _ (n : ℕ) (l : List Entry) (ν : Numbering) (num : Numbered n l ν) where
  place_some : (u b : ℕ) → has l u b ≡ true → place_of l ν (ν u b) ≡ some (node u b)
  place_some u b t = go (place_of l ν (ν u b)) refl
    where
      go : (o : Option Node) → place_of l ν (ν u b) ≡ o → o ≡ some (node u b)
      go none q =
          absurd (clash (eq-eqb (ν u b) _ refl) (look (first_no (numbered ν (ν u b)) (nodes l) q) (in_nodes l u b t)))
      go (some p) q =
          let (e, m) = first_yes (numbered ν (ν u b)) (each (nodes l) (λ x m. m)) q in
          let (a, c) = num.apart p.tier p.number u b (nodes_in_lem l m) t (eqb-true _ _ e) in
          λ i. some (record { tier = a i; number = c i })

  abbrev pub places_by : Places
  places_by = up_to (place_of l ν) 0 n

  pub place_is : (m : ℕ) (p : Node) → place_of l ν m ≡ some p →
      (has l p.tier p.number ≡ true) × (ν p.tier p.number ≡ m)
  place_is m p q = let (e, k) = first_yes (numbered ν m) (each (nodes l) (λ x k. k)) q in
      (nodes_in_lem l k, eqb-true _ _ e)

  place_at : (m : ℕ) → m < n → get_or places_by m none ≡ place_of l ν m
  place_at m lt = get_d_up_to_or none (place_of l ν) 0 n m lt ∙ ap (place_of l ν) (zero-add m)

  at_number : (u b : ℕ) → has l u b ≡ true → get_or places_by (ν u b) none ≡ some (node u b)
  at_number u b t = place_at (ν u b) (num.below u b t) ∙ place_some u b t

  pub placed : Placed n l places_by
  placed = record {
    size = length_up_to (place_of l ν) 0 n;
    sound = λ p k. let (m, h, q) = up_in (place_of l ν) p 0 n k in (place_is m p q).0;
    full = λ p t. in_standing p places_by (ν p.tier p.number) (at_number p.tier p.number t);
    once = up_once (place_of l ν) (λ m m' p e e'. sym (place_is m p e).1 ∙ (place_is m' p e').1) 0 n;
  }

  number_is : (u b : ℕ) → has l u b ≡ true → number_in places_by u b ≡ ν u b
  number_is u b t = number_of_lem (node u b) places_by (ν u b) placed.once (at_number u b t)

  -- the words by the places are those by the numbering
  head_num : slot l (number_in places_by) (height l) 0 ≡ slot l ν (height l) 0
  head_num = slot_num l ν (number_in places_by) (height l) 0
      (λ k. number_is (height l) 0 (has_in l (height l) 0 (le_refl _) k))

  owner_num : (v b : ℕ) → has l (suc v) b ≡ true → owner l (number_in places_by) (suc v) b ≡ owner l ν (suc v) b
  owner_num v b t =
      by_t (eqb (suc v) (height l)) (λ e. rw e)
      (λ e. let ne : suc v ≡ height l → ⊥ = eqb-false _ _ e in
      rw (e, number_is (suc (suc v)) (b / slots) (parent l (suc v) b t (omega (arith, has_le l (suc v) b t)))))

  field_num : (u b : ℕ) → has l u b ≡ true → (f : ℕ) → IsField f →
      field l (number_in places_by) u b f ≡ field l ν u b f
  field_num zero b t f h = absurd (omega (arith, has_some l 0 b t))
  field_num (suc v) b t f h =
      field_same l l ν (number_in places_by) v b (owner_num v b t) (λ m d _ q. refl)
      (λ d q. slot_num l ν (number_in places_by) v d (λ k. number_is v d
      (has_in l v d (omega (arith, has_le l (suc v) b t)) k))) f h

  pub place_words : (m f : ℕ) → m < n → IsField f → field_at l (number_in places_by) (get_or places_by m none) f ≡
      field_at l ν (place_of l ν m) f
  place_words m f lt h = ap (λ (o : Option Node). field_at l (number_in places_by) o f) (place_at m lt) ∙ go
      (place_of l ν m) refl
    where
      go : (o : Option Node) → place_of l ν m ≡ o → field_at l (number_in places_by) o f ≡ field_at l ν o f
      go none q = refl
      go (some p) q = field_num p.tier p.number (place_is m p q).0 f h

  pub anchor_words_lem : (i : ℕ) → i < 4 → anchor_word l (number_in places_by) n i ≡ anchor_word l ν n i
  anchor_words_lem i h = four (λ i. anchor_word l (number_in places_by) n i ≡ anchor_word l ν n i) refl head_num refl refl i h

-- FROM THE WORDS TO THE WHOLE
module _ (ws : List ℕ) (l : List Entry) (ν : Numbering) (R : Prescribes (pool_of ws) l ν) where
  valid : Valid l
  valid = to_sorted 0 l R.valid

  has_of : (v b : ℕ) → has l (suc v) b ≡ true → has_level l v b ≡ true
  has_of v b t = has_same valid v b ∙ t

  pub num : Numbered (get_or ws 0 0) l (raise ν)
  num = record { below = below; apart = apart }
    where
      below : (u b : ℕ) → has l u b ≡ true → raise ν u b < get_or ws 0 0
      below zero b t = absurd (omega (arith, has_some l 0 b t))
      below (suc v) b t = R.below v b (has_of v b t)

      apart : (u b u' b' : ℕ) → has l u b ≡ true → has l u' b' ≡ true → raise ν u b ≡ raise ν u' b' →
          (u ≡ u') × (b ≡ b')
      apart zero b u' b' t t' e = absurd (omega (arith, has_some l 0 b t))
      apart (suc v) b zero b' t t' e = absurd (omega (arith, has_some l 0 b' t'))
      apart (suc v) b (suc v') b' t t' e = let (p, q) = R.apart v b v' b' (has_of v b t) (has_of v' b' t') e in
          (ap suc p, q)

  abbrev pub places : Places
  places = places_by (get_or ws 0 0) l (raise ν) num

  field_is : (v b : ℕ) → has l (suc v) b ≡ true → (f : ℕ) → IsField f →
      get_or ws (place (ν v b) f) 0 ≡ field l (raise ν) (suc v) b f
  field_is v b t =
      let m : ℕ = ν v b in
      let I : NodeIs (pool_of ws) l ν m v b = R.nodes v b (has_of v b t) in
      let inside : any (within (tier_order (suc v)) b) l ≡ true = has_within l (suc v) b t in
      all_words ws m l (raise ν) (height l) v b I.shift_is
      (I.owner_is ∙ level_owner_lem valid (raise ν) v b)
      I.filled_is
      (λ μ h. I.marks_are μ h ∙ marks_same l ν μ v b)
      (λ j h. let q : (slots * b + j) / slots ≡ b = omega arith in
      I.slots_are j h ∙ slot_same valid (raise ν) v (slots * b + j) (rw q inside))

  node_words_lem : (m f : ℕ) → m < get_or ws 0 0 → IsField f → (o : Option Node) → place_of l (raise ν) m ≡ o →
      get_or ws (place m f) 0 ≡ field_at l (raise ν) o f
  node_words_lem m f lt h none q =
      free_words ws m (R.frees m lt (λ v b t e. none_some
      (sym q ∙ ap (place_of l (raise ν)) (sym e) ∙ place_some (get_or ws 0 0) l (raise ν) num (suc v) b
      (sym (has_same valid v b) ∙ t)))) f h
  node_words_lem m f lt h (some p) q = let (t, e) = place_is (get_or ws 0 0) l (raise ν) num m p q in go p.tier t e
    where
      go : (u : ℕ) → has l u p.number ≡ true → raise ν u p.number ≡ m →
          get_or ws (place m f) 0 ≡ field l (raise ν) u p.number f
      go zero t e = absurd (omega (arith, has_some l 0 p.number t))
      go (suc v) t e = subst (λ (m : ℕ). get_or ws (place m f) 0 ≡ field l (raise ν) (suc v) p.number f) e
          (field_is v p.number t f h)

  pub to_places : length ws ≡ pool_words (get_or ws 0 0) → get_or ws 3 0 ≡ 0 → Prescribed (get_or ws 0 0) l places ws
  to_places len spare = record {
    valid = valid;
    placed = placed (get_or ws 0 0) l (raise ν) num;
    words_are = render_is l places (get_or ws 0 0) ws len
        (λ i h. four (λ i. get_or ws i 0 ≡ anchor_word l (raise ν) (get_or ws 0 0) i) refl
        (R.head_is ∙ head_same valid (raise ν)) R.marks_are spare i h ∙ sym
        (anchor_words_lem (get_or ws 0 0) l (raise ν) num i h))
        (λ m f lt h. node_words_lem m f lt h (place_of l (raise ν) m) refl ∙ sym
        (place_words (get_or ws 0 0) l (raise ν) num m f lt h));
  }
