-- Decoding: the words that a list prescribes at some places give both back.
use Prim.Native.Nat.{ℕ, zero, suc, ◌+◌, ◌*◌, ◌-◌, ◌/◌, ◌%◌, ◌≤◌, ◌<◌}
use mathlib.Core.Path.{◌≡◌, refl, sym, ap, subst, ◌∙◌}
use mathlib.Core.Bool.{true}
use mathlib.Core.List.{List}
use mathlib.Core.Option.{Option, none, some}
use native.Mathlib.Omega.{arith}
use native.Mathlib.Nat.{zero-add}
use lib.ListN.{get_or, length}
use lib.Seq.{ext_get_or}
use borrow.Author.Tests.{ne_eqb}
use Rattle.blocks.proofs.UpToLaws.{length_up_to, get_d_up_to_or}
use Rattle.model.specs.declared.Entry.{Entry}
use Rattle.tree.specs.Tree.{Node, height, tier_order, slots}
use Rattle.tree.specs.Slots.{Numbering}
use Rattle.layout.specs.Words.{field_at, pool_words, shift_field, shift_place}
use Rattle.layout.specs.Places.{Places, number_in, word_at}
use Rattle.layout.specs.Pool.{Pool, pool_of}
use Rattle.layout.specs.Decode.{level_of, block_of, place_in, top_of, list_of, places_of}
use Rattle.layout.specs.WellFormed.{Prescribed, WellFormed, Sized}
use Rattle.decode.proofs.Restrict.{has_level, Prescribes}
use Rattle.decode.proofs.SlotsShown.{has_parts}
use Rattle.decode.proofs.ListBack.{no_node, a_node, head, head_slot_lem, head_level, head_zero, has_up, list_back}
use Rattle.decode.proofs.SameTree.{lower}
use Rattle.decode.proofs.PrescribedWords.{node, count_is, node_word_lem, there_is, from_places}

module _ (P : Pool) (l : List Entry) (ν : Numbering) (R : Prescribes P l ν) (t : ℕ) (ht : height l ≡ suc t) where
  block_back : (d v b : ℕ) → v + d ≡ t → has_level l v b ≡ true → block_of P d (ν v b) ≡ b
  block_back zero v b e h = let q : v ≡ t = omega arith in
      sym (head_zero P l ν R t ht b (subst (λ (x : ℕ). has_level l x b ≡ true) q h))
  block_back (suc d) v b e h =
      let u : has_level l (suc v) (b / slots) ≡ true = has_up P l ν R t ht v b (omega arith) h in
      let o : P.owner (ν v b) ≡ 1 + slots * ν (suc v) (b / slots) + b % slots = (R.nodes v b h).owner_is ∙
      (rw (ht, ne_eqb (suc v) (suc t) (λ (y : suc v ≡ suc t). omega arith))) in
      let p : (P.owner (ν v b) - 1) / slots ≡ ν (suc v) (b / slots) = omega arith in
      let r : (P.owner (ν v b) - 1) % slots ≡ b % slots = omega arith in
      rw (p, r, block_back d (suc v) (b / slots) (omega arith) u) (omega arith)

  place_back : (v b : ℕ) → has_level l v b ≡ true → place_in P (ν v b) ≡ some (node (suc v) b)
  place_back v b h =
      let s : P.shift (ν v b) ≡ tier_order v + 1 = (R.nodes v b h).shift_is in
      let lv : level_of P (ν v b) ≡ v = omega arith in
      let tp : top_of P ≡ t = rw (head_slot_lem P l ν R t ht) (head_level P l ν R t ht) in
      let le : v ≤ t = omega (arith, (has_parts P l ν R v b h).0, ht) in
      rw (
        ne_eqb (P.shift (ν v b)) 0 (λ (z : P.shift (ν v b) ≡ 0). omega arith),
        tp,
        lv,
        block_back (t - v) v b (omega arith) h,
      )

module _ {n : ℕ} {l : List Entry} {os : Places} {ws : List ℕ} (S : Prescribed n l os ws) where
  R : Prescribes (pool_of ws) l (lower (number_in os))
  R = from_places n l os ws S

  -- words from a list and places decode to that list and those places
  pub decode_list : list_of ws ≡ l
  decode_list = list_back (pool_of ws) l (lower (number_in os)) R

  place_at : (m : ℕ) → m < n → (o : Option Node) → get_or os m none ≡ o → place_in (pool_of ws) m ≡ o
  place_at m lt none e =
      let z : get_or ws (shift_place m) 0 ≡ 0 =
      node_word_lem n l os ws S m shift_field lt (omega arith) ∙ ap
      (λ (o : Option Node). field_at l (number_in os) o shift_field) e in
      rw z
  place_at m lt (some p) e =
      let (v, u, h, s) = there_is n l os ws S m p e in
      elim (head (pool_of ws) l (lower (number_in os)) R) [
        | no_node z ↦ absurd (omega (arith, (has_parts (pool_of ws) l (lower (number_in os)) R v p.number h).0, z))
        | a_node t z ↦ subst (λ (k : ℕ). place_in (pool_of ws) k ≡ some p) s
            (place_back (pool_of ws) l (lower (number_in os)) R t z v p.number h
            ∙ (λ i. some (record { tier = sym u i; number = p.number })))
      ]

  pub decode_places : places_of ws ≡ os
  decode_places =
      let f : ℕ → Option Node = place_in (pool_of ws) in
      let k : ℕ = get_or ws 0 0 in
      ext_get_or none (places_of ws) os (length_up_to f 0 k ∙ count_is n l os ws S ∙ sym S.placed.size)
      (λ i h. let lt : i < k = subst (λ (k : ℕ). i < k) (length_up_to f 0 k) h in
      get_d_up_to_or none f 0 k i lt ∙ ap f (zero-add i)
      ∙ place_at i (subst (λ (k : ℕ). i < k) (count_is n l os ws S) lt) (get_or os i none) refl)

-- the list that prescribes words is unique, and so are its places
pub unique : {n n' : ℕ} {l l' : List Entry} {os os' : Places} {ws : List ℕ} → Prescribed n l os ws →
    Prescribed n' l' os' ws → (l ≡ l') × (os ≡ os')
unique S S' = (sym (decode_list S) ∙ decode_list S', sym (decode_places S) ∙ decode_places S')

-- A WELL-FORMED POOL
module _ {ws : List ℕ} (s : WellFormed ws) where
  pub prescribed : Prescribed s.n s.list s.places ws
  prescribed = record { valid = s.valid; placed = s.placed; words_are = s.words_are }

  pub well_formed_list : list_of ws ≡ s.list
  well_formed_list = decode_list prescribed

  pub well_formed_sized : Sized s.n ws
  well_formed_sized = record {
    size = ap length s.words_are ∙ length_up_to (word_at s.list s.places s.n) 0 (pool_words s.n);
    least = s.least;
    most = s.most;
  }
