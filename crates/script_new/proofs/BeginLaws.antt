-- Where the rows of a store of a new entry begin: on the path, and over index 0.
use Prim.Native.Nat.{ℕ, zero, suc, ◌+◌, ◌-◌, ◌/◌, ◌≤◌, ◌<◌}
use mathlib.Core.Path.{◌≡◌, refl, sym, ap, subst, ◌∙◌}
use mathlib.Core.Bool.{Bool, true, false}
use mathlib.Core.List.{List, [], ◌∷◌}
use mathlib.Core.Option.{Option, none}
use native.Mathlib.Omega.{arith}
use lib.Dec.{leb, ltb, eqb}
use lib.ListN.{get_or}
use borrow.Author.Tests.{leb-true, leb-false, ltb-true, ltb-false, eqb-true, eqb-false}
use Rattle.blocks.specs.Lists.{any, nonempty}
use Rattle.blocks.specs.Blocks.{block}
use Rattle.blocks.proofs.BoolLaws.{by_t, clash}
use Rattle.model.specs.declared.Entry.{Entry}
use Rattle.model.specs.Model.{within}
use Rattle.model.specs.ByBlock.{store_new}
use Rattle.model.proofs.RangeLaws.{Apart}
use Rattle.tree.specs.Tree.{slot_bits, tier_order, height, has}
use Rattle.tree.specs.Slots.{Numbering, slot, node_word}
use Rattle.tree.proofs.NodeListLaws.{has_in}
use Rattle.layout.specs.Words.{mark_place, slot_place}
use Rattle.layout.specs.Places.{number_in, new_places}
use Rattle.layout.specs.WellFormed.{WellFormed}
use Rattle.plan.specs.declared.Heads.{Heads}
use Rattle.plan.proofs.AfterStoreLaws.{apart_zero, low_path}
use Rattle.script_rows.specs.Row.{Copies, RunPut, OtherRows}
use Rattle.script_rows.specs.Becomes.{word_in, marks_in, Base, Begun, Copied, Edits}
use Rattle.script_rows.proofs.BecomesLaws.{within_apart}
use Rattle.script_rows.proofs.EditsLaws.{edits_new}
use Rattle.script_rows.proofs.GrowthLaws.{base_bare, base_over, under_head, under_chain}
use Rattle.script_rows.proofs.PathLaws.{copies}
use Rattle.script_rows.proofs.RowLaws.{base_new}
use Rattle.script_new.specs.New.{NewList, NewPlanned}
use Rattle.script_new.specs.Chain.{under_word, beside_of, BegunNew, ChainFinal, Chains}
use Rattle.script_new.proofs.ChainLaws.{final_old, final_new}
use Rattle.script_new.proofs.NewLaws as N
use Rattle.script_new.proofs.NewLaws.{Stays, stays_of, of_stays}

some_of : (p : Entry → Bool) (l : List Entry) → any p l ≡ true → nonempty l ≡ true
some_of p [] e = absurd (clash e refl)
some_of p (x ∷ l) e = refl

-- a row below the one that is written stays as it begins
base_under : {i k : ℕ} {l' : List Entry} {μ : Numbering} {rs rs' : List ℕ} {u r : ℕ} → OtherRows rs rs' r → u + 1 < r →
    Base i k l' μ rs (u + 1) u → Base i k l' μ rs' (u + 1) u
base_under {u = u} o h b = record {
  slots_are = λ j g a. o.before (slot_place (u + 1) j) (omega arith) ∙ b.slots_are j g a;
  marks_of_lem = b.marks_of_lem;
  marks_are = λ x g. o.before (mark_place (u + 1) x) (omega arith) ∙ b.marks_are x g;
  apart_are = b.apart_are;
}

module _ {ws : List ℕ} (s : WellFormed ws) {i k w : ℕ} {heads : Heads} {ps cs : List ℕ}
    (np : NewPlanned s (record { index = i; order = k; word = w }) heads ps cs) {m : ℕ} {o : Option Entry} {l' : List Entry}
    (nl : NewList s i k w m o l') where
  abbrev l : List Entry
  l = s.list

  abbrev μ : Numbering
  μ = number_in (new_places l l' s.places)

  top_is : heads.new ≡ height l'
  top_is = N.height_is s np nl

  old_is : heads.old ≡ height l
  old_is = np.known.h_is

  -- THE HEAD STAYS
  edits : height l' ≡ height l → Edits s i k (word_in o) (marks_in o) ps (height l') o l' μ
  edits e = edits_new s nl.becomes nl.valid ps (N.enough s np nl) e
      (λ u a b. N.path_has s np nl u a (omega (arith, top_is))) (λ u a b. N.path_is s np nl u a (omega (arith, top_is)))

  begun_same : {rs : List ℕ} → heads.new ≤ heads.old → heads.old ≤ heads.new → Copied ws ps (k / slot_bits) rs heads.new →
      Begun i k l' μ rs heads.new (k / slot_bits)
  begun_same {rs} h g c = record {
    bases = λ u a b. (edits (omega (arith, top_is, old_is))).bases u a (omega (arith, top_is)) rs rs (u + 1) (copies c u a b);
  }

  -- THE HEAD GROWS
  module _ (grows : heads.old < heads.new) where
    abbrev B : ℕ → ℕ
    B u = block (tier_order (suc u)) i

    -- a node above the old head, or one with nothing of the old tree below it
    base_grown : {rs : List ℕ} → Copied ws ps (k / slot_bits) rs heads.new → (u : ℕ) → k / slot_bits ≤ u → u < heads.new →
        (any (within (tier_order (suc u)) (B u)) l ≡ true → B u ≡ 0 → Apart i k (tier_order u) 0 → ⊥) →
        Base i k l' μ rs (u + 1) u
    base_grown {rs} c u a b alone =
        by_t (any (within (tier_order (suc u)) (B u)) l)
        (λ t. base_bare s nl.becomes nl.valid μ u (high t) free.0 free.1 (copies c u a b) (alone t))
        (λ f. base_new s nl.becomes nl.valid μ (omega arith) f free.0 free.1 (copies c u a b))
      where
        gone : has l (suc u) (B u) ≡ false
        gone = N.no_path s np nl grows (suc u) (omega arith) (omega arith)

        free : (get_or ps (suc u) 0 < s.n) × (get_or s.places (get_or ps (suc u) 0) none ≡ none)
        free = N.was_free s np nl (suc u) (B u) (get_or ps (suc u) 0) (N.path_has s np nl (suc u) (omega arith) (omega arith)) gone
            (N.path_is s np nl (suc u) (omega arith) (omega arith))

        high : any (within (tier_order (suc u)) (B u)) l ≡ true → height l ≤ u
        high t = by_t (leb (suc u) (height l)) (λ y. absurd (clash (has_in l (suc u) (B u) (leb-true _ _ y) t) gone))
            (λ y. let z : height l < suc u = leb-false _ _ y in omega arith)

    -- the whole old tree lies in the range, or there is none
    begun_bare : {rs : List ℕ} → (Stays s heads i k → ⊥) → Copied ws ps (k / slot_bits) rs heads.new →
        Begun i k l' μ rs heads.new (k / slot_bits)
    begun_bare {rs} none_stays c = record {
      bases = λ u a b. base_grown c u a b (λ t z ap. by_t (eqb (block k i) 0)
          (λ e. apart_zero np.known.new gr u ap (eqb-true _ _ e))
          (λ e. none_stays (record {
            grows = grows;
            some_old = some_of (within (tier_order (suc u)) (B u)) l t;
            beside = eqb-false _ _ e;
          })));
    }
      where
        gr : height l < height (store_new l i k w)
        gr = omega (arith, np.known.top_is, old_is)

  -- BESIDE THE OLD TREE
  module _ (st : Stays s heads i k) (head_is : heads.word ≡ get_or ws 1 0) (marks_is : heads.marks ≡ get_or ws 2 0) where
    under_is : (t : ℕ) → heads.old ≤ t → t < heads.new → under_word heads cs t ≡ slot l' μ t 0
    under_is t a b =
        by_t (eqb t heads.old)
        (λ e. let z : t ≡ heads.old = eqb-true _ _ e in
        rw e (head_is ∙ sym (under_head s nl.becomes nl.valid μ t (omega (arith, old_is)) (N.zero_off s np nl st t b)
        (omega (arith, old_is)) (λ y. N.stays_number s np nl t 0 (has_in l t 0 (omega (arith, old_is)) y)
        (has_in l' t 0 (omega (arith, top_is)) (within_apart nl.becomes t 0 (N.zero_off s np nl st t b) ∙ y))))))
        (λ e. let ne : t ≡ heads.old → ⊥ = eqb-false _ _ e in
        rw e (ap node_word (N.chain_is s np nl st t a (omega arith) (omega arith))
        ∙ sym (under_chain s nl.becomes nl.valid μ t (omega (arith, old_is)) (N.zero_off s np nl st t b)
        (omega (arith, old_is)) st.some_old)))

    low_base : {rs : List ℕ} → Copied ws ps (k / slot_bits) rs heads.new → (u : ℕ) → k / slot_bits ≤ u → suc u < heads.new →
        Base i k l' μ rs (u + 1) u
    low_base c u a b = base_grown st.grows c u a (omega arith)
        (λ t z _. low_path np.known.new (omega (arith, np.known.top_is, old_is, st.grows)) (suc u)
        (omega (arith, np.known.top_is)) (omega arith) z)

    head_base : {rs rs' : List ℕ} (u : ℕ) → suc u ≡ heads.new → Copied ws ps (k / slot_bits) rs heads.new → k / slot_bits ≤ u →
        RunPut rs rs' (u + 1) 0 1 (under_word heads cs u) heads.marks → Base i k l' μ rs' (u + 1) u
    head_base {rs} {rs'} u e c a p =
        base_over s nl.becomes nl.valid μ u (omega (arith, old_is, st.grows)) free.0 free.1
        (copies c u a (omega arith)) flat p (under_is u (omega (arith, st.grows)) (omega arith)) marks_is
      where
        flat : block (tier_order (suc u)) i ≡ 0
        flat = subst (λ (t : ℕ). block (tier_order t) i ≡ 0) (sym e) (N.head_flat s np)

        free : (get_or ps (suc u) 0 < s.n) × (get_or s.places (get_or ps (suc u) 0) none ≡ none)
        free = N.was_free s np nl (suc u) (block (tier_order (suc u)) i) (get_or ps (suc u) 0)
            (N.path_has s np nl (suc u) (omega arith) (omega arith))
            (N.no_path s np nl st.grows (suc u) (omega arith) (omega arith))
            (N.path_is s np nl (suc u) (omega arith) (omega arith))

    begun_over : {rs rs' : List ℕ} → Copied ws ps (k / slot_bits) rs heads.new →
        RunPut rs rs' heads.new 0 1 (under_word heads cs (heads.new - 1)) heads.marks →
        Begun i k l' μ rs' heads.new (k / slot_bits)
    begun_over {rs} {rs'} c p = record {
      bases = λ u a b. by_t (eqb (suc u) heads.new)
          (λ e. let z : suc u ≡ heads.new = eqb-true _ _ e in
          let y : heads.new ≡ u + 1 = omega arith in
          let x : heads.new - 1 ≡ u = omega arith in
          head_base u z c a (subst (λ (t : ℕ). RunPut rs rs' (u + 1) 0 1 (under_word heads cs t) heads.marks) x
          (subst (λ (r : ℕ). RunPut rs rs' r 0 1 (under_word heads cs (heads.new - 1)) heads.marks) y p)))
          (λ e. let ne : suc u ≡ heads.new → ⊥ = eqb-false _ _ e in
          base_under p.others (omega arith) (low_base c u a (omega arith)));
    }

    -- THE ROWS OVER INDEX 0
    old_row : (u : ℕ) → u ≡ heads.old → 1 ≤ u → (rs rs' : List ℕ) (r : ℕ) → Copies ws (get_or cs u 0) rs rs' r →
        ChainFinal l' μ rs' r (u - 1)
    old_row zero e p rs rs' r c = absurd (omega arith)
    old_row (suc t) e p rs rs' r c =
        let z : t ≡ suc t - 1 = omega arith in
        subst (ChainFinal l' μ rs' r) z
        (final_old s nl.becomes nl.valid μ t (N.zero_off s np nl st (suc t) (omega (arith, st.grows))) there
        (N.chain_is s np nl st (suc t) (omega arith) p (omega (arith, st.grows))
        ∙ N.stays_number s np nl (suc t) 0 there (N.zero_has s np nl st (suc t) (omega arith) p (omega (arith, st.grows))))
        (λ d a y. N.stays_number s np nl t d (has_in l t d (omega (arith, old_is)) y)
        (has_in l' t d (omega (arith, top_is, st.grows)) (within_apart nl.becomes t d a ∙ y))) c)
      where
        there : has l (suc t) 0 ≡ true
        there = subst (λ (u : ℕ). has l u 0 ≡ true) (sym (e ∙ old_is)) (N.old_has s np nl st (omega arith))

    new_row : (u : ℕ) → heads.old < u → u < heads.new → (rs rs₁ rs₂ : List ℕ) (r : ℕ) →
        Copies ws (get_or cs u 0) rs rs₁ r → RunPut rs₁ rs₂ r 0 1 (under_word heads cs (u - 1)) heads.marks →
        ChainFinal l' μ rs₂ r (u - 1)
    new_row zero a b rs rs₁ rs₂ r c p = absurd (omega arith)
    new_row (suc t) a b rs rs₁ rs₂ r c p =
        let z : suc t - 1 ≡ t = omega arith in
        subst (ChainFinal l' μ rs₂ r) (sym z)
        (final_new s nl.becomes nl.valid μ t (N.zero_off s np nl st (suc t) b) (omega (arith, old_is)) free.0 free.1 c
        (subst (λ (y : ℕ). RunPut rs₁ rs₂ r 0 1 (under_word heads cs y) heads.marks) z p)
        (under_is t (omega arith) (omega arith)) marks_is)
      where
        free : (get_or cs (suc t) 0 < s.n) × (get_or s.places (get_or cs (suc t) 0) none ≡ none)
        free = N.was_free s np nl (suc t) 0 (get_or cs (suc t) 0) (N.zero_has s np nl st (suc t) (omega arith) (omega arith) (omega arith))
            (N.new_zero s np nl st (suc t) a) (N.chain_is s np nl st (suc t) (omega arith) (omega arith) (omega arith))

    pub chains_new : Chains ws heads cs l' μ
    chains_new = record { numbers = N.chain_is s np nl st; old_head = old_row; new_node_lem = new_row }

  -- ALL CASES
  pub begun_new : heads.word ≡ get_or ws 1 0 → heads.marks ≡ get_or ws 2 0 → heads.old ≤ heads.new → {b : Bool} {rs : List ℕ} →
      b ≡ beside_of heads k i → BegunNew ws ps cs heads (k / slot_bits) b rs → Begun i k l' μ rs heads.new (k / slot_bits)
  begun_new he me le {b} {rs} e g =
      by_t b
      (λ t. begun_over (stays_of s heads i k he (sym e ∙ t)) he me g.copied (g.over t))
      (λ f. subst (λ (x : List ℕ). Begun i k l' μ x heads.new (k / slot_bits)) (sym (g.bare f))
      (by_t (ltb heads.old heads.new)
      (λ y. begun_bare (ltb-true _ _ y) (λ st. clash (of_stays s heads i k he st) (sym e ∙ f)) g.copied)
      (λ y. begun_same (ltb-false _ _ y) le g.copied)))
