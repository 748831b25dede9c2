-- The commands as edits: where the path's numbers come from, and that each row begins right.
use Prim.Native.Nat.{ℕ, suc, ◌+◌, ◌/◌, ◌≤◌, ◌<◌}
use mathlib.Core.Path.{◌≡◌, refl, sym, ap, subst, ◌∙◌}
use mathlib.Core.Bool.{true, false}
use mathlib.Core.List.{List}
use mathlib.Core.Option.{Option, none}
use native.Mathlib.Omega.{arith}
use lib.ListN.{get_or}
use Rattle.blocks.specs.Blocks.{block}
use Rattle.blocks.proofs.BoolLaws.{by_t, clash, is_false}
use Rattle.model.specs.declared.Entry.{Entry}
use Rattle.model.specs.Model.{Valid}
use Rattle.tree.specs.Tree.{slot_bits, tier_order, height, has, needed}
use Rattle.tree.specs.Slots.{Numbering}
use Rattle.tree.proofs.NodeListLaws.{has_in}
use Rattle.layout.specs.Places.{number_in, free_count, new_places}
use Rattle.layout.specs.WellFormed.{WellFormed, num}
use Rattle.layout.proofs.NewNumberLaws.{kept, was_not, new_at}
use Rattle.plan.specs.Plan.{Walked}
use Rattle.script_rows.specs.Row.{Copies}
use Rattle.script_rows.specs.Becomes.{Becomes, word_in, marks_in, Base, Edits}
use Rattle.script_rows.proofs.BecomesLaws.{within_apart}
use Rattle.script_rows.proofs.RowLaws.{base_old, base_new}

module _ {ws : List ℕ} (s : WellFormed ws) {i k : ℕ} {o : Option Entry} {l' : List Entry}
    (b : Becomes i k o s.list l') (v' : Valid l') (ps : List ℕ) where
  -- THE ENTRY IS THERE: no node is new, and the numbers are those of the way down
  pub edits_old : {h : ℕ} → Walked s.list (num s) i (k / slot_bits) h ps (k / slot_bits + 1) →
      Edits s i k (word_in o) (marks_in o) ps h o l' (num s)
  edits_old {h} w = record {
    becomes = b;
    valid = v';
    word_is = refl;
    marks_is = refl;
    numbers = λ u a z. w.numbers u (omega arith) z;
    bases = λ u a z rs rs' r c. base_old s b v' (num s) (w.there (suc u) (omega arith) (omega arith))
        (w.numbers (suc u) (omega arith) (omega arith)) (λ _ _ _ _. refl) c;
  }

  -- A NEW ENTRY UNDER THE SAME HEAD: the numbers are those of the new tree
  module _ (enough : needed s.list l' ≤ free_count s.places) (same_head : height l' ≡ height s.list)
      (path_has : (u : ℕ) → k / slot_bits < u → u ≤ height l' → has l' u (block (tier_order u) i) ≡ true)
      (path_is : (u : ℕ) → k / slot_bits < u → u ≤ height l' →
      get_or ps u 0 ≡ number_in (new_places s.list l' s.places) u (block (tier_order u) i)) where
    abbrev μ : Numbering
    μ = number_in (new_places s.list l' s.places)

    base_at_lem : (u : ℕ) → k / slot_bits ≤ u → u < height l' → (rs rs' : List ℕ) (r : ℕ) →
        Copies ws (get_or ps (suc u) 0) rs rs' r → Base i k l' μ rs' r u
    base_at_lem u a z rs rs' r c =
        by_t (has s.list (suc u) (block (tier_order (suc u)) i)) old new
      where
        there : has l' (suc u) (block (tier_order (suc u)) i) ≡ true
        there = path_has (suc u) (omega arith) (omega arith)

        number : get_or ps (suc u) 0 ≡ μ (suc u) (block (tier_order (suc u)) i)
        number = path_is (suc u) (omega arith) (omega arith)

        le : u ≤ height s.list
        le = omega (arith, same_head)

        old : has s.list (suc u) (block (tier_order (suc u)) i) ≡ true → Base i k l' μ rs' r u
        old t = base_old s b v' μ t
            (number ∙ kept s.n s.list s.places s.placed l' enough (suc u) _ t there)
            (λ d q ap t'. kept s.n s.list s.places s.placed l' enough u d (has_in s.list u d le t')
            (has_in l' u d (omega arith) (within_apart b u d ap ∙ t'))) c

        new : has s.list (suc u) (block (tier_order (suc u)) i) ≡ false → Base i k l' μ rs' r u
        new f =
            let z' : suc u ≤ height s.list = omega (arith, same_head) in
            base_new s b v' μ (omega arith)
            (is_false (λ t. clash (has_in s.list (suc u) (block (tier_order (suc u)) i) z' t) f))
            (subst (λ (n : ℕ). n < s.n) (sym number) (new_at s.n s.list s.places s.placed l' enough (suc u) _ there).0)
            (ap (λ (n : ℕ). get_or s.places n none) number
            ∙ was_not s.n s.list s.places s.placed l' enough (suc u) _ there f) c

    pub edits_new : Edits s i k (word_in o) (marks_in o) ps (height l') o l' μ
    edits_new = record {
      becomes = b;
      valid = v';
      word_is = refl;
      marks_is = refl;
      numbers = path_is;
      bases = base_at_lem;
    }
