-- A script turns the words before into the words after, however much of it was applied before.
use Prim.Native.Nat.{ℕ, zero, suc, ◌+◌, ◌≤◌, ◌<◌}
use mathlib.Core.Path.{◌≡◌, refl, ◌∙◌}
use mathlib.Core.List.{List, [], ◌∷◌}
use native.Mathlib.Omega.{arith}
use lib.Dec.{eqb}
use lib.ListN.{length, get_or, set, length-set}
use lib.Seq.{get_or-set_same, get_or-set_other, ext_get_or}
use borrow.Author.Tests.{eqb-true, eqb-false}
use Rattle.blocks.proofs.BoolLaws.{by_t}
use Rattle.script.specs.Script.{script_from, script, applied}
use Rattle.script.specs.Claims.{applied_first, cut_off, wrote, wrote_some, Partly}

-- LENGTHS
pub applied_long : (ws ss : List ℕ) → length (applied ws ss) ≡ length ws
applied_long ws [] = refl
applied_long ws (p ∷ []) = refl
applied_long ws (p ∷ x ∷ ss) = applied_long (set ws p x) ss ∙ length-set ws p x

module _ (ws ws' : List ℕ) where
  -- what a script from p on leaves at each place
  pub below_same : (v : List ℕ) (p n j : ℕ) → j < p → get_or (applied v (script_from ws ws' p n)) j 0 ≡ get_or v j 0
  unfolding script_from
  below_same v p zero j h = refl
  below_same v p (suc n) j h =
      by_t (eqb (get_or ws p 0) (get_or ws' p 0)) (λ t. rw t (below_same v (suc p) n j (omega arith)))
      (λ t. rw t (below_same (set v p (get_or ws' p 0)) (suc p) n j (omega arith) ∙
      get_or-set_other v p j (get_or ws' p 0) 0 (omega arith)))

  pub in_done : (v : List ℕ) (p n j : ℕ) → p + n ≤ length v →
      ((i : ℕ) → get_or ws i 0 ≡ get_or ws' i 0 → get_or v i 0 ≡ get_or ws' i 0) → p ≤ j → j < p + n →
      get_or (applied v (script_from ws ws' p n)) j 0 ≡ get_or ws' j 0
  unfolding script_from
  in_done v p zero j l k a b = absurd (omega arith)
  in_done v p (suc n) j l k a b =
      by_t (eqb (get_or ws p 0) (get_or ws' p 0))
      (λ t. rw t (by_t (eqb j p)
      (λ z. let e : j ≡ p = eqb-true _ _ z in
      below_same v (suc p) n j (omega arith) ∙ (rw e (k p (eqb-true _ _ t))))
      (λ z. let e : j ≡ p → ⊥ = eqb-false _ _ z in in_done v (suc p) n j (omega arith) k (omega arith) (omega arith))))
      (λ t. rw t (by_t (eqb j p)
      (λ z. let e : j ≡ p = eqb-true _ _ z in
      below_same (set v p (get_or ws' p 0)) (suc p) n j (omega arith) ∙ rw e
      (get_or-set_same v p (get_or ws' p 0) 0 (omega arith)))
      (λ z. let e : j ≡ p → ⊥ = eqb-false _ _ z in
      in_done (set v p (get_or ws' p 0)) (suc p) n j (simp length-set (omega arith))
      (λ i h. by_t (eqb i p)
      (λ y. let d : i ≡ p = eqb-true _ _ y in rw d (get_or-set_same v p (get_or ws' p 0) 0 (omega arith)))
      (λ y. get_or-set_other v p i (get_or ws' p 0) 0 (eqb-false _ _ y) ∙ k i h)) (omega arith) (omega arith))))

  -- one word set by the script leaves such a state again
  set_partly : (v : List ℕ) (p : ℕ) → Partly ws ws' v → p < length v → Partly ws ws' (set v p (get_or ws' p 0))
  set_partly v p y l = record {
    size = length-set v p (get_or ws' p 0) ∙ y.size;
    kept = λ j h. by_t (eqb j p)
        (λ z. let d : j ≡ p = eqb-true _ _ z in rw d (get_or-set_same v p (get_or ws' p 0) 0 l))
        (λ z. get_or-set_other v p j (get_or ws' p 0) 0 (eqb-false _ _ z) ∙ y.kept j h);
  }

  -- so do the first of the writes, and any one of them
  first_partly : (k : ℕ) (v : List ℕ) (p n : ℕ) → Partly ws ws' v → p + n ≤ length v →
      Partly ws ws' (applied_first k v (script_from ws ws' p n))
  unfolding script_from
  first_partly zero v p n y l = y
  first_partly (suc k) v p zero y l = y
  first_partly (suc k) v p (suc n) y l =
      by_t (eqb (get_or ws p 0) (get_or ws' p 0)) (λ t. rw t (first_partly (suc k) v (suc p) n y (omega arith)))
      (λ t. rw t (first_partly k (set v p (get_or ws' p 0)) (suc p) n (set_partly v p y (omega arith))
      (simp length-set (omega arith))))

  one_partly : (k : ℕ) (v : List ℕ) (p n : ℕ) → Partly ws ws' v → p + n ≤ length v →
      Partly ws ws' (wrote k v (script_from ws ws' p n))
  unfolding script_from
  one_partly zero v p zero y l = y
  one_partly (suc k) v p zero y l = y
  one_partly zero v p (suc n) y l =
      by_t (eqb (get_or ws p 0) (get_or ws' p 0)) (λ t. rw t (one_partly zero v (suc p) n y (omega arith)))
      (λ t. rw t (set_partly v p y (omega arith)))
  one_partly (suc k) v p (suc n) y l =
      by_t (eqb (get_or ws p 0) (get_or ws' p 0)) (λ t. rw t (one_partly (suc k) v (suc p) n y (omega arith)))
      (λ t. rw t (one_partly k v (suc p) n y (omega arith)))

  module _ (same : length ws ≡ length ws') where
    -- R328: on any state that differs from ws in words of the script alone
    pub partly_done : (v : List ℕ) → Partly ws ws' v → applied v (script ws ws') ≡ ws'
    partly_done v y = ext_get_or 0 (applied v (script ws ws')) ws' (applied_long v (script ws ws') ∙ (y.size ∙ same))
        (λ j h. in_done v 0 (length ws) j (omega (arith, y.size)) y.kept (omega arith)
        (omega (arith, applied_long v (script ws ws'), y.size)))

    pub start_partly : Partly ws ws' ws
    start_partly = record { size = refl; kept = λ j h. h }

    -- R322
    pub script_done : applied ws (script ws ws') ≡ ws'
    script_done = partly_done ws start_partly

    pub cut_partly : (ks : List ℕ) (v : List ℕ) → Partly ws ws' v → Partly ws ws' (cut_off ks v (script ws ws'))
    cut_partly [] v y = y
    cut_partly (k ∷ ks) v y = cut_partly ks (applied_first k v (script ws ws'))
        (first_partly k v 0 (length ws) y (omega (arith, y.size)))

    -- R327: cut after any number of writes, any number of times
    pub cut_done : (ks : List ℕ) → applied (cut_off ks ws (script ws ws')) (script ws ws') ≡ ws'
    cut_done ks = partly_done (cut_off ks ws (script ws ws')) (cut_partly ks ws start_partly)

    pub some_partly : (ks : List ℕ) (v : List ℕ) → Partly ws ws' v → Partly ws ws' (wrote_some ks v (script ws ws'))
    some_partly [] v y = y
    some_partly (k ∷ ks) v y = some_partly ks (wrote k v (script ws ws'))
        (one_partly k v 0 (length ws) y (omega (arith, y.size)))

    -- R328: any of the writes, in any order
    pub some_done : (ks : List ℕ) → applied (wrote_some ks ws (script ws ws')) (script ws ws') ≡ ws'
    some_done ks = partly_done (wrote_some ks ws (script ws ws')) (some_partly ks ws start_partly)
