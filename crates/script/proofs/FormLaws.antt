-- The form of a script: places rise, lie in the pool, and stand in pairs; and it has exactly the words that differ.
use Prim.Native.Nat.{ℕ, zero, suc, ◌+◌, ◌*◌, ◌≤◌}
use mathlib.Core.Path.{◌≡◌, refl}
use mathlib.Core.Bool.{true}
use mathlib.Core.List.{List}
use native.Mathlib.Omega.{arith}
use lib.Dec.{eqb}
use lib.ListN.{length, get_or}
use borrow.Author.Tests.{lt-ltb}
use Rattle.blocks.proofs.BoolLaws.{by_t}
use Rattle.script.specs.Script.{script_from, script, places_below}
use Rattle.script.specs.Claims.{Rising, r_end, r_more, changes_from}

module _ (ws ws' : List ℕ) where
  from_rises : (p n : ℕ) → Rising p (script_from ws ws' p n)
  unfolding script_from
  from_rises p zero = r_end
  from_rises p (suc n) =
      by_t (eqb (get_or ws p 0) (get_or ws' p 0)) (λ t. rw t (rises_on (omega arith) (from_rises (suc p) n)))
      (λ t. rw t (r_more {n = p} {p = p} (omega arith) (from_rises (suc p) n)))
    where
      rises_on : {a b : ℕ} {ss : List ℕ} → a ≤ b → Rising b ss → Rising a ss
      rises_on h r_end = r_end
      rises_on {a} h (r_more {p} g r) = r_more {n = a} {p = p} (omega arith) r

  -- R321
  pub rises : Rising 0 (script ws ws')
  rises = from_rises 0 (length ws)

  from_below : (m p n : ℕ) → p + n ≤ m → places_below m (script_from ws ws' p n) ≡ true
  unfolding script_from
  from_below m p zero h = refl
  from_below m p (suc n) h =
      by_t (eqb (get_or ws p 0) (get_or ws' p 0)) (λ t. rw t (from_below m (suc p) n (omega arith)))
      (λ t. rw (t, lt-ltb p m (omega arith)) (from_below m (suc p) n (omega arith)))

  pub places_in : places_below (length ws) (script ws ws') ≡ true
  places_in = from_below (length ws) 0 (length ws) (omega arith)

  from_pairs : (p n : ℕ) → length (script_from ws ws' p n) ≡ 2 * changes_from ws ws' p n
  unfolding script_from
  from_pairs p zero = refl
  from_pairs p (suc n) =
      by_t (eqb (get_or ws p 0) (get_or ws' p 0)) (λ t. rw t (from_pairs (suc p) n))
      (λ t. rw t (let r = from_pairs (suc p) n in omega arith))

  pub pairs : length (script ws ws') ≡ 2 * changes_from ws ws' 0 (length ws)
  pairs = from_pairs 0 (length ws)
