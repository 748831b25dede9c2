-- The two searches by halves: where `partition_point` stops in the first n numbers, which rise.
use Prim.Native.Nat.{ℕ, ◌≤◌, ◌<◌}
use mathlib.Core.Path.{◌≡◌}
use mathlib.Core.Bool.{true, false}
use mathlib.Core.List.{List}
use native.Mathlib.Omega.{arith}
use lib.Dec.{leb, ltb}
use lib.ListN.{length, get_or, take, length-take}
use borrow.Author.Tests.{leb-true, leb-false, ltb-true, ltb-false}
use Rattle.std.specs.List.Sorted.{IsNonDecreasingBy, IsPartitionedBy, IsPartitionPoint}
use Rattle.std.proofs.lemmas.List.{get_or-take}
use Rattle.std.proofs.lemmas.List.Sorted.{IsNonDecreasingBy-from_default, IsPartitionedBy-leb, IsPartitionedBy-ltb}
use Rattle.xaplain.specs.Moves.{Rising, Splits, Parts}

module _ (xs : List ℕ) (n : ℕ) (h : n ≤ length xs) where
  at : (k : ℕ) → k < n → get_or (take n xs) k 0 ≡ get_or xs k 0
  at k g = get_or-take n xs k 0 g

  risen : Rising xs n → IsNonDecreasingBy (λ y. y) (take n xs)
  risen r = IsNonDecreasingBy-from_default (λ y. y) (take n xs) 0 (λ i j a b.
      let j' : j < n = omega (arith, length-take n xs) in
      omega (arith, r.rises i j a j', at i (omega arith), at j j'))

  pub at_most : (i : ℕ) → Rising xs n → IsPartitionedBy (λ y. leb y i) (take n xs)
  at_most i r = IsPartitionedBy-leb (λ y. y) (take n xs) i (risen r)

  pub below : (i : ℕ) → Rising xs n → IsPartitionedBy (λ y. ltb y i) (take n xs)
  below i r = IsPartitionedBy-ltb (λ y. y) (take n xs) i (risen r)

  module _ (i r : ℕ) (b : r ≤ length (take n xs)) where
    pub splits : IsPartitionPoint (λ y. leb y i ≡ true) (λ y. leb y i ≡ false) (take n xs) r → Splits xs n i r
    splits p = record {
      within = omega (arith, length-take n xs);
      low = λ k g. let k' : k < n = omega (arith, length-take n xs) in omega (arith, leb-true _ _ (p.0 k 0 (omega arith) g), at k k');
      high = λ k g l. omega (arith, leb-false _ _ (p.1 k 0 g (omega (arith, length-take n xs))), at k l);
    }

    pub parts : IsPartitionPoint (λ y. ltb y i ≡ true) (λ y. ltb y i ≡ false) (take n xs) r → Parts xs n i r
    parts p = record {
      within = omega (arith, length-take n xs);
      low = λ k g. let k' : k < n = omega (arith, length-take n xs) in omega (arith, ltb-true _ _ (p.0 k 0 (omega arith) g), at k k');
      high = λ k g l. omega (arith, ltb-false _ _ (p.1 k 0 g (omega (arith, length-take n xs))), at k l);
    }
