-- How many blocks one key can need: eleven, where a node of sixteen splits; else four at most.
use Prim.Native.Nat.{ℕ, ◌+◌, ◌*◌, ◌≤◌, ◌<◌}
use mathlib.Core.Path.{◌≡◌, refl, ap}
use mathlib.Core.Bool.{Bool, true}
use mathlib.Core.List.{List, [], ◌∷◌}
use mathlib.Core.Option.{Option, none, some}
use native.Mathlib.Omega.{arith}
use lib.Dec.{eqb}
use lib.ListN.{length}
use borrow.Author.Tests.{eqb-true, ne_eqb}
use Rattle.blocks.specs.Choice.{pick}
use Rattle.blocks.specs.Lists.{keep, In, here, there}
use Rattle.blocks.proofs.BoolLaws.{by_t, clash}
use Rattle.blocks.proofs.Ascending.{Asc, asc_end, asc_more}
use Rattle.assoc_tree.specs.Keys.{Item}
use Rattle.assoc_tree.specs.Parts.{Part, block_of, over, part_at, parts_in, cons_if}

-- how often b stands in a list
abbrev hits : ℕ → List ℕ → ℕ
hits b [] = 0
hits b (c ∷ cs) = pick (eqb b c) 1 0 + hits b cs

hits_low : (b : ℕ) {n : ℕ} {cs : List ℕ} → b < n → Asc n cs → hits b cs ≡ 0
hits_low b h asc_end = refl
hits_low b h (asc_more {x} {s} g a) = rw (ne_eqb b x (omega arith)) (ap (λ (y : ℕ). 0 + y) (hits_low b (omega arith) a))

hits_one : (b : ℕ) {n : ℕ} {cs : List ℕ} → Asc n cs → hits b cs ≤ 1
hits_one b asc_end = omega arith
hits_one b (asc_more {x} {s} g a) =
    by_t (eqb b x) (λ t. rw t (let z : hits b s ≡ 0 = hits_low b (omega (arith, eqb-true b x t)) a in omega arith))
    (λ t. rw t (omega (arith, hits_one b a)))

-- the keys of a list in so many blocks
module _ (v : ℕ) where
  abbrev pub total : List ℕ → List Item → ℕ
  total [] m = 0
  total (c ∷ cs) m = length (keep (over v c) m) + total cs m

  total_nil : (cs : List ℕ) → total cs [] ≡ 0
  total_nil [] = refl
  total_nil (c ∷ cs) = ap (λ (y : ℕ). 0 + y) (total_nil cs)

  total_cons : (cs : List ℕ) (x : Item) (m : List Item) → total cs (x ∷ m) ≡ hits (block_of v x.key) cs + total cs m
  total_cons [] x m = refl
  total_cons (c ∷ cs) x m =
      let e : total cs (x ∷ m) ≡ hits (block_of v x.key) cs + total cs m = total_cons cs x m in
      by_t (over v c x) (λ t. rw t (omega arith)) (λ t. rw t (omega arith))

  -- in blocks apart: at most all
  pub total_le : {n : ℕ} {cs : List ℕ} (m : List Item) → Asc n cs → total cs m ≤ length m
  total_le {cs} [] a = let z : total cs [] ≡ 0 = total_nil cs in omega arith
  total_le {cs} (x ∷ m) a =
      omega (arith, total_cons cs x m, hits_one (block_of v x.key) a, total_le m a)

  -- parts of two keys or more of m
  pub parts_half : (l m : List Item) (cs : List ℕ) →
      ((c : ℕ) (p : Part) → In c cs → part_at l v c ≡ some p → 2 ≤ length (keep (over v c) m)) → 2 * length (parts_in l v cs) ≤ total cs m
  parts_half l m [] f = omega arith
  parts_half l m (c ∷ cs) f = go (part_at l v c) refl (parts_half l m cs (λ d p i. f d p (there i)))
    where
      go : (o : Option Part) → part_at l v c ≡ o → 2 * length (parts_in l v cs) ≤ total cs m →
          2 * length (cons_if l o (parts_in l v cs)) ≤ length (keep (over v c) m) + total cs m
      go none e h = omega arith
      go (some p) e h = omega (arith, f c p here e)

-- a test within another
pub keep_within : {A : Type 0} (p q : A → Bool) (l : List A) → ((x : A) → In x l → p x ≡ true → q x ≡ true) → keep p (keep q l) ≡ keep p l
keep_within p q [] f = refl
keep_within p q (x ∷ l) f =
    by_t (q x) (λ t. rw t (by_t (p x) (λ s. rw s (ap (λ (y : List _). x ∷ y) (keep_within p q l (λ y i. f y (there i)))))
    (λ s. rw s (keep_within p q l (λ y i. f y (there i))))))
    (λ t. by_t (p x) (λ s. absurd (clash (f x here s) t)) (λ s. rw (t, s) (keep_within p q l (λ y i. f y (there i)))))
