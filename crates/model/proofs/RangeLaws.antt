-- What clearing a target range does to the blocks, apart from the range and inside it.
use Prim.Native.Nat.{ℕ, ◌-◌, ◌/◌, ◌^◌, ◌≤◌}
use mathlib.Core.Path.{◌≡◌, sym, ap, ◌∙◌}
use mathlib.Core.Bool.{Bool, true, false}
use mathlib.Core.List.{List}
use native.Mathlib.Omega.{arith}
use lib.Dec.{leb}
use borrow.Author.Tests.{leb-true, leb-false, eqb-true, eq-eqb}
use Rattle.blocks.specs.Lists.{any, All}
use Rattle.blocks.specs.Blocks.{block}
use Rattle.blocks.proofs.BoolLaws.{clash, by_t}
use Rattle.blocks.proofs.ListLaws.{All-of, All-map, All-without, any_none, any_without, first_without}
use Rattle.blocks.proofs.BlockLaws.{block_block, block_up}
use Rattle.model.specs.declared.Entry.{Entry}
use Rattle.model.specs.Model.{covers, covering, starts}
use Rattle.model.specs.ByBlock.{clear}

module _ (i k : ℕ) where
  -- no entry of a higher order covers i
  abbrev pub Room : Entry → Type 0
  Room x = covers i x ≡ true → x.order ≤ k

  abbrev pub InRun : ℕ → Type 0
  InRun y = block k y ≡ block k i

  -- block c of order j lies apart from the run, or inside it
  abbrev pub Apart : ℕ → ℕ → Type 0
  Apart j c = (y : ℕ) → block j y ≡ c → InRun y → ⊥

  abbrev pub Inside : ℕ → ℕ → Type 0
  Inside j c = (y : ℕ) → block j y ≡ c → InRun y

  -- the brief's conditions
  pub apart_up : (j c : ℕ) → k ≤ j → (c ≡ block j i → ⊥) → Apart j c
  apart_up j c h n y e r = n (sym e ∙ block_up y i h r)

  pub apart_down : (j c : ℕ) → j ≤ k → (c / 2 ^ (k - j) ≡ block k i → ⊥) → Apart j c
  apart_down j c h n y e r = n (ap (λ (d : ℕ). d / 2 ^ (k - j)) (sym e) ∙ sym (block_block y h) ∙ r)

  pub inside_down : (j c : ℕ) → j ≤ k → c / 2 ^ (k - j) ≡ block k i → Inside j c
  inside_down j c h q y e = block_block y h ∙ ap (λ (d : ℕ). d / 2 ^ (k - j)) e ∙ q

  pub starts_order : (x : Entry) → Room x → InRun x.base → x.order ≤ k
  starts_order x r e =
      by_t (leb x.order k) (leb-true _ _) (λ t. r (eq-eqb _ _
      (sym (block_up x.base i (omega (arith, leb-false)) e))))

  pub covers_run : (x : Entry) (y : ℕ) → x.order ≤ k → covers y x ≡ true → block k y ≡ block k x.base
  covers_run x y h t = block_up y x.base h (eqb-true _ _ t)

  pub covers_order : (x : Entry) (y : ℕ) → Room x → covers y x ≡ true → InRun y → x.order ≤ k
  covers_order x y r t e =
      by_t (leb x.order k) (leb-true _ _) (λ s. r (eq-eqb _ _
      (sym (block_up y i (omega (arith, leb-false)) e) ∙ eqb-true _ _ t)))

  -- clearing: a test that looks only at entries that start in block c of order j
  module _ (l : List Entry) (p : Entry → Bool) (j c : ℕ) (only : (x : Entry) → p x ≡ true → block j x.base ≡ c)
    where
      pub clear_apart : Apart j c → any p (clear l i k) ≡ any p l
      clear_apart a = any_without p (starts k (block k i)) (All-of (λ x t s. a x.base (only x t) (eqb-true _ _ s)) l)

      pub clear_inside : Inside j c → any p (clear l i k) ≡ false
      clear_inside a =
          any_none p (All-map (λ x h t. clash (eq-eqb _ _ (a x.base (only x t))) h.0)
          (All-without (starts k (block k i)) (All-of {P = λ x. Entry} (λ x. x) l)))

  pub clear_uncovered : (l : List Entry) → All Room l → (y : ℕ) → InRun y →
      All (λ x. covers y x ≡ true → ⊥) (clear l i k)
  clear_uncovered l a y e =
      All-map (λ x h t. clash (eq-eqb _ _ (sym (covers_run x y (covers_order x y h.1 t e) t) ∙ e)) h.0)
      (All-without (starts k (block k i)) a)

  pub clear_covering_not : (l : List Entry) → All Room l → (y : ℕ) → (InRun y → ⊥) →
      covering (clear l i k) y ≡ covering l y
  clear_covering_not l a y n =
      first_without (covers y) (starts k (block k i)) (All-map
      (λ x r t s. n (covers_run x y (starts_order x r (eqb-true _ _ s)) t ∙ eqb-true _ _ s)) a)
