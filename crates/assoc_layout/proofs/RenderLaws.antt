-- The words of a well-formed pool, by what stands in each block.
use Prim.Native.Nat.{ℕ, ◌<◌}
use mathlib.Core.Path.{◌≡◌, ap, ◌∙◌}
use mathlib.Core.Bool.{true}
use mathlib.Core.List.{List}
use mathlib.Core.Option.{Option, none}
use native.Mathlib.Omega.{arith}
use lib.ListN.{length, get_or}
use Rattle.blocks.proofs.PlaceNumberLaws.{number_at}
use Rattle.blocks.proofs.RecordLaws as R
use Rattle.assoc_tree.specs.Keys.{Item}
use Rattle.assoc_tree.specs.Parts.{Part, same, has, root}
use Rattle.assoc_tree.proofs.SizeLaws.{same_refl, same_is}
use Rattle.assoc_layout.specs.Words.{
  Places,
  anchor_words,
  block_words,
  pool_words,
  place,
  root_word,
  ref,
  field,
  field_at,
  anchor_word,
  fields_of,
  render,
  number_in,
}
use Rattle.assoc_layout.specs.WellFormed.{WellFormed, num}

module _ (l : List Item) (os : Places) (n : ℕ) where
  pub render_word : (m f : ℕ) → m < n → f < block_words →
      get_or (render l os n) (place m f) 0 ≡ field_at l (number_in os) (get_or os m none) f
  render_word m f h g =
      R.render_record anchor_words block_words (omega arith) (anchor_word l (number_in os) n) (fields_of l os) n m f h g

  pub render_root : get_or (render l os n) root_word 0 ≡ ref l (number_in os) (root l)
  render_root =
      R.render_anchor anchor_words block_words (omega arith) (anchor_word l (number_in os) n) (fields_of l os) n root_word (omega arith)

  pub render_count : get_or (render l os n) 0 0 ≡ n
  render_count =
      R.render_anchor anchor_words block_words (omega arith) (anchor_word l (number_in os) n) (fields_of l os) n 0 (omega arith)

  -- words are those that a list prescribes where the anchor's are, and each block's
  pub render_is : (ws : List ℕ) → length ws ≡ pool_words n →
      ((i : ℕ) → i < anchor_words → get_or ws i 0 ≡ anchor_word l (number_in os) n i) →
      ((m f : ℕ) → m < n → f < block_words → get_or ws (place m f) 0 ≡ field_at l (number_in os) (get_or os m none) f) →
      ws ≡ render l os n
  render_is ws len anchor block =
      R.render_is anchor_words block_words (omega arith) (anchor_word l (number_in os) n) (fields_of l os) n ws len anchor block

module _ {ws : List ℕ} (s : WellFormed ws) where
  pub pool_size : length ws ≡ pool_words s.n
  pool_size = ap length s.words_are ∙
      R.render_long anchor_words block_words (omega arith) (anchor_word s.list (num s) s.n) (fields_of s.list s.places) s.n

  pub root_word_lem : get_or ws root_word 0 ≡ ref s.list (num s) (root s.list)
  root_word_lem = ap (λ (v : List ℕ). get_or v root_word 0) s.words_are ∙ render_root s.list s.places s.n

  pub count_word_lem : get_or ws 0 0 ≡ s.n
  count_word_lem = ap (λ (v : List ℕ). get_or v 0 0) s.words_are ∙ render_count s.list s.places s.n

  -- a part of the tree stands at its number
  pub there : (p : Part) → has s.list p ≡ true → num s p < s.n
  there p t = let (a, b) = number_at same same_is (same_refl s.list) p s.places (s.placed.full p t) in
      let e : length s.places ≡ s.n = s.placed.size in omega arith

  pub word_of_lem : (p : Part) (f : ℕ) → has s.list p ≡ true → f < block_words →
      get_or ws (place (num s p) f) 0 ≡ field s.list (num s) p f
  word_of_lem p f t h =
      let (a, b) = number_at same same_is (same_refl s.list) p s.places (s.placed.full p t) in
      ap (λ (v : List ℕ). get_or v (place (num s p) f) 0) s.words_are ∙
      render_word s.list s.places s.n (num s p) f (there p t) h ∙
      ap (λ (o : Option Part). field_at s.list (num s) o f) b
