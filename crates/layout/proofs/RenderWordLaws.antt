-- The words that a list prescribes, one by one, and those of a well-formed pool.
use Prim.Native.Nat.{ℕ, ◌<◌}
use mathlib.Core.Path.{◌≡◌, sym, ap, ◌∙◌}
use mathlib.Core.Bool.{true}
use mathlib.Core.List.{List}
use mathlib.Core.Option.{Option, none, some}
use native.Mathlib.Omega.{arith}
use lib.ListN.{length, get_or}
use Rattle.blocks.specs.Lists.{any}
use Rattle.blocks.proofs.RecordLaws as L
use Rattle.model.specs.declared.Entry.{Entry}
use Rattle.model.specs.Model.{within, marks_of}
use Rattle.tree.specs.Tree.{has, height, Node, tier_order}
use Rattle.tree.specs.Slots.{slot, node_word, Numbering}
use Rattle.layout.specs.Words.{
  field,
  field_at,
  anchor_word,
  anchor_words,
  head_word,
  marks_word,
  place,
  node_words,
  pool_words,
  IsField,
}
use Rattle.layout.specs.Places.{Places, number_in, word_at, render}
use Rattle.layout.specs.WellFormed.{WellFormed, num}
use Rattle.layout.proofs.RenderLaws.{fields_at}
use Rattle.layout.proofs.NumberLaws.{in_standing, number_of_lem}
use Rattle.layout.proofs.NewNumberLaws.{stands_at}

pub slot_node : (s : List Entry) (ν : Numbering) (u c : ℕ) → any (within (tier_order u) c) s ≡ true →
    slot s ν u c ≡ node_word (ν u c)
unfolding slot
slot_node s ν u c t = rw t

-- the words of a list under places, one by one
module _ (l : List Entry) (os : Places) (n : ℕ) where
  pub render_long : length (render l os n) ≡ pool_words n
  render_long = L.render_long anchor_words node_words (omega arith) (anchor_word l (number_in os) n) (fields_at l os n) n

  pub render_word : (p : ℕ) → p < pool_words n → get_or (render l os n) p 0 ≡ word_at l os n p
  render_word = L.render_word anchor_words node_words (omega arith) (anchor_word l (number_in os) n) (fields_at l os n) n

  pub render_anchor : (p : ℕ) → p < anchor_words → get_or (render l os n) p 0 ≡ anchor_word l (number_in os) n p
  render_anchor = L.render_anchor anchor_words node_words (omega arith) (anchor_word l (number_in os) n) (fields_at l os n) n

  pub render_node : (m f : ℕ) → m < n → IsField f → get_or (render l os n) (place m f) 0 ≡ field_at l (number_in os)
      (get_or os m none) f
  render_node = L.render_record anchor_words node_words (omega arith) (anchor_word l (number_in os) n) (fields_at l os n) n

-- THE WORDS OF A WELL-FORMED POOL
module _ {ws : List ℕ} (s : WellFormed ws) where
  pub pool_length_lem : length ws ≡ pool_words s.n
  pool_length_lem = ap length s.words_are ∙ render_long s.list s.places s.n

  pub pool_word : (i : ℕ) → i < pool_words s.n → get_or ws i 0 ≡ word_at s.list s.places s.n i
  pool_word i h = ap (λ (w : List ℕ). get_or w i 0) s.words_are ∙ render_word s.list s.places s.n i h

  pub pool_head : get_or ws head_word 0 ≡ slot s.list (num s) (height s.list) 0
  pool_head = pool_word head_word (omega arith)

  pub pool_marks : get_or ws marks_word 0 ≡ marks_of s.list
  pool_marks = pool_word marks_word (omega arith)

  pub pool_anchor : (k : ℕ) → k < anchor_words → get_or ws k 0 ≡ anchor_word s.list (num s) s.n k
  pool_anchor k h = ap (λ (w : List ℕ). get_or w k 0) s.words_are ∙ render_anchor s.list s.places s.n k h

  pub pool_node : (m k : ℕ) → m < s.n → IsField k →
      get_or ws (place m k) 0 ≡ field_at s.list (num s) (get_or s.places m none) k
  pool_node m k p h = ap (λ (w : List ℕ). get_or w (place m k) 0) s.words_are ∙ render_node s.list s.places
      s.n m k p h

  -- what stands at number m has that number
  pub place_of : (m : ℕ) (p : Node) → get_or s.places m none ≡ some p →
      (m ≡ num s p.tier p.number) × (has s.list p.tier p.number ≡ true)
  place_of m p e = (
    sym (number_of_lem p s.places m s.placed.once e),
    s.placed.sound p (in_standing p s.places m e),
  )

  -- a node of the tree, and its fields
  pub node_of : (u b : ℕ) → has s.list u b ≡ true → (num s u b < s.n) ×
      (get_or s.places (num s u b) none ≡ some (record { tier = u; number = b }))
  node_of u b t = stands_at s.n s.list s.places s.placed u b t

  pub field_of_lem : (u b f : ℕ) → has s.list u b ≡ true → IsField f →
      get_or ws (place (num s u b) f) 0 ≡ field s.list (num s) u b f
  field_of_lem u b f t h = pool_node (num s u b) f (node_of u b t).0 h ∙ ap
      (λ (o : Option Node). field_at s.list (num s) o f) (node_of u b t).1
