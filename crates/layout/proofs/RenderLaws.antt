-- The words of a pool, compared with those that a list prescribes.
use Prim.Native.Nat.{ℕ, ◌<◌}
use mathlib.Core.Path.{◌≡◌, refl}
use mathlib.Core.List.{List}
use mathlib.Core.Option.{none}
use native.Mathlib.Omega.{arith}
use lib.ListN.{length, get_or}
use Rattle.blocks.specs.Records as R
use Rattle.blocks.proofs.RecordLaws as L
use Rattle.model.specs.declared.Entry.{Entry}
use Rattle.layout.specs.Words.{field_at, anchor_word, pool_words, node_words, anchor_words, place, IsField}
use Rattle.layout.specs.Places.{number_in, render, Places}

module _ (l : List Entry) (os : Places) (n : ℕ) where
  -- the fields of what stands at number m
  abbrev pub fields_at : ℕ → ℕ → ℕ
  fields_at m f = field_at l (number_in os) (get_or os m none) f

  -- a pool is an anchor of 4 words and records of 70
  pub render_records : render l os n ≡ R.render anchor_words node_words (anchor_word l (number_in os) n) fields_at n
  render_records = refl

  -- words are those that a list prescribes where the anchor's are, and each node's
  pub render_is : (ws : List ℕ) → length ws ≡ pool_words n →
      ((i : ℕ) → i < anchor_words → get_or ws i 0 ≡ anchor_word l (number_in os) n i) →
      ((m f : ℕ) → m < n → IsField f → get_or ws (place m f) 0 ≡ field_at l (number_in os) (get_or os m none) f) →
      ws ≡ render l os n
  render_is = L.render_is anchor_words node_words (omega arith) (anchor_word l (number_in os) n) fields_at n
