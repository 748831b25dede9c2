-- Any command: where every node of its part has a row with that node's final words, and every other number stays out of
-- the part (R39), the rows are a table of the words after it. What stays is the footprint's law.
use Prim.Native.Nat.{ℕ, ◌-◌, ◌/◌, ◌%◌, ◌<◌}
use mathlib.Core.Path.{◌≡◌, sym, ◌∙◌}
use mathlib.Core.Bool.{true, false}
use mathlib.Core.List.{List}
use mathlib.Core.Option.{none}
use native.Mathlib.Omega.{arith}
use lib.Dec.{ltb}
use lib.ListN.{get_or}
use borrow.Author.Tests.{le-ltb}
use Rattle.model.specs.declared.Entry.{Entry}
use Rattle.model.specs.Model.{aligned}
use Rattle.layout.specs.Words.{anchor_words, node_words, place, IsField, field_at}
use Rattle.layout.specs.Places.{Places, new_places, number_in, render}
use Rattle.layout.specs.WellFormed.{WellFormed, num}
use Rattle.layout.proofs.RenderWordLaws.{render_node, pool_node, pool_length_lem}
use Rattle.execute.specs.Part.{Range, node_part}
use Rattle.execute.specs.Promised.{state_of}
use Rattle.execute.specs.State.{Kept}
use Rattle.execute.proofs.LocalLaws.{Agree}
use Rattle.execute.proofs.PartLaws.{word_same}
use Rattle.script_table.specs.Table.{row_count, Tables}

module _ {ws : List ℕ} (s : WellFormed ws) (kp : Kept s.n (state_of s)) (r : Range)
    (al : aligned r.order r.index ≡ true) (l' : List Entry) (ag : Agree r.index r.order s.list l') where
  abbrev os' : Places
  os' = new_places s.list l' s.places

  abbrev ws' : List ℕ
  ws' = render l' os' s.n

  stays : (m f : ℕ) → m < s.n → IsField f →
      node_part s.list l' r (get_or s.places m none) (get_or os' m none) ≡ false →
      get_or ws' (place m f) 0 ≡ get_or ws (place m f) 0
  stays m f h g n =
      let d : (place m f - anchor_words) / node_words ≡ m = omega arith in
      let q : (place m f - anchor_words) % node_words ≡ f = omega arith in
      let lt : ltb (place m f) anchor_words ≡ false = le-ltb (place m f) anchor_words (omega arith) in
      let w = word_same s.n (state_of s) kp r al l' ag (place m f) (rw (lt, d) n) in
      let w' : field_at l' (number_in os') (get_or os' m none) f ≡ field_at s.list (num s) (get_or s.places m none) f =
      rw (lt, d, q) at w in
      render_node l' os' s.n m f h g ∙ (w' ∙ sym (pool_node s m f h g))

  pub tables_part : (rs ns : List ℕ) → ((p : ℕ) → p < anchor_words → get_or ws' p 0 ≡ get_or rs p 0) →
      ((t : ℕ) → t < row_count → get_or ns t 0 < s.n → (f : ℕ) → IsField f →
      get_or rs (place t f) 0 ≡ field_at l' (number_in os') (get_or os' (get_or ns t 0) none) f) →
      ((m : ℕ) → m < s.n → ((t : ℕ) → t < row_count → get_or ns t 0 ≡ m → ⊥) →
      node_part s.list l' r (get_or s.places m none) (get_or os' m none) ≡ false) → Tables ws rs ns ws' s.n
  tables_part rs ns anchor rows out = record {
    size = pool_length_lem s;
    anchor = anchor;
    row = λ t h g f q. render_node l' os' s.n (get_or ns t 0) f g q ∙ sym (rows t h g f q);
    rest = λ m h n f q. stays m f h q (out m h n);
  }
