-- The tests of `Decide` hold exactly where what they test does.
use Prim.Native.Nat.{ℕ, ◌+◌, ◌*◌, ◌^◌}
use mathlib.Core.Path.{◌≡◌, refl, sym, ap, subst, ◌∙◌}
use mathlib.Core.Bool.{true}
use mathlib.Core.List.{List, [], ◌∷◌}
use native.Mathlib.Omega.{arith}
use lib.Dec.{leb, ltb, eqb, T}
use lib.ListN.{length}
use borrow.Author.Tests.{leb-true, ltb-true, eqb-true, le-leb, lt-ltb, eq-eqb}
use Rattle.blocks.specs.Blocks.{block}
use Rattle.blocks.proofs.BoolLaws.{both_i, both_l, both_r, T_true}
use Rattle.blocks.proofs.ListLaws.{equal_is, is_equal}
use Rattle.blocks.proofs.PlaceNumberLaws as N
use Rattle.model.specs.declared.Entry.{Entry}
use Rattle.model.specs.Model.{is_word_ok, max_order, EntryOk, Sorted, done, more}
use Rattle.tree.specs.Tree.{height, nodes}
use Rattle.tree.proofs.NodeListLaws.{in_nodes, nodes_in_lem, distinct_to}
use Rattle.layout.specs.Words.{max_nodes, pool_words}
use Rattle.layout.specs.Places.{Places, Placed, same, has_node}
use Rattle.layout.specs.Decode.{list_of, places_of}
use Rattle.layout.specs.WellFormed.{Sized, Prescribed}
use Rattle.layout.specs.Decide.{node_count, is_sized, is_entry, is_sorted, is_placed, is_well_formed}
use Rattle.layout.proofs.PlacesLaws.{same_is, same_refl}
use Rattle.decode.proofs.DecodeLaws.{decode_list, decode_places}

-- THE LENGTH
module _ {n : ℕ} {ws : List ℕ} (s : Sized n ws) where
  pub count_of : node_count ws ≡ n
  count_of = omega (arith, s.size)

  pub sized_is : is_sized ws ≡ true
  sized_is =
      let c : node_count ws ≡ n = count_of in
      both_i (eq-eqb _ _ (s.size ∙ ap pool_words (sym c)))
      (both_i (le-leb 1 (node_count ws) (omega (arith, s.least)))
      (le-leb (node_count ws) max_nodes (omega (arith, s.most))))

pub is_sized_lem : (ws : List ℕ) → is_sized ws ≡ true → Sized (node_count ws) ws
is_sized_lem ws t =
    let u = both_r (eqb (length ws) (pool_words (node_count ws))) _ t in
    record {
      size = eqb-true _ _ (both_l (eqb (length ws) (pool_words (node_count ws))) _ t);
      least = leb-true _ _ (both_l (leb 1 (node_count ws)) _ u);
      most = leb-true _ _ (both_r (leb 1 (node_count ws)) _ u);
    }

-- THE LIST
entry_is : {e : Entry} → EntryOk e → is_entry e ≡ true
entry_is {e} o =
    both_i (le-leb _ _ o.order_le)
    (both_i (eq-eqb _ _ o.aligned)
    (both_i (lt-ltb _ _ o.in_range)
    (both_i (T_true (is_word_ok e) o.word_ok)
    (both_i (lt-ltb _ _ o.word_fits) (lt-ltb _ _ o.marks_fit)))))

is_entry_lem : (e : Entry) → is_entry e ≡ true → EntryOk e
is_entry_lem e t =
    let a = both_r (leb e.order max_order) _ t in
    let b = both_r (eqb (block e.order e.base * 2 ^ e.order) e.base) _ a in
    let c = both_r (ltb e.base (2 ^ 64)) _ b in
    let d = both_r (is_word_ok e) _ c in
    record {
      order_le = leb-true _ _ (both_l (leb e.order max_order) _ t);
      aligned = eqb-true _ _ (both_l (eqb (block e.order e.base * 2 ^ e.order) e.base) _ a);
      in_range = ltb-true _ _ (both_l (ltb e.base (2 ^ 64)) _ b);
      word_ok = subst T (sym (both_l (is_word_ok e) _ c)) tt;
      word_fits = ltb-true _ _ (both_l (ltb e.word (2 ^ 64)) _ d);
      marks_fit = ltb-true _ _ (both_r (ltb e.word (2 ^ 64)) _ d);
    }

pub sorted_is : {n : ℕ} {l : List Entry} → Sorted n l → is_sorted n l ≡ true
sorted_is done = refl
sorted_is (more h ok s) = both_i (le-leb _ _ h) (both_i (entry_is ok) (sorted_is s))

pub is_sorted_lem : (n : ℕ) (l : List Entry) → is_sorted n l ≡ true → Sorted n l
is_sorted_lem n [] t = done
is_sorted_lem n (e ∷ l) t =
    let u = both_r (leb n e.base) _ t in
    more (leb-true _ _ (both_l (leb n e.base) _ t)) (is_entry_lem e (both_l (is_entry e) _ u))
    (is_sorted_lem (e.base + (2 ^ e.order)) l (both_r (is_entry e) _ u))

-- THE PLACES
pub placed_is : {n : ℕ} (l : List Entry) {os : Places} → Placed n l os → is_placed n l os ≡ true
placed_is l pl = N.placed_is same same_is same_refl (has_node l) (nodes l)
    (λ p t. in_nodes l p.tier p.number t) (λ p m. nodes_in_lem l m) (distinct_to l (height l)) pl

pub is_placed_lem : (n : ℕ) (l : List Entry) (os : Places) → is_placed n l os ≡ true → Placed n l os
is_placed_lem n l os t = N.is_placed_lem same same_is same_refl (has_node l) (nodes l)
    (λ p t. in_nodes l p.tier p.number t) n os t

-- THE WORDS
-- the test passes exactly if some list and places prescribe the words, and then the decoded ones do
pub well_formed_is : {n : ℕ} {l : List Entry} {os : Places} {ws : List ℕ} → Prescribed n l os ws →
    is_well_formed n ws ≡ true
unfolding is_well_formed
well_formed_is {n} {l} {os} {ws} S =
    rw (decode_list S, decode_places S)
    (both_i (sorted_is S.valid) (both_i (placed_is l S.placed) (equal_is S.words_are)))

pub is_well_formed_lem : (n : ℕ) (ws : List ℕ) → is_well_formed n ws ≡ true → Prescribed n (list_of ws) (places_of ws) ws
unfolding is_well_formed
is_well_formed_lem n ws t =
    let u = both_r (is_sorted 0 (list_of ws)) _ t in
    record {
      valid = is_sorted_lem 0 (list_of ws) (both_l (is_sorted 0 (list_of ws)) _ t);
      placed = is_placed_lem n (list_of ws) (places_of ws) (both_l (is_placed n (list_of ws) (places_of ws)) _ u);
      words_are = is_equal ws _ (both_r (is_placed n (list_of ws) (places_of ws)) _ u);
    }
