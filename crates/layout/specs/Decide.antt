-- Well-formedness as a test that computes: the list and the places are read off the words, and every word compared.
use Rattle.std.specs.Prelude.{ℕ, ◌+◌, ◌*◌, ◌-◌, ◌/◌, ◌^◌, Bool, true, List, [], ◌∷◌, leb, ltb, eqb, length}
use Rattle.blocks.specs.Choice.{both}
use Rattle.blocks.specs.Lists.{equal}
use Rattle.blocks.specs.Placing as P
use Rattle.blocks.specs.Blocks.{block}
use Rattle.model.specs.declared.Entry.{Entry}
use Rattle.model.specs.Model.{is_word_ok, max_order, mark_count}
use Rattle.tree.specs.Tree.{nodes}
use Rattle.layout.specs.Words.{anchor_words, node_words, max_nodes, pool_words}
use Rattle.layout.specs.Places.{Places, same, has_node, render}
use Rattle.layout.specs.Decode.{list_of, places_of}

-- the number of nodes that a length makes room for, and whether it is a pool's (R27)
abbrev pub node_count : List ℕ → ℕ
node_count ws = (length ws - anchor_words) / node_words

abbrev pub is_sized : List ℕ → Bool
is_sized ws =
    both (eqb (length ws) (pool_words (node_count ws))) (both (leb 1 (node_count ws)) (leb (node_count ws) max_nodes))

-- `EntryOk` and `Sorted`, as tests
abbrev pub is_entry : Entry → Bool
is_entry e =
    both (leb e.order max_order)
    (both (eqb (block e.order e.base * 2 ^ e.order) e.base)
    (both (ltb e.base (2 ^ 64))
    (both (is_word_ok e)
    (both (ltb e.word (2 ^ 64)) (ltb e.marks (2 ^ mark_count))))))

abbrev pub is_sorted : ℕ → List Entry → Bool
is_sorted n [] = true
is_sorted n (e ∷ l) = both (leb n e.base) (both (is_entry e) (is_sorted (e.base + 2 ^ e.order) l))

-- `Placed`, as a test: each node that stands is one of the tree's, none stands twice, and none is missing
abbrev pub is_placed : ℕ → List Entry → Places → Bool
is_placed n l os = P.is_placed same n (length (nodes l)) (has_node l) os

-- the words of a pool of n nodes are those that the list read off them prescribes, at the places read off them
unfoldable pub is_well_formed : ℕ → List ℕ → Bool
is_well_formed n ws =
    both (is_sorted 0 (list_of ws))
    (both (is_placed n (list_of ws) (places_of ws)) (equal ws (render (list_of ws) (places_of ws) n)))
