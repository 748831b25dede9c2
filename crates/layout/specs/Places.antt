-- Which node stands at each number, which numbers new nodes take, and the words of a pool under such places.
use Rattle.std.specs.Prelude.{ℕ, Bool, List, ltb, eqb, get_or}
use Rattle.std.proofs.Math.Option.{Option, none}
use Rattle.blocks.specs.Choice.{pick, both}
use Rattle.blocks.specs.Lists.{up_to}
use Rattle.blocks.specs.Placing as P
pub use Rattle.blocks.specs.Placing.{standing, free_count, allocate}
use Rattle.model.specs.declared.Entry.{Entry}
use Rattle.tree.specs.Tree.{has, Node, new_nodes}
use Rattle.tree.specs.Slots.{Numbering}
use Rattle.layout.specs.Words.{anchor_words, pool_words, node_of, field_in, field_at, anchor_word}

-- what stands at each node number: a node of the tree, or a free one (document 01: blank)
abbrev pub Places : Type 0
Places = List (Option Node)

-- THE NUMBER OF A NODE
abbrev pub same : Node → Node → Bool
same p q = both (eqb p.tier q.tier) (eqb p.number q.number)

abbrev pub number_of : Node → Places → ℕ
number_of p os = P.number_of same p os

abbrev pub number_in : Places → Numbering
number_in os u b = number_of (record { tier = u; number = b }) os

-- every node of the tree stands at one number below n, and nothing else does
abbrev pub has_node : List Entry → Node → Bool
has_node l p = has l p.tier p.number

abbrev pub Placed : ℕ → List Entry → Places → Type 0
Placed n l os = P.Placed n (has_node l) os

-- AFTER A COMMAND
-- R35 to R37: new nodes take the lowest free numbers; then what is not in the tree leaves its number
abbrev pub keep_if : List Entry → Option Node → Option Node
keep_if l o = P.keep_if (has_node l) o

abbrev pub prune : List Entry → Places → Places
prune l os = P.prune (has_node l) os

abbrev pub new_places : List Entry → List Entry → Places → Places
new_places l l' os = prune l' (allocate os (new_nodes l l'))

-- THE WORDS
-- word i of a pool of n nodes
abbrev pub word_at : List Entry → Places → ℕ → ℕ → ℕ
word_at l os n i =
    pick (ltb i anchor_words) (anchor_word l (number_in os) n i)
    (field_at l (number_in os) (get_or os (node_of i) none) (field_in i))

-- all words that the list prescribes, with its nodes at these places among n
abbrev pub render : List Entry → Places → ℕ → List ℕ
render l os n = up_to (word_at l os n) 0 (pool_words n)
