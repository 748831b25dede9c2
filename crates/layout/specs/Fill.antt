-- Clearing a node.
use Rattle.std.specs.Prelude.{ℕ, List}
use Rattle.words.specs.Fill.{filled}
use Rattle.layout.specs.Words.{pool_words, node_words}

-- 0 in all words of node n
abbrev pub cleared : List ℕ → ℕ → List ℕ
cleared ws n = filled ws (pool_words n) 0 node_words
