-- What the loop that fills a run of words leaves.
use Rattle.std.specs.Prelude.{ℕ, zero, suc, ◌+◌, List, set}

-- x at a, .., a + n - 1
unfoldable pub filled : List ℕ → (a x n : ℕ) → List ℕ
filled ws a x zero = ws
filled ws a x (suc n) = set (filled ws a x n) (a + n) x
