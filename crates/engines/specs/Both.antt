-- What a host sees of the calls of both engines, on words and on slices: no list of entries stands here (R309).
use Rattle.std.specs.Prelude.{ℕ, List, [], ◌∷◌}
use Rattle.verify.specs.Answers.{init_words}
use Rattle.calls.specs.Calls as T
use Rattle.calls.specs.Demand.{Call}
use Rattle.xaplain.specs.Slices.{Slices, init_slices}
use Rattle.xaplain_calls.specs.Calls as P
use Rattle.xaplain_calls.specs.Demand as D
use Rattle.engines.specs.Seen.{Seen, seen}

-- THE TREE, from words on. Listings and preparings, which the plain engine has not, are not shown
abbrev pub tree_seen : (pool : List ℕ) → List Call → List Seen
tree_seen ws [] = []
tree_seen ws (Call.init ∷ cs) = seen (T.init_result ws) [] ∷ tree_seen (init_words ws) cs
tree_seen ws (Call.check ∷ cs) = seen (T.check_result ws) [] ∷ tree_seen ws cs
tree_seen ws (Call.batch bs rs ∷ cs) = seen (T.run ws bs rs).result (T.run ws bs rs).reply ∷ tree_seen (T.run ws bs rs).words cs
tree_seen ws (Call.list a z bs ∷ cs) = tree_seen ws cs
tree_seen ws (Call.prepare bs out ∷ cs) = tree_seen ws cs

-- THE PLAIN ENGINE, from slices on
abbrev pub plain_seen : Slices → List D.Call → List Seen
plain_seen s [] = []
plain_seen s (D.Call.init ∷ cs) = seen (P.init_result s) [] ∷ plain_seen (init_slices s) cs
plain_seen s (D.Call.check ∷ cs) = seen (P.check_result s) [] ∷ plain_seen s cs
plain_seen s (D.Call.batch bs rs ∷ cs) = seen (P.run s bs rs).result (P.run s bs rs).reply ∷ plain_seen (P.run s bs rs).slices cs

-- the same calls for it: listings and preparings fall out
abbrev pub shared : List Call → List D.Call
shared [] = []
shared (Call.init ∷ cs) = D.Call.init ∷ shared cs
shared (Call.check ∷ cs) = D.Call.check ∷ shared cs
shared (Call.batch bs rs ∷ cs) = D.Call.batch bs rs ∷ shared cs
shared (Call.list a z bs ∷ cs) = shared cs
shared (Call.prepare bs out ∷ cs) = shared cs
