use mathlib.Core.Path.{refl, ◌∙◌}
use lib.Dec.{ltb}
use lib.ListN.{get_or}
use Rattle.std.proofs.Common.{rules, tests}
use Rattle.std.proofs.lemmas.Iterator.{YieldsList-from_slice}
use Rattle.std.proofs.lemmas.Iterator.Search.{all_from_yields_List}
use Rattle.script.proofs.ApplyLaws.{chunks_below}
use Rattle.script.proofs.places_below.Goals as goal

pub returns : goal.returns
returns c =
    let n = c.args.n in
    all_from_yields_List (λ x. ltb (get_or x 0 0) n) _ _ c.all.result c.all.ensures.ran
    (YieldsList-from_slice _ (c.iter.ensures.rest ∙ c.as_chunks.ensures.front)) (λ x b q k. (search (rules, tests), search (rules, tests)))
    ∙ chunks_below n _ c.args.script.now refl
