-- The answers compute: a pool of two entries, the same with a spare word that is not 0, and no pool.
use mathlib.Core.Path.{◌≡◌, refl}
use mathlib.Core.List.{[]}
use lib.ListN.{set}
use Rattle.tree.specs.Tree.{tall, has, slot_mark}
use Rattle.tree.specs.Slots.{slot}
use Rattle.layout.specs.Words.{spare_word, field_of}
use Rattle.layout.specs.Places.{render}
use Rattle.layout.specs.Pool.{slot_of, run}
use Rattle.layout.specs.Decode.{span, below}
use Rattle.layout.specs.Decide.{is_well_formed}
use Rattle.decode.proofs.Example.{two, at_places}
use Rattle.verify.specs.Answers.{check_answer}

well : check_answer (render two at_places 4) ≡ 0
unfolding tall has slot slot_mark field_of slot_of run span below is_well_formed
well = refl

spare_set : check_answer (set (render two at_places 4) spare_word 1) ≡ 2
unfolding tall has slot slot_mark field_of slot_of run span below is_well_formed
spare_set = refl

no_words : check_answer [] ≡ 1
no_words = refl
