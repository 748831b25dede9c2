-- The calls on a pool of names that read, and clear: what each gives (R360 to R365). What clear leaves: assoc_check/specs/Answers.
use Rattle.std.specs.Prelude.{ℕ, List, eqb, length}
use Rattle.std.proofs.Math.Option.{Option, none, some}
use Rattle.blocks.specs.Choice.{pick}
use Rattle.answers.specs.declared.Report.{Report}
use Rattle.answers.specs.Answers.{result_of, done, absent, bad_key}
use Rattle.assoc_tree.specs.Keys.{Item, find, is_key_length, key_number}
use Rattle.assoc_layout.specs.Decode.{block_count, list_of}
use Rattle.assoc_check.specs.Answers.{check_answer}

-- R364
abbrev pub found_of : Option Item → Report
found_of none = result_of absent 0
found_of (some x) = result_of done x.object

-- R341
abbrev pub with_key : List ℕ → Report → Report
with_key bs r = pick (is_key_length (length bs)) r (result_of bad_key 0)

abbrev pub lookup : (words key : List ℕ) → Report
lookup ws bs =
    pick (eqb (check_answer ws) done) (with_key bs (found_of (find (key_number bs) (list_of ws (block_count ws))))) (result_of (check_answer ws) 0)
