-- `record_at`: the command at a place where a good record stands.
use Prim.Native.Nat.{ℕ, ◌+◌}
use mathlib.Core.Path.{◌≡◌, ap, ◌∙◌}
use lib.ListN.{get_or}
use Rattle.batch.specs.Batch.{head_bytes, command_at}
use Rattle.words.proofs.NumberLaws.{one_byte}
use Rattle.batch.proofs.ParseLaws.{Whole, whole, read_good}
use Rattle.batch.proofs.record_at.Goals as goal

whole_of : (c : goal.After-number2) → Whole c.args.batch.now c.args.at
whole_of c = whole c.args.batch.now c.args.at c.requires

tag_is : (c : goal.After-number2) → c.number1-tag.result ≡ get_or c.args.batch.now c.args.at 0
tag_is c = one_byte c.args.batch.now c.args.at c.number1-tag.ensures.0

pub returns : goal.returns
returns c =
    let d = c in let n = d in let z = n in
    let s = z.args.batch.now in let at = z.args.at in
    read_good s at z.requires (d.command_at-command.ensures ∙ ap (λ (x : ℕ). command_at s x (at + head_bytes)) (tag_is n))
    (ap (λ (x : ℕ). at + head_bytes + x) (c.number2.ensures.0 ∙ (whole_of n).length_is))
