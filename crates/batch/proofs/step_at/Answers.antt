-- `step_at`: the command at a place where a good record stands.
use Prim.Native.Nat.{ℕ, ◌+◌}
use mathlib.Core.Path.{◌≡◌, sym, ap, ◌∙◌}
use lib.ListN.{get_or}
use Rattle.batch.specs.Batch.{field_bytes, head_bytes, command_at, Store, Find}
use Rattle.words.proofs.NumberLaws.{one_byte}
use Rattle.batch.proofs.ParseLaws.{whole, read_good}
use Rattle.batch.proofs.step_at.Goals as goal

pub returns-in-1 : goal.returns-in-1
returns-in-1 c =
    let s = c.args.batch.now in let at = c.args.at in
    let tag : 1 ≡ get_or s at 0 = sym c.in-1.is ∙ one_byte s at c.number1-tag.ensures.0 in
    read_good s at c.requires
    ((λ i. Store (c.number8.ensures i) (c.number1.ensures.0 i) (c.number8-in-1.ensures i))
    ∙ ap (λ (x : ℕ). command_at s x (at + head_bytes)) tag)
    (ap (λ (x : ℕ). at + head_bytes + field_bytes x) tag)

pub returns-in-6 : goal.returns-in-6
returns-in-6 c =
    let s = c.args.batch.now in let at = c.args.at in
    let tag : 6 ≡ get_or s at 0 = sym c.in-6.is ∙ one_byte s at c.number1-tag.ensures.0 in
    read_good s at c.requires
    ((λ i. Find (c.number8-in-6.ensures i) (c.number8-in-6-2.ensures i) (c.number1-in-6.ensures.0 i) (c.number2.ensures.0 i))
    ∙ ap (λ (x : ℕ). command_at s x (at + head_bytes)) tag)
    (ap (λ (x : ℕ). at + head_bytes + field_bytes x) tag)

pub returns-in_default : goal.returns-in_default
returns-in_default c =
    let s = c.args.batch.now in let at = c.args.at in
    read_good s at c.requires (c.rest_at.ensures ∙ ap (λ (x : ℕ). command_at s x (at + head_bytes)) (one_byte s at c.number1-tag.ensures.0))
    (ap (λ (x : ℕ). at + head_bytes + x) (c.number2-in_default.ensures.0 ∙ (whole s at c.requires).length_is))
