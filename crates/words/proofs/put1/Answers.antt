use Rattle.std.proofs.Common.{◌≡◌, ℕ, ◌+◌, ◌/◌, ◌%◌, set, arith}
use Rattle.words.specs.Bytes.{write_from}
use Rattle.words.proofs.put1.Goals as goal

first : (at : ℕ) → at ≡ at + 0
first at = omega arith

whole : (x : ℕ) → x % 256 ≡ x / 1 % 256
whole x = omega arith

pub returns : goal.returns
unfolding write_from
returns c = λ i. set c.args.out.now (first c.args.at i) (whole c.args.x i)
