use Rattle.std.proofs.Common.{arith, ◌≡◌, ◌+◌, ◌≤◌, ◌*◌, ℕ, ◌/◌, ◌%◌}
use Rattle.std.proofs.Math.Nat.{mul-mod_right, mul-div_cancel_left}
use Rattle.words.proofs.records_in.Goals as goal

pub returns-then-rest-size-ne0 : goal.returns-then-rest-size-ne0
returns-then-rest-size-ne0 c n lo hi e =
    let r : c.in_ok-rest.rest ≡ c.args.size * n = omega (arith, c.in_ok-rest.ensures.1, e) in
    let d : c.in_ok-rest.rest / c.args.size ≡ n = rw r (mul-div_cancel_left n c.requires) in
    let m : c.in_ok-rest.rest % c.args.size ≡ 0 = rw r (mul-mod_right c.args.size n) in
    grind (arith, c.then-rest-size-ne0.either)
