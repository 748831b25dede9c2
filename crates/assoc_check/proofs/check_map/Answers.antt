use Rattle.std.proofs.Common.{arith, ◌≡◌, Some, None}
use Rattle.assoc_keys.specs.Number.{Words}
use Rattle.assoc_check.proofs.AnswerLaws.{none_seen, counted, uncounted, answer_size, at_least, answer_no, answer_yes, map_count_lem}
use Rattle.assoc_check.proofs.check_map.Goals as goal

pub returns-in_err-n-clause-value : goal.returns-in_err-n-clause-value
returns-in_err-n-clause-value c =
    let e : c.blocks_in.result ≡ None = grind arith in
    let w = answer_size c.args.pool.now (uncounted c.args.pool.now c.blocks_in.ensures e) in
    grind (arith, w)

pub pool_ok-requires-clause-sized : goal.pool_ok-requires-clause-sized
pool_ok-requires-clause-sized c =
    let e : c.blocks_in.result ≡ Some c.in_ok-n.n = grind arith in
    let r = counted c.args.pool.now c.blocks_in.ensures e in
    (r.sized, at_least _ _ r)

pub pool_ok-requires-clause-set_of : goal.pool_ok-requires-clause-set_of
pool_ok-requires-clause-set_of c =
    (none_seen, c.requires)

pub returns-then-not-pool_ok-clause-value : goal.returns-then-not-pool_ok-clause-value
returns-then-not-pool_ok-clause-value c =
    let e : c.blocks_in.result ≡ Some c.in_ok-n.n = grind arith in
    let fit : Words c.args.pool.now = λ i. omega (arith, c.type_inv.pool i) in
    answer_no c.args.pool.now _ (counted c.args.pool.now c.blocks_in.ensures e) fit (c.pool_ok.ensures.decides.1 c.if-not-pool_ok.true)

pub returns-clause-value : goal.returns-clause-value
returns-clause-value c =
    let e : c.blocks_in.result ≡ Some c.in_ok-n.n = grind arith in
    answer_yes c.args.pool.now _ (counted c.args.pool.now c.blocks_in.ensures e) (c.pool_ok.ensures.decides.0 c.if-not-pool_ok.false)

pub returns-clause-map_of : goal.returns-clause-map_of
returns-clause-map_of c =
    let e : c.blocks_in.result ≡ Some c.in_ok-n.n = grind arith in
    map_count_lem _ _ (counted c.args.pool.now c.blocks_in.ensures e) (c.pool_ok.ensures.map_of c.if-not-pool_ok.false)
