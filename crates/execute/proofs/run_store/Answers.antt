-- `run_store`: a store or a reservation, the tests in order, the reply and the words.
use mathlib.Core.Path.{sym, ◌∙◌}
use Rattle.batch.specs.declared.Command.TheVariants.{Store}
use Rattle.blocks.proofs.BoolLaws.{by_t}
use Rattle.execute.proofs.ReplyLaws.{leaves, store_order, store_index, store_word, store_formed, store_mapped, stores, reserves}
use Rattle.execute.proofs.ReplyLaws.{put_store, put_reserve, put_order, put_index, put_word, put_storable}
use Rattle.freenodes.proofs.FollowLaws.{map_stays}
use Rattle.execute.proofs.ReplyLaws.{words_stay}
use Rattle.execute.proofs.run_store.Goals as goal

pub returns-then-order-gt-MAX_ORDER-clause-executes : goal.returns-then-order-gt-MAX_ORDER-clause-executes
returns-then-order-gt-MAX_ORDER-clause-executes c =
    (λ s. put_store c.args.index c.args.order c.args.word s
    (put_order c.args.index c.args.order c.args.word c.requires.order_value c.if-order-gt-MAX_ORDER.true)
    (leaves s (Store _ _ _) (store_order s.n s.list _ _ _ c.if-order-gt-MAX_ORDER.true) c.answered_as.ensures))

pub returns-then-not-aligned-clause-executes : goal.returns-then-not-aligned-clause-executes
returns-then-not-aligned-clause-executes c =
    let z = c in
    let al = sym c.is_aligned-aligned.ensures ∙ c.if-not-aligned.true in
    (λ s. put_store z.args.index z.args.order z.args.word s
    (put_index z.args.index z.args.order z.args.word z.requires.order_value al)
    (leaves s (Store _ _ _) (store_index s.n s.list _ _ _ c.if-order-gt-MAX_ORDER.false al) c.answered_as-then-not-aligned.ensures))

pub returns-then-not-enterable-clause-executes : goal.returns-then-not-enterable-clause-executes
returns-then-not-enterable-clause-executes c =
    let z = c in
    let e = sym c.is_enterable-enterable.ensures ∙ c.if-not-enterable.true in
    let (f, w) = put_word z.args.index z.args.order z.args.word {b = z.args.reserve} e in
    (λ s. put_store z.args.index z.args.order z.args.word s f
    (leaves s (Store _ _ _) (store_word s.n s.list _ _ _ c.if-order-gt-MAX_ORDER.false (sym c.is_aligned-aligned.ensures ∙ c.if-not-aligned.false) w) c.answered_as-then-not-enterable.ensures))

pub put_reply-requires : goal.put_reply-requires
put_reply-requires c =
    let y = c in let z = (y) in
    let e = sym y.is_enterable-enterable.ensures ∙ c.if-not-enterable.false in
    λ f. let st = put_storable z.args.index z.args.order z.args.word e f in
    store_formed z.requires.well_formed _ _ _ z.ranges.index.fits z.ranges.word.fits y.if-order-gt-MAX_ORDER.false st
    ((c.store-outcome.ensures.puts z.requires.well_formed).stores st)

pub returns-clause-executes : goal.returns-clause-executes
returns-clause-executes c =
    let z = c in
    let index< = z.ranges.index.fits in let word< = z.ranges.word.fits in
    let e = sym c.is_enterable-enterable.ensures ∙ c.if-not-enterable.false in
    let al = sym c.is_aligned-aligned.ensures ∙ c.if-not-aligned.false in
    (λ s. by_t z.args.reserve
    (λ t. put_reserve z.args.index z.args.order z.args.word s t (words_stay s (c.put_reply.ensures.value t).1
    (reserves s z.args.index ((c.store-outcome.ensures.puts s).reserves (z.requires.order_value t).1) (c.put_reply.ensures.value t).0)))
    (λ f. let st = put_storable z.args.index z.args.order z.args.word e f in put_store z.args.index z.args.order z.args.word s f
    (stores s z.args.index z.args.order z.args.word index< word< c.if-order-gt-MAX_ORDER.false st ((c.store-outcome.ensures.puts s).stores st) (c.put_reply.ensures.settles f) al)))

pub returns-clause-free_map_2 : goal.returns-clause-free_map_2
returns-clause-free_map_2 c =
    let z = c in
    let index< = z.ranges.index.fits in let word< = z.ranges.word.fits in
    let e = sym c.is_enterable-enterable.ensures ∙ c.if-not-enterable.false in
    let al = sym c.is_aligned-aligned.ensures ∙ c.if-not-aligned.false in
    by_t z.args.reserve (λ t. map_stays (c.put_reply.ensures.value t).1 c.store-outcome.ensures.free_map_2)
    (λ f. let st = put_storable z.args.index z.args.order z.args.word e f in
    store_mapped z.requires.well_formed z.args.index z.args.order z.args.word index< word< c.if-order-gt-MAX_ORDER.false st ((c.store-outcome.ensures.puts z.requires.well_formed).stores st) (c.put_reply.ensures.settles f)
    c.store-outcome.ensures.free_map_2)
