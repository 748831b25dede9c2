use Prim.Native.Nat.{ℕ, ◌≤◌}
use mathlib.Core.Path.{◌≡◌, sym, ap, ◌∙◌}
use mathlib.Core.List.{List}
use native.Mathlib.Omega.{arith}
use lib.ListN.{length}
use Rattle.batch.specs.Batch.{max_batch, counted, rest_at, parse}
use Rattle.batch.proofs.ParseLaws.{
  Onward,
  next_after,
  count_end,
  count_bad,
  count_next,
  parse_long,
  parse_rest,
}
use Rattle.reader.proofs.count_through.Goals as goal

-- a batch that is not too long is read from its beginning
not-long : (s : List ℕ) → length s ≤ max_batch → counted (rest_at s 0) ≡ counted (parse s)
not-long s h = sym (ap counted (parse_rest s h))

pub returns-then-batch-gt-MAX_BATCH : goal.returns-then-batch-gt-MAX_BATCH
returns-then-batch-gt-MAX_BATCH c = sym (ap counted (parse_long _ c.if-batch-gt-MAX_BATCH.true))

pub returns-in-End : goal.returns-in-End
returns-in-End c =
    count_end _ _ _ c.loop-next.invariant.2 c.in-End.ensures ∙ not-long _ c.if-batch-gt-MAX_BATCH.false

pub returns-in-Bad : goal.returns-in-Bad
returns-in-Bad c =
    count_bad _ _ _ c.loop-next.invariant.2 c.in-Bad.ensures ∙ not-long _ c.if-batch-gt-MAX_BATCH.false

pub loop-next-smaller : goal.loop-next-smaller
loop-next-smaller c =
    let on : Onward c.args.batch.now c.loop-next.at c.in-Next.next.at = next_after _ _ (sym c.in-Next.ensures) in
    omega arith

pub loop-next-preserved : goal.loop-next-preserved
loop-next-preserved c =
    let on : Onward c.args.batch.now c.loop-next.at c.in-Next.next.at = next_after _ _ (sym c.in-Next.ensures) in (
      omega arith,
      on.within,
      count_next _ _ _ c.loop-next.invariant.2 c.in-Next.ensures,
    )
