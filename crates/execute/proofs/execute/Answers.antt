-- `execute`: one command: its reply, and the map after it.
use Rattle.execute.proofs.ReplyLaws.{by_command, put_is}
use Rattle.execute.proofs.execute.Goals as goal

pub returns-in-Some-clause-executes : goal.returns-in-Some-clause-executes
returns-in-Some-clause-executes c =
    (λ s. by_command s (put_is c.args.c c.in-Some.ensures) (c.run_store.ensures.executes s))
