use mathlib.Core.Path.{refl}
use native.Mathlib.Omega.{arith}
use Rattle.freemap.proofs.MapLaws.{blank_map_lem}
use Rattle.script.specs.Script.{script}
use Rattle.script_wide.proofs.GoingLaws.{wide_by}
use Rattle.prepare.proofs.PrepareLaws.{gives_short, gives_done}
use Rattle.prepare.proofs.yield_freeing.Goals as goal

pub mark_going-requires-clause-blank_map : goal.mark_going-requires-clause-blank_map
mark_going-requires-clause-blank_map c =
    blank_map_lem

pub returns-then-most-number-clause-fact : goal.returns-then-most-number-clause-fact
returns-then-most-number-clause-fact c =
    λ s ws' w. (gives_short (script c.args.pool.now ws') c.args.out.now
    (c.wide_length-number.ensures ws' (wide_by (c.mark_going.ensures s) refl w)) (omega arith)).result_is

pub returns-then-most-number-clause-fact_2 : goal.returns-then-most-number-clause-fact_2
returns-then-most-number-clause-fact_2 c =
    λ s ws' w. (gives_short (script c.args.pool.now ws') c.args.out.now
    (c.wide_length-number.ensures ws' (wide_by (c.mark_going.ensures s) refl w)) (omega arith)).slice_is

pub wide_write-requires-clause-wide_fits : goal.wide_write-requires-clause-wide_fits
wide_write-requires-clause-wide_fits c =
    let G = c.mark_going.ensures c.requires.widely.formed in
    record {
      words = c.requires.widely.words;
      wide = wide_by G refl c.requires.widely.wide;
      room = omega (arith, c.wide_length-number.ensures c.requires.widely.words (wide_by G refl c.requires.widely.wide));
    }

pub returns-clause-fact : goal.returns-clause-fact
returns-clause-fact c =
    λ s ws' w. let W = wide_by (c.mark_going.ensures s) refl w in (gives_done
    (script c.args.pool.now ws') c.args.out.now
    (c.wide_length-number.ensures ws' W) (omega arith) (c.wide_write.ensures ws' W)).result_is

pub returns-clause-fact_2 : goal.returns-clause-fact_2
returns-clause-fact_2 c =
    λ s ws' w. let W = wide_by (c.mark_going.ensures s) refl w in (gives_done
    (script c.args.pool.now ws') c.args.out.now
    (c.wide_length-number.ensures ws' W) (omega arith) (c.wide_write.ensures ws' W)).slice_is
