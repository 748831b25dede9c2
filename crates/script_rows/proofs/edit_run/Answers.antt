use Rattle.script_rows.proofs.RowWriteLaws.{run_put}
use Rattle.script_rows.proofs.edit_run.Goals as goal

pub returns : goal.returns
returns c =
    run_put c.args.rows.now c.put_run.new.rows c.args.r c.args.o c.args.c c.args.word c.requires.r_bound
    c.requires.c_bound.0 c.requires.c_bound.1 c.put_run.ensures c.args.m c.put_bits.ensures c.put_bits-2.ensures c.put_bits-3.ensures
    c.has_bit.ensures
    c.has_bit-2.ensures c.has_bit-3.ensures
