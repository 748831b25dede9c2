use Rattle.std.proofs.Common.{ap, ◌∙◌, arith}
use borrow.Rule.Slice.PartMut.{put_mid}
use Rattle.words.proofs.WriteLaws.{put_number}
use Rattle.words.proofs.put8.Goals as goal

pub returns : goal.returns
returns c =
    ap (put_mid c.args.at _ c.args.out.now) (c.copy_from_slice.ensures.after ∙ c.to_be_bytes.ensures)
    ∙ put_number _ _ _ 8 c.args.x (omega arith) (omega arith)
