use Rattle.std.proofs.Common.{◌≡◌, ℕ, ◌+◌, ◌-◌, ap, ◌∙◌, replicate, arith}
use borrow.Rule.Slice.PartMut.{put_mid, mid_len}
use Rattle.std.proofs.lemmas.List.{length-replicate}
use Rattle.words.proofs.WriteLaws.{put_over}
use Rattle.words.proofs.FillLaws.{filled_over}
use Rattle.words.proofs.fill.Goals as goal

pub returns : goal.returns
returns c =
    let n = c.args.n in let a = c.args.a in let s = c.args.s.now in
    let e : a + n - a ≡ n = omega arith in
    let k = mid_len a (a + n) s (omega arith) ∙ e in
    ap (put_mid a (a + n - a) s) (c.fill.ensures.after (λ y q. q) ∙ ap (λ (m : ℕ). replicate m c.args.x) k)
    ∙ put_over s a _ (replicate n c.args.x) (omega (arith, length-replicate n c.args.x)) (omega arith)
    ∙ filled_over s a c.args.x n
