use Rattle.std.proofs.Common.{◌≡◌, ℕ, ◌/◌, ◌%◌, [], ◌∷◌, ap, ◌∙◌, arith}
use borrow.Rule.Slice.PartMut.{put_mid}
use Rattle.words.proofs.WriteLaws.{put_over}
use Rattle.words.proofs.put2.Goals as goal

high : (x : ℕ) → x % 65536 / 256 % 256 ≡ x / 256 % 256
high x = omega arith

low : (x : ℕ) → x % 65536 % 256 ≡ x / 1 % 256
low x = omega arith

pub returns : goal.returns
returns c =
    ap (put_mid c.args.at _ c.args.out.now)
    (c.copy_from_slice.ensures.after ∙ c.to_be_bytes.ensures ∙ (λ i. high c.args.x i ∷ (low c.args.x i ∷ [])))
    ∙ put_over _ _ _ _ (omega arith) (omega arith)
