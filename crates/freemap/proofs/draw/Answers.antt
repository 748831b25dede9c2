use Rattle.std.proofs.Common.{ℕ, false, Option, Some, None, MatchOption, arith, refl}
use Rattle.std.specs.Option.{IsSome}
use Rattle.std.proofs.lemmas.Option.{MatchOption-at_some}
use Rattle.freemap.specs.FreeMap.{put, Lowest}
use Rattle.freemap.proofs.MapLaws.{not_full}
use Rattle.freemap.proofs.DrawLaws.{drawn_next, took_count}
use Rattle.freemap.proofs.draw.Goals as goal

some : (P : Type 0) (Q : ℕ → Type 0) (o : Option ℕ) → MatchOption o P Q → (P → ⊥) → IsSome o
some P Q None p n = absurd (n p)
some P Q (Some x) q n = refl

pub unwrap-m-requires : goal.unwrap-m-requires
unwrap-m-requires c =
    let i = c.loop-i.invariant in
    some _ _ c.lowest_free.result c.lowest_free.ensures (λ o. omega (arith, not_full i.sound.is o))

pub loop-i-preserved : goal.loop-i-preserved
loop-i-preserved c =
    let i = c.loop-i.invariant in let m = c.unwrap-m.result in
    let l : Lowest c.loop-i.map m = MatchOption-at_some _ _ _ c.unwrap-m.ensures c.lowest_free.ensures in
    let took = c.take.ensures in record {
      sound = record { free = put i.sound.free m false; is = took i.sound.free i.sound.is };
      left = omega (arith, took_count i.sound m l.most l.on took);
      drawn = λ g M. drawn_next g c.loop-i.i c.loop-i.nums c.loop-i.map (i.drawn g M) m l c.take.new.map took (omega arith);
    }
