use mathlib.Core.Path.{◌≡◌, subst}
use native.Mathlib.Omega.{arith}
use Rattle.script_wide.specs.Going.{Going}
use Rattle.script_wide.proofs.GoingLaws.{blank_sound, blank_going}
use Rattle.script_wide.proofs.mark_going.Goals as goal

pub loop-m-init : goal.loop-m-init
loop-m-init c = (
  blank_sound c.requires.blank_map,
  λ s. blank_going c.requires.blank_map s c.args.base
      c.args.order,
)

pub loop-m-preserved : goal.loop-m-preserved
loop-m-preserved c = (c.mark.ensures.sound_2, λ s. c.mark.ensures.going s (c.loop-m.invariant.1 s))

pub returns : goal.returns
returns c =
    let e : c.loop-m.m ≡ c.args.n = omega arith in
    λ s. subst (Going s c.loop-m.map c.args.base c.args.order) e (c.loop-m.invariant.1 s)
