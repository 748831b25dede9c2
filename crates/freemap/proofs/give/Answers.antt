-- `give`: a node that is in the map already changes nothing.
use mathlib.Core.Path.{◌≡◌, sym, ◌∙◌}
use native.Mathlib.Omega.{arith}
use lib.ListN.{length, get_or}
use Rattle.freemap.specs.FreeMap.{map_count}
use Rattle.freemap.proofs.MapLaws.{count_kept, count_fits, length_kept, given_map}
use Rattle.freemap.proofs.give.Goals as goal

kept : (c : goal.After-slice_known-5-1) → let a = c.args in
    (length c.raise_word.new.map ≡ length a.map.now) × (get_or c.raise_word.new.map map_count 0 ≡ get_or a.map.now map_count 0)
kept c = let z = c in let M = z.requires.sound.is in (
  length_kept M z.args.m z.requires.m_lt_map_nodes c.set_bit.ensures c.raise_word.ensures ∙ sym M.long,
  count_kept M z.args.m z.requires.m_lt_map_nodes c.set_bit.ensures c.raise_word.ensures,
)

pub overflow_add-map : goal.overflow_add-map
overflow_add-map c =
    let r = c in omega (arith, (kept r).1, count_fits ((r)).requires.sound.is)

pub returns : goal.returns
returns c =
    let r = c in let z = r in
    λ f M. given_map M z.args.m z.requires.m_lt_map_nodes (omega (arith, r.if-w-m-eq1.false)) r.set_bit.ensures
    r.raise_word.ensures
