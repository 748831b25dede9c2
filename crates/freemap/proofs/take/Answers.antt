-- `take`: the node's bit, its word's and the count.
use mathlib.Core.Path.{◌≡◌, sym, ◌∙◌}
use native.Mathlib.Omega.{arith}
use lib.ListN.{length, get_or}
use Rattle.freemap.specs.FreeMap.{map_count}
use Rattle.freemap.proofs.MapLaws.{count_kept, count_some, length_kept, taken_map}
use Rattle.freemap.proofs.take.Goals as goal

kept : (c : goal.After-slice_known-4-1) → let a = c.args in
    (length c.lower_word.new.map ≡ length a.map.now) × (get_or c.lower_word.new.map map_count 0 ≡ get_or a.map.now map_count 0)
kept c = let z = c in let M = z.requires.sound.is in (
  length_kept M z.args.m z.requires.m_lt_map_nodes.0 c.set_bit.ensures c.lower_word.ensures ∙ sym M.long,
  count_kept M z.args.m z.requires.m_lt_map_nodes.0 c.set_bit.ensures c.lower_word.ensures,
)

pub overflow_sub-map : goal.overflow_sub-map
overflow_sub-map c =
    let r = c in let z = r in
    omega (arith, (kept r).1, count_some z.requires.sound.is z.args.m z.requires.m_lt_map_nodes.0 z.requires.m_lt_map_nodes.1)

pub returns : goal.returns
returns c =
    let r = c in let z = r in
    λ f M. taken_map M z.args.m z.requires.m_lt_map_nodes.0 z.requires.m_lt_map_nodes.1 r.set_bit.ensures r.lower_word.ensures
