-- `remove`: takes out the entry that covers i and stands at a spot: its marks off first, so that then no mark word
use mathlib.Core.Path.{refl, ap, ◌∙◌}
use mathlib.Core.Bool.{false}
use mathlib.Core.List.{List}
use lib.Dec.{lit<}
use Rattle.model.specs.declared.Entry.{Entry}
use Rattle.layout.specs.Places.{prune, render}
use Rattle.layout.specs.WellFormed.{WellFormed, num}
use Rattle.lookup.specs.Views.{Holds}
use Rattle.marks.proofs.RemarkLaws.{formed_remark, holds_remark}
use Rattle.erase.proofs.FreedLaws.{map_remark}
use Rattle.erase.proofs.ErasedLaws.{all_off, bare_erase, bare_height}
use Rattle.erase.proofs.remove.Goals as goal

abbrev At : (z : goal.After-climb-arg-2-1) → WellFormed z.args.pool.now → Type 0
At z s = Holds s.list (num s) z.args.i z.args.at.node z.args.at.tier z.args.at.slot

abbrev At_2 : (z : goal.After-climb-arg-3-1) → WellFormed z.args.pool.now → Type 0
At_2 z s = Holds s.list (num s) z.args.i z.args.at.node z.args.at.tier z.args.at.slot

abbrev At_3 : (z : goal.After-cut-arg-2-1) → WellFormed z.args.pool.now → Type 0
At_3 z s = Holds s.list (num s) z.args.i z.args.at.node z.args.at.tier z.args.at.slot

abbrev At_4 : (z : goal.After-slice_known-7-1) → WellFormed z.args.pool.now → Type 0
At_4 z s = Holds s.list (num s) z.args.i z.args.at.node z.args.at.tier z.args.at.slot

abbrev first : (c : goal.After-climb-arg-2-1) (s : WellFormed c.args.pool.now) →
    At c s → WellFormed c.climb.new.pool
first c s h = formed_remark c.args.i 0 false (lit< tt) s
    (c.climb.ensures s h)

abbrev first_2 : (c : goal.After-climb-arg-3-1) (s : WellFormed c.args.pool.now) →
    At_2 c s → WellFormed c.climb.new.pool
first_2 c s h = formed_remark c.args.i 0 false (lit< tt) s
    (c.climb.ensures s h)

abbrev first_3 : (c : goal.After-cut-arg-2-1) (s : WellFormed c.args.pool.now) →
    At_3 c s → WellFormed c.climb.new.pool
first_3 c s h = formed_remark c.args.i 0 false (lit< tt) s
    (c.climb.ensures s h)

abbrev first_4 : (c : goal.After-slice_known-7-1) (s : WellFormed c.args.pool.now) →
    At_4 c s → WellFormed c.climb.new.pool
first_4 c s h = formed_remark c.args.i 0 false (lit< tt) s
    (c.climb.ensures s h)

abbrev second : (c : goal.After-climb-arg-3-1) (s : WellFormed c.args.pool.now) →
    At_2 c s → WellFormed c.climb-2.new.pool
second c s h =
    let s₁ = first_2 c s h in
    formed_remark c.args.i 1 false (lit< tt) s₁ (c.climb-2.ensures s₁ (holds_remark c.args.i 0 false h))

abbrev second_2 : (c : goal.After-cut-arg-2-1) (s : WellFormed c.args.pool.now) →
    At_3 c s → WellFormed c.climb-2.new.pool
second_2 c s h =
    let s₁ = first_3 c s h in
    formed_remark c.args.i 1 false (lit< tt) s₁ (c.climb-2.ensures s₁ (holds_remark c.args.i 0 false h))

abbrev second_3 : (c : goal.After-slice_known-7-1) (s : WellFormed c.args.pool.now) →
    At_4 c s → WellFormed c.climb-2.new.pool
second_3 c s h =
    let s₁ = first_4 c s h in
    formed_remark c.args.i 1 false (lit< tt) s₁ (c.climb-2.ensures s₁ (holds_remark c.args.i 0 false h))

abbrev third : (c : goal.After-cut-arg-2-1) (s : WellFormed c.args.pool.now) →
    At_3 c s → WellFormed c.climb-3.new.pool
third c s h =
    let s₂ = second_2 c s h in
    formed_remark c.args.i 2 false (lit< tt) s₂
    (c.climb-3.ensures s₂ (holds_remark c.args.i 1 false (holds_remark c.args.i 0 false h)))

abbrev third_2 : (c : goal.After-slice_known-7-1) (s : WellFormed c.args.pool.now) →
    At_4 c s → WellFormed c.climb-3.new.pool
third_2 c s h =
    let s₂ = second_3 c s h in
    formed_remark c.args.i 2 false (lit< tt) s₂
    (c.climb-3.ensures s₂ (holds_remark c.args.i 1 false (holds_remark c.args.i 0 false h)))

held : (c : goal.After-cut-arg-2-1) (s : WellFormed c.args.pool.now)
    (h : At_3 c s) →
    Holds (third c s h).list (num (third c s h)) c.args.i
    c.args.at.node c.args.at.tier
    c.args.at.slot
held c s h =
    holds_remark c.args.i 2 false (holds_remark c.args.i 1 false (holds_remark c.args.i 0 false h))

held_2 : (c : goal.After-slice_known-7-1) (s : WellFormed c.args.pool.now)
    (h : At_4 c s) →
    Holds (third_2 c s h).list (num (third_2 c s h)) c.args.i
    c.args.at.node c.args.at.tier
    c.args.at.slot
held_2 c s h =
    holds_remark c.args.i 2 false (holds_remark c.args.i 1 false (holds_remark c.args.i 0 false h))

pub climb-requires-2-clause-stands_at : goal.climb-requires-2-clause-stands_at
climb-requires-2-clause-stands_at c =
    record {
      formed = first c c.requires.erasing.formed c.requires.erasing.holds;
      holds = holds_remark c.args.i 0 false c.requires.erasing.holds;
      markable = λ s e q r. refl;
    }

pub climb-requires-3-clause-stands_at : goal.climb-requires-3-clause-stands_at
climb-requires-3-clause-stands_at c =
    record {
      formed = second c c.requires.erasing.formed c.requires.erasing.holds;
      holds = holds_remark c.args.i 1 false (holds_remark c.args.i 0 false c.requires.erasing.holds);
      markable = λ s e q r. refl;
    }

pub cut-requires-clause-leaves : goal.cut-requires-clause-leaves
cut-requires-clause-leaves c =
    let s₁ = first_3 c c.requires.erasing.formed c.requires.erasing.holds in
    let s₂ = second_2 c c.requires.erasing.formed c.requires.erasing.holds in
    let s₃ = third c c.requires.erasing.formed c.requires.erasing.holds in
    record {
      formed = s₃;
      holds = held c c.requires.erasing.formed c.requires.erasing.holds;
      unmarked = all_off c.requires.erasing.formed.list c.requires.erasing.formed.valid c.args.i;
      height_is = bare_height c.requires.erasing.formed.list c.args.i ∙ c.requires.erasing.height_is;
    }

pub cut-requires-clause-free_map : goal.cut-requires-clause-free_map
cut-requires-clause-free_map c =
    let s₁ = first_3 c c.requires.erasing.formed c.requires.erasing.holds in
    let s₂ = second_2 c c.requires.erasing.formed c.requires.erasing.holds in
    let s₃ = third c c.requires.erasing.formed c.requires.erasing.holds in
    map_remark s₂ c.args.i 2 false (lit< tt) s₃.words_are (map_remark s₁ c.args.i 1 false (lit< tt) s₂.words_are
    (map_remark c.requires.erasing.formed c.args.i 0 false (lit< tt) s₁.words_are c.requires.free_map))

pub returns-clause-pool_after : goal.returns-clause-pool_after
returns-clause-pool_after c =
    λ s h z. c.cut.ensures.pool_after (third_2 c s h) (held_2 c s h) (all_off s.list s.valid c.args.i) (bare_height s.list c.args.i ∙ z) ∙
    ap (λ (l : List Entry). render l (prune l s.places) s.n) (bare_erase s.list c.args.i)
