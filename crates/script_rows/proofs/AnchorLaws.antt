-- The anchor after a command: the marks of the head's row are those of the whole list.
use Prim.Native.Nat.{ℕ, ◌+◌, ◌*◌, ◌^◌, ◌≤◌, ◌<◌}
use mathlib.Core.Path.{◌≡◌, refl, ap, ◌∙◌}
use mathlib.Core.Bool.{Bool, true, false, not}
use mathlib.Core.List.{List}
use mathlib.Core.Option.{Option}
use native.Mathlib.Omega.{arith}
use lib.Dec.{eqb}
use lib.ListN.{get_or}
use Rattle.blocks.specs.Choice.{pick}
use Rattle.blocks.specs.Lists.{any}
use Rattle.blocks.specs.Blocks.{block}
use Rattle.model.specs.declared.Entry.{Entry}
use Rattle.model.specs.Model.{has_mark, mark_count, marks_of}
use Rattle.tree.specs.Tree.{tier_order, height, slot_mark}
use Rattle.tree.specs.Slots.{Numbering}
use Rattle.tree.proofs.GrowLaws.{grow_mark}
use Rattle.tree.proofs.HeightLaws.{height_fits}
use Rattle.layout.specs.Words.{mark_place}
use Rattle.layout.specs.WellFormed.{WellFormed}
use Rattle.script_rows.specs.Row.{marks_up}
use Rattle.script_rows.specs.Becomes.{Shown, Edits, Turns}
use Rattle.script_rows.proofs.HeadLaws.{lows}
use Rattle.script_rows.proofs.PathLaws.{marked, turns}

pub turned_marks : {l : List Entry} {i k w m : ℕ} {ps : List ℕ} {top : ℕ} {o : Option Entry}
    {l' : List Entry} {μ : Numbering} (ed : Turns l i k w m ps top o l' μ) {rs : List ℕ} → height l' ≤ top →
    k < tier_order top → block (tier_order top) i ≡ 0 → Shown i k l' μ rs top top → marks_up rs top ≡ marks_of l'
turned_marks {i = i} {top = top} {l' = l'} ed {rs} le h z sh = rw (at 0 (omega arith), at 1 (omega arith), at 2 (omega arith))
    (sum (any (has_mark 0) l') (any (has_mark 1) l') (any (has_mark 2) l'))
  where
    at : (x : ℕ) → x < mark_count → not (eqb (get_or rs (mark_place top x) 0) 0) ≡ any (has_mark x) l'
    at x g = marked ed h sh x g ∙ (ap (slot_mark l' x top) z
        ∙ grow_mark l' top (height_fits (lows ed.valid) le) x)

    sum : (a b c : Bool) → pick a 1 0 + 2 * pick b 1 0 + 4 * pick c 1 0 ≡ pick a (2 ^ 0) 0 + pick b (2 ^ 1) 0 + pick c (2 ^ 2) 0
    sum true true true = refl
    sum true true false = refl
    sum true false true = refl
    sum true false false = refl
    sum false true true = refl
    sum false true false = refl
    sum false false true = refl
    sum false false false = refl

pub anchor_marks : {ws : List ℕ} {s : WellFormed ws} {i k w m : ℕ} {ps : List ℕ} {top : ℕ} {o : Option Entry}
    {l' : List Entry} {μ : Numbering} (ed : Edits s i k w m ps top o l' μ) {rs : List ℕ} → height l' ≤ top →
    k < tier_order top → block (tier_order top) i ≡ 0 → Shown i k l' μ rs top top → marks_up rs top ≡ marks_of l'
anchor_marks ed le h z sh = turned_marks (turns ed) le h z sh
