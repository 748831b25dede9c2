use Prim.Native.Nat.{◌≤◌}
use mathlib.Core.Path.{◌≡◌, refl, subst}
use native.Mathlib.Omega.{arith}
use Rattle.prepare.specs.Entries.{EntryThere}
use Rattle.prepare.proofs.EntryLaws.{order_le, is_aligned_lem, below_head, head_low, path_there_lem, head_table}
use Rattle.prepare.proofs.entry_rows.Goals as goal

pub returns-then-top-eq0 : goal.returns-then-top-eq0
returns-then-top-eq0 c =
    let e : c.args.top ≡ 0 = omega arith in
    λ s o l st. head_table s (subst (EntryThere s c.args.at.base c.args.at.order) e (c.requires.entry_there s)) refl st
    c.head_rows.ensures.count_is c.head_rows.ensures.word_is c.head_rows.ensures.marks_is c.head_rows.ensures.spare_is c.head_rows.ensures.no_node

pub same_rows-requires-clause-order_le_max_order : goal.same_rows-requires-clause-order_le_max_order
same_rows-requires-clause-order_le_max_order c =
    let p : 1 ≤ c.args.top = omega arith in
    let s = c.requires.well_formed in
    let t = c.requires.entry_there s in
    (order_le s t, is_aligned_lem s t, below_head s t p, head_low s t)

pub same_rows-requires-clause-path_there : goal.same_rows-requires-clause-path_there
same_rows-requires-clause-path_there c =
    let p : 1 ≤ c.args.top = omega arith in
    let s = c.requires.well_formed in
    let t = c.requires.entry_there s in
    λ s. path_there_lem s (c.requires.entry_there s)

pub returns : goal.returns
returns c =
    λ s o l st. c.same_rows.ensures s o l st.becomes st.valid st.word_is st.marks_is
    st.same_has
    st.same_height st.same_places
