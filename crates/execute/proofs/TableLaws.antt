-- Each answer of a reply is given exactly when its row of the table says (R73 to R81, R181, R205).
use Prim.Native.Nat.{ℕ, ◌≤◌}
use mathlib.Core.Path.{◌≡◌, refl, sym, ap, subst, ◌∙◌}
use mathlib.Core.Bool.{Bool, true, false}
use mathlib.Core.Logic.{◌≢◌}
use mathlib.Core.List.{List}
use mathlib.Core.Option.{Option, none, some}
use lib.Dec.{leb, ltb, eqb}
use borrow.Author.Tests.{leb-true, leb-false, ltb-true, ltb-false, eqb-true, eqb-false}
use Rattle.blocks.specs.Blocks.{bit}
use Rattle.blocks.specs.Lists.{any}
use Rattle.blocks.proofs.BoolLaws.{by_t, clash}
use Rattle.blocks.proofs.ListLaws.{first_yes}
use Rattle.model.specs.declared.Entry.{Entry}
use Rattle.model.specs.Model.{
  Valid,
  storable,
  reserved_word,
  reserved,
  max_order,
  aligned,
  mark_count,
  matched_mark,
  covers,
  covering,
  present,
  over,
  store,
  erase,
  with_mark,
  remark,
}
use Rattle.model.specs.ByBlock as B
use Rattle.model.proofs.ValidLaws.{sorted_ok, room, bare, erase_none}
use Rattle.model.proofs.AlignedLaws.{store_is, bare_is, whole}
use Rattle.model.proofs.WordLaws.{present_some, marked_kind}
use Rattle.tree.proofs.ReadLaws.{over_none}
use Rattle.tree.proofs.RelabelLaws.{map_o, covering_map}
use Rattle.tree.proofs.StoreLaws.{store_covering}
use Rattle.marks.proofs.RemarkLaws.{remark_absent}
use Rattle.lookup.specs.declared.Outcome.{Outcome}
use Rattle.lookup.specs.Load.{depth}
use Rattle.lookup.specs.Find.{any_mark, find}
use Rattle.batch.specs.declared.Command.{Command}
use Rattle.batch.specs.declared.Command.TheVariants.{Store, Load, Erase, Mark, Unmark, Find, Reserve}
use Rattle.execute.specs.Execute.{execute, finding, short}
use Rattle.commands.specs.Commands.{Executed, leave, reply_of, marking}
use Rattle.batch.specs.declared.Reply.{Reply}
use Rattle.batch.specs.Reply.{answered, store_reply, load_reply, erase_reply, mark_reply, unmark_reply, find_reply, reserve_reply}
use Rattle.execute.specs.Table.{CommandRow}
use Rattle.execute.specs.Table.CommandRow.{
  store_5,
  store_14,
  store_6,
  store_11,
  store_0,
  load_10,
  load_0,
  erase_10,
  erase_0,
  mark_7,
  mark_10,
  mark_0,
  unmark_7,
  unmark_10,
  unmark_0,
  reserve_15,
  reserve_11,
  reserve_0,
  find_7,
  find_8,
  find_9,
  find_0,
  find_12,
  find_13,
}
use Rattle.lookup.proofs.BudgetLaws.{Comes, matched, ended, paused, comes, matched_is, ended_is}
use Rattle.execute.proofs.ExecuteLaws.{short_11, enough_0, taken_15, index_aligned}
use Rattle.execute.proofs.ExecuteLaws as X
use Rattle.execute.proofs.ReplyLaws.{
  find_mark,
  find_first,
  find_budget,
  find_runs,
  remark_above,
  remark_runs,
  store_order,
  store_index,
  store_word,
}

-- WHAT COVERS THE INDEX
pub covered_0 : (t d : ℕ) (o : Option Entry) {e : Entry} → o ≡ some e → (reply_of t d o).answer ≡ 0
covered_0 t d o e = rw e

module _ (l : List Entry) where
  pub covering_marked : (i m : ℕ) (b : Bool) {e : Entry} → covering l i ≡ some e →
      covering (remark l i m b) i ≡ some (with_mark i m b e)
  covering_marked i m b q = covering_map (with_mark i m b) (λ x. refl) (λ x. refl) i l ∙ ap (map_o (with_mark i m b)) q

  -- a store leaves an entry over its index
  covering_kept : (i k w : ℕ) → (e : Entry) × (covering (B.store l i k w) i ≡ some e)
  covering_kept i k w = by_t (any (over i k) l) (λ t. go t (covering l i) refl)
      (λ t. (B.new_entry l i k w, rw t (store_covering i k w l (room l i k t) i refl)))
    where
      go : any (over i k) l ≡ true → (o : Option Entry) → covering l i ≡ o →
          (e : Entry) × (covering (B.store l i k w) i ≡ some e)
      go t none q = absurd (clash t (over_none l i k q))
      go t (some e) q =
          (B.with_word i w e, rw t (covering_map (B.with_word i w) (λ x. refl) (λ x. refl) i l ∙ ap (map_o (B.with_word i w)) q))

  -- and a mark leaves it present
  pub present_marked : (i m : ℕ) (b : Bool) {e : Entry} → present (covering l i) ≡ some e →
      present (covering (remark l i m b) i) ≡ some (with_mark i m b e)
  present_marked i m b q =
      let (c, r) = present_some (covering l i) q in rw (covering_marked i m b c, r)

  marked_none : Valid l → (t i m : ℕ) (b : Bool) → present (covering l i) ≡ none →
      marking t l i m b ≡ leave l (reply_of t 0 none)
  marked_none v t i m b q = rw (remark_absent l i m b v q, q)

  marked_some : (t i m : ℕ) (b : Bool) {e : Entry} → present (covering l i) ≡ some e →
      marking t l i m b ≡ record { reply = reply_of t 0 (some (with_mark i m b e)); list = remark l i m b }
  marked_some t i m b q = rw (present_marked i m b q)

  -- what has a mark is no reservation, so it stays present where a mark of it is cleared
  pub present_cleared : Valid l → (i m : ℕ) {e : Entry} → covering l i ≡ some e → bit m e.marks ≡ 1 →
      present (covering (remark l i m false) i) ≡ covering (remark l i m false) i
  present_cleared v i m {e} q b =
      let r : reserved e ≡ false = marked_kind e (first_yes (covers i) (sorted_ok v) q).1.word_ok m b in
      rw (covering_marked i m false q, r)

  -- a reservation, and its reply: its index, and all else 0
  pub covering_reserved : (i : ℕ) → covering l i ≡ none →
      covering (store l i 0 reserved_word) i ≡ some (B.new_entry l i 0 reserved_word)
  covering_reserved i q =
      let t : any (over i 0) l ≡ false = over_none l i 0 q in
      rw (bare_is i 0 (index_aligned i) l reserved_word refl t, t)
      (store_covering i 0 reserved_word l (room l i 0 t) i refl)

  pub reserved_reply_lem : (i : ℕ) → covering l i ≡ none →
      reply_of reserve_reply 0 (covering (store l i 0 reserved_word) i) ≡ answered reserve_reply 0 i 0
  reserved_reply_lem i q =
      rw (covering_reserved i q, whole i 0 (index_aligned i), bare i 0 reserved_word l (over_none l i 0 q) refl)

pub covering_stored : (l : List Entry) (i k w : ℕ) → aligned k i ≡ true → storable w ≡ true →
    (e : Entry) × (covering (store l i k w) i ≡ some e)
covering_stored l i k w al st =
    let (e, q) = covering_kept l i k w in (
      with_mark i matched_mark false e,
      rw (store_is i k al l w st) (covering_marked (B.store l i k w) i matched_mark false q),
    )

module _ (n : ℕ) (l : List Entry) (i : ℕ) where
  loads : {o : Option Entry} → present (covering l i) ≡ o → leave l (reply_of load_reply (depth l i) o) ≡ execute n l (Load i)
  unfolding execute
  loads q = rw q

  erases_none : covering l i ≡ none → leave l (reply_of erase_reply 0 none) ≡ execute n l (Erase i)
  unfolding execute
  erases_none q = rw (erase_none i q, q)

  erases_some : {e : Entry} → covering l i ≡ some e →
      record { reply = reply_of erase_reply 0 (some e); list = erase l i } ≡ execute n l (Erase i)
  unfolding execute
  erases_some q = rw q

-- THE ROWS
module _ (n : ℕ) (l : List Entry) (v : Valid l) where
  found_sole : {a z f k : ℕ} {x : Outcome} → f ≤ any_mark → a ≤ z → k ≢ 0 → x ≡ find l a z f k →
      leave l (finding find_reply x) ≡ execute n l (Find a z f k)
  found_sole h g b e = ap (λ (o : Outcome). leave l (finding find_reply o)) e ∙ sym (find_runs n l _ _ _ _ h g b)

  -- a row whose condition holds is what the command comes to
  pub row_sole : {c : Command} {x : Executed} → CommandRow n l c x → x ≡ execute n l c
  row_sole (store_5 {i} {k} {w} h) = sym (store_order n l i k w h)
  row_sole (store_14 {i} {k} {w} h a) = sym (store_index n l i k w h a)
  row_sole (store_6 {i} {k} {w} h a s) = sym (store_word n l i k w h a s)
  row_sole (store_11 {i} {k} {w} h a s d) = sym (short_11 n l i k w h a s d)
  row_sole (store_0 {i} {k} {w} h a s d q) =
      sym (enough_0 n l i k w h a s d
      ∙ ap (λ (o : Option Entry). record { reply = reply_of store_reply 0 o; list = store l i k w }) q)
  row_sole (load_10 {i} q) = loads n l i q
  row_sole (load_0 {i} q) = loads n l i q
  row_sole (erase_10 {i} q) = erases_none n l i q
  row_sole (erase_0 {i} q) = erases_some n l i q
  row_sole (mark_7 {i} {m} h) = sym (remark_above n l i m true h)
  row_sole (mark_10 {i} {m} h q) = sym (remark_runs n l i m true h ∙ marked_none l v mark_reply i m true q)
  row_sole (mark_0 {i} {m} h q) = sym (remark_runs n l i m true h ∙ marked_some l mark_reply i m true q)
  row_sole (unmark_7 {i} {m} h) = sym (remark_above n l i m false h)
  row_sole (unmark_10 {i} {m} h q) = sym (remark_runs n l i m false h ∙ marked_none l v unmark_reply i m false q)
  row_sole (unmark_0 {i} {m} h q) = sym (remark_runs n l i m false h ∙ marked_some l unmark_reply i m false q)
  row_sole (reserve_15 {i} q) = sym (taken_15 n l i q)
  row_sole (reserve_11 {i} q d) = sym (X.reserve_11 n l i q d)
  row_sole (reserve_0 {i} q d) = sym (X.reserve_0 n l i q d
      ∙ ap (λ (r : Reply). record { reply = r; list = store l i 0 reserved_word }) (reserved_reply_lem l i q))
  row_sole (find_7 {a} {z} {f} {k} h) = sym (find_mark n l a z f k h)
  row_sole (find_8 {a} {z} {f} {k} h g) = sym (find_first n l a z f k h g)
  row_sole (find_9 {a} {z} {f} {k} h g b) = sym (find_budget n l a z f k h g b)
  row_sole (find_0 {a} {z} {f} {k} h g b m s) = found_sole h g b (matched_is (comes l v a z f k g) m s)
  row_sole (find_12 {a} {z} {f} {k} h g b m s) = found_sole h g b (ended_is (comes l v a z f k g) m s)
  row_sole (find_13 h g b s p) = found_sole h g b (sym p.by_steps)

  given : {c : Command} {x : Executed} → CommandRow n l c x → CommandRow n l c (execute n l c)
  given {c} r = subst (CommandRow n l c) (row_sole r) r

  by_cover : {c : Command} (i : ℕ) → (covering l i ≡ none → CommandRow n l c (execute n l c)) →
      ((e : Entry) → covering l i ≡ some e → CommandRow n l c (execute n l c)) → CommandRow n l c (execute n l c)
  by_cover {c} i f g = go (covering l i) refl
    where
      go : (o : Option Entry) → covering l i ≡ o → CommandRow n l c (execute n l c)
      go none q = f q
      go (some e) q = g e q

  by_present : {c : Command} (i : ℕ) → (present (covering l i) ≡ none → CommandRow n l c (execute n l c)) →
      ((e : Entry) → present (covering l i) ≡ some e → CommandRow n l c (execute n l c)) →
      CommandRow n l c (execute n l c)
  by_present {c} i f g = go (present (covering l i)) refl
    where
      go : (o : Option Entry) → present (covering l i) ≡ o → CommandRow n l c (execute n l c)
      go none q = f q
      go (some e) q = g e q

  -- every command comes to what some row says
  pub rows : (c : Command) → CommandRow n l c (execute n l c)
  rows (Store i k w) =
      by_t (ltb max_order k) (λ t. given (store_5 (ltb-true _ _ t)))
      (λ t. by_t (aligned k i)
      (λ a. by_t (storable w)
      (λ s. by_t (short n l (store l i k w))
      (λ d. given (store_11 (ltb-false _ _ t) a s (ltb-true _ _ d)))
      (λ d. given (store_0 (ltb-false _ _ t) a s (ltb-false _ _ d) (covering_stored l i k w a s).1)))
      (λ s. given (store_6 (ltb-false _ _ t) a s)))
      (λ a. given (store_14 (ltb-false _ _ t) a)))
  rows (Load i) = by_present i (λ q. given (load_10 q)) (λ e q. given (load_0 q))
  rows (Erase i) = by_cover i (λ q. given (erase_10 q)) (λ e q. given (erase_0 q))
  rows (Mark i m) =
      by_t (leb mark_count m) (λ t. given (mark_7 (leb-true _ _ t)))
      (λ t. by_present i (λ q. given (mark_10 (leb-false _ _ t) q)) (λ e q. given (mark_0 (leb-false _ _ t) q)))
  rows (Unmark i m) =
      by_t (leb mark_count m) (λ t. given (unmark_7 (leb-true _ _ t)))
      (λ t. by_present i (λ q. given (unmark_10 (leb-false _ _ t) q)) (λ e q. given (unmark_0 (leb-false _ _ t) q)))
  rows (Reserve i) = by_cover i
      (λ q. by_t (short n l (store l i 0 reserved_word)) (λ d. given (reserve_11 q (ltb-true _ _ d)))
      (λ d. given (reserve_0 q (ltb-false _ _ d))))
      (λ e q. given (reserve_15 q))
  rows (Find a z f k) =
      by_t (ltb any_mark f) (λ t. given (find_7 (ltb-true _ _ t)))
      (λ t. by_t (ltb z a) (λ s. given (find_8 (ltb-false _ _ t) (ltb-true _ _ s)))
      (λ s. by_t (eqb k 0) (λ d. given (find_9 (ltb-false _ _ t) (ltb-false _ _ s) (eqb-true _ _ d)))
      (λ d. go (ltb-false _ _ t) (ltb-false _ _ s) (eqb-false _ _ d) (comes l v a z f k (ltb-false _ _ s)))))
    where
      go : {o : Outcome} → f ≤ any_mark → a ≤ z → k ≢ 0 → Comes l a z f k o →
          CommandRow n l (Find a z f k) (execute n l (Find a z f k))
      go h g b (matched m s) = given (find_0 h g b m s)
      go h g b (ended m s) = given (find_12 h g b m s)
      go h g b (paused s p) = given (find_13 h g b s p)
