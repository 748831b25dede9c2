-- A command keeps a list valid, and no longer than the room; so the slices hold a list again.
use Prim.Native.Nat.{ℕ, zero, suc, ◌%◌, ◌^◌, ◌≤◌, ◌<◌}
use mathlib.Core.Path.{◌≡◌, refl, sym, ap, subst, ◌∙◌}
use mathlib.Core.Bool.{Bool, true, false, not}
use mathlib.Core.List.{List, [], ◌∷◌}
use mathlib.Core.Option.{Option, none, some}
use native.Mathlib.Omega.{arith}
use native.Mathlib.Nat.{le_refl}
use lib.Dec.{leb, ltb, eqb, T, lit<}
use lib.ListN.{length, length-map, replicate}
use borrow.Author.Tests.{ltb-false, leb-false, eq-eqb}
use Rattle.blocks.specs.Choice.{either, both}
use Rattle.blocks.specs.Blocks.{set_bit}
use Rattle.blocks.specs.Lists.{any, without}
use Rattle.blocks.proofs.BoolLaws.{by_t, clash, both_l, not-false, T_true}
use Rattle.blocks.proofs.ListLaws.{All-map, first_no, any_none}
use Rattle.model.specs.declared.Entry.{Entry}
use Rattle.model.specs.Model.{Sorted, more, done, Valid, storable, reserved, reserved_word, is_word_ok, max_order, aligned, mark_count, matched_mark, covers, covering, over, store, takes_mark, with_mark, remark}
use Rattle.model.proofs.WordLaws.{entry_storable}
use Rattle.model.proofs.ValidLaws.{store_valid, store_at_valid, erase_valid}
use Rattle.model.proofs.AlignedLaws.{store_is, bare_is}
use Rattle.batch.specs.declared.Command.{Command}
use Rattle.batch.specs.declared.Command.TheVariants.{Store, Load, Erase, Mark, Unmark, Find, Reserve}
use Rattle.batch.specs.Fits.{Fits}
use Rattle.commands.specs.Commands.{reserving}
use Rattle.xaplain.specs.Slices.{slices, column, columns, list_of, init_slices, holds_list, sized_as, check_answer}
use Rattle.xaplain.specs.Moves.{Holds, Columns, Counts}
use Rattle.xaplain.specs.Engine.{xaplain, execute}
use Rattle.xaplain.specs.Executes.{Turned, Executes}
use Rattle.xaplain.proofs.ColumnLaws.{column_length}
use Rattle.xaplain.proofs.CheckLaws.{Words, Prescribes, yes, only}
use Rattle.xaplain.proofs.LoopLaws.{count_is, sized_lengths}
use Rattle.xaplain.proofs.CommandLaws.{find_list}
use Rattle.xaplain.proofs.StoredLaws.{stay}

-- A MARK CHANGED
set_small : (w m : ℕ) (b : Bool) → w < 8 → m < mark_count → set_bit m b w < 8
set_small w zero true h g = omega arith
set_small w zero false h g = omega arith
set_small w (suc zero) true h g = omega arith
set_small w (suc zero) false h g = omega arith
set_small w (suc (suc zero)) true h g = omega arith
set_small w (suc (suc zero)) false h g = omega arith
set_small w (suc (suc (suc m))) b h g = absurd (omega arith)

marked_word : (i m : ℕ) (b : Bool) (e : Entry) → T (is_word_ok e) → T (is_word_ok (with_mark i m b e))
marked_word i m b e ok = by_t (reserved e)
    (λ r. subst (λ (x : ℕ). T (either (storable e.word) (both (reserved e) (both (eqb e.order 0) (eqb x 0)))))
    (sym (kept r)) ok)
    (λ r. rw (entry_storable e ok r) tt)
  where
    kept : reserved e ≡ true → (with_mark i m b e).marks ≡ e.marks
    kept r = by_t (covers i e) (λ t. rw (t, r) refl) (λ t. rw t refl)

sorted_remark : (i m : ℕ) (b : Bool) → m < mark_count → {n : ℕ} {l : List Entry} → Sorted n l → Sorted n (remark l i m b)
sorted_remark i m b lt done = done
sorted_remark i m b lt (more {e} h ok s) = more {e = with_mark i m b e} h (record {
  order_le = ok.order_le;
  aligned = ok.aligned;
  in_range = ok.in_range;
  word_ok = marked_word i m b e ok.word_ok;
  word_fits = ok.word_fits;
  marks_fit = by_t (takes_mark i e) (λ t. rw t (set_small e.marks m b ok.marks_fit lt)) (λ t. rw t ok.marks_fit);
}) (sorted_remark i m b lt s)

-- A STORE, A RESERVATION
store_keeps : (l : List Entry) (i k w : ℕ) → aligned k i ≡ true → Valid l → i < 2 ^ 64 → k ≤ max_order → T (storable w) → w < 2 ^ 64 →
    Valid (store l i k w)
store_keeps l i k w al v i< k≤ st w< =
    rw (store_is i k al l w (T_true _ st)) (sorted_remark i matched_mark false (omega arith) (store_valid i k w v i< k≤ st w<))

over_none : (l : List Entry) (i k : ℕ) → covering l i ≡ none → any (over i k) l ≡ false
over_none l i k q = any_none (over i k) (All-map (λ x n t. clash (both_l (covers i x) (leb k x.order) t) n) (first_no (covers i) l q))

reserve_keeps : (l : List Entry) (i : ℕ) → Valid l → i < 2 ^ 64 → covering l i ≡ none → Valid (store l i 0 reserved_word)
reserve_keeps l i v i< q =
    let n = over_none l i 0 q in
    let al : aligned 0 i ≡ true = eq-eqb (i % 2 ^ 0) 0 (omega arith) in
    rw (bare_is i 0 al l reserved_word refl n, n) (store_at_valid i 0 reserved_word l v n i< (omega arith) tt (lit< tt))

without_short : (p : Entry → Bool) (l : List Entry) → length (without p l) ≤ length l
without_short p [] = le_refl 0
without_short p (x ∷ l) = by_t (p x) (λ t. rw t (omega (arith, without_short p l))) (λ t. rw t (omega (arith, without_short p l)))

-- EVERY COMMAND
pub record Keeps (room : ℕ) (l : List Entry) : Type 0 where
  pub valid : Valid l
  pub fits : length l ≤ room

module _ (room : ℕ) (l : List Entry) (k₀ : Keeps room l) where
  stored : (i k w : ℕ) → i < 2 ^ 64 → w < 2 ^ 64 → Keeps room (execute room l (Store i k w)).list
  unfolding execute
  stored i k w i< w< =
      by_t (ltb max_order k) (λ t. rw t k₀)
      (λ t. by_t (not (aligned k i)) (λ a. rw (t, a) k₀)
      (λ a. by_t (not (storable w)) (λ s. rw (t, a, s) k₀)
      (λ s. by_t (ltb room (length (store l i k w))) (λ d. rw (t, a, s, d) k₀)
      (λ d. rw (t, a, s, d)
      (record {
        valid =
            store_keeps l i k w (not-false (aligned k i) a) k₀.valid i< (ltb-false _ _ t)
            (subst T (sym (not-false (storable w) s)) tt) w<;
        fits = ltb-false _ _ d;
      })))))

  reserved_keeps : (i : ℕ) → i < 2 ^ 64 → (o : Option Entry) → covering l i ≡ o → Keeps room (reserving (xaplain room) 135 l i o).list
  reserved_keeps i i< (some e) q = k₀
  reserved_keeps i i< none q =
      by_t (ltb room (length (store l i 0 reserved_word))) (λ d. rw d k₀)
      (λ d. rw d (record { valid = reserve_keeps l i k₀.valid i< q; fits = ltb-false _ _ d }))

  marked : (i m : ℕ) (b : Bool) → m < mark_count → Keeps room (remark l i m b)
  marked i m b h = record {
    valid = sorted_remark i m b h k₀.valid;
    fits = omega (arith, length-map l (with_mark i m b), k₀.fits);
  }

  pub execute_keeps : (c : Command) → Fits c → Keeps room (execute room l c).list
  unfolding execute
  execute_keeps (Store i k w) f = stored i k w f.0 f.1
  execute_keeps (Load i) f = k₀
  execute_keeps (Erase i) f = record { valid = erase_valid i k₀.valid; fits = omega (arith, without_short (covers i) l, k₀.fits) }
  execute_keeps (Mark i m) f = by_t (leb mark_count m) (λ t. rw t k₀) (λ t. rw t (marked i m true (leb-false _ _ t)))
  execute_keeps (Unmark i m) f = by_t (leb mark_count m) (λ t. rw t k₀) (λ t. rw t (marked i m false (leb-false _ _ t)))
  execute_keeps (Find a z f k) _ = rw (find_list room l a z f k) k₀
  execute_keeps (Reserve i) f = reserved_keeps i f (covering l i) refl

-- THE SLICES
-- what the slices of a list have for room
pub columns_room : {is os ws ms : List ℕ} {room : ℕ} {l : List Entry} → Columns is os ws ms room l → length is ≡ room
columns_room {room = room} {l} c = ap length c.index_is ∙ column_length (λ x. x.base) room l

abbrev pub holds_of : {is os ws ms : List ℕ} {room n : ℕ} {l : List Entry} → Keeps room l → n ≡ length l → Columns is os ws ms room l → Holds is os ws ms n
holds_of {is} {os} {ws} {ms} {room} {n} {l} k e c =
    let i : length is ≡ room = columns_room c in
    record {
      list = l;
      valid = k.valid;
      count = sym e;
      fits = omega (arith, k.fits);
      order_fits = ap length c.order_is ∙ column_length (λ x. x.order) room l ∙ sym i;
      word_fits = ap length c.word_is ∙ column_length (λ x. x.word) room l ∙ sym i;
      marks_fit = ap length c.marks_are ∙ column_length (λ x. x.marks) room l ∙ sym i;
      index_is = c.index_is ∙ ap (λ (r : ℕ). column (λ x. x.base) r l) (sym i);
      order_is = c.order_is ∙ ap (λ (r : ℕ). column (λ x. x.order) r l) (sym i);
      word_is = c.word_is ∙ ap (λ (r : ℕ). column (λ x. x.word) r l) (sym i);
      marks_are = c.marks_are ∙ ap (λ (r : ℕ). column (λ x. x.marks) r l) (sym i);
    }

pub keeps_held : {is os ws ms : List ℕ} {n : ℕ} (h : Holds is os ws ms n) → Keeps (length is) h.list
keeps_held h = record { valid = h.valid; fits = omega (arith, h.fits, h.count) }

pub holds_after : {is os ws ms is' os' ws' ms' : List ℕ} {n : ℕ} (h : Holds is os ws ms n) (c : Command) → Fits c → {r : Turned} →
    Executes h c r is' os' ws' ms' → Holds is' os' ws' ms' r.count
holds_after {is} h c f x = holds_of (execute_keeps (length is) h.list (keeps_held h) c f) x.count_is x.columns

-- what they hold is what is read in them
pub list_held : {is os ws ms : List ℕ} {n : ℕ} (h : Holds is os ws ms n) → list_of is os ws ms ≡ h.list
list_held {is} {os} {ws} {ms} h =
    only is os ws ms h.order_fits h.word_fits h.marks_fit h.list
    (record { valid = h.valid; fits = (keeps_held h).fits; columns = stay h })

-- THE CHECK passed: 64-bit words hold a list of as many entries as words stand before the first 0
pub holds_checked : {is os ws ms : List ℕ} {n : ℕ} → Words is → Words ws → check_answer (slices is os ws ms) ≡ 0 → Counts ws n →
    Holds is os ws ms n
holds_checked {is} {os} {ws} {ms} {n} wi ww e c =
    by_t (sized_as is os ws ms)
    (λ t. by_t (holds_list is os ws ms)
    (λ u. let (lo, lw, lm) = sized_lengths is os ws ms t in
    let p : Prescribes is os ws ms (list_of is os ws ms) = yes is os ws ms lo lw lm wi ww u in
    holds_of (record { valid = p.valid; fits = p.fits }) (count_is is os ws ms n lw c) p.columns)
    (λ u. absurd (let z : 2 ≡ 0 = sym (rw (t, u) refl) ∙ e in omega arith)))
    (λ t. absurd (let z : 1 ≡ 0 = sym (rw t refl) ∙ e in omega arith))

-- INIT
blank_column : (f : Entry → ℕ) (room : ℕ) → replicate room 0 ≡ column f room []
blank_column f zero = refl
blank_column f (suc r) = ap (λ (xs : List ℕ). 0 ∷ xs) (blank_column f r)

pub init_slices_lem : (is os ws ms : List ℕ) {is' os' ws' ms' : List ℕ} → sized_as is os ws ms ≡ true → is' ≡ replicate (length is) 0 →
    os' ≡ replicate (length os) 0 → ws' ≡ replicate (length ws) 0 → ms' ≡ replicate (length ms) 0 →
    slices is' os' ws' ms' ≡ init_slices (slices is os ws ms)
init_slices_lem is os ws ms {is'} {os'} {ws'} {ms'} t i o w m =
    let (lo, lw, lm) = sized_lengths is os ws ms t in
    let a : is' ≡ column (λ x. x.base) (length is) [] = i ∙ blank_column (λ x. x.base) (length is) in
    let b : os' ≡ column (λ x. x.order) (length is) [] = o ∙ ap (λ (r : ℕ). replicate r 0) lo ∙ blank_column (λ x. x.order) (length is) in
    let c : ws' ≡ column (λ x. x.word) (length is) [] = w ∙ ap (λ (r : ℕ). replicate r 0) lw ∙ blank_column (λ x. x.word) (length is) in
    let d : ms' ≡ column (λ x. x.marks) (length is) [] = m ∙ ap (λ (r : ℕ). replicate r 0) lm ∙ blank_column (λ x. x.marks) (length is) in
    let e : slices is' os' ws' ms' ≡ columns (length is) [] = λ j. record { index = a j; order = b j; word = c j; marks = d j } in
    e ∙ sym (rw t refl)
