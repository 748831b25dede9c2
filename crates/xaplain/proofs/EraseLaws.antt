-- A list without one of its entries, in a slice.
use Prim.Native.Nat.{ℕ, zero, suc, ◌+◌, ◌-◌, ◌≤◌, ◌<◌}
use mathlib.Core.Path.{◌≡◌, refl, sym, ap, subst, ◌∙◌}
use mathlib.Core.Bool.{true, false}
use mathlib.Core.List.{List, ◌∷◌}
use mathlib.Core.Option.{none, some}
use native.Mathlib.Omega.{arith}
use native.Mathlib.Nat.{le_refl}
use lib.Dec.{ltb}
use lib.ListN.{length, get_or, take, drop, length-append, length-take, length-drop, get_or-append, get_or-eq_default}
use lib.Seq.{get_or-append-add, get_or-take, get_or-drop}
use borrow.Author.Tests.{ltb-true, ltb-false}
use Rattle.answers.specs.Answers.{absent}
use Rattle.blocks.specs.Lists.{All, end, also}
use Rattle.blocks.proofs.BoolLaws.{by_t, is_false}
use Rattle.blocks.proofs.BlockLaws.{pow_pos}
use Rattle.blocks.proofs.ListLaws.{look, without_none}
use Rattle.model.specs.declared.Entry.{Entry}
use Rattle.model.specs.Model.{Sorted, more, done, covers, covering, erase}
use Rattle.model.proofs.ValidLaws.{covers_lo, covers_hi, sorted_ok, erase_none}
use Rattle.batch.specs.declared.Command.TheVariants.{Erase}
use Rattle.batch.specs.Reply.{answered_by}
use Rattle.commands.specs.Commands.{reply_of}
use Rattle.xaplain.specs.Slices.{column, entry_at}
use Rattle.xaplain.specs.Moves.{Holds, Pulled, Cleared, Closed, Columns, removed}
use Rattle.xaplain.specs.Stores.{refused_by}
use Rattle.xaplain.specs.Executes.{Turned, Executes}
use Rattle.xaplain.proofs.PlainLaws.{blank, nth, nth_in, above, column_nth}
use Rattle.xaplain.proofs.ColumnLaws.{list_ext, column_length}
use Rattle.xaplain.proofs.PlaceLaws.{entry_is, covering_covers}
use Rattle.xaplain.proofs.StoredLaws.{stay}
use Rattle.xaplain.proofs.CommandLaws.{erase_runs, becomes}

-- ONE SLICE
pub close_up : (xs ys zs : List ℕ) (k n : ℕ) → k < n → Pulled xs ys k (k + 1) n → Cleared ys zs (n - 1) n → Closed xs zs k n
close_up xs ys zs k n h p c = record {
  same_length = c.same_length ∙ p.same_length;
  before = λ j a. c.before j (omega arith) ∙ p.before j a;
  moved = λ j a b.
      let from : j ≡ k + (j - k) = omega arith in
      let to : k + 1 + (j - k) ≡ j + 1 = omega arith in
      c.before j (omega arith) ∙ ap (λ (x : ℕ). get_or ys x 0) from ∙ p.moved (j - k) (omega arith) ∙ ap (λ (x : ℕ). get_or xs x 0) to;
  last = c.zeros (n - 1) (le_refl (n - 1)) (omega arith);
  after = λ j a. c.after j a ∙ p.after j (omega arith);
}

module _ (k : ℕ) (l : List Entry) (h : k < length l) where
  taken : length (take k l) ≡ k
  taken = length-take k l ∙ omega arith

  removed_before : (j : ℕ) → j < k → nth (removed k l) j ≡ nth l j
  removed_before j g = get_or-append (take k l) (drop (suc k) l) blank j (omega (arith, taken)) ∙ get_or-take k l j blank g

  removed_after : (j : ℕ) → nth (removed k l) (k + j) ≡ nth l (suc k + j)
  removed_after j = ap (λ (x : ℕ). nth (removed k l) (x + j)) (sym taken) ∙ get_or-append-add (take k l) (drop (suc k) l) j blank ∙ get_or-drop (suc k) l j blank

  pub removed_length : length (removed k l) ≡ length l - 1
  removed_length = length-append (take k l) (drop (suc k) l) ∙ omega (arith, taken, length-drop (suc k) l)

-- the slice after it holds the field of each other entry
pub column_close : (f : Entry → ℕ) → f blank ≡ 0 → (room k n : ℕ) (l : List Entry) (ys : List ℕ) → length l ≡ n → k < n → n ≤ room →
    Closed (column f room l) ys k n → ys ≡ column f room (removed k l)
column_close f z room k n l ys ln kn nr s =
    list_ext ys (column f room (removed k l)) (s.same_length ∙ column_length f room l ∙ sym (column_length f room (removed k l)))
    (λ j g. let r : j < room = omega (arith, s.same_length, column_length f room l) in
    at j r ∙ sym (column_nth f z room (removed k l) j r))
  where
    kl : k < length l
    kl = omega arith

    old : (j : ℕ) → j < room → get_or (column f room l) j 0 ≡ f (nth l j)
    old j g = column_nth f z room l j g

    past : (j : ℕ) → n ≤ j → f (nth l j) ≡ 0
    past j g = ap f (get_or-eq_default l blank (omega arith)) ∙ z

    new : (j : ℕ) → k ≤ j → f (nth (removed k l) j) ≡ f (nth l (j + 1))
    new j g =
        let a : j ≡ k + (j - k) = omega arith in
        let b : suc k + (j - k) ≡ j + 1 = omega arith in
        ap (λ (x : ℕ). f (nth (removed k l) x)) a ∙ ap f (removed_after k l kl (j - k)) ∙ ap (λ (x : ℕ). f (nth l x)) b

    later : (j : ℕ) → j < room → k ≤ j → get_or ys j 0 ≡ f (nth (removed k l) j)
    later j g a =
        by_t (ltb (j + 1) n) (λ t. let b : j + 1 < n = ltb-true _ _ t in s.moved j a b ∙ old (j + 1) (omega arith) ∙ sym (new j a))
        (λ t. let b : n ≤ j + 1 = ltb-false _ _ t in
        let none_new : f (nth (removed k l) j) ≡ 0 = new j a ∙ past (j + 1) b in
        by_t (ltb j n)
        (λ u. let c : j ≡ n - 1 = omega (arith, ltb-true j n u) in ap (λ (x : ℕ). get_or ys x 0) c ∙ s.last ∙ sym none_new)
        (λ u. let c : n ≤ j = ltb-false _ _ u in s.after j c ∙ old j g ∙ past j c ∙ sym none_new))

    at : (j : ℕ) → j < room → get_or ys j 0 ≡ f (nth (removed k l) j)
    at j g =
        by_t (ltb j k) (λ t. let b : j < k = ltb-true _ _ t in s.before j b ∙ old j g ∙ sym (ap f (removed_before k l kl j b)))
        (λ t. later j g (ltb-false _ _ t))

-- THE LIST
uncovered : {m : ℕ} {l : List Entry} (i : ℕ) → Sorted m l → i < m → All (λ x. covers i x ≡ false) l
uncovered i done lt = end
uncovered i (more {e = e} h ok s) lt =
    also (is_false (λ (t : covers i e ≡ true). omega (arith, covers_lo e i ok t))) (uncovered i s (omega (arith, pow_pos e.order)))

pub erase_removed : {m : ℕ} {l : List Entry} (i k : ℕ) → Sorted m l → k < length l → covers i (nth l k) ≡ true → erase l i ≡ removed k l
erase_removed i k done h t = absurd (omega arith)
erase_removed i zero (more {e = x} g ok s) h t = rw t (without_none (covers i) (uncovered i s (covers_hi x i ok t)))
erase_removed i (suc k) (more {e = x} {l = l} g ok s) h t =
    let b : k < length l = omega arith in
    let lo : (nth l k).base ≤ i = covers_lo (nth l k) i (look (sorted_ok s) (nth_in l k b)) t in
    let no : covers i x ≡ false = is_false (λ u. omega (arith, covers_hi x i ok u, above k s b)) in
    rw no (ap (λ (y : List Entry). x ∷ y) (erase_removed i k s b t))

-- THE COMMAND
module _ {is os ws ms : List ℕ} {n : ℕ} (h : Holds is os ws ms n) where
  pub take_columns : (k : ℕ) → k < n → {is' os' ws' ms' : List ℕ} → Closed is is' k n → Closed os os' k n → Closed ws ws' k n → Closed ms ms' k n →
      Columns is' os' ws' ms' (length is) (removed k h.list)
  take_columns k g {is'} {os'} {ws'} {ms'} i o w m = record {
    index_is = one (λ x. x.base) refl is is' h.index_is i;
    order_is = one (λ x. x.order) refl os os' h.order_is o;
    word_is = one (λ x. x.word) refl ws ws' h.word_is w;
    marks_are = one (λ x. x.marks) refl ms ms' h.marks_are m;
  }
    where
      one : (f : Entry → ℕ) → f blank ≡ 0 → (xs ys : List ℕ) → xs ≡ column f (length is) h.list → Closed xs ys k n →
          ys ≡ column f (length is) (removed k h.list)
      one f z xs ys c s =
          column_close f z (length is) k n h.list ys h.count g h.fits (subst (λ (x : List ℕ). Closed x ys k n) c s)

  pub erases_none : (i : ℕ) → covering h.list i ≡ none → {r : Turned} → r ≡ refused_by 131 absent n →
      Executes h (Erase i) r is os ws ms
  erases_none i q e =
      let x : erase h.list i ≡ h.list = erase_none i q in
      becomes h (Erase i) (erase_runs (length is) h.list i)
      (ap (λ (y : Turned). y.reply) e ∙ sym (ap (reply_of 131 0) q))
      (ap (λ (y : Turned). y.count) e ∙ sym h.count ∙ sym (ap length x))
      (subst (λ (l : List Entry). Columns is os ws ms (length is) l) (sym x) (stay h))

  pub erases : (i k : ℕ) → k < n → covering h.list i ≡ some (nth h.list k) → {e : Entry} → e ≡ entry_at is os ws ms k →
      {r : Turned} → r.reply ≡ answered_by 131 e 0 → r.count ≡ n - 1 → {is' os' ws' ms' : List ℕ} →
      Columns is' os' ws' ms' (length is) (removed k h.list) → Executes h (Erase i) r is' os' ws' ms'
  erases i k g q e a b {is'} {os'} {ws'} {ms'} u =
      let kl : k < length h.list = omega (arith, h.count) in
      let x : erase h.list i ≡ removed k h.list = erase_removed i k h.valid kl (covering_covers h.list i q) in
      becomes h (Erase i) (erase_runs (length is) h.list i)
      (a ∙ ap (λ (y : Entry). answered_by 131 y 0) (e ∙ entry_is h k g) ∙ sym (ap (reply_of 131 0) q))
      (b ∙ omega (arith, ap length x, removed_length k h.list kl, h.count))
      (subst (λ (l : List Entry). Columns is' os' ws' ms' (length is) l) (sym x) u)
