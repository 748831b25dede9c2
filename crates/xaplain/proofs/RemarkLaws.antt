-- A list with a mark of one entry changed, in the slices: one word of the marks.
use Prim.Native.Nat.{ℕ, ◌+◌, ◌-◌, ◌/◌, ◌^◌, ◌≤◌, ◌<◌}
use mathlib.Core.Path.{◌≡◌, refl, sym, ap, ap₂, ◌∙◌}
use mathlib.Core.Bool.{Bool, true, false}
use mathlib.Core.Logic.{◌≢◌}
use mathlib.Core.List.{List, [], ◌∷◌, map}
use mathlib.Core.Option.{Option, none, some}
use native.Mathlib.Omega.{arith}
use native.Mathlib.Nat.{div-eq_of_lt}
use lib.Dec.{ltb}
use lib.ListN.{length, set, length-map}
use borrow.Author.Tests.{ltb-true, ltb-false, ne_eqb}
use Rattle.answers.specs.Answers.{absent, bad_mark}
use Rattle.blocks.specs.Choice.{pick}
use Rattle.blocks.specs.Blocks.{bit, set_bit}
use Rattle.blocks.specs.Lists.{All, end, also}
use Rattle.blocks.proofs.BoolLaws.{by_t, clash}
use Rattle.blocks.proofs.ListLaws.{All-map}
use Rattle.model.specs.declared.Entry.{Entry}
use Rattle.model.specs.Model.{Valid, reserved, reserved_word, mark_count, covers, covering, present, takes_mark, with_mark, remark}
use Rattle.model.proofs.ValidLaws.{sole}
use Rattle.batch.specs.Reply.{answered_by}
use Rattle.commands.specs.Commands.{leave, reply_of, marking}
use Rattle.xaplain.specs.Slices.{entry_at}
use Rattle.xaplain.specs.Moves.{Holds, Columns, remarking}
use Rattle.xaplain.specs.Engine.{execute}
use Rattle.xaplain.specs.Stores.{refused_by}
use Rattle.xaplain.specs.Executes.{Turned, Executes}
use Rattle.xaplain.proofs.PlainLaws.{nth}
use Rattle.xaplain.proofs.PlaceLaws.{entry_is, covers_one, covering_covers}
use Rattle.xaplain.proofs.OverLaws.{same_column, set_column}
use Rattle.xaplain.proofs.StoredLaws.{leaves}
use Rattle.xaplain.proofs.CommandLaws.{remark_above, remark_runs, becomes}

-- ONE BIT
pub bit_le : (j w : ℕ) → bit j w ≡ 1 → 2 ^ j ≤ w
bit_le j w h =
    by_t (ltb w (2 ^ j)) (λ t. let z : w / 2 ^ j ≡ 0 = div-eq_of_lt (ltb-true _ _ t) in absurd (omega arith)) (λ t. ltb-false _ _ t)

pub set_at : (j w : ℕ) (t b : Bool) → bit j w ≡ pick t 1 0 → set_bit j b w ≡ w - pick t (2 ^ j) 0 + pick b (2 ^ j) 0
set_at j w true b h = rw h (omega arith)
set_at j w false b h = rw h (omega arith)

-- THE LIST
abbrev map_o : (Entry → Entry) → Option Entry → Option Entry
map_o g none = none
map_o g (some e) = some (g e)

covering_map : (g : Entry → Entry) (i : ℕ) → ((x : Entry) → covers i (g x) ≡ covers i x) → (l : List Entry) →
    covering (map g l) i ≡ map_o g (covering l i)
covering_map g i e [] = refl
covering_map g i e (x ∷ l) = by_t (covers i x) (λ t. rw (e x ∙ t, t)) (λ t. rw (e x ∙ t, t) (covering_map g i e l))

module _ (i m : ℕ) (b : Bool) where
  still : {l : List Entry} → All (λ x. takes_mark i x ≡ false) l → remark l i m b ≡ l
  still end = refl
  still (also {x} f a) = ap₂ ◌∷◌ (off x f) (still a)
    where
      off : (x : Entry) → takes_mark i x ≡ false → with_mark i m b x ≡ x
      off x t = rw t refl

  pub remark_absent : (l : List Entry) → Valid l → present (covering l i) ≡ none → remark l i m b ≡ l
  remark_absent l v q = still (All-map (λ x f. no x f) (sole i v))
    where
      no : (x : Entry) → (covers i x ≡ true → covering l i ≡ some x) → takes_mark i x ≡ false
      no x f = by_t (covers i x)
          (λ t. by_t (reserved x) (λ r. rw (t, r) refl)
          (λ r. absurd (let z : ◌≡◌ {A = Option Entry} (some x) none = sym (rw r refl) ∙ ap present (sym (f t)) ∙ q in
          clash {b = true} refl (ap given z))))
          (λ t. rw t refl)
        where
          given : Option Entry → Bool
          given none = false
          given (some e) = true

-- THE COMMAND
module _ {is os ws ms : List ℕ} {n : ℕ} (h : Holds is os ws ms n) (i m : ℕ) (on : Bool) where
  pub remark_refused : mark_count ≤ m → {t : ℕ} {r : Turned} → t ≡ pick on 132 133 → r ≡ refused_by t bad_mark n →
      Executes h (remarking i m on) r is os ws ms
  remark_refused g e q =
      leaves h (remarking i m on) (remark_above (length is) h.list i m on g) (q ∙ ap (λ (t : ℕ). refused_by t bad_mark n) e)

  module _ (small : m < mark_count) where
    runs : execute (length is) h.list (remarking i m on) ≡ marking (pick on 132 133) h.list i m on
    runs = remark_runs (length is) h.list i m on small

    pub remark_none : present (covering h.list i) ≡ none → {t : ℕ} {r : Turned} → t ≡ pick on 132 133 →
        r ≡ refused_by t absent n → Executes h (remarking i m on) r is os ws ms
    remark_none p e q =
        leaves h (remarking i m on)
        (runs
        ∙ ap (λ (l : List Entry). record { reply = reply_of (pick on 132 133) 0 (present (covering l i)); list = l }) (remark_absent i m on h.list h.valid p)
        ∙ ap (λ (o : Option Entry). leave h.list (reply_of (pick on 132 133) 0 o)) p)
        (q ∙ ap (λ (y : ℕ). refused_by y absent n) e)

    module _ (k x : ℕ) (g : k < n) (q : covering h.list i ≡ some (nth h.list k)) (e : Entry) (d : e ≡ entry_at is os ws ms k)
        (w : e.word ≢ reserved_word) (u : x ≡ set_bit m on e.marks) where
      over : covers i (nth h.list k) ≡ true
      over = covering_covers h.list i q

      is_entry_lem : e ≡ nth h.list k
      is_entry_lem = d ∙ entry_is h k g

      unreserved : reserved (nth h.list k) ≡ false
      unreserved = ne_eqb (nth h.list k).word reserved_word (λ z. w (ap (λ (y : Entry). y.word) is_entry_lem ∙ z))

      new_marks : x ≡ (with_mark i m on (nth h.list k)).marks
      new_marks = u ∙ ap (λ (y : Entry). set_bit m on y.marks) is_entry_lem ∙ sym (rw (over, unreserved) refl)

      new_entry_lem : record { base = e.base; order = e.order; word = e.word; marks = x } ≡ with_mark i m on (nth h.list k)
      new_entry_lem = ap₂ (λ (y : Entry) (z : ℕ). record { base = y.base; order = y.order; word = y.word; marks = z }) is_entry_lem new_marks

      others : (j : ℕ) → j < length h.list → j ≢ k → (with_mark i m on (nth h.list j)).marks ≡ (nth h.list j).marks
      others j b ne = rw (covers_one i j k h.valid b (omega (arith, h.count)) ne over) refl

      marked_columns : Columns is os ws (set ms k x) (length is) (remark h.list i m on)
      marked_columns = record {
        index_is = h.index_is ∙ same_column (λ y. y.base) (with_mark i m on) (length is) h.list (λ j b. refl);
        order_is = h.order_is ∙ same_column (λ y. y.order) (with_mark i m on) (length is) h.list (λ j b. refl);
        word_is = h.word_is ∙ same_column (λ y. y.word) (with_mark i m on) (length is) h.list (λ j b. refl);
        marks_are =
            ap₂ (λ (y : List ℕ) (z : ℕ). set y k z) h.marks_are new_marks
            ∙ set_column (λ y. y.marks) (with_mark i m on) (length is) h.list k (omega (arith, h.count)) (omega (arith, h.fits)) others;
      }

      seen_after : present (covering (remark h.list i m on) i) ≡ some (with_mark i m on (nth h.list k))
      seen_after = ap present (covering_map (with_mark i m on) i (λ y. refl) h.list ∙ ap (map_o (with_mark i m on)) q) ∙ rw unreserved refl

      pub remarks : {t : ℕ} {r : Turned} → t ≡ pick on 132 133 →
          r.reply ≡ answered_by t (record { base = e.base; order = e.order; word = e.word; marks = x }) 0 → r.count ≡ n →
          Executes h (remarking i m on) r is os ws (set ms k x)
      remarks a b c =
          becomes h (remarking i m on) runs
          (b ∙ ap₂ (λ (t : ℕ) (y : Entry). answered_by t y 0) a new_entry_lem ∙ sym (ap (reply_of (pick on 132 133) 0) seen_after))
          (c ∙ sym h.count ∙ sym (length-map h.list (with_mark i m on))) marked_columns
