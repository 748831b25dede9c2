-- The check is exact, both ways, of the four slices together.
use Prim.Native.Nat.{ℕ, ◌≤◌}
use mathlib.Core.Path.{◌≡◌, sym, ap, subst, ◌∙◌}
use mathlib.Core.Bool.{Bool, true}
use mathlib.Core.List.{List}
use native.Mathlib.Omega.{arith}
use lib.Dec.{leb, eqb}
use lib.ListN.{length}
use borrow.Author.Tests.{leb-true, eqb-true, le-leb, eq-eqb}
use Rattle.blocks.specs.Choice.{both}
use Rattle.blocks.proofs.BoolLaws.{by_t, both_i, both_l, both_r}
use Rattle.model.specs.declared.Entry.{Entry}
use Rattle.xaplain.specs.Slices.{Slices, columns, Prescribes, max_room, holds_list, room_of, list_in, is_sized, check_answer}
use Rattle.xaplain.specs.Moves.{Columns}
use Rattle.xaplain.proofs.ColumnLaws.{column_length}
use Rattle.xaplain.proofs.CheckLaws.{yes, only, found}
use Rattle.xaplain.proofs.CheckLaws as C
use Rattle.xaplain_calls.specs.Demand.{Words}
use Rattle.xaplain_calls.specs.Refusal.{Sized, CheckExact}

module _ (s : Slices) where
  -- SIZED
  pub is_sized_lem : is_sized s ≡ true → Sized s
  is_sized_lem t =
      let a : Bool = leb (room_of s) max_room in
      let b : Bool = eqb (length s.order) (room_of s) in
      let c : Bool = eqb (length s.word) (room_of s) in
      let d : Bool = eqb (length s.marks) (room_of s) in
      let t₁ : both b (both c d) ≡ true = both_r a (both b (both c d)) t in
      let t₂ : both c d ≡ true = both_r b (both c d) t₁ in
      record {
        most = leb-true _ _ (both_l a (both b (both c d)) t);
        order_fits = eqb-true _ _ (both_l b (both c d) t₁);
        word_fits = eqb-true _ _ (both_l c d t₂);
        marks_fit = eqb-true _ _ (both_r c d t₂);
      }

  pub sized_is : Sized s → is_sized s ≡ true
  sized_is z =
      both_i (le-leb (room_of s) max_room z.most)
      (both_i (eq-eqb (length s.order) (room_of s) z.order_fits)
      (both_i (eq-eqb (length s.word) (room_of s) z.word_fits) (eq-eqb (length s.marks) (room_of s) z.marks_fit)))

  -- THE LIST, by slices one by one and by the record of them
  one_by_one : {l : List Entry} → Prescribes (room_of s) l s → C.Prescribes s.index s.order s.word s.marks l
  one_by_one p = record {
    valid = p.valid;
    fits = p.fits;
    columns = record {
      index_is = ap (λ (x : Slices). x.index) p.slices_are;
      order_is = ap (λ (x : Slices). x.order) p.slices_are;
      word_is = ap (λ (x : Slices). x.word) p.slices_are;
      marks_are = ap (λ (x : Slices). x.marks) p.slices_are;
    };
  }

  as_one : {l : List Entry} → Columns s.index s.order s.word s.marks (room_of s) l → s ≡ columns (room_of s) l
  as_one c = λ i. record { index = c.index_is i; order = c.order_is i; word = c.word_is i; marks = c.marks_are i }

  together : {l : List Entry} → C.Prescribes s.index s.order s.word s.marks l → Prescribes (room_of s) l s
  together p = record { valid = p.valid; fits = p.fits; slices_are = as_one p.columns }

  module _ (z : Sized s) where
    -- what is read is the list
    pub read_is : {l : List Entry} → Prescribes (room_of s) l s → list_in s ≡ l
    read_is {l} p =
        only s.index s.order s.word s.marks z.order_fits z.word_fits z.marks_fit l (one_by_one p)

    holds : {l : List Entry} → Prescribes (room_of s) l s → holds_list s.index s.order s.word s.marks ≡ true
    holds {l} p =
        found s.index s.order s.word s.marks z.order_fits z.word_fits z.marks_fit l (one_by_one p)

    pub prescribed_0 : {l : List Entry} → Prescribes (room_of s) l s → check_answer s ≡ 0
    prescribed_0 p = rw (sized_is z, holds p)

    reads : Words s → holds_list s.index s.order s.word s.marks ≡ true → Prescribes (room_of s) (list_in s) s
    reads w t =
        together (yes s.index s.order s.word s.marks z.order_fits z.word_fits z.marks_fit
        (record { small = w.index_small }) (record { small = w.word_small }) t)

  -- THE ANSWERS
  module _ (w : Words s) where
    pub accepted : check_answer s ≡ 0 → Sized s × Prescribes (room_of s) (list_in s) s
    accepted e =
        by_t (is_sized s)
        (λ t. let z : Sized s = is_sized_lem t in
        by_t (holds_list s.index s.order s.word s.marks) (λ u. (z, reads z w u))
        (λ u. absurd (let x : ◌≡◌ {A = ℕ} 2 0 = rw (t, u) at e in omega arith)))
        (λ t. absurd (let x : ◌≡◌ {A = ℕ} 1 0 = rw t at e in omega arith))

    unsized : check_answer s ≡ 1 → Sized s → ⊥
    unsized e z =
        by_t (holds_list s.index s.order s.word s.marks)
        (λ u. absurd (let x : ◌≡◌ {A = ℕ} 0 1 = rw (sized_is z, u) at e in omega arith))
        (λ u. absurd (let x : ◌≡◌ {A = ℕ} 2 1 = rw (sized_is z, u) at e in omega arith))

    not_sized : (Sized s → ⊥) → check_answer s ≡ 1
    not_sized f = by_t (is_sized s) (λ t. absurd (f (is_sized_lem t))) (λ t. rw t)

    none_held : check_answer s ≡ 2 → Sized s × ((l : List Entry) → Prescribes (room_of s) l s → ⊥)
    none_held e =
        by_t (is_sized s)
        (λ t. (is_sized_lem t, λ l p. let x : ◌≡◌ {A = ℕ} 0 2 = sym (prescribed_0 (is_sized_lem t) p) ∙ e in omega arith))
        (λ t. absurd (let x : ◌≡◌ {A = ℕ} 1 2 = rw t at e in omega arith))

    holds_none : Sized s → ((l : List Entry) → Prescribes (room_of s) l s → ⊥) → check_answer s ≡ 2
    holds_none z f =
        by_t (holds_list s.index s.order s.word s.marks) (λ u. absurd (f (list_in s) (reads z w u)))
        (λ u. rw (sized_is z, u))

    -- R302, R303
    pub check_exact : CheckExact s
    check_exact = record {
      zero_only = accepted;
      zero_if = λ z l p. (prescribed_0 z p, read_is z p);
      one_only = unsized;
      one_if_lem = not_sized;
      two_only = none_held;
      two_if = holds_none;
    }

-- SLICES THAT A LIST PRESCRIBES have its room, and are sized if that is
pub room_is : {room : ℕ} {l : List Entry} {s : Slices} → Prescribes room l s → room_of s ≡ room
room_is {room} {l} p = ap (λ (x : Slices). length x.index) p.slices_are ∙ column_length (λ e. e.base) room l

pub sized_of : {room : ℕ} {l : List Entry} {s : Slices} → room ≤ max_room → Prescribes room l s → Sized s
sized_of {room} {l} {s} h p =
    let r : room_of s ≡ room = room_is p in
    record {
      most = omega (arith, r);
      order_fits = ap (λ (x : Slices). length x.order) p.slices_are ∙ column_length (λ e. e.order) room l ∙ sym r;
      word_fits = ap (λ (x : Slices). length x.word) p.slices_are ∙ column_length (λ e. e.word) room l ∙ sym r;
      marks_fit = ap (λ (x : Slices). length x.marks) p.slices_are ∙ column_length (λ e. e.marks) room l ∙ sym r;
    }

pub by_room : {room : ℕ} {l : List Entry} {s : Slices} → Prescribes room l s → Prescribes (room_of s) l s
by_room {room} {l} {s} p = subst (λ (r : ℕ). Prescribes r l s) (sym (room_is p)) p
