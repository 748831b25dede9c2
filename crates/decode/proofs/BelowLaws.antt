-- What the decoding finds below a node, slot by slot.
use Prim.Native.Nat.{ℕ, zero, suc, ◌+◌, ◌*◌, ◌/◌, ◌≤◌, ◌<◌}
use mathlib.Core.Path.{◌≡◌, refl, sym, ap, ◌∙◌, subst}
use mathlib.Core.Logic.{◌≢◌}
use mathlib.Core.List.{List, [], ◌++◌, append-nil}
use native.Mathlib.Omega.{arith}
use native.Mathlib.Nat.{mul-div_cancel, div-div-eq-div-mul}
use lib.Dec.{eqb}
use borrow.Author.Tests.{eqb-true, eqb-false, eq-eqb, ne_eqb}
use Rattle.blocks.proofs.BoolLaws.{by_t}
use Rattle.blocks.specs.Lists.{keep}
use Rattle.model.specs.declared.Entry.{Entry}
use Rattle.tree.specs.Tree.{slots}
use Rattle.layout.specs.declared.Slot.{Slot}
use Rattle.layout.specs.declared.Slot.TheVariants.{Empty, Reserved, Held, Sibling, Child}
use Rattle.layout.specs.Pool.{Pool, slot_at}
use Rattle.layout.specs.Decode.{wide, span, cell, below, cell_at, entry_at}
use Rattle.decode.proofs.Restrict.{part, in_block}
use Rattle.decode.proofs.KeepLaws.{Every, all_append, all_map, keep_append, keep_all, keep_none, keep_keep}

pub wide_pos : (v : ℕ) → 0 < wide v
wide_pos zero = omega arith
wide_pos (suc v) = omega (arith, wide_pos v)

pub nest : (x v b j : ℕ) → x / wide v ≡ slots * b + j → j < slots → x / wide (suc v) ≡ b
nest x v b j e h = sym (div-div-eq-div-mul x (wide v) slots) ∙ ap (λ (y : ℕ). y / slots) e ∙ (omega arith)

pub up : (x v : ℕ) → x / wide (suc v) ≡ x / wide v / slots
up x v = sym (div-div-eq-div-mul x (wide v) slots)

pub span_all : (P : Entry → Type 0) (f : ℕ → List Entry) (j k : ℕ) → ((i : ℕ) → j ≤ i → i < j + k → Every P (f i)) →
    Every P (span f j k)
unfolding span
span_all P f j zero h = tt
span_all P f j (suc k) h =
    all_append P (f j) (span f (suc j) k) (h j (omega arith) (omega arith))
    (span_all P f (suc j) k (λ i a b. h i (omega arith) (omega arith)))

module _ (w b : ℕ) (f : ℕ → List Entry) (h : (i : ℕ) → i < slots → Every (λ e. e.base / w ≡ slots * b + i) (f i))
  where
    out : (o j : ℕ) → j < slots → o ≢ j → keep (in_block w (slots * b + o)) (f j) ≡ []
    out o j p q = keep_none _ (f j) (all_map _ _ (λ (e : Entry) (d : e.base / w ≡ slots * b + j). ne_eqb _ _
        (λ (z : e.base / w ≡ slots * b + o). q (omega arith))) (f j) (h j p))

    span_out : (o j k : ℕ) → o < j → j + k ≤ slots → keep (in_block w (slots * b + o)) (span f j k) ≡ []
    unfolding span
    span_out o j zero p q = refl
    span_out o j (suc k) p q = rw (
      keep_append,
      out o j (omega arith) (omega arith),
      span_out o (suc j) k (omega arith) (omega arith),
    )

    -- keeping what lies in one slot's block
    span_keep : (o j k : ℕ) → j ≤ o → o < j + k → j + k ≤ slots → keep (in_block w (slots * b + o)) (span f j k) ≡ f o
    unfolding span
    span_keep o j zero p q r = absurd (omega arith)
    span_keep o j (suc k) p q r =
        by_t (eqb j o)
        (λ e. let d : j ≡ o = eqb-true j o e in
        rw keep_append
        (subst (λ (i : ℕ). keep (in_block w (slots * b + o)) (f i) ++ keep (in_block w (slots * b + o))
        (span f (suc j) k) ≡ f o) (sym d)
        (rw (
          span_out o (suc j) k (omega arith) r',
          append-nil,
          keep_all _ (f o) (all_map _ _ (λ (e : Entry) (d : e.base / w ≡ slots * b + o). eq-eqb _ _ d) (f o)
              (h o (omega arith))),
        ))))
        (λ e. let d : j ≢ o = eqb-false j o e in
        rw (keep_append, out o j (omega arith) (omega arith), span_keep o (suc j) k (omega arith) (omega arith) r'))
      where
        r' : suc j + k ≤ slots
        r' = omega arith

module _ (P : Pool) where
  cell_in : (v n b j : ℕ) → ((m c : ℕ) → Every (λ e. e.base / wide v ≡ c) (below P v m c)) → (k : Slot) →
      Every (λ e. e.base / wide v ≡ slots * b + j) (cell (below P v) (entry_at P v n b j) (slots * b + j) k)
  cell_in v n b j ih Empty = tt
  cell_in v n b j ih Reserved = (mul-div_cancel (slots * b + j) (wide_pos v), tt)
  cell_in v n b j ih Held = (mul-div_cancel (slots * b + j) (wide_pos v), tt)
  cell_in v n b j ih (Sibling o) = tt
  cell_in v n b j ih (Child m) = ih m (slots * b + j)

  -- every entry below a node lies in its block
  pub in_below : (h n b : ℕ) → Every (λ e. e.base / wide h ≡ b) (below P h n b)
  unfolding below
  in_below zero n b = tt
  in_below (suc v) n b =
      span_all _ (cell_at P v n b) 0 slots
      (λ j z lt. all_map _ _ (λ (e : Entry) (d : e.base / wide v ≡ slots * b + j). nest e.base v b j d lt)
      (cell_at P v n b j)
      (cell_in v n b j (λ m c. in_below v m c) (slot_at P n j)))

  pub in_cell : (v n b j : ℕ) → Every (λ e. e.base / wide v ≡ slots * b + j) (cell_at P v n b j)
  in_cell v n b j = cell_in v n b j (in_below v) (slot_at P n j)

  -- what lies in slot j's block, of what lies below the node
  pub below_slot : (v n b j : ℕ) → j < slots → part (wide v) (slots * b + j) (below P (suc v) n b) ≡ cell_at P v n b j
  unfolding below
  below_slot v n b j lt = span_keep (wide v) b (cell_at P v n b) (λ i p. in_cell v n b i) j 0 slots (omega arith)
      (omega arith) (omega arith)

  -- and of any list that has just those in the node's block
  pub slot_of_lem : (l : List Entry) (v n b j : ℕ) → j < slots → part (wide (suc v)) b l ≡ below P (suc v) n b →
      part (wide v) (slots * b + j) l ≡ cell_at P v n b j
  slot_of_lem l v n b j lt e =
      sym (keep_keep _ (in_block (wide (suc v)) b) (λ (x : Entry) t. eq-eqb _ _
      (nest x.base v b j (eqb-true _ _ t) lt)) l)
      ∙ ap (part (wide v) (slots * b + j)) e
      ∙ below_slot v n b j lt
