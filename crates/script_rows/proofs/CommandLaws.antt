-- Every changing command makes one aligned range of the list hold one entry of the range's order, or nothing; all else
-- stays.
use Prim.Native.Nat.{ℕ, ◌*◌, ◌^◌}
use mathlib.Core.Path.{◌≡◌, refl, sym, ap, subst, ◌∙◌}
use mathlib.Core.Bool.{Bool, true, false}
use mathlib.Core.List.{List, map}
use mathlib.Core.Option.{Option, none, some}
use borrow.Author.Tests.{eqb-true, eq-eqb}
use Rattle.blocks.specs.Lists.{any, All, In}
use Rattle.blocks.specs.Blocks.{block}
use Rattle.blocks.proofs.BoolLaws.{clash, iff}
use Rattle.blocks.proofs.ListLaws.{All-map, first_none, first_yes, each, look, any_in_lem, in_any}
use Rattle.blocks.proofs.BlockLaws.{block_at}
use Rattle.model.specs.declared.Entry.{Entry}
use Rattle.model.specs.Model.{
  Valid,
  storable,
  reserved_word,
  aligned,
  matched_mark,
  covers,
  covering,
  over,
  with_word,
  with_mark,
  store,
  erase,
  remark,
}
use Rattle.model.specs.ByBlock.{clear, new_entry, store_new}
use Rattle.model.proofs.AlignedLaws.{store_is, bare_is}
use Rattle.model.proofs.RangeLaws.{Room, covers_order, clear_inside, clear_uncovered}
use Rattle.model.proofs.ValidLaws.{room, room_some, sole, sorted_ok, unique, covers_self, erase_clear}
use Rattle.tree.proofs.RelabelLaws.{map_o, any_map, covering_map}
use Rattle.tree.proofs.StoreLaws.{store_inside, store_covering}
use Rattle.script_rows.specs.Becomes.{Seated, Becomes}
use Rattle.execute.proofs.LocalLaws.{
  Agree,
  Only,
  agree_clear,
  agree_store,
  agree_then,
  agree_map,
  agree_move,
  only_found,
  only_stored,
}

abbrev given : Option Entry → Bool
given none = false
given (some e) = true

none_some : {e : Entry} → ◌≡◌ {A = Option Entry} none (some e) → ⊥
none_some q = clash {b = true} refl (sym (ap given q))

-- NOTHING: the range is cleared
pub becomes_clear : (i k : ℕ) (l : List Entry) → All (Room i k) l → Becomes i k none l (clear l i k)
becomes_clear i k l r = record {
  agree = agree_clear i k l r;
  rooms = r;
  seated = λ e q. absurd (none_some q);
  covers_is = λ y e. first_none (covers y) (clear_uncovered i k l r y e);
  inside_is = λ p j c only a. clear_inside i k l p j c only a;
}

-- A NEW ENTRY
pub becomes_store : (i k w : ℕ) (l : List Entry) → All (Room i k) l →
    Becomes i k (some (new_entry l i k w)) l (store_new l i k w)
becomes_store i k w l r = record {
  agree = agree_store i k w l r;
  rooms = r;
  seated = λ e q. let d : new_entry l i k w ≡ e = cc in subst (Seated i k) d at;
  covers_is = λ y e. store_covering i k w l r y e;
  inside_is = λ p j c only a. store_inside i k w l p j c only a;
}
  where
    at : Seated i k (new_entry l i k w)
    at = record {
      whole = ap (λ (c : ℕ). c * 2 ^ k) (block_at k (block k i));
      order_is = refl;
      in_run_lem = block_at k (block k i);
    }

-- THE ENTRY THAT IS THERE
pub becomes_same : (i : ℕ) (l : List Entry) → Valid l → {e : Entry} → covering l i ≡ some e →
    Becomes i e.order (some e) l l
becomes_same i l v {e} q = record {
  agree = record { any_same = λ p j c o a. refl; covering_same = λ y f. refl };
  rooms = room_some i v q;
  seated = λ x r. let d : e ≡ x = cc in subst (λ (y : Entry). Seated i e.order y) d at;
  covers_is = λ y r. look (sole y v) found.1 (eq-eqb _ _ (r ∙ run));
  inside_is = λ p j c only a. iff (any p l) (p e)
      (λ t. let (x, m, s) = any_in_lem p l t in
      let d : x ≡ e = unique x.base v m found.1 (covers_self x)
      (eq-eqb _ _ (a x.base (only x s) ∙ run)) in subst (λ (y : Entry). p y ≡ true) d s)
      (λ t. in_any p found.1 t);
}
  where
    found : (covers i e ≡ true) × In e l
    found = first_yes (covers i) (each l (λ x m. m)) q

    run : block e.order i ≡ block e.order e.base
    run = eqb-true _ _ found.0

    at : Seated i e.order e
    at = record { whole = (look (sorted_ok v) found.1).aligned; order_is = refl; in_run_lem = sym run }

-- the range by another of its indices
pub becomes_move : {i j k : ℕ} {o : Option Entry} {l l' : List Entry} → block k j ≡ block k i → Becomes i k o l l' →
    Becomes j k o l l'
becomes_move {i} {j} {k} e b = record {
  agree = agree_move i j k (sym e) b.agree;
  rooms = All-map (λ x r t. covers_order i k x j r t e) b.rooms;
  seated = λ x q. let at = b.seated x q in record { whole = at.whole; order_is = at.order_is; in_run_lem = at.in_run_lem ∙ sym e };
  covers_is = λ y r. b.covers_is y (r ∙ e);
  inside_is = λ p h c only a. b.inside_is p h c only (λ y g. a y g ∙ e);
}

-- with another word, or other marks
module _ (f : Entry → Entry) (fb : (x : Entry) → (f x).base ≡ x.base) (fo : (x : Entry) → (f x).order ≡ x.order)
    (y : ℕ) (fx : (x : Entry) → covers y x ≡ false → f x ≡ x) where
  pub becomes_map : {i k : ℕ} {l l₁ : List Entry} {e : Entry} → Becomes i k (some e) l l₁ → Only y e l₁ →
      Becomes i k (some (f e)) l (map f l₁)
  becomes_map {i} {k} {l} {l₁} {e} b only-e = record {
    agree = agree_then i k b.agree (agree_move e.base i k at.in_run_lem
        (subst (λ (j : ℕ). Agree e.base j l₁ (map f l₁)) at.order_is (agree_map f fb fo y fx only-e)));
    rooms = b.rooms;
    seated = λ x q. let d : f e ≡ x = cc in subst (Seated i k) d at';
    covers_is = λ z r. covering_map f fb fo z l₁ ∙ ap (map_o f) (b.covers_is z r);
    inside_is = λ p j c only a. any_map f fb fo p (λ x. p (f x)) (λ x. refl) l₁
        ∙ b.inside_is (λ x. p (f x)) j c (λ x t. ap (block j) (sym (fb x)) ∙ only (f x) t) a;
  }
    where
      at : Seated i k e
      at = b.seated e refl

      at' : Seated i k (f e)
      at' = record {
        whole = subst (λ (z : ℕ). block k z * 2 ^ k ≡ z) (sym (fb e)) at.whole;
        order_is = fo e ∙ at.order_is;
        in_run_lem = ap (block k) (fb e) ∙ at.in_run_lem;
      }

-- THE COMMANDS
module _ (l : List Entry) (v : Valid l) where
  pub becomes_mark : (i m : ℕ) (b : Bool) {e : Entry} → covering l i ≡ some e →
      Becomes i e.order (some (with_mark i m b e)) l (remark l i m b)
  becomes_mark i m b q = becomes_map (with_mark i m b) (λ x. refl) (λ x. refl) i (λ x t. rw t) (becomes_same i l v q)
      (only_found i v q)

  pub becomes_erase : (i : ℕ) {e : Entry} → covering l i ≡ some e → Becomes i e.order none l (erase l i)
  becomes_erase i {e} q = subst (λ (x : List Entry). Becomes i e.order none l x) (sym (erase_clear i v q))
      (becomes_clear i e.order l (room_some i v q))

  -- a store onto an entry of that order or more
  pub becomes_over : (i k w : ℕ) {e : Entry} → covering l i ≡ some e → any (over i k) l ≡ true →
      Becomes i e.order (some (with_word i w e)) l (store l i k w)
  becomes_over i k w q t = rw t (becomes_map (with_word i w) (λ x. refl) (λ x. refl) i (λ x z. rw z)
      (becomes_same i l v q) (only_found i v q))

  -- a store of a new entry: all marks of what it replaces, then mark 2 cleared
  pub becomes_new : (i k w : ℕ) → aligned k i ≡ true → storable w ≡ true → any (over i k) l ≡ false →
      Becomes i k (some (with_mark i matched_mark false (new_entry l i k w))) l (store l i k w)
  becomes_new i k w al st t =
      let r : All (Room i k) l = room l i k t in
      rw (store_is i k al l w st, t)
      (becomes_map (with_mark i matched_mark false) (λ x. refl) (λ x. refl) i (λ x z. rw z) (becomes_store i k w l r)
      (only_stored i k w l r))

  pub becomes_reserve : (i : ℕ) → aligned 0 i ≡ true → any (over i 0) l ≡ false →
      Becomes i 0 (some (new_entry l i 0 reserved_word)) l (store l i 0 reserved_word)
  becomes_reserve i al t = rw (bare_is i 0 al l reserved_word refl t, t)
      (becomes_store i 0 reserved_word l (room l i 0 t))
