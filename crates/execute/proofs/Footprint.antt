-- The footprint of every command: no word outside its part changes (R41).
use Prim.Native.Nat.{ℕ, ◌*◌, ◌^◌}
use mathlib.Core.Path.{◌≡◌, refl, sym, ap, ◌∙◌}
use mathlib.Core.Bool.{Bool, true, false, not}
use mathlib.Core.Logic.{◌⊎◌, inl, inr}
use mathlib.Core.List.{List}
use mathlib.Core.Option.{Option, none, some}
use native.Mathlib.Omega.{arith}
use lib.Dec.{leb, ltb}
use borrow.Author.Tests.{le-leb, eqb-true, eq-eqb}
use Rattle.batch.specs.Reply.{store_reply, erase_reply, mark_reply, unmark_reply, reserve_reply}
use Rattle.blocks.specs.Lists.{any, All}
use Rattle.blocks.specs.Blocks.{block}
use Rattle.blocks.proofs.BoolLaws.{by_t, clash, not-false}
use Rattle.blocks.proofs.ListLaws.{first_yes, each, look}
use Rattle.blocks.proofs.BlockLaws.{block_at}
use Rattle.model.specs.declared.Entry.{Entry}
use Rattle.model.specs.Model.{
  Valid,
  storable,
  reserved_word,
  max_order,
  aligned,
  mark_count,
  matched_mark,
  covers,
  covering,
  present,
  over,
  with_word,
  with_mark,
  store,
  remark,
}
use Rattle.model.proofs.AlignedLaws.{base_aligned, store_is, bare_is}
use Rattle.model.proofs.RangeLaws.{Room}
use Rattle.model.proofs.ValidLaws.{sorted_ok, room, room_some, erase_clear, erase_none}
use Rattle.model.proofs.WordLaws.{present_some}
use Rattle.tree.proofs.ReadLaws.{over_some, over_none}
use Rattle.marks.proofs.RemarkLaws.{remark_absent}
use Rattle.layout.specs.Places.{Places, new_places, word_at, render}
use Rattle.layout.proofs.StayLaws.{same_places}
use Rattle.batch.specs.declared.Command.{Command}
use Rattle.batch.specs.declared.Command.TheVariants.{Store, Load, Erase, Mark, Unmark, Find, Reserve}
use Rattle.execute.specs.Execute.{execute, short}
use Rattle.execute.specs.State.{State, Kept, next}
use Rattle.execute.specs.Part.{range_of, addressed, changing, may_write}
use Rattle.execute.proofs.ExecuteLaws.{load_list, find_list, index_aligned}
use Rattle.execute.proofs.LocalLaws.{
  Agree,
  agree_store,
  agree_clear,
  agree_then,
  agree_map,
  agree_move,
  only_found,
  only_stored,
}
use Rattle.execute.proofs.PartLaws.{word_same}
use Rattle.execute.proofs.TableLaws.{covered_0, present_marked, covering_stored, covering_reserved}

-- a command leaves the list, or is done and changes it within the range that it addresses
abbrev Within : ℕ → List Entry → Command → Type 0
Within n l c =
    ((execute n l c).list ≡ l)
    ⊎ ((changing c ≡ true) × ((execute n l c).reply.answer ≡ 0)
    × (aligned (addressed l c).order (addressed l c).index ≡ true)
    × Agree (addressed l c).index (addressed l c).order l (execute n l c).list)

module _ (n : ℕ) (l : List Entry) (v : Valid l) where
  -- the range of the entry over an index
  entry_range : (i : ℕ) {e : Entry} → covering l i ≡ some e → aligned e.order e.base ≡ true
  entry_range i {e} q = base_aligned e (look (sorted_ok v) (first_yes (covers i) (each l (λ x m. m)) q).1)

  -- MARKS
  module _ (i m : ℕ) (b : Bool) where
    kept : (x : Entry) → covers i x ≡ false → with_mark i m b x ≡ x
    kept x t = rw t

    agree_mark : {e : Entry} → covering l i ≡ some e → Agree e.base e.order l (remark l i m b)
    agree_mark q = agree_map (with_mark i m b) (λ x. refl) (λ x. refl) i kept (only_found i v q)

  mark_within : (i m : ℕ) → Within n l (Mark i m)
  unfolding execute
  mark_within i m = by_t (leb mark_count m) (λ t. inl (rw t)) (λ t. go t (present (covering l i)) refl)
    where
      go : leb mark_count m ≡ false → (o : Option Entry) → present (covering l i) ≡ o → Within n l (Mark i m)
      go t none q = inl (rw t (remark_absent l i m true v q))
      go t (some e) p = let q = (present_some (covering l i) p).0 in
          inr (
            refl,
            rw t (covered_0 mark_reply 0 _ (present_marked l i m true p)),
            rw (q, le-leb 0 e.order (omega arith)) (entry_range i q),
            rw (t, q, le-leb 0 e.order (omega arith))
                (agree_mark i m true q),
          )

  unmark_within : (i m : ℕ) → Within n l (Unmark i m)
  unfolding execute
  unmark_within i m = by_t (leb mark_count m) (λ t. inl (rw t)) (λ t. go t (present (covering l i)) refl)
    where
      go : leb mark_count m ≡ false → (o : Option Entry) → present (covering l i) ≡ o → Within n l (Unmark i m)
      go t none q = inl (rw t (remark_absent l i m false v q))
      go t (some e) p = let q = (present_some (covering l i) p).0 in
          inr (
            refl,
            rw t (covered_0 unmark_reply 0 _ (present_marked l i m false p)),
            rw (q, le-leb 0 e.order (omega arith)) (entry_range i q),
            rw (t, q, le-leb 0 e.order (omega arith))
                (agree_mark i m false q),
          )

  -- ERASE
  erase_within : (i : ℕ) → Within n l (Erase i)
  unfolding execute
  erase_within i = go (covering l i) refl
    where
      go : (o : Option Entry) → covering l i ≡ o → Within n l (Erase i)
      go none q = inl (erase_none i q)
      go (some e) q =
          inr (
            refl,
            covered_0 erase_reply 0 (covering l i) q,
            rw (q, le-leb 0 e.order (omega arith)) (entry_range i q),
            rw (q, le-leb 0 e.order (omega arith), erase_clear i v q)
                (agree_move i e.base e.order (eqb-true _ _ (first_yes (covers i) (each l (λ x m. m)) q).0)
                (agree_clear i e.order l (room_some i v q))),
          )

  -- STORE
  module _ (i k w : ℕ) where
    replaced : {e : Entry} → covering l i ≡ some e → any (over i k) l ≡ true →
        Agree (range_of (record { index = i; order = k }) (covering l i)).index
        (range_of (record { index = i; order = k }) (covering l i)).order l (store l i k w)
    replaced {e} q t =
        let h : leb k e.order ≡ true = sym (over_some l i k e v q) ∙ t in
        rw (t, q, h) (agree_map (with_word i w) (λ x. refl) (λ x. refl) i (λ x z. rw z) (only_found i v q))

    -- the new entry, then its mark 2
    agree_new : aligned k i ≡ true → storable w ≡ true → any (over i k) l ≡ false → Agree i k l (store l i k w)
    agree_new al st t =
        let r : All (Room i k) l = room l i k t in
        rw (store_is i k al l w st, t)
        (agree_then i k (agree_store i k w l r)
        (agree_move (block k i * 2 ^ k) i k (block_at k (block k i))
        (agree_map (with_mark i matched_mark false) (λ x. refl) (λ x. refl) i (λ x z. rw z) (only_stored i k w l r))))

    fresh : aligned k i ≡ true → storable w ≡ true → (o : Option Entry) → covering l i ≡ o → any (over i k) l ≡ false →
        Agree (range_of (record { index = i; order = k }) o).index
        (range_of (record { index = i; order = k }) o).order l (store l i k w)
    fresh al st o q t = rw (range o q) (agree_new al st t)
      where
        range : (o : Option Entry) → covering l i ≡ o →
            range_of (record { index = i; order = k }) o ≡ record { index = i; order = k }
        range none q = refl
        range (some e) q = rw (sym (over_some l i k e v q) ∙ t)

    within_range : aligned k i ≡ true → storable w ≡ true →
        Agree (addressed l (Store i k w)).index (addressed l (Store i k w)).order l (store l i k w)
    within_range al st =
        by_t (any (over i k) l) (λ t. found (covering l i) refl t) (λ t. fresh al st (covering l i) refl t)
      where
        found : (o : Option Entry) → covering l i ≡ o → any (over i k) l ≡ true →
            Agree (range_of (record { index = i; order = k }) (covering l i)).index
            (range_of (record { index = i; order = k }) (covering l i)).order l (store l i k w)
        found none q t = absurd (clash t (over_none l i k q))
        found (some e) q t = replaced q t

    range_aligned : aligned k i ≡ true → (o : Option Entry) → covering l i ≡ o →
        aligned (range_of (record { index = i; order = k }) o).order (range_of (record { index = i; order = k }) o).index
        ≡ true
    range_aligned al none q = al
    range_aligned al (some e) q = by_t (leb k e.order) (λ h. rw h (entry_range i q)) (λ h. rw h al)

    store_within : Within n l (Store i k w)
    unfolding execute
    store_within =
        by_t (ltb max_order k) (λ t. inl (rw t))
        (λ t. by_t (not (aligned k i)) (λ a. inl (rw (t, a)))
        (λ a. by_t (not (storable w)) (λ s. inl (rw (t, a, s)))
        (λ s. by_t (short n l (store l i k w)) (λ d. inl (rw (t, a, s, d)))
        (λ d. let al : aligned k i ≡ true = not-false _ a in
        let st : storable w ≡ true = not-false _ s in
        inr (
          refl,
          rw (t, a, s, d) (covered_0 store_reply 0 _ (covering_stored l i k w al st).1),
          range_aligned al (covering l i) refl,
          rw (t, a, s, d) (within_range al st),
        )))))

  -- RESERVE
  reserve_within : (i : ℕ) → Within n l (Reserve i)
  unfolding execute
  reserve_within i = go (covering l i) refl
    where
      agree : covering l i ≡ none → Agree i 0 l (store l i 0 reserved_word)
      agree q = let t : any (over i 0) l ≡ false = over_none l i 0 q in
          rw (bare_is i 0 (index_aligned i) l reserved_word refl t, t) (agree_store i 0 reserved_word l (room l i 0 t))

      go : (o : Option Entry) → covering l i ≡ o → Within n l (Reserve i)
      go (some e) q = inl (rw q)
      go none q =
          by_t (short n l (store l i 0 reserved_word)) (λ d. inl (rw (q, d)))
          (λ d. inr (
            refl,
            rw (q, d) (covered_0 reserve_reply 0 _ (covering_reserved l i q)),
            index_aligned i,
            rw (q, d) (agree q),
          ))

  within : (c : Command) → Within n l c
  within (Store i k w) = store_within i k w
  within (Load i) = inl (load_list n l i)
  within (Erase i) = erase_within i
  within (Mark i m) = mark_within i m
  within (Unmark i m) = unmark_within i m
  within (Find a z f k) = inl (find_list n l a z f k)
  within (Reserve i) = reserve_within i

-- R41
pub footprint : (n : ℕ) (s : State) → Kept n s → (c : Command) (w : ℕ) → may_write n s c w ≡ false →
    word_at (next n s c).list (next n s c).places n w ≡ word_at s.list s.places n w
footprint n s k c w z = go (within n s.list k.valid c)
  where
    go : Within n s.list c →
        word_at (next n s c).list (next n s c).places n w ≡ word_at s.list s.places n w
    go (inl e) =
        ap (λ (l : List Entry). word_at l (new_places s.list l s.places) n w) e
        ∙ ap (λ (os : Places). word_at s.list os n w) (same_places s.list k.placed)
    go (inr (t, a, al, ag)) =
        word_same n s k (addressed s.list c) al (execute n s.list c).list ag w
        (rw (t, eq-eqb (execute n s.list c).reply.answer 0 a) at z)

-- R101, R40: a command with another answer than 0 leaves the list, and so every word
pub refused_leaves : (n : ℕ) (l : List Entry) → Valid l → (c : Command) → ((execute n l c).reply.answer ≡ 0 → ⊥) →
    (execute n l c).list ≡ l
refused_leaves n l v c f = elim (within n l v c) [ inl e ↦ e | inr w ↦ absurd (f w.1) ]

pub refused_words : (n : ℕ) (s : State) → Kept n s → (c : Command) → ((execute n s.list c).reply.answer ≡ 0 → ⊥) →
    render (next n s c).list (next n s c).places n ≡ render s.list s.places n
refused_words n s k c f =
    ap (λ (l : List Entry). render l (new_places s.list l s.places) n)
    (refused_leaves n s.list k.valid c f)
    ∙ ap (λ (os : Places). render s.list os n) (same_places s.list k.placed)
