-- A store of a new entry, or a reservation: too few nodes, or the script of the words after it.
use Prim.Native.Nat.{ℕ, zero, suc, ◌-◌, ◌≤◌, ◌<◌}
use mathlib.Core.Path.{◌≡◌, refl, sym, ap, ap₂, subst, ◌∙◌}
use mathlib.Core.Bool.{Bool, true, false}
use mathlib.Core.List.{List}
use mathlib.Core.Option.{Option, none, some}
use native.Mathlib.Omega.{arith}
use lib.ListN.{length, get_or, set}
use lib.Seq.{get_or-set_same, get_or-set_other}
use borrow.Author.Tests.{le-leb}
use Rattle.answers.specs.Answers.{too_few_nodes}
use Rattle.blocks.proofs.BoolLaws.{by_t, clash}
use Rattle.model.specs.declared.Entry.{Entry}
use Rattle.blocks.specs.Blocks.{set_bit}
use Rattle.blocks.specs.Lists.{any}
use Rattle.model.specs.Model.{aligned, reserved_word, matched_mark, marks_of, covering, over, store}
use Rattle.model.specs.ByBlock.{inside, new_entry, store_new}
use Rattle.model.proofs.AlignedLaws.{bare_is}
use Rattle.tree.specs.Tree.{nodes, needed, height}
use Rattle.tree.proofs.HeightLaws.{fits_order}
use Rattle.tree.proofs.ReadLaws.{over_some}
use Rattle.layout.specs.Words.{anchor_words}
use Rattle.layout.specs.Places.{new_places, free_count, render}
use Rattle.layout.specs.WellFormed.{WellFormed}
use Rattle.layout.proofs.PlacesLaws.{free_places}
use Rattle.layout.proofs.RenderWordLaws.{pool_length_lem, pool_anchor}
use Rattle.batch.specs.declared.Command.{Command}
use Rattle.batch.specs.declared.Command.TheVariants.{Store, Reserve}
use Rattle.commands.specs.Commands.{Executed}
use Rattle.plan.specs.Plan.{Storable, NewStore}
use Rattle.plan.specs.declared.Heads.{Heads}
use Rattle.plan.specs.declared.Target.{Target}
use Rattle.plan.proofs.AfterStoreLaws.{new_store, new_fits}
use Rattle.store.proofs.HeadEntryLaws.{flat_words, nothing_needed}
use Rattle.execute.specs.Execute.{execute}
use Rattle.execute.specs.Promised.{putting}
use Rattle.execute.proofs.ExecuteLaws.{short_11, enough_0, reserve_11, reserve_0}
use Rattle.execute.proofs.ReplyLaws.{words_after_lem}
use Rattle.execute.proofs.TableLaws.{covered_0}
use Rattle.script.specs.Script.{script}
use Rattle.script_table.specs.Table.{Tables}
use Rattle.script_wide.specs.Wide.{Wide}
use Rattle.script_new.specs.New.{NewList, NewPlanned, NewRows}
use Rattle.script_new.proofs.WideLaws.{wide_new}
use Rattle.preparing.specs.Prepare.{refused, yielding, preparing}
use Rattle.prepare.specs.Entries.{Alone}
use Rattle.prepare.specs.Put.{Puttable, NewMade}
use Rattle.prepare.proofs.NewListLaws.{new_made}
use Rattle.prepare.proofs.PrepareLaws.{command_refused, command_done}

module _ {ws : List ℕ} (s : WellFormed ws) (out : List ℕ) {i k w : ℕ} {b : Bool} (new : NewStore s.list i k w)
    (al : aligned k i ≡ true) (p : Puttable k w b) {m : ℕ} (made : NewMade s i k w m) where
  abbrev l : List Entry
  l = s.list

  abbrev l' : List Entry
  l' = store l i k w

  abbrev c : Command
  c = putting i k w b

  -- a reservation, or a store
  by_kind : (P : Command → Type 0) → (b ≡ true → P (Reserve i)) → (b ≡ false → P (Store i k w)) → P (putting i k w b)
  by_kind P f g = by_t b (λ t. subst P (sym (ap (putting i k w) t)) (f t)) (λ t. subst P (sym (ap (putting i k w) t)) (g t))

  -- what is reserved is not covered
  not_covered : b ≡ true → covering l i ≡ none
  not_covered t = go (covering l i) refl
    where
      go : (o : Option Entry) → covering l i ≡ o → o ≡ none
      go none q = refl
      go (some e) q = let z : k ≡ 0 = (p.reserves t).0 in
          absurd (clash (over_some l i k e s.valid q ∙ le-leb k e.order (omega (arith, z))) new.is_new)

  reserved_list : b ≡ true → l' ≡ store l i 0 reserved_word
  reserved_list t = ap₂ (store l i) (p.reserves t).0 (p.reserves t).1

  free : free_count s.places ≡ s.n - length (nodes l)
  free = omega (arith, free_places s.n l s.places s.placed)

  same_needed : needed l l' ≡ needed l (store_new l i k w)
  same_needed = ap length made.new.same_new

  -- TOO FEW NODES
  pub put_short : free_count s.places < needed l (store_new l i k w) → preparing s out (putting i k w b) ≡ refused too_few_nodes out
  put_short h = command_refused s out c too_few_nodes
      (by_kind (λ x. (execute s.n l x).reply.answer ≡ too_few_nodes)
      (λ t. ap (λ (x : Executed). x.reply.answer) (reserve_11 s.n l i (not_covered t)
      (subst (λ (x : List Entry). s.n - length (nodes l) < needed l x) (reserved_list t) few)))
      (λ t. ap (λ (x : Executed). x.reply.answer) (short_11 s.n l i k w new.order_le al (p.stores t) few)))
      (omega arith)
    where
      few : s.n - length (nodes l) < needed l l'
      few = omega (arith, free, same_needed, h)

  -- DONE
  module _ (h : needed l (store_new l i k w) ≤ free_count s.places) where
    enough : needed l l' ≤ s.n - length (nodes l)
    enough = omega (arith, free, same_needed, h)

    covered_then : covering l' i ≡ some made.new.entry
    covered_then = made.new.becomes.covers_is i refl ∙ made.new.some_is

    done_0 : (execute s.n l (putting i k w b)).reply.answer ≡ 0
    done_0 = by_kind (λ x. (execute s.n l x).reply.answer ≡ 0)
        (λ t. ap (λ (x : Executed). x.reply.answer) (reserve_0 s.n l i (not_covered t)
        (subst (λ (x : List Entry). needed l x ≤ s.n - length (nodes l)) (reserved_list t) enough))
        ∙ covered_0 _ 0 (covering (store l i 0 reserved_word) i) (ap (λ (x : List Entry). covering x i) (sym (reserved_list t)) ∙ covered_then))
        (λ t. ap (λ (x : Executed). x.reply.answer) (enough_0 s.n l i k w new.order_le al (p.stores t) enough)
        ∙ covered_0 _ 0 (covering l' i) covered_then)

    list_then : (execute s.n l (putting i k w b)).list ≡ l'
    list_then = by_kind (λ x. (execute s.n l x).list ≡ l')
        (λ t. ap (λ (x : Executed). x.list) (reserve_0 s.n l i (not_covered t)
        (subst (λ (x : List Entry). needed l x ≤ s.n - length (nodes l)) (reserved_list t) enough)) ∙ sym (reserved_list t))
        (λ t. ap (λ (x : Executed). x.list) (enough_0 s.n l i k w new.order_le al (p.stores t) enough))

    pub put_done : preparing s out (putting i k w b) ≡ yielding (script ws (render l' (new_places l l' s.places) s.n)) out
    put_done = command_done s out c done_0 (words_after_lem s c list_then)

  -- THE HEAD IS THE ENTRY: nothing was stored
  pub put_flat : height (store_new l i k w) ≡ 0 → preparing s out (putting i k w b) ≡ yielding (script ws (set ws 1 w)) out
  put_flat z =
      let k₀ : k ≡ 0 = omega (arith, z, fits_order (height (store_new l i k w)) (new_entry l i k w) (new_fits new)) in
      let q : l' ≡ store_new l i k w = bare_is i k al l w k₀ new.is_new ∙ rw new.is_new refl in
      put_done (omega (arith, nothing_needed s.placed new z)) ∙ ap (λ (x : List ℕ). yielding (script ws x) out)
      (ap (λ (x : List Entry). render x (new_places l x s.places) s.n) q
      ∙ (sym (flat_words s.placed new z) ∙ ap (λ (x : List ℕ). set x 1 w) (sym s.words_are)))

-- the table of another head word alone
pub word_table : {ws : List ℕ} (s : WellFormed ws) {rs ns : List ℕ} (w : ℕ) → Alone ws rs ns w (get_or ws 2 0) →
    Tables ws rs ns (set ws 1 w) s.n
word_table {ws} s {rs} {ns} w a = record {
  size = pool_length_lem s;
  anchor = anchor;
  row = λ r h g f q. absurd (omega (arith, a.no_node r h, pool_anchor s 0 (omega arith)));
  rest = λ n h _ f q. get_or-set_other ws 1 _ w 0 (omega arith);
}
  where
    anchor : (p : ℕ) → p < anchor_words → get_or (set ws 1 w) p 0 ≡ get_or rs p 0
    anchor zero h = get_or-set_other ws 1 0 w 0 (omega arith) ∙ sym a.count_is
    anchor (suc zero) h = get_or-set_same ws 1 w 0 (omega (arith, pool_length_lem s)) ∙ sym a.word_is
    anchor (suc (suc zero)) h = get_or-set_other ws 1 2 w 0 (omega arith) ∙ sym a.marks_is
    anchor (suc (suc (suc zero))) h = get_or-set_other ws 1 3 w 0 (omega arith) ∙ (pool_anchor s 3 (omega arith) ∙ sym a.spare_is)
    anchor (suc (suc (suc (suc p)))) h = absurd (omega arith)

-- AS THE CODE KNOWS THEM
module _ {ws : List ℕ} (s : WellFormed ws) {t : Target} {b : Bool} (st : Storable t) (p : Puttable t.order t.word b) where
  abbrev i : ℕ
  i = t.index

  abbrev k : ℕ
  k = t.order

  abbrev w : ℕ
  w = t.word

  abbrev then : List Entry
  then = store s.list t.index t.order t.word

  abbrev kept : ℕ
  kept = set_bit matched_mark false (marks_of (inside s.list t.index t.order))

  made_of : NewStore s.list t.index t.order t.word → {m : ℕ} → m ≡ kept → NewMade s t.index t.order t.word m
  made_of new e = new_made s new st.is_aligned_lem p st.word_fits e

  module _ (out : List ℕ) (no : any (over t.index t.order) s.list ≡ false) where
    pub target_flat : height (store_new s.list t.index t.order t.word) ≡ 0 →
        preparing s out (putting t.index t.order t.word b) ≡ yielding (script ws (set ws 1 t.word)) out
    target_flat z = let new = new_store s.valid st no in put_flat s out new st.is_aligned_lem p (made_of new {m = kept} refl) z

    pub target_short : free_count s.places < needed s.list (store_new s.list t.index t.order t.word) →
        preparing s out (putting t.index t.order t.word b) ≡ refused too_few_nodes out
    target_short h = let new = new_store s.valid st no in put_short s out new st.is_aligned_lem p (made_of new {m = kept} refl) h

  module _ {heads : Heads} {ps cs : List ℕ} (pl : NewPlanned s t heads ps cs) {m : ℕ} (e : m ≡ kept) where
    -- the words after it
    abbrev pub target_words : List ℕ
    target_words = render then (new_places s.list then s.places) s.n

    pub target_wide : {rs ns : List ℕ} → ((o : Option Entry) (l' : List Entry) → NewList s t.index t.order t.word m o l' →
        NewRows s t.index t.order l' rs ns) → Wide s rs ns target_words t.index t.order
    target_wide rows = let x = made_of pl.known.new e in
        wide_new s pl.known.new x.new pl.enough (rows x.option then x.new)

    pub target_done : (out : List ℕ) → preparing s out (putting t.index t.order t.word b) ≡ yielding (script ws target_words) out
    target_done out = put_done s out pl.known.new st.is_aligned_lem p (made_of pl.known.new e) pl.enough
