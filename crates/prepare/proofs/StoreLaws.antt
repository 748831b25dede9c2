-- A store, test by test; and onto an entry of its order or more, which takes the word.
use Prim.Native.Nat.{ℕ, ◌-◌, ◌^◌, ◌≤◌, ◌<◌}
use mathlib.Core.Path.{◌≡◌, refl, sym, ap, subst, ◌∙◌}
use mathlib.Core.Bool.{true, false}
use mathlib.Core.List.{List, map}
use mathlib.Core.Option.{some}
use native.Mathlib.Omega.{arith}
use lib.Dec.{T}
use lib.ListN.{length}
use borrow.Author.Tests.{le-leb, le-ltb}
use Rattle.answers.specs.Answers.{bad_order, bad_entry, not_aligned, is_covered}
use Rattle.blocks.specs.Blocks.{set_bit}
use Rattle.blocks.specs.Lists.{any}
use Rattle.blocks.proofs.ListLaws.{first_yes, each}
use Rattle.model.specs.declared.Entry.{Entry}
use Rattle.model.specs.Model.{max_order, aligned, storable, matched_mark, covers, covering, over, with_word, store, Valid}
use Rattle.model.proofs.AlignedLaws.{store_is}
use Rattle.model.proofs.ValidLaws.{store_valid}
use Rattle.tree.specs.Tree.{nodes, needed}
use Rattle.tree.proofs.ReadLaws.{over_some}
use Rattle.tree.proofs.RelabelLaws.{map_o, covering_map, new_nodes_map}
use Rattle.layout.specs.Places.{Places, render}
use Rattle.layout.specs.WellFormed.{WellFormed}
use Rattle.batch.specs.declared.Command.TheVariants.{Store, Reserve}
use Rattle.commands.specs.Commands.{Executed, storing, reply_of}
use Rattle.marks.proofs.RemarkLaws.{sorted_remark}
use Rattle.execute.specs.Execute.{execute, tree, short}
use Rattle.execute.proofs.ExecuteLaws.{taken_15}
use Rattle.execute.proofs.ReplyLaws.{store_order, store_index, store_word, words_after_lem}
use Rattle.script.specs.Script.{script}
use Rattle.script_rows.specs.Becomes.{Becomes}
use Rattle.script_rows.proofs.CommandLaws.{becomes_over}
use Rattle.preparing.specs.Prepare.{refused, yielding, preparing}
use Rattle.prepare.specs.Entries.{Stays}
use Rattle.prepare.proofs.PrepareLaws.{command_refused, command_done}
use Rattle.prepare.proofs.StaysLaws.{stays_map}

module _ {ws : List ℕ} (s : WellFormed ws) (out : List ℕ) (i k w : ℕ) where
  abbrev l : List Entry
  l = s.list

  -- REFUSALS
  pub order_refused : max_order < k → preparing s out (Store i k w) ≡ refused bad_order out
  order_refused h = command_refused s out (Store i k w) bad_order
      (ap (λ (x : Executed). x.reply.answer) (store_order s.n l i k w h)) (omega arith)

  module _ (h : k ≤ max_order) where
    pub index_refused : aligned k i ≡ false → preparing s out (Store i k w) ≡ refused not_aligned out
    index_refused a = command_refused s out (Store i k w) not_aligned
        (ap (λ (x : Executed). x.reply.answer) (store_index s.n l i k w h a)) (omega arith)

    module _ (al : aligned k i ≡ true) where
      pub word_refused : storable w ≡ false → preparing s out (Store i k w) ≡ refused bad_entry out
      word_refused st = command_refused s out (Store i k w) bad_entry
          (ap (λ (x : Executed). x.reply.answer) (store_word s.n l i k w h al st)) (omega arith)

      -- ONTO AN ENTRY
      module _ (st : storable w ≡ true) {e : Entry} (q : covering l i ≡ some e) (le : k ≤ e.order) where
        runs : execute s.n l (Store i k w) ≡ storing (tree s.n) 129 l i (store l i k w)
        unfolding execute
        runs = rw (le-ltb max_order k h, al, st) refl

        is_over_lem : any (over i k) l ≡ true
        is_over_lem = over_some l i k e s.valid q ∙ le-leb k e.order le

        list_is : store l i k w ≡ map (with_word i w) l
        list_is = rw is_over_lem refl

        enough : short s.n l (store l i k w) ≡ false
        enough = ap (short s.n l) list_is
            ∙ le-ltb (s.n - length (nodes l)) (needed l (map (with_word i w) l))
            (omega (arith, ap length (new_nodes_map (with_word i w) (λ x. refl) (λ x. refl) l)))

        covered_then : covering (store l i k w) i ≡ some (with_word i w e)
        covered_then = ap (λ (x : List Entry). covering x i) list_is
            ∙ (covering_map (with_word i w) (λ x. refl) (λ x. refl) i l ∙ ap (map_o (with_word i w)) q)

        done_is : execute s.n l (Store i k w) ≡ record { reply = reply_of 129 0 (some (with_word i w e)); list = store l i k w }
        done_is = runs ∙ rw (enough, covered_then) refl

        -- the entry takes the word, and mark 2 is clear
        over_valid : i < 2 ^ 64 → w < 2 ^ 64 → Valid (store l i k w)
        over_valid i< w< = rw (store_is i k al l w st) (sorted_remark i matched_mark false (omega arith)
            (store_valid i k w s.valid i< h (subst T (sym st) tt) w<))

        pub over_stays : i < 2 ^ 64 → w < 2 ^ 64 → {y : ℕ} → y ≡ set_bit matched_mark false e.marks →
            Stays s e.base e.order w y (some (with_word i w e)) (store l i k w)
        over_stays i< w< {y} f =
            let c : covers i e ≡ true = (first_yes (covers i) (each l (λ x m. m)) q).0 in
            let a : (with_word i w e).word ≡ w = rw c refl in
            let b : (with_word i w e).marks ≡ set_bit matched_mark false e.marks = rw c refl in
            subst (λ (x : ℕ). Stays s e.base e.order x y (some (with_word i w e)) (store l i k w)) a
            (subst (λ (x : ℕ). Stays s e.base e.order (with_word i w e).word x (some (with_word i w e)) (store l i k w)) (b ∙ sym f)
            (subst (λ (x : List Entry). Stays s e.base e.order (with_word i w e).word (with_word i w e).marks
            (some (with_word i w e)) x) (sym list_is)
            (stays_map s i q (with_word i w) (λ x. refl) (λ x. refl) (subst Valid list_is (over_valid i< w<))
            (subst (λ (x : List Entry). Becomes i e.order (some (with_word i w e)) l x) list_is
            (becomes_over l s.valid i k w q is_over_lem)))))

        pub over_done : {y : ℕ} → Stays s e.base e.order w y (some (with_word i w e)) (store l i k w) →
            preparing s out (Store i k w) ≡ yielding (script ws (render (store l i k w) s.places s.n)) out
        over_done x = command_done s out (Store i k w) (ap (λ (y : Executed). y.reply.answer) done_is)
            (words_after_lem s (Store i k w) (ap (λ (y : Executed). y.list) done_is)
            ∙ ap (λ (os : Places). render (store l i k w) os s.n) x.same_places)

-- A RESERVATION where something stands
pub reserve_refused : {ws : List ℕ} (s : WellFormed ws) (out : List ℕ) (i : ℕ) {e : Entry} → covering s.list i ≡ some e →
    preparing s out (Reserve i) ≡ refused is_covered out
reserve_refused s out i q = command_refused s out (Reserve i) is_covered
    (ap (λ (x : Executed). x.reply.answer) (taken_15 s.n s.list i q)) (omega arith)
