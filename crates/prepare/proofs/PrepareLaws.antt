-- What preparing comes to, test by test as the code has them.
use Prim.Native.Nat.{ℕ, ◌≤◌, ◌<◌}
use mathlib.Core.Path.{◌≡◌, refl, sym, ap, subst, ◌∙◌}
use mathlib.Core.Bool.{Bool, true, false}
use mathlib.Core.List.{List}
use mathlib.Core.Option.{Option, none, some}
use mathlib.Core.Logic.{◌⊎◌, inl, inr}
use native.Mathlib.Omega.{arith}
use lib.ListN.{length, get_or}
use borrow.Author.Tests.{ne_eqb, lt-ltb, le-ltb}
use Rattle.blocks.specs.Choice.{pick}
use Rattle.answers.specs.declared.Report.{Report}
use Rattle.answers.specs.Answers.{result_of, done, reply_space, bad_mark, absent}
use Rattle.model.specs.declared.Entry.{Entry}
use Rattle.model.specs.Model.{reserved, covering, present, remark, mark_count}
use Rattle.tree.specs.Slots.{Numbering}
use Rattle.lookup.specs.declared.Located.{Located}
use Rattle.lookup.specs.declared.Located.TheVariants.{Apart, Vacant, AtHead, InNode}
use Rattle.lookup.specs.declared.Spot.{Spot}
use Rattle.lookup.specs.Views.{Locates}
use Rattle.lookup.proofs.HeadLaws.{at_apart, at_vacant, at_head, at_spot}
use Rattle.layout.specs.Words.{pool_words, max_nodes}
use Rattle.layout.specs.Places.{Places, render}
use Rattle.layout.specs.WellFormed.{WellFormed}
use Rattle.layout.proofs.RenderWordLaws.{pool_length_lem, pool_anchor}
use Rattle.batch.specs.declared.Command.{Command}
use Rattle.commands.specs.Commands.{Executed, reply_of}
use Rattle.marks.proofs.RemarkLaws.{places_remark, remark_absent}
use Rattle.execute.specs.Promised.{remarking, reply_to, words_to}
use Rattle.execute.proofs.ReplyLaws.{remark_above, remark_runs, words_after_lem}
use Rattle.execute.proofs.TableLaws.{present_marked}
use Rattle.script.specs.Script.{script}
use Rattle.script_table.specs.Table.{laid, Tables}
use Rattle.script_table.proofs.LaidLaws.{laid_all}
use Rattle.preparing.specs.Prepare.{Yield, refused, yielding, preparing}

-- WHERE AN INDEX STANDS, in the two ways of which the code makes one
module _ {l : List Entry} {ν : Numbering} {i : ℕ} {k : Located} (w : Locates l ν i k) where
  pub uncovered : (k ≡ Apart) ⊎ ((n : ℕ) × (v : ℕ) × (d : ℕ) × (k ≡ Vacant n v d)) → covering l i ≡ none
  uncovered (inl e) = (at_apart w e).0
  uncovered (inr (n, v, d, e)) = (at_vacant n v d w e).1

  pub covered : ((x : Entry) × (k ≡ AtHead x)) ⊎ ((x : Entry) × (p : Spot) × (d : ℕ) × (k ≡ InNode x p d)) →
      (x : Entry) × (covering l i ≡ some x)
  covered (inl (x, e)) = (x, (at_head x w e).1)
  covered (inr (x, p, d, e)) = (x, (at_spot x p d w e).0)

-- AS THE CODE SAYS IT
pub record Gives (r : Report) (out : List ℕ) (y : Yield) : Type 0 where
  pub result_is : r ≡ y.result
  pub slice_is : out ≡ y.slice

pub gives_same : {r : Report} {out : List ℕ} {y z : Yield} → z ≡ y → Gives r out y → Gives r out z
gives_same e g = record {
  result_is = g.result_is ∙ sym (ap (λ (x : Yield). x.result) e);
  slice_is = g.slice_is ∙ sym (ap (λ (x : Yield). x.slice) e);
}

pub gives_refused : {r : Report} {out : List ℕ} {y : Yield} (a : ℕ) → r ≡ result_of a 0 → y ≡ refused a out → Gives r out y
gives_refused a e f = gives_same f (record { result_is = e; slice_is = refl })

-- A SCRIPT IN A SLICE
module _ (ss out : List ℕ) {n : ℕ} (e : n ≡ length ss) where
  pub gives_short : length out < n → Gives (result_of reply_space n) out (yielding ss out)
  gives_short h =
      let t = lt-ltb (length out) (length ss) (omega arith) in
      record { result_is = rw t (ap (result_of reply_space) e); slice_is = rw t refl }

  pub gives_done : n ≤ length out → {out' : List ℕ} → out' ≡ laid out 0 ss → Gives (result_of done n) out' (yielding ss out)
  gives_done h f =
      let t = le-ltb (length out) (length ss) (omega arith) in
      record { result_is = rw t (ap (result_of done) e); slice_is = f ∙ (laid_all out ss (omega arith) ∙ rw t refl) }

-- A TABLE, by the number of nodes as the pool has it
module _ {ws : List ℕ} (s : WellFormed ws) where
  count_is : get_or ws 0 0 ≡ s.n
  count_is = pool_anchor s 0 (omega arith)

  pub counted_size : (length ws ≡ pool_words (get_or ws 0 0)) × (get_or ws 0 0 ≤ max_nodes)
  counted_size = (pool_length_lem s ∙ ap pool_words (sym count_is), omega (arith, count_is, s.most))

  pub counted_table : {rs ns ws' : List ℕ} → Tables ws rs ns ws' s.n → Tables ws rs ns ws' (get_or ws 0 0)
  counted_table {rs} {ns} {ws'} t = subst (Tables ws rs ns ws') (sym count_is) t

-- ONE COMMAND
module _ {ws : List ℕ} (s : WellFormed ws) (out : List ℕ) (c : Command) where
  pub command_refused : (a : ℕ) → (reply_to s c).answer ≡ a → (a ≡ 0 → ⊥) → preparing s out c ≡ refused a out
  unfolding preparing
  command_refused a e h = rw (e, ne_eqb a 0 h) refl

  pub command_done : {ws' : List ℕ} → (reply_to s c).answer ≡ 0 → words_to s c ≡ ws' →
      preparing s out c ≡ yielding (script ws ws') out
  unfolding preparing
  command_done e f = rw e (ap (λ (w : List ℕ). yielding (script ws w) out) f)

-- MARK AND UNMARK
module _ {ws : List ℕ} (s : WellFormed ws) (out : List ℕ) (i m : ℕ) (b : Bool) where
  pub remark_refused : mark_count ≤ m → preparing s out (remarking i m b) ≡ refused bad_mark out
  remark_refused h = command_refused s out (remarking i m b) bad_mark
      (ap (λ (x : Executed). x.reply.answer) (remark_above s.n s.list i m b h)) (omega arith)

  module _ (h : m < mark_count) where
    answer_is : (reply_to s (remarking i m b)).answer ≡
        (reply_of 0 0 (present (covering (remark s.list i m b) i))).answer
    answer_is = ap (λ (x : Executed). x.reply.answer) (remark_runs s.n s.list i m b h)
        ∙ tags (pick b 132 133) (present (covering (remark s.list i m b) i))
      where
        tags : (t : ℕ) (o : Option Entry) → (reply_of t 0 o).answer ≡ (reply_of 0 0 o).answer
        tags t none = refl
        tags t (some e) = refl

    pub remark_none : present (covering s.list i) ≡ none → preparing s out (remarking i m b) ≡ refused absent out
    remark_none q = command_refused s out (remarking i m b) absent
        (answer_is ∙ ap (λ (o : Option Entry). (reply_of 0 0 o).answer)
        (ap (λ (l : List Entry). present (covering l i)) (remark_absent s.list i m b s.valid q) ∙ q)) (omega arith)

    pub remark_some : {e : Entry} → present (covering s.list i) ≡ some e →
        preparing s out (remarking i m b) ≡ yielding (script ws (render (remark s.list i m b) s.places s.n)) out
    remark_some q = command_done s out (remarking i m b)
        (answer_is ∙ ap (λ (o : Option Entry). (reply_of 0 0 o).answer) (present_marked s.list i m b q))
        (words_after_lem s (remarking i m b) (ap (λ (x : Executed). x.list) (remark_runs s.n s.list i m b h))
        ∙ ap (λ (os : Places). render (remark s.list i m b) os s.n) (places_remark s.list i m b s.placed))

-- what is present
module _ (l : List Entry) (i : ℕ) where
  pub none_at : covering l i ≡ none → present (covering l i) ≡ none
  none_at q = rw q refl

  module _ {e : Entry} (q : covering l i ≡ some e) where
    pub absent_at : reserved e ≡ true → present (covering l i) ≡ none
    absent_at t = rw (q, t) refl

    pub present_at : reserved e ≡ false → present (covering l i) ≡ some e
    present_at t = rw (q, t) refl
