-- An erase: what it answers, and the list that it leaves.
use Prim.Native.Nat.{ℕ}
use mathlib.Core.Path.{◌≡◌, refl, sym, ap, subst, ◌∙◌}
use mathlib.Core.List.{List}
use mathlib.Core.Option.{Option, none, some}
use native.Mathlib.Omega.{arith}
use borrow.Author.Tests.{eqb-true}
use Rattle.answers.specs.Answers.{absent}
use Rattle.blocks.proofs.ListLaws.{first_yes, each, look}
use Rattle.model.specs.declared.Entry.{Entry}
use Rattle.model.specs.Model.{covers, covering, erase}
use Rattle.model.proofs.ValidLaws.{sole, covers_self}
use Rattle.layout.specs.Places.{new_places, render}
use Rattle.layout.specs.WellFormed.{WellFormed}
use Rattle.batch.specs.declared.Command.TheVariants.{Erase}
use Rattle.commands.specs.Commands.{Executed, reply_of}
use Rattle.batch.specs.Reply.{erase_reply}
use Rattle.execute.specs.Execute.{execute}
use Rattle.execute.proofs.ReplyLaws.{words_after_lem}
use Rattle.script.specs.Script.{script}
use Rattle.script_rows.specs.Becomes.{Becomes}
use Rattle.script_rows.proofs.CommandLaws.{becomes_move, becomes_erase}
use Rattle.script_erase.specs.Erased.{Standing}
use Rattle.preparing.specs.Prepare.{refused, yielding, preparing}
use Rattle.prepare.specs.Entries.{EntryThere}
use Rattle.prepare.proofs.PrepareLaws.{command_refused, command_done}

-- the entry covers its own base
pub entry_stands : {ws : List ℕ} (s : WellFormed ws) {i k top : ℕ} → EntryThere s i k top → Standing s.list i k
entry_stands s t = record {
  entry = t.entry;
  covering_is = subst (λ (j : ℕ). covering s.list j ≡ some t.entry) t.base_is
      (look (sole t.entry.base s.valid) t.inside (covers_self t.entry));
  order_is = t.order_is;
}

module _ {ws : List ℕ} (s : WellFormed ws) (out : List ℕ) (i : ℕ) where
  abbrev l : List Entry
  l = s.list

  runs : execute s.n s.list (Erase i) ≡ record { reply = reply_of erase_reply 0 (covering s.list i); list = erase s.list i }
  unfolding execute
  runs = refl

  pub erase_refused : covering l i ≡ none → preparing s out (Erase i) ≡ refused absent out
  erase_refused q = command_refused s out (Erase i) absent
      (ap (λ (x : Executed). x.reply.answer) runs ∙ ap (λ (o : Option Entry). (reply_of erase_reply 0 o).answer) q) (omega arith)

  module _ {e : Entry} (q : covering l i ≡ some e) where
    pub erase_becomes : Becomes e.base e.order none l (erase l i)
    erase_becomes = becomes_move (sym (eqb-true _ _ (first_yes (covers i) (each l (λ x m. m)) q).0))
        (becomes_erase l s.valid i q)

    pub erase_done : preparing s out (Erase i) ≡
        yielding (script ws (render (erase l i) (new_places l (erase l i) s.places) s.n)) out
    erase_done = command_done s out (Erase i)
        (ap (λ (x : Executed). x.reply.answer) runs ∙ ap (λ (o : Option Entry). (reply_of erase_reply 0 o).answer) q)
        (words_after_lem s (Erase i) (ap (λ (x : Executed). x.list) runs))
