-- The loop over a batch's commands: where it starts, one turn, and where it ends.
use Prim.Native.Nat.{ℕ, ◌+◌, ◌≤◌}
use mathlib.Core.Path.{◌≡◌, refl, sym, ap, subst, ◌∙◌}
use mathlib.Core.List.{List, ◌∷◌}
use lib.ListN.{length}
use Rattle.words.specs.Bytes.{write_from, overwrite}
use Rattle.model.specs.declared.Entry.{Entry}
use Rattle.batch.specs.Fits.{Fits}
use Rattle.batch.specs.declared.Command.{Command}
use Rattle.batch.specs.declared.Cursor.{Cursor}
use Rattle.batch.specs.declared.Read.TheVariants.{Next}
use Rattle.batch.specs.declared.Reply.{Reply}
use Rattle.batch.specs.Batch.{Parsed, read_at, rest_at}
use Rattle.batch.specs.Reply.{reply_bytes, encode}
use Rattle.commands.specs.Batches.{Ahead}
use Rattle.commands.proofs.BatchesLaws.{same_commands, After, turn, ahead_on, none_left, reply_then}
use Rattle.xaplain.specs.Moves.{Holds}
use Rattle.xaplain.specs.Engine.{execute}
use Rattle.xaplain.specs.declared.Turned.{Turned}
use Rattle.xaplain.specs.Executes.{Executes}
use Rattle.xaplain.proofs.StoredLaws.{stay}
use Rattle.xaplain.proofs.KeepLaws.{list_held, columns_room, holds_of, execute_keeps, keeps_held}
use Rattle.xaplain_calls.specs.Running.{Ends, Turns, Running}

-- a command that was executed, and its reply written
pub turned : {is os ws ms is' os' ws' ms' : List ℕ} {n : ℕ} (h : Holds is os ws ms n) {c : Command} {out : ℕ} {reply reply' : List ℕ} {r : Turned} →
    Executes h c r is' os' ws' ms' → reply' ≡ overwrite reply out (encode r.reply) →
    Turns h c out reply r.count is' os' ws' ms' reply'
turned h {out = out} {reply = reply} e w = record {
  count_is = e.count_is;
  columns = e.columns;
  reply_is = w ∙ ap (λ (r : Reply). overwrite reply out (encode r)) e.reply_is;
}

-- slices hold one list
same_list : {is os ws ms : List ℕ} {n : ℕ} (h g : Holds is os ws ms n) → h.list ≡ g.list
same_list h g = sym (list_held h) ∙ list_held g

-- THE START
pub running_start : {is os ws ms reply batch : List ℕ} {n : ℕ} → Holds is os ws ms n → Ahead batch 0 (length reply) 0 →
    Running is os ws ms reply batch is os ws ms reply n n 0 0
running_start {is} {os} {ws} {ms} {reply} h a = record {
  held = h;
  ahead = a;
  same_room = refl;
  same_length = refl;
  leads = λ h₀ cs e is' os' ws' ms' reply' r. subst (λ (x : List Command). Ends (length is) h₀.list x 0 reply is' os' ws' ms' reply')
      (same_commands a.rest_is e)
      (subst (λ (l : List Entry). Ends (length is) l a.rest 0 reply is' os' ws' ms' reply') (same_list h h₀) r);
}

-- ONE TURN
module _ {is₀ os₀ ws₀ ms₀ reply₀ batch is os ws ms reply : List ℕ} {n₀ n at out : ℕ}
    (r : Running is₀ os₀ ws₀ ms₀ reply₀ batch is os ws ms reply n₀ n at out)
  where
    pub running_on : {c : Command} {k : Cursor} → Next c k ≡ read_at batch at → Fits c → {m : ℕ} {is' os' ws' ms' reply' : List ℕ} →
        Turns r.held c out reply m is' os' ws' ms' reply' → length reply' ≡ length reply →
        Running is₀ os₀ ws₀ ms₀ reply₀ batch is' os' ws' ms' reply' n₀ m k.at (out + reply_bytes)
    running_on {c} {k} e f {m} {is'} {os'} {ws'} {ms'} {reply'} d len =
        let h : Holds is os ws ms n = r.held in
        let a : After batch at k.at c r.ahead.rest = turn r.ahead e in
        let same : length is' ≡ length is = columns_room d.columns in
        record {
          held = holds_of (execute_keeps (length is) h.list (keeps_held h) c f) d.count_is d.columns;
          ahead = ahead_on r.ahead e len;
          same_room = same ∙ r.same_room;
          same_length = len ∙ r.same_length;
          leads = λ h₀ cs g is'' os'' ws'' ms'' rs'' x. r.leads h₀ cs g is'' os'' ws'' ms'' rs''
              (subst (λ (ys : List Command). Ends (length is) h.list ys out reply is'' os'' ws'' ms'' rs'') (sym a.whole)
              (more h c a.rest reply reply' out d.reply_is
              (subst (λ (y : ℕ). Ends y (execute (length is) h.list c).list a.rest (out + reply_bytes) reply' is'' os'' ws'' ms'' rs'') same x)));
        }
      where
        more : (h : Holds is os ws ms n) (c : Command) (cs : List Command) (reply reply' : List ℕ) (out : ℕ) →
            reply' ≡ overwrite reply out (encode (execute (length is) h.list c).reply) → {a b p q rs : List ℕ} →
            Ends (length is) (execute (length is) h.list c).list cs (out + reply_bytes) reply' a b p q rs →
            Ends (length is) h.list (c ∷ cs) out reply a b p q rs
        more h c cs reply reply' out w x = record {
          columns = x.columns;
          reply_is = x.reply_is ∙ reply_then (execute (length is)) h.list c cs reply reply' out w;
        }

    -- THE END
    pub running_end : length batch ≤ at → (h₀ : Holds is₀ os₀ ws₀ ms₀ n₀) (cs : List Command) →
        rest_at batch 0 ≡ Parsed.commands cs → Ends (length is₀) h₀.list cs 0 reply₀ is os ws ms reply
    unfolding write_from
    running_end e h₀ cs g =
        r.leads h₀ cs g is os ws ms reply
        (subst (λ (ys : List Command). Ends (length is) r.held.list ys out reply is os ws ms reply) (sym (none_left r.ahead e))
        (record { columns = stay r.held; reply_is = refl }))
