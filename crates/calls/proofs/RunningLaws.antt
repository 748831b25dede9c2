-- The loop over a batch's commands: where it starts, one turn, and where it ends.
use Prim.Native.Nat.{ℕ, ◌+◌, ◌*◌, ◌≤◌}
use mathlib.Core.Path.{◌≡◌, refl, sym, ap, ap₂, subst, ◌∙◌}
use mathlib.Core.List.{List}
use lib.ListN.{length}
use Rattle.model.specs.declared.Entry.{Entry}
use Rattle.layout.specs.WellFormed.{WellFormed, Prescribed}
use Rattle.freenodes.specs.FreeNodes.{FreeMap}
use Rattle.decode.proofs.PrescribedWords.{count_is}
use Rattle.decode.proofs.DecodeLaws.{unique}
use Rattle.words.specs.Bytes.{write_from, overwrite}
use Rattle.batch.specs.Fits.{Fits}
use Rattle.batch.specs.declared.Command.{Command}
use Rattle.batch.specs.declared.Cursor.{Cursor}
use Rattle.batch.specs.declared.Read.TheVariants.{Next}
use Rattle.batch.specs.declared.Reply.{Reply}
use Rattle.batch.specs.Batch.{Parsed, read_at, rest_at}
use Rattle.batch.specs.Reply.{reply_bytes, encode}
use Rattle.commands.specs.Batches.{Ahead}
use Rattle.commands.proofs.BatchesLaws.{same_commands, After, turn, ahead_on, none_left, reply_then}
use Rattle.commands.proofs.BatchesLaws as B
use Rattle.execute.specs.Execute.{execute}
use Rattle.execute.specs.State.{State, Kept, next, states}
use Rattle.execute.specs.Promised.{state_of, words_to, Executes}
use Rattle.execute.proofs.ExecuteLaws.{next_kept}
use Rattle.calls.specs.Calls.{replies}
use Rattle.calls.specs.Running.{words_of, Ends, Turned, Running}

-- WELL-FORMED AGAIN after a command
pub kept_of : {ws : List ℕ} (s : WellFormed ws) → Kept s.n (state_of s)
kept_of s = record { valid = s.valid; placed = s.placed }

abbrev pub formed_after : {ws ws' : List ℕ} (s : WellFormed ws) (c : Command) → Fits c → ws' ≡ words_to s c →
    WellFormed ws'
formed_after s c f e = record {
  n = s.n;
  list = (next s.n (state_of s) c).list;
  places = (next s.n (state_of s) c).places;
  least = s.least;
  most = s.most;
  valid = (next_kept c f (kept_of s)).valid;
  placed = (next_kept c f (kept_of s)).placed;
  words_are = e;
}

-- ONE POOL, ONE STATE
prescribed : {ws : List ℕ} (s : WellFormed ws) → Prescribed s.n s.list s.places ws
prescribed s = record { valid = s.valid; placed = s.placed; words_are = s.words_are }

pub same_count : {ws : List ℕ} (s t : WellFormed ws) → s.n ≡ t.n
same_count {ws} s t =
    sym (count_is s.n s.list s.places ws (prescribed s)) ∙ count_is t.n t.list t.places ws
    (prescribed t)

same_state : {ws : List ℕ} (s t : WellFormed ws) → state_of s ≡ state_of t
same_state s t =
    let (a, b) = unique (prescribed s) (prescribed t) in λ i. record { list = a i; places = b i }

-- a batch ends the same from whatever prescribes the pool
ends_same : {ws : List ℕ} (s t : WellFormed ws) (cs : List Command) (out : ℕ) (reply ws' reply' : List ℕ) →
    Ends s cs out reply ws' reply' → Ends t cs out reply ws' reply'
ends_same s t cs out reply ws' reply' e = record {
  words_are =
      e.words_are
      ∙ ap₂ (λ (n : ℕ) (x : State). words_of n (states n x cs)) (same_count s t) (same_state s t);
  reply_is =
      e.reply_is
      ∙ ap₂ (λ (n : ℕ) (x : State). overwrite reply out (replies n x.list cs)) (same_count s t) (same_state s t);
}

-- THE START
pub running_start : {pool map reply batch : List ℕ} → WellFormed pool → FreeMap pool map → Ahead batch 0 (length reply) 0 →
    Running pool reply batch pool map reply 0 0
running_start {reply = reply} s f a = record {
  formed = s;
  mapped = f;
  ahead = a;
  same_length = refl;
  leads = λ s₀ cs e ws' reply' r. subst (λ (x : List Command). Ends s₀ x 0 reply ws' reply')
      (same_commands a.rest_is e) (ends_same s s₀ a.rest 0 reply ws' reply' r);
}

pub replies_length : (n : ℕ) (l : List Entry) (cs : List Command) → length (replies n l cs) ≡ reply_bytes * length cs
replies_length n = B.replies_length (execute n)

-- ONE TURN
module _ {pool₀ reply₀ batch pool map reply : List ℕ} {at out : ℕ}
    (r : Running pool₀ reply₀ batch pool map reply at out)
  where
    pub running_on : {c : Command} {k : Cursor} → Next c k ≡ read_at batch at → Fits c →
        {pool' map' reply' : List ℕ} →
        Turned r.formed c out reply pool' reply' → FreeMap pool' map' → length reply' ≡ length reply →
        Running pool₀ reply₀ batch pool' map' reply' k.at (out + reply_bytes)
    running_on {c} {k} e f {pool'} {map'} {reply'} d u len =
        let s : WellFormed pool = r.formed in
        let a : After batch at k.at c r.ahead.rest = turn r.ahead e in
        record {
          formed = formed_after s c f d.words_are;
          mapped = u;
          ahead = ahead_on r.ahead e len;
          same_length = len ∙ r.same_length;
          leads = λ s₀ cs g ws' rs' x. r.leads s₀ cs g ws' rs'
              (subst (λ (ys : List Command). Ends s ys out reply ws' rs') (sym a.whole)
              (record {
                words_are = x.words_are;
                reply_is = x.reply_is ∙ reply_then (execute s.n) s.list c a.rest reply reply' out d.reply_is;
              }));
        }

    -- THE END
    pub running_end : length batch ≤ at → (s₀ : WellFormed pool₀) (cs : List Command) →
        rest_at batch 0 ≡ Parsed.commands cs → Ends s₀ cs 0 reply₀ pool reply
    unfolding write_from
    running_end e s₀ cs g =
        r.leads s₀ cs g pool reply
        (subst (λ (ys : List Command). Ends r.formed ys out reply pool reply) (sym (none_left r.ahead e))
        (record { words_are = r.formed.words_are; reply_is = refl }))

-- a command that was executed, and its reply written
pub turned : {ws ws' : List ℕ} (s : WellFormed ws) {c : Command} {out : ℕ} {reply reply' : List ℕ} {x y : Reply} →
    Executes s c x ws' → y ≡ x → reply' ≡ overwrite reply out (encode y) → Turned s c out reply ws' reply'
turned s {out = out} {reply = reply} e q w = record {
  words_are = e.words_are;
  reply_is = w ∙ ap (λ (r : Reply). overwrite reply out (encode r)) (q ∙ e.reply_is);
}
