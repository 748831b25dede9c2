-- The loop over a batch's commands, whatever executes them: a batch that was counted, what is left of it at a place, one turn, and
-- the replies.
use Prim.Native.Nat.{ℕ, suc, ◌+◌, ◌*◌, ◌≤◌, ◌<◌}
use mathlib.Core.Path.{◌≡◌, refl, sym, ap, ◌∙◌}
use mathlib.Core.Bool.{true}
use mathlib.Core.List.{List, [], ◌∷◌, ◌++◌}
use native.Mathlib.Omega.{arith}
use lib.Dec.{ltb}
use lib.ListN.{length, drop, length-append}
use borrow.Author.Tests.{ltb-true, ltb-false}
use Rattle.blocks.proofs.BoolLaws.{by_t}
use Rattle.model.specs.declared.Entry.{Entry}
use Rattle.words.specs.Bytes.{overwrite}
use Rattle.words.proofs.WriteLaws.{overwrite_append, overwrite_all}
use Rattle.batch.specs.declared.Command.{Command}
use Rattle.batch.specs.declared.BadRecord.{BadRecord}
use Rattle.std.specs.Prelude.{Result, Ok, Err}
use Rattle.batch.specs.declared.Cursor.{Cursor}
use Rattle.batch.specs.declared.Read.TheVariants.{Next}
use Rattle.batch.specs.Batch.{max_batch, Parsed, cons_to, counted, is_record, read_at, rest_at, parse}
use Rattle.batch.specs.Reply.{reply_bytes, encode}
use Rattle.batch.proofs.BatchLaws.{read_end, read_no}
use Rattle.batch.proofs.ParseLaws.{rest_end, rest_bad, rest_next, not_refused, parse_long, parse_rest}
use Rattle.commands.specs.Commands.{Executed}
use Rattle.commands.specs.Batches.{replies_by, Ahead}

pub same_commands : {p : Parsed} {xs ys : List Command} → p ≡ Parsed.commands xs → p ≡ Parsed.commands ys → xs ≡ ys
same_commands e f = cc

-- A BATCH THAT WAS COUNTED
pub record Read (bs : List ℕ) (k : ℕ) : Type 0 where
  pub cs : List Command
  pub parsed : parse bs ≡ Parsed.commands cs
  pub rest : rest_at bs 0 ≡ Parsed.commands cs
  pub count : length cs ≡ k

parse_is : (bs : List ℕ) {cs : List Command} → parse bs ≡ Parsed.commands cs → rest_at bs 0 ≡ Parsed.commands cs
parse_is bs e =
    by_t (ltb max_batch (length bs)) (λ t. absurd (not_refused (sym (parse_long bs (ltb-true _ _ t)) ∙ e)))
    (λ t. sym (parse_rest bs (ltb-false _ _ t)) ∙ e)

pub was_read : {bs : List ℕ} {k : ℕ} → Ok k ≡ counted (parse bs) → Read bs k
was_read {bs} {k} e = go (parse bs) refl
  where
    go : (p : Parsed) → parse bs ≡ p → Read bs k
    go (Parsed.commands cs) q = record {
      cs = cs;
      parsed = q;
      rest = parse_is bs q;
      count = same (e ∙ ap counted q);
    }
      where
        same : ◌≡◌ {A = Result ℕ BadRecord} (Ok k) (Ok (length cs)) → length cs ≡ k
        same x = cc
    go (Parsed.refused at) q = absurd (never (e ∙ ap counted q))
      where
        never : {b : BadRecord} → Ok k ≡ Err b → ⊥
        never x = let z : ◌≡◌ {A = ℕ} 0 1 = cc in omega arith

pub was_refused : (bs : List ℕ) {b : BadRecord} → Err b ≡ counted (parse bs) → parse bs ≡ Parsed.refused b.at
was_refused bs {b} e = go (parse bs) refl
  where
    go : (p : Parsed) → parse bs ≡ p → parse bs ≡ Parsed.refused b.at
    go (Parsed.refused p) q = q ∙ ap Parsed.refused (same (e ∙ ap counted q))
      where
        same : ◌≡◌ {A = Result ℕ BadRecord} (Err b) (Err (record { at = p })) → p ≡ b.at
        same x = cc
    go (Parsed.commands cs) q = absurd (never (e ∙ ap counted q))
      where
        never : ◌≡◌ {A = Result ℕ BadRecord} (Err b) (Ok (length cs)) → ⊥
        never x = let z : ◌≡◌ {A = ℕ} 0 1 = cc in omega arith

-- there is room for all replies
pub ahead : {bs : List ℕ} {k : ℕ} (rs : List ℕ) (r : Read bs k) → reply_bytes * k ≤ length rs →
    Ahead bs 0 (length rs) 0
ahead rs r h = record { rest = r.cs; rest_is = r.rest; room = omega (arith, r.count) }

-- ONE TURN
-- the commands left after one that was read
pub record After (batch : List ℕ) (at next : ℕ) (c : Command) (cs : List Command) : Type 0 where
  pub rest : List Command
  pub rest_is : rest_at batch next ≡ Parsed.commands rest
  pub whole : cs ≡ c ∷ rest

pub read_after : (batch : List ℕ) (at : ℕ) {c : Command} {k : Cursor} {cs : List Command} →
    Next c k ≡ read_at batch at →
    rest_at batch at ≡ Parsed.commands cs → After batch at k.at c cs
read_after batch at {c} {k} {cs} e q = go (rest_at batch k.at) refl (sym (rest_next batch at e) ∙ q)
  where
    go : (p : Parsed) → rest_at batch k.at ≡ p → cons_to c (rest_at batch k.at) ≡ Parsed.commands cs →
        After batch at k.at c cs
    go (Parsed.commands rest) g h = record {
      rest = rest;
      rest_is = g;
      whole = same_commands h (ap (cons_to c) g);
    }
    go (Parsed.refused p) g h = absurd (not_refused (sym (ap (cons_to c) g) ∙ h))

module _ {batch : List ℕ} {at room out : ℕ} (a : Ahead batch at room out) where
  module _ {c : Command} {k : Cursor} (e : Next c k ≡ read_at batch at) where
    -- what is left after a command that was read
    pub turn : After batch at k.at c a.rest
    turn = read_after batch at e a.rest_is

    pub one_less : length a.rest ≡ suc (length turn.rest)
    one_less = ap length turn.whole

    -- there is room for its reply
    pub room_for : out + reply_bytes ≤ room
    room_for = omega (arith, a.room, one_less)

    -- and behind it for the others
    abbrev pub ahead_on : {room' : ℕ} → room' ≡ room → Ahead batch k.at room' (out + reply_bytes)
    ahead_on same = record { rest = turn.rest; rest_is = turn.rest_is; room = omega (arith, a.room, one_less, same) }

  -- a good record stands at a place before the end
  pub stands : at < length batch → is_record batch at ≡ true
  stands lt = by_t (is_record batch at) (λ t. t)
      (λ t. absurd (not_refused (sym (rest_bad batch at (read_no batch at lt t)) ∙ a.rest_is)))

  -- none is left at the end
  pub none_left : length batch ≤ at → a.rest ≡ []
  none_left e = same_commands a.rest_is (rest_end batch at (read_end batch at e))

-- THE REPLIES
module _ (does : List Entry → Command → Executed) where
  -- one reply, then the others
  pub reply_then : (l : List Entry) (c : Command) (cs : List Command) (reply reply' : List ℕ) (out : ℕ) →
      reply' ≡ overwrite reply out (encode (does l c).reply) →
      overwrite reply' (out + reply_bytes) (replies_by does (does l c).list cs) ≡ overwrite reply out
      (replies_by does l (c ∷ cs))
  reply_then l c cs reply reply' out e =
      ap (λ (x : List ℕ). overwrite x (out + reply_bytes) (replies_by does (does l c).list cs)) e
      ∙ sym (overwrite_append reply out (encode (does l c).reply) (replies_by does (does l c).list cs))

  pub replies_length : (l : List Entry) (cs : List Command) → length (replies_by does l cs) ≡ reply_bytes * length cs
  replies_length l [] = refl
  replies_length l (c ∷ cs) =
      length-append (encode (does l c).reply) (replies_by does (does l c).list cs)
      ∙ omega (arith, replies_length (does l c).list cs)

  -- all of them, written from the start
  pub replies_all : (rs : List ℕ) (l : List Entry) (cs : List Command) → reply_bytes * length cs ≤ length rs →
      overwrite rs 0 (replies_by does l cs) ≡ replies_by does l cs ++ drop (reply_bytes * length cs) rs
  replies_all rs l cs h =
      overwrite_all rs (replies_by does l cs) (omega (arith, replies_length l cs))
      ∙ ap (λ (m : ℕ). replies_by does l cs ++ drop m rs) (replies_length l cs)
