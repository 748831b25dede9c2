-- What a host has in its slice after preparing is the script of the run, and applying it, however much of it was applied before, leaves
-- the words that the run leaves (R334).
use Prim.Native.Nat.{ℕ, ◌*◌, ◌/◌, ◌%◌, ◌≤◌}
use mathlib.Core.Path.{◌≡◌, refl, sym, ap, ap₂, subst, ◌∙◌}
use mathlib.Core.List.{List, [], ◌∷◌, ◌++◌}
use native.Mathlib.Omega.{arith}
use lib.ListN.{length, get_or, take, drop}
use borrow.Author.Tests.{le-ltb}
use Rattle.blocks.proofs.UpToLaws.{length_up_to}
use Rattle.answers.specs.Answers.{result_of, done}
use Rattle.layout.specs.Words.{pool_words}
use Rattle.layout.specs.Places.{word_at}
use Rattle.layout.specs.WellFormed.{WellFormed}
use Rattle.layout.specs.Decide.{node_count}
use Rattle.decode.proofs.DecodeLaws.{well_formed_sized}
use Rattle.decode.proofs.DecideLaws.{count_of}
use Rattle.verify.proofs.AnswerLaws.{well_formed_0}
use Rattle.batch.specs.declared.Command.{Command}
use Rattle.batch.specs.Batch.{Parsed, parse}
use Rattle.batch.specs.Reply.{reply_bytes}
use Rattle.commands.specs.Commands.{Executed}
use Rattle.execute.specs.Execute.{execute}
use Rattle.execute.specs.State.{State, next}
use Rattle.execute.specs.Promised.{state_of, reply_to, words_to}
use Rattle.execute.proofs.TableLaws.{row_sole}
use Rattle.script.specs.Script.{script, apply_answer, apply_words}
use Rattle.script.specs.Claims.{Rising, cut_off, wrote_some, Partly}
use Rattle.script.proofs.FormLaws.{rises}
use Rattle.script.proofs.ScriptLaws.{start_partly, cut_partly, some_partly}
use Rattle.script.proofs.AgainLaws.{apply_partly}
use Rattle.preparing.specs.Prepare.{Yield, prepare, words_next}
use Rattle.preparing.specs.Claims.{
  Does,
  PrepareRow,
  PrepareRow.wrong_size,
  PrepareRow.malformed,
  PrepareRow.no_record,
  PrepareRow.own,
  PrepareRow.no_room,
  PrepareRow.prepared,
}
use Rattle.preparing.proofs.PrepareLaws.{state_is, prepare_row}
use Rattle.calls.specs.Calls.{Called, run, run_parsed}
use Rattle.calls.specs.Prepared.{PreparedIs, Finishes, Promise}
use Rattle.calls.specs.Prepared as Host
use Rattle.calls.proofs.CallLaws.{run_checked}

-- A RUN of one record
module _ {ws : List ℕ} (s : WellFormed ws) (bs : List ℕ) {c : Command} (one : parse bs ≡ Parsed.commands (c ∷ [])) (rs : List ℕ)
    (room : reply_bytes ≤ length rs)
  where
    by_one : run ws bs rs ≡ run_parsed (node_count ws) ws rs (Parsed.commands (c ∷ []))
    by_one = run_checked ws bs rs (well_formed_0 s) one

    enough : reply_bytes * 1 ≤ length rs
    enough = omega (arith, room)

    pub run_result : (run ws bs rs).result ≡ result_of done 1
    run_result = ap (λ (x : Called). x.result) by_one ∙ rw (le-ltb (length rs) (reply_bytes * 1) enough) refl

    -- the words that the command leaves are those of a run of its one record
    pub run_one_lem : (run ws bs rs).words ≡ words_to s c
    run_one_lem =
        ap (λ (x : Called). x.words) by_one
        ∙ (rw (le-ltb (length rs) (reply_bytes * 1) enough) refl
        ∙ ap₂ (λ (n : ℕ) (x : State). words_next n x c) (count_of (well_formed_sized s)) (state_is s))

    pub run_replied : (reply_to s c).answer ≡ 0 → get_or (run ws bs rs).reply 3 0 ≡ 0
    run_replied e =
        ap (λ (x : Called). get_or x.reply 3 0) by_one
        ∙ (rw (le-ltb (length rs) (reply_bytes * 1) enough) refl
        ∙ (ap₂ (λ (n : ℕ) (x : State). (execute n x.list c).reply.answer / 1 % 256) (count_of (well_formed_sized s)) (state_is s)
        ∙ ap (λ (a : ℕ). a / 1 % 256) e))

-- THE SLICE
take_all : (ss ys : List ℕ) → take (length ss) (ss ++ ys) ≡ ss
take_all [] ys = refl
take_all (x ∷ ss) ys = ap (λ (zs : List ℕ). x ∷ zs) (take_all ss ys)

drop_all : (ss ys : List ℕ) → drop (length ss) (ss ++ ys) ≡ ys
drop_all [] ys = refl
drop_all (x ∷ ss) ys = drop_all ss ys

-- answer 0 comes by its row alone
record Done (ws bs out : List ℕ) (y : Yield) : Type 0 where
  words : List ℕ
  does : Does ws bs 0 words
  first : take y.result.number y.slice ≡ script ws words
  rest : drop y.result.number y.slice ≡ drop y.result.number out

by_done : (ws bs out : List ℕ) {y : Yield} → PrepareRow ws bs out y → y.result.answer ≡ 0 → Done ws bs out y
by_done ws bs out (wrong_size f) e = absurd (omega arith)
by_done ws bs out (malformed n z f) e = absurd (omega arith)
by_done ws bs out (no_record s f) e = absurd (omega arith)
by_done ws bs out (own a ws' d h) e = absurd (h e)
by_done ws bs out (no_room ws' d h) e = absurd (omega arith)
by_done ws bs out (prepared ws' d h) e = record {
  words = ws';
  does = d;
  first = take_all (script ws ws') (drop (length (script ws ws')) out);
  rest = drop_all (script ws ws') (drop (length (script ws ws')) out);
}

module _ (ws bs out rs : List ℕ) (e : (prepare ws bs out).result.answer ≡ 0) (room : reply_bytes ≤ length rs) where
  by : Done ws bs out (prepare ws bs out)
  by = by_done ws bs out (prepare_row ws bs out) e

  uncut_is : by.words ≡ (run ws bs rs).words
  uncut_is = by.does.words_are ∙ sym (run_one_lem by.does.formed bs by.does.one.alone rs room)

  own_0 : (reply_to by.does.formed by.does.command).answer ≡ 0
  own_0 =
      let s : WellFormed ws = by.does.formed in
      sym (ap (λ (x : Executed). x.reply.answer) (row_sole s.n s.list s.valid by.does.row)) ∙ by.does.own_is

  pub prepared_is : PreparedIs ws bs out rs
  prepared_is = record {
    first = by.first ∙ ap (script ws) uncut_is;
    rest = by.rest;
    ran = run_result by.does.formed bs by.does.one.alone rs room;
    replied = run_replied by.does.formed bs by.does.one.alone rs room own_0;
  }

  same : length ws ≡ length (run ws bs rs).words
  same =
      let s : WellFormed ws = by.does.formed in
      let c : Command = by.does.command in
      let t : State = next s.n (state_of s) c in
      (well_formed_sized s).size
      ∙ (sym (length_up_to (word_at t.list t.places s.n) 0 (pool_words s.n))
      ∙ ap length (sym (run_one_lem s bs by.does.one.alone rs room)))

  finish : (v : List ℕ) → Partly ws (run ws bs rs).words v → Finishes ws bs out rs v
  finish v y =
      let (a, b) = apply_partly ws (run ws bs rs).words same (well_formed_sized by.does.formed) v y in
      record {
        answer = ap (apply_answer v) prepared_is.first ∙ a;
        words = ap (apply_words v) prepared_is.first ∙ b;
      }

  start : Partly ws (run ws bs rs).words ws
  start = start_partly ws (run ws bs rs).words same

  -- THE PROMISE
  pub promise : Promise ws bs out rs
  promise = record {
    rises = subst (Rising 0) (sym prepared_is.first) (rises ws (run ws bs rs).words);
    at_once = finish ws start;
    cut = λ ks. finish (cut_off ks ws (Host.prepared ws bs out))
        (subst (λ (ss : List ℕ). Partly ws (run ws bs rs).words (cut_off ks ws ss)) (sym prepared_is.first)
        (cut_partly ws (run ws bs rs).words same ks ws start));
    some = λ ks. finish (wrote_some ks ws (Host.prepared ws bs out))
        (subst (λ (ss : List ℕ). Partly ws (run ws bs rs).words (wrote_some ks ws ss)) (sym prepared_is.first)
        (some_partly ws (run ws bs rs).words same ks ws start));
    torn = finish;
  }
