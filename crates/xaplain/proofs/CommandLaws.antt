-- What each command comes to, test by test as the code has them.
use Prim.Native.Nat.{ℕ, ◌≤◌, ◌<◌}
use mathlib.Core.Path.{◌≡◌, refl, sym, ap, subst, ◌∙◌}
use mathlib.Core.Bool.{Bool, true, false}
use mathlib.Core.Logic.{◌≢◌}
use mathlib.Core.List.{List}
use mathlib.Core.Option.{Option, none, some}
use lib.Dec.{eqb, ltb}
use lib.ListN.{length}
use borrow.Author.Tests.{lt-ltb, le-ltb, le-leb, lt-leb, eq-eqb, ne_eqb}
use Rattle.blocks.specs.Choice.{pick}
use Rattle.blocks.proofs.BoolLaws.{by_t}
use Rattle.answers.specs.Answers.{bad_mark, first_above_last, no_budget}
use Rattle.model.specs.declared.Entry.{Entry}
use Rattle.std.specs.Prelude as rust
use Rattle.model.specs.Model.{reserved, mark_count, covering, present, covered}
use Rattle.model.specs.Matches.{first_match}
use Rattle.batch.specs.declared.Command.{Command}
use Rattle.batch.specs.declared.Command.TheVariants.{Load, Erase, Find}
use Rattle.batch.specs.declared.Reply.{Reply}
use Rattle.commands.specs.Commands.{Executed, leave, refuse, erasing, marking}
use Rattle.commands.specs.Replies.{covered_reply}
use Rattle.xaplain.specs.Engine.{sighted, execute}
use Rattle.xaplain.specs.Moves.{Holds, Columns, seen, found_reply, remarking}
use Rattle.xaplain.specs.Executes.{Turned, Executes}
use Rattle.xaplain.proofs.StoredLaws.{reply_by, stay}

-- REPLIES
seen_is : (o : Option Entry) → seen (covered o) ≡ covered (present o)
seen_is none = refl
seen_is (some e) = by_t (reserved e) (λ t. rw t refl) (λ t. rw t refl)

found_is : (o : Option Entry) → found_reply (covered o) ≡ sighted 134 o
found_is none = refl
found_is (some e) = refl

module _ (room : ℕ) (l : List Entry) where
  pub load_reply_lem : (i : ℕ) {x : rust.Option Entry} → x ≡ seen (covered (covering l i)) → covered_reply 130 x ≡ (execute room l (Load i)).reply
  unfolding execute
  load_reply_lem i e = ap (covered_reply 130) (e ∙ seen_is (covering l i)) ∙ reply_by 130 (present (covering l i))

  pub load_list : (i : ℕ) → (execute room l (Load i)).list ≡ l
  unfolding execute
  load_list i = refl

  pub erase_runs : (i : ℕ) → execute room l (Erase i) ≡ erasing 131 l i
  unfolding execute
  erase_runs i = refl

  module _ (a z f k : ℕ) where
    pub find_mark : mark_count < f → execute room l (Find a z f k) ≡ refuse l 134 bad_mark
    unfolding execute
    find_mark h = rw (lt-ltb mark_count f h)

    pub find_first : f ≤ mark_count → z < a → execute room l (Find a z f k) ≡ refuse l 134 first_above_last
    unfolding execute
    find_first h g = rw (le-ltb mark_count f h, lt-ltb z a g)

    pub find_budget : f ≤ mark_count → a ≤ z → k ≡ 0 → execute room l (Find a z f k) ≡ refuse l 134 no_budget
    unfolding execute
    find_budget h g e = rw (le-ltb mark_count f h, le-ltb z a g, eq-eqb k 0 e)

    find_runs : f ≤ mark_count → a ≤ z → k ≢ 0 → execute room l (Find a z f k) ≡ leave l (sighted 134 (first_match l a z f))
    unfolding execute
    find_runs h g e = rw (le-ltb mark_count f h, le-ltb z a g, ne_eqb k 0 e)

    pub find_reply_lem : f ≤ mark_count → a ≤ z → k ≢ 0 → {x : rust.Option Entry} → x ≡ covered (first_match l a z f) →
        found_reply x ≡ (execute room l (Find a z f k)).reply
    find_reply_lem h g e q =
        ap found_reply q ∙ found_is (first_match l a z f) ∙ sym (ap (λ (x : Executed). x.reply) (find_runs h g e))

    pub find_list : (execute room l (Find a z f k)).list ≡ l
    unfolding execute
    find_list = by_t (ltb mark_count f) (λ t. rw t)
        (λ t. by_t (ltb z a) (λ u. rw (t, u)) (λ u. by_t (eqb k 0) (λ w. rw (t, u, w)) (λ w. rw (t, u, w))))

  module _ (i m : ℕ) where
    pub remark_above : (on : Bool) → mark_count ≤ m → execute room l (remarking i m on) ≡ refuse l (pick on 132 133) bad_mark
    unfolding execute
    remark_above true h = rw (le-leb mark_count m h)
    remark_above false h = rw (le-leb mark_count m h)

    pub remark_runs : (on : Bool) → m < mark_count → execute room l (remarking i m on) ≡ marking (pick on 132 133) l i m on
    unfolding execute
    remark_runs true h = rw (lt-leb mark_count m h)
    remark_runs false h = rw (lt-leb mark_count m h)

-- THE SLICES, by the list that a command leaves
module _ {is os ws ms : List ℕ} {n : ℕ} (h : Holds is os ws ms n) where
  pub becomes : (c : Command) {q : Reply} {l : List Entry} → execute (length is) h.list c ≡ record { reply = q; list = l } →
      {r : Turned} → r.reply ≡ q → r.count ≡ length l → {is' os' ws' ms' : List ℕ} → Columns is' os' ws' ms' (length is) l →
      Executes h c r is' os' ws' ms'
  becomes c e a b {is'} {os'} {ws'} {ms'} u = record {
    reply_is = a ∙ sym (ap (λ (x : Executed). x.reply) e);
    count_is = b ∙ sym (ap (λ (x : Executed). length x.list) e);
    columns = subst (λ (x : List Entry). Columns is' os' ws' ms' (length is) x) (sym (ap (λ (x : Executed). x.list) e)) u;
  }

  pub by_command : {c d : Command} → c ≡ d → {r : Turned} {is' os' ws' ms' : List ℕ} →
      Executes h d r is' os' ws' ms' → Executes h c r is' os' ws' ms'
  by_command {c} {d} e {r} {is'} {os'} {ws'} {ms'} x = subst (λ (y : Command). Executes h y r is' os' ws' ms') (sym e) x

  -- a command that only reads
  pub reads : (c : Command) → (execute (length is) h.list c).list ≡ h.list → {q : Reply} → q ≡ (execute (length is) h.list c).reply →
      Executes h c (record { reply = q; count = n }) is os ws ms
  reads c e g = record {
    reply_is = g;
    count_is = sym h.count ∙ sym (ap length e);
    columns = subst (λ (x : List Entry). Columns is os ws ms (length is) x) (sym e) (stay h);
  }
