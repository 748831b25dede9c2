-- Demand 3 as one claim: for every list of calls, from a pool just initialised or one that the check accepts, the words
-- after it, and of each call of it the words and replies, command by command (R102 to R104).
use Prim.Native.Nat.{ℕ, ◌*◌, ◌-◌, ◌≤◌, ◌<◌}
use mathlib.Core.Path.{◌≡◌, refl, sym, ap, subst, ◌∙◌}
use mathlib.Core.Bool.{true, false, not}
use mathlib.Core.List.{List, [], ◌∷◌, ◌++◌, append_assoc}
use mathlib.Core.Option.{Option, none, some}
use native.Mathlib.Omega.{arith}
use native.Mathlib.Nat.{zero-add}
use lib.Dec.{ltb}
use lib.ListN.{length, get_or, take, drop, length-append}
use borrow.Author.Tests.{lt-ltb, le-ltb, ltb-true, ltb-false}
use Rattle.blocks.specs.Lists.{All, end, also}
use Rattle.blocks.proofs.BoolLaws.{by_t, not-false}
use Rattle.blocks.proofs.ListLaws.{get_or_out}
use Rattle.blocks.proofs.UpToLaws.{length_up_to, get_d_up_to}
use Rattle.model.specs.declared.Entry.{Entry}
use Rattle.model.specs.Model.{storable, max_order, aligned, covering, store, reserved_word}
use Rattle.tree.specs.Tree.{nodes, needed}
use Rattle.layout.specs.Words.{max_nodes, pool_words}
use Rattle.layout.specs.Places.{Places, word_at}
use Rattle.layout.specs.WellFormed.{WellFormed, Prescribed}
use Rattle.decode.proofs.DecodeLaws.{decode_list}
use Rattle.decode.proofs.DecideLaws.{sized_is}
use Rattle.verify.proofs.AnswerLaws.{prescribed_0}
use Rattle.batch.specs.Fits.{Fits}
use Rattle.words.specs.Bytes.{Bytes}
use Rattle.batch.specs.declared.Command.{Command}
use Rattle.batch.specs.declared.Command.TheVariants.{Store}
use Rattle.batch.specs.Batch.{Parsed, parse}
use Rattle.batch.specs.Reply.{reply_bytes, store_reply, reserve_reply}
use Rattle.batch.proofs.BoundLaws.{AllFit, parse_fits}
use Rattle.batch.proofs.CutLaws.{cut}
use Rattle.listing.proofs.ListedLaws.{listed_fits}
use Rattle.execute.specs.Execute.{execute, short, tree}
use Rattle.commands.specs.Commands.{Executed, reply_of, reserving}
use Rattle.execute.specs.State.{State, Kept, next, states}
use Rattle.execute.specs.Part.{may_write}
use Rattle.execute.proofs.ExecuteLaws.{next_kept, states_kept, short_11, reserve_11}
use Rattle.execute.proofs.Footprint.{footprint, refused_words}
use Rattle.execute.proofs.ReplyFits.{reply_fits}
use Rattle.execute.proofs.TableLaws.{rows, row_sole}
use Rattle.preparing.specs.Prepare.{the_one}
use Rattle.preparing.proofs.OneLaws.{the_one_lem}
use Rattle.preparing.proofs.PrepareLaws.{prepare_none, prepare_own, prepare_yields}
use Rattle.calls.specs.Calls.{Called, run, run_parsed, replies, list_over}
use Rattle.answers.specs.Answers.{result_of, done}
use Rattle.calls.specs.Running.{words_of}
use Rattle.calls.specs.Demand.{Call, Bytewise, ShortExact, ReserveShort, Commanded, AtCommand, AtBatch, AtPrepare, AtCall, Demand3, Starts}
use Rattle.calls.proofs.ListCallLaws.{list_checked}
use Rattle.calls.proofs.DemandLaws.{
  states_list,
  sized,
  stands_by,
  run_as,
  decoded,
  demand_3,
  Started,
  started,
}

all_split : {A : Type 0} {P : A → Type 0} (ds : List A) (c : A) (es : List A) → All P (ds ++ (c ∷ es)) → All P ds × P c
all_split [] c es (also p a) = (end, p)
all_split (d ∷ ds) c es (also p a) = let (x, y) = all_split ds c es a in (also p x, y)

states_last : (n : ℕ) (s : State) (cs : List Command) (c : Command) →
    states n s (cs ++ (c ∷ [])) ≡ next n (states n s cs) c
states_last n s [] c = refl
states_last n s (d ∷ cs) c = states_last n (next n s d) cs c

-- SHORTAGE (R79)
never_11 : (t : ℕ) (o : Option Entry) → (reply_of t 0 o).answer ≡ 11 → ⊥
never_11 t none e = omega arith
never_11 t (some x) e = omega arith

module _ (n : ℕ) (l : List Entry) (i k w : ℕ) where
  only_11 : (execute n l (Store i k w)).reply.answer ≡ 11 →
      (k ≤ max_order) × (aligned k i ≡ true) × (storable w ≡ true) × (n - length (nodes l) < needed l (store l i k w))
  unfolding execute
  only_11 e =
      by_t (ltb max_order k) (λ t. absurd (let z : ◌≡◌ {A = ℕ} 5 11 = rw t at e in omega arith))
      (λ t. by_t (not (aligned k i)) (λ a. absurd (let z : ◌≡◌ {A = ℕ} 14 11 = rw (t, a) at e in omega arith))
      (λ a. by_t (not (storable w)) (λ s. absurd (let z : ◌≡◌ {A = ℕ} 6 11 = rw (t, a, s) at e in omega arith))
      (λ s. by_t (short n l (store l i k w))
      (λ d. (ltb-false _ _ t, not-false (aligned k i) a, not-false (storable w) s, ltb-true _ _ d))
      (λ d. absurd (never_11 store_reply (covering (store l i k w) i) (rw (t, a, s, d) at e))))))

  short_exact : ShortExact n l i k w
  short_exact = record {
    only = only_11;
    always = λ k≤ al st h. ap (λ (x : Executed). x.reply.answer) (short_11 n l i k w k≤ al st h);
  }

module _ (n : ℕ) (l : List Entry) (i : ℕ) where
  reserve_only : (o : Option Entry) → covering l i ≡ o → (reserving (tree n) reserve_reply l i o).reply.answer ≡ 11 →
      (covering l i ≡ none) × (n - length (nodes l) < needed l (store l i 0 reserved_word))
  reserve_only (some x) q e = absurd (let z : ◌≡◌ {A = ℕ} 15 11 = e in omega arith)
  reserve_only none q e =
      by_t (short n l (store l i 0 reserved_word)) (λ d. (q, ltb-true _ _ d))
      (λ d. absurd (never_11 reserve_reply (covering (store l i 0 reserved_word) i) (rw d at e)))

  reserve_exact : ReserveShort n l i
  unfolding execute
  reserve_exact = record {
    only = λ e. reserve_only (covering l i) refl e;
    always = λ q h. ap (λ (x : Executed). x.reply.answer) (reserve_11 n l i q h);
  }

-- ONE COMMAND on a state
module _ (n : ℕ) (s : State) (k : Kept n s) (c : Command) where
  outside_same : (w : ℕ) → may_write n s c w ≡ false → get_or (words_of n (next n s c)) w 0 ≡ get_or (words_of n s) w 0
  outside_same w z =
      by_t (ltb w (pool_words n))
      (λ t. here (next n s c) (ltb-true _ _ t) ∙ footprint n s k c w z ∙ sym (here s (ltb-true _ _ t)))
      (λ t. past (next n s c) (ltb-false _ _ t) ∙ sym (past s (ltb-false _ _ t)))
    where
      here : (x : State) → w < pool_words n → get_or (words_of n x) w 0 ≡ word_at x.list x.places n w
      here x lt =
          get_d_up_to (word_at x.list x.places n) 0 (pool_words n) w lt
          ∙ ap (word_at x.list x.places n) (zero-add w)

      past : (x : State) → pool_words n ≤ w → get_or (words_of n x) w 0 ≡ 0
      past x le =
          get_or_out (words_of n x) w (rw (length_up_to (word_at x.list x.places n) 0 (pool_words n)) le)

  commanded : Fits c → Commanded n s.list c (words_of n s) (words_of n (next n s c))
  commanded f =
      let k' : Kept n (next n s c) = next_kept c f k in
      record {
        before = stands_by {os = s.places} (record { valid = k.valid; placed = k.placed; words_are = refl });
        after =
            stands_by {os = (next n s c).places} (record { valid = k'.valid; placed = k'.placed; words_are = refl });
        numbers = refl;
        outside = outside_same;
        refused = refused_words n s k c;
        shortage = λ i o w e. short_exact n s.list i o w;
        reserve_shortage = λ i e. reserve_exact n s.list i;
        row = rows n s.list k.valid c;
        sole = row_sole n s.list k.valid;
        fits = reply_fits n s.list k.valid c f;
      }

-- ONE CALL on words that a list prescribes
module _ {n : ℕ} {l : List Entry} {os : Places} {ws : List ℕ} (lo : 1 ≤ n) (hi : n ≤ max_nodes)
    (p : Prescribed n l os ws)
  where
    abbrev s₀ : State
    s₀ = record { list = l; places = os }

    -- a batch that runs
    module _ (bs rs : List ℕ) (cs : List Command) (e : parse bs ≡ Parsed.commands cs)
        (room : reply_bytes * length cs ≤ length rs)
      where
        ran_result : (run ws bs rs).result ≡ result_of done (length cs)
        ran_result =
            ap (λ (c : Called). c.result) (run_as lo hi p bs rs)
            ∙ rw (e, le-ltb (length rs) (reply_bytes * length cs) room) refl

        ran_words : (run ws bs rs).words ≡ words_of n (states n s₀ cs)
        ran_words =
            ap (λ (c : Called). c.words) (run_as lo hi p bs rs)
            ∙ rw (e, le-ltb (length rs) (reply_bytes * length cs) room, decoded lo hi p) refl

        ran_reply : (run ws bs rs).reply ≡ replies n l cs ++ drop (reply_bytes * length cs) rs
        ran_reply =
            ap (λ (c : Called). c.reply) (run_as lo hi p bs rs)
            ∙ rw (e, le-ltb (length rs) (reply_bytes * length cs) room, decode_list p) refl

    -- one command of it
    at_command : (bs rs : List ℕ) → Bytes bs → (ds : List Command) (c : Command) (es : List Command) →
        parse bs ≡ Parsed.commands (ds ++ (c ∷ es)) → reply_bytes * length (ds ++ (c ∷ es)) ≤ length rs →
        AtCommand n l ws bs rs ds c
    at_command bs rs b ds c es e room =
        let (x, cx) = cut bs ds (c ∷ es) e in
        let (y, cy) = cut bs (ds ++ (c ∷ [])) es (e ∙ ap Parsed.commands (sym (append_assoc ds (c ∷ []) es))) in
        let (fs, f) = all_split {P = Fits} ds c es (subst AllFit e (parse_fits b)) in
        let t : State = states n s₀ ds in
        let k : Kept n t = states_kept fs (record { valid = p.valid; placed = p.placed }) in
        let a = length-append ds (c ∷ es) in
        let d = length-append ds (c ∷ []) in
        let wx : (run ws (take x bs) rs).words ≡ words_of n t = ran_words (take x bs) rs ds cx (omega arith) in
        let wy : (run ws (take y bs) rs).words ≡ words_of n (next n t c) =
        ran_words (take y bs) rs (ds ++ (c ∷ [])) cy (omega arith) ∙ ap (words_of n) (states_last n s₀ ds c) in
        record {
          from = x;
          to = y;
          cut_from = cx;
          cut_to_lem = cy;
          does =
              subst (λ (z : List Entry). Commanded n z c (run ws (take x bs) rs).words (run ws (take y bs) rs).words)
              (states_list n s₀ ds)
              (subst (λ (z : List ℕ). Commanded n t.list c z (run ws (take y bs) rs).words) (sym wx)
              (subst (λ (z : List ℕ). Commanded n t.list c (words_of n t) z) (sym wy) (commanded n t k c f)));
        }

    at_batch : (bs rs : List ℕ) → Bytes bs → (q : Parsed) → parse bs ≡ q → AtBatch n l ws bs rs q
    at_batch bs rs b (Parsed.refused at) e = run_as lo hi p bs rs ∙ ap (run_parsed n ws rs) e
    at_batch bs rs b (Parsed.commands cs) e = (
      λ h. run_as lo hi p bs rs ∙ rw (e, lt-ltb (length rs) (reply_bytes * length cs) h) refl,
      λ h. record {
        result_is = ran_result bs rs cs e h;
        reply_is = ran_reply bs rs cs e h;
        each = λ ds c es q. at_command bs rs b ds c es (e ∙ ap Parsed.commands q)
            (subst (λ (x : List Command). reply_bytes * length x ≤ length rs) q h);
      },
    )

    abbrev formed : WellFormed ws
    formed = record {
      n = n;
      list = l;
      places = os;
      least = lo;
      most = hi;
      valid = p.valid;
      placed = p.placed;
      words_are = p.words_are;
    }

    at_prepare : (bs out : List ℕ) → Bytes bs → (o : Option Command) → the_one bs ≡ o → AtPrepare n l ws bs out o
    at_prepare bs out b none e = prepare_none ws bs out formed e
    at_prepare bs out b (some c) e =
        let (fs, f) = all_split {P = Fits} [] c [] (subst AllFit (the_one_lem bs e).alone (parse_fits b)) in
        record {
          words = words_of n (next n s₀ c);
          does =
              subst (λ (z : List ℕ). Commanded n l c z (words_of n (next n s₀ c))) (sym p.words_are)
              (commanded n s₀ (record { valid = p.valid; placed = p.placed }) c f);
          own = λ h. prepare_own formed out c bs e h;
          yields = λ h. prepare_yields formed out c bs e h;
        }

    at_call : (c : Call) → Bytewise c → AtCall n l ws c
    at_call Call.init b = rw (sized_is (sized lo hi p)) refl
    at_call Call.check b = ap (λ (a : ℕ). result_of a 0) (prescribed_0 (sized lo hi p) p)
    at_call (Call.batch bs rs) b = at_batch bs rs b (parse bs) refl
    at_call (Call.list a z bs) b = (
      list_checked ws a z bs (prescribed_0 (sized lo hi p) p) ∙ ap (λ (x : List Entry). list_over x a z bs) (decode_list p),
      listed_fits a z p.valid,
    )
    at_call (Call.prepare bs out) b = at_prepare bs out b (the_one bs) refl

-- R102
pub demand_3_whole : {n : ℕ} {l : List Entry} {ws : List ℕ} → Starts n l ws → {cs : List Call} → All Bytewise cs →
    Demand3 n l ws cs
demand_3_whole {n} {l} {ws} st {cs} b =
    let s : Started n l ws = started st in
    record {
      words = demand_3 s.least s.most s.stands b;
      calls = λ ds c es e. let (bs, bc) = all_split {P = Bytewise} ds c es (subst (All Bytewise) e b) in
          at_call s.least s.most (demand_3 s.least s.most s.stands bs).prescribed c bc;
    }
