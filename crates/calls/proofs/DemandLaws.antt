-- Pieces of demand 3: for every list of calls on one pool, the words after it are those that the model fed the same
-- calls prescribes at some places, with all other nodes free. ClaimLaws has the whole.
use Prim.Native.Nat.{ℕ, ◌*◌, ◌≤◌}
use mathlib.Core.Path.{◌≡◌, refl, sym, ap, subst, ◌∙◌}
use mathlib.Core.List.{List, [], ◌∷◌, ◌++◌}
use mathlib.Core.Option.{Option}
use native.Mathlib.Omega.{arith}
use lib.Dec.{ltb}
use lib.ListN.{length, take, length-append, length-take}
use lib.Seq.{get_or-take}
use borrow.Author.Tests.{eq-eqb, le-ltb, ltb-true, ltb-false}
use Rattle.blocks.specs.Lists.{All, end, also}
use Rattle.blocks.proofs.BoolLaws.{by_t}
use Rattle.blocks.proofs.ListLaws.{get_or_out}
use Rattle.blocks.proofs.UpToLaws.{length_up_to}
use Rattle.model.specs.declared.Entry.{Entry}
use Rattle.tree.specs.Tree.{Node}
use Rattle.layout.specs.Words.{max_nodes, pool_words, field_at}
use Rattle.layout.specs.Places.{Places, number_in, word_at, render}
use Rattle.layout.specs.WellFormed.{WellFormed, Prescribed, Sized}
use Rattle.layout.specs.Decide.{node_count, is_sized}
use Rattle.layout.specs.Decode.{list_of, places_of}
use Rattle.decode.proofs.PrescribedWords.{node_word_lem}
use Rattle.decode.proofs.DecodeLaws.{decode_list, decode_places}
use Rattle.decode.proofs.DecideLaws.{count_of, sized_is, is_sized_lem}
use Rattle.verify.specs.Answers.{check_answer, init_answer, init_words}
use Rattle.verify.proofs.AnswerLaws.{prescribed_0, accepted}
use Rattle.verify.proofs.EmptyLaws.{empty_prescribed}
use Rattle.batch.specs.Fits.{Fits}
use Rattle.words.specs.Bytes.{Bytes}
use Rattle.batch.specs.declared.Command.{Command}
use Rattle.batch.specs.Batch.{Parsed, parse}
use Rattle.batch.specs.Reply.{reply_bytes}
use Rattle.batch.proofs.BoundLaws.{AllFit, parse_fits}
use Rattle.batch.proofs.CutLaws.{cut}
use Rattle.execute.specs.State.{State, Kept, next, states}
use Rattle.execute.proofs.ExecuteLaws.{states_kept}
use Rattle.calls.specs.Calls.{Called, run, run_parsed}
use Rattle.calls.specs.Demand.{Call, words_after, words_after_all, execute_all, feed, list_after, list_after_all, Bytewise, Stands, Starts, Starts.fresh, Starts.checked}

-- the model's list is the state's
pub states_list : (n : ℕ) (s : State) (cs : List Command) → (states n s cs).list ≡ execute_all n s.list cs
states_list n s [] = refl
states_list n s (c ∷ cs) = states_list n (next n s c) cs

-- words that a list prescribes have a pool's length
pub sized : {n : ℕ} {l : List Entry} {os : Places} {ws : List ℕ} → 1 ≤ n → n ≤ max_nodes → Prescribed n l os ws →
    Sized n ws
sized {n} {l} {os} lo hi p = record {
  size = ap length p.words_are ∙ length_up_to (word_at l os n) 0 (pool_words n);
  least = lo;
  most = hi;
}

-- every node without a place is free
abbrev pub stands_by : {n : ℕ} {l : List Entry} {os : Places} {ws : List ℕ} → Prescribed n l os ws → Stands n l ws
stands_by {n} {l} {os} {ws} p = record {
  places = os;
  prescribed = p;
  others_free = λ m lt e f h. node_word_lem n l os ws p m f lt h ∙ ap (λ (o : Option Node). field_at l (number_in os) o f) e;
}

-- WHAT A RUN COMES TO on words that a list prescribes
module _ {n : ℕ} {l : List Entry} {os : Places} {ws : List ℕ} (lo : 1 ≤ n) (hi : n ≤ max_nodes)
    (p : Prescribed n l os ws)
  where
    pub run_as : (bs rs : List ℕ) → run ws bs rs ≡ run_parsed n ws rs (parse bs)
    unfolding run
    run_as bs rs =
        rw (eq-eqb (check_answer ws) 0 (prescribed_0 (sized lo hi p) p), count_of (sized lo hi p))

    -- the state that is read off the words
    pub decoded : ◌≡◌ {A = State} (record { list = list_of ws; places = places_of ws }) (record { list = l; places = os })
    decoded = λ i. record { list = decode_list p i; places = decode_places p i }

    stay : Stands n l ws
    stay = stands_by p

    -- commands that run
    ran : {cs : List Command} → All Fits cs → let t = states n (record { list = l; places = os }) cs in
        Stands n (execute_all n l cs) (render t.list t.places n)
    ran {cs} f =
        let s : State = record { list = l; places = os } in
        let k : Kept n (states n s cs) = states_kept f (record { valid = p.valid; placed = p.placed }) in
        subst (λ (x : List Entry). Stands n x (render (states n s cs).list (states n s cs).places n))
        (states_list n s cs)
        (stands_by {os = (states n s cs).places} (record { valid = k.valid; placed = k.placed; words_are = refl }))

    -- one batch
    batch_stands : (bs rs : List ℕ) → Bytes bs → Stands n (feed n l (length rs) (parse bs)) (run ws bs rs).words
    batch_stands bs rs b =
        subst (λ (c : Called). Stands n (feed n l (length rs) (parse bs)) c.words) (sym (run_as bs rs))
        (go (parse bs) (parse_fits b))
      where
        go : (q : Parsed) → AllFit q → Stands n (feed n l (length rs) q) (run_parsed n ws rs q).words
        go (Parsed.refused at) f = stay
        go (Parsed.commands cs) f =
            by_t (ltb (length rs) (reply_bytes * length cs)) (λ t. rw t stay) (λ t. rw (t, decoded) (ran f))

    init_stands : Stands n [] (init_words ws)
    init_stands =
        rw (sized_is (sized lo hi p), count_of (sized lo hi p))
        (stands_by (empty_prescribed n))

    -- one call
    pub call_stands : (c : Call) → Bytewise c → Stands n (list_after n l c) (words_after ws c)
    call_stands Call.init b = init_stands
    call_stands Call.check b = stay
    call_stands (Call.batch bs rs) b = batch_stands bs rs b
    call_stands (Call.list a z bs) b = stay
    call_stands (Call.prepare bs out) b = stay

-- R104: the words after each command of a batch that runs
bytes_take : {bs : List ℕ} (p : ℕ) → Bytes bs → Bytes (take p bs)
bytes_take {bs} p b = record {
  small = λ i. by_t (ltb i p)
      (λ t. rw (get_or-take p bs i 0 (ltb-true _ _ t)) (b.small i))
      (λ t. rw (get_or_out (take p bs) i (simp length-take (omega (arith, ltb-false)))) (omega arith));
}

pub after_each : {n : ℕ} {l : List Entry} {ws : List ℕ} → 1 ≤ n → n ≤ max_nodes → Stands n l ws → (bs rs : List ℕ) →
    Bytes bs → (cs ds : List Command) → parse bs ≡ Parsed.commands (cs ++ ds) →
    reply_bytes * length (cs ++ ds) ≤ length rs →
    (p : ℕ) × (parse (take p bs) ≡ Parsed.commands cs) × Stands n (execute_all n l cs) (run ws (take p bs) rs).words
after_each {n} {l} {ws} lo hi s bs rs b cs ds e room =
    let (p, q) = cut bs cs ds e in
    let r : Stands n (feed n l (length rs) (parse (take p bs))) (run ws (take p bs) rs).words =
    call_stands lo hi s.prescribed (Call.batch (take p bs) rs) (bytes_take p b) in
    let h : reply_bytes * length cs ≤ length rs = omega (arith, length-append cs ds) in
    (p, q, rw (q, le-ltb (length rs) (reply_bytes * length cs) h) at r)

-- R102
pub demand_3 : {n : ℕ} {cs : List Call} {l : List Entry} {ws : List ℕ} → 1 ≤ n → n ≤ max_nodes → Stands n l ws →
    All Bytewise cs → Stands n (list_after_all n l cs) (words_after_all ws cs)
demand_3 lo hi s end = s
demand_3 lo hi s (also {x = c} b bs) = demand_3 lo hi (call_stands lo hi s.prescribed c b) bs

-- R91, R92: how a pool starts
pub record Started (n : ℕ) (l : List Entry) (ws : List ℕ) : Type 0 where
  pub least : 1 ≤ n
  pub most : n ≤ max_nodes
  pub stands : Stands n l ws

pub started : {n : ℕ} {l : List Entry} {ws : List ℕ} → Starts n l ws → Started n l ws
started (fresh ws e) =
    by_t (is_sized ws)
    (λ t. let s : Sized (node_count ws) ws = is_sized_lem ws t in
    record { least = s.least; most = s.most; stands = rw t (stands_by (empty_prescribed (node_count ws))) })
    (λ t. absurd (let z : ◌≡◌ {A = ℕ} 1 0 = rw t at e in omega arith))
started (checked ws e) =
    let s : WellFormed ws = accepted ws e in
    record {
      least = s.least;
      most = s.most;
      stands = stands_by (record { valid = s.valid; placed = s.placed; words_are = s.words_are });
    }

-- R91
pub demand_3_fresh : (ws : List ℕ) → init_answer ws ≡ 0 → {cs : List Call} → All Bytewise cs →
    Stands (node_count ws) (list_after_all (node_count ws) [] cs) (words_after_all (init_words ws) cs)
demand_3_fresh ws e b = let s = started (fresh ws e) in demand_3 s.least s.most s.stands b

-- R92
pub demand_3_checked : (ws : List ℕ) → check_answer ws ≡ 0 → {cs : List Call} → All Bytewise cs →
    Stands (node_count ws) (list_after_all (node_count ws) (list_of ws) cs) (words_after_all ws cs)
demand_3_checked ws e b = let s = started (checked ws e) in demand_3 s.least s.most s.stands b
