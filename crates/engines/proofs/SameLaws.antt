-- The plain engine replies as the tree does, on lists: where neither is short of room and no find of the tree pauses, what a host
-- sees of both is the same but for the counts of loads and finds (R309).
use Prim.Native.Nat.{ℕ, suc, ◌+◌, ◌*◌, ◌/◌, ◌%◌, ◌<◌}
use mathlib.Core.Path.{◌≡◌, refl, sym, ap, subst, ◌∙◌}
use mathlib.Core.Logic.{◌≢◌}
use mathlib.Core.List.{List, [], ◌∷◌, ◌++◌, map}
use native.Mathlib.Omega.{arith}
use lib.Dec.{ltb, eqb}
use lib.ListN.{length, get_or, drop}
use lib.Seq.{get_or-append-add}
use Rattle.blocks.specs.Choice.{either}
use Rattle.blocks.specs.Lists.{All, also}
use Rattle.blocks.proofs.BoolLaws.{by_t}
use Rattle.answers.specs.Answers.{result_of, done, too_few_nodes, paused}
use Rattle.model.specs.declared.Entry.{Entry}
use Rattle.model.specs.Model.{Valid}
use Rattle.model.specs.Model as M
use Rattle.model.specs.Matches.{first_match}
use Rattle.lookup.specs.declared.Outcome.{Outcome}
use Rattle.lookup.specs.Find.{find}
use Rattle.lookup.proofs.FindLaws.{Right, right_found, right_ended, right_paused, find_right}
use Rattle.batch.specs.declared.Command.{Command}
use Rattle.batch.specs.declared.Reply.{Reply}
use Rattle.batch.specs.Reply.{reply_tag, reply_bytes, encode}
use Rattle.batch.specs.Fits.{Fits}
use Rattle.batch.specs.Batch.{Parsed, parse}
use Rattle.batch.proofs.BoundLaws.{AllFit, parse_fits}
use Rattle.commands.specs.Commands.{Executed}
use Rattle.commands.specs.Batches.{replies_by, list_by, feed_by}
use Rattle.commands.specs.Engines.{uncounted, Agree, SameFind}
use Rattle.commands.proofs.EngineLaws.{agree}
use Rattle.execute.specs.Execute.{tree, finding, execute}
use Rattle.execute.proofs.ExecuteLaws.{execute_keeps}
use Rattle.execute.proofs.ReplyFits.{reply_fits}
use Rattle.execute.proofs.ReplyLaws.{find_runs}
use Rattle.xaplain.specs.Engine.{sighted, xaplain}
use Rattle.xaplain.specs.Engine as X
use Rattle.xaplain_calls.specs.Demand.{Call, Bytewise}
use Rattle.engines.specs.Seen.{Seen, seen, leaving, but_counts, NeverSays, seen_run, seen_by}

-- ONE COMMAND
-- a find that does not pause comes to the first match
unpaused : (l : List Entry) (a z f k : ℕ) {o : Outcome} → Right l a z f k o → (finding 134 o).answer ≢ paused →
    uncounted (finding 134 o) ≡ uncounted (sighted 134 (first_match l a z f))
unpaused l a z f k (right_found e m q _ _) h = rw q refl
unpaused l a z f k (right_ended m q _ _) h = rw q refl
unpaused l a z f k (right_paused p m _ _ _ _ _) h = absurd (h refl)

module _ (n room : ℕ) (l : List Entry) (v : Valid l) where
  same_find : (c : Command) → (execute n l c).reply.answer ≢ paused → SameFind (tree n) (xaplain room) l c
  same_find c h a z f k e fm le nz =
      subst (λ (d : Command). uncounted (finding (reply_tag d) (find l a z f k)) ≡ uncounted (sighted (reply_tag d) (first_match l a z f)))
      (sym e)
      (unpaused l a z f k (find_right l v a z f k le)
      (λ q. h (ap (λ (d : Command). (execute n l d).reply.answer) e
      ∙ ap (λ (x : Executed). x.reply.answer) (find_runs n l a z f k fm le nz) ∙ q)))

  pub plain_agrees : (c : Command) → (execute n l c).reply.answer ≢ too_few_nodes → (execute n l c).reply.answer ≢ paused →
      (X.execute room l c).reply.answer ≢ too_few_nodes → Agree (execute n l c) (X.execute room l c)
  unfolding execute X.execute
  plain_agrees c h p g = agree (tree n) (xaplain room) l c h g (same_find c p)

-- BYTES
-- of one reply, and more
encoded : (r : Reply) → r.tag < 256 → (rest : List ℕ) (k : ℕ) →
    leaving (suc k) (encode r ++ rest) ≡ encode (uncounted r) ++ leaving k rest
encoded r h rest k =
    let e : r.tag / 1 % 256 ≡ r.tag = omega arith in
    rw e (by_t (either (eqb r.tag 130) (eqb r.tag 134)) (λ t. rw t) (λ t. rw t))

one_more : (r q : Reply) (R Q : List ℕ) (k : ℕ) → r.tag < 256 → uncounted r ≡ uncounted q → leaving k R ≡ leaving k Q →
    leaving (suc k) (encode r ++ R) ≡ leaving (suc k) (encode q ++ Q)
one_more r q R Q k h e f =
    let g : q.tag < 256 = subst (λ (t : ℕ). t < 256) (ap (λ (x : Reply). x.tag) e) h in
    encoded r h R k
    ∙ ap (λ (t : Reply). encode t ++ leaving k R) e
    ∙ ap (λ (t : List ℕ). encode (uncounted q) ++ t) f
    ∙ sym (encoded q g Q k)

-- what the bytes do not say the replies do not say
module _ (does : List Entry → Command → Executed) (a : ℕ) where
  abbrev Never : List Entry → List Command → Type 0
  Never l [] = Unit
  Never l (c ∷ cs) = ((does l c).reply.answer ≢ a) × Never (does l c).list cs

  never_of : a < 256 → (l : List Entry) (cs : List Command) (rest : List ℕ) →
      ((j : ℕ) → j < length cs → get_or (replies_by does l cs ++ rest) (reply_bytes * j + 3) 0 ≢ a) → Never l cs
  never_of small l [] rest f = tt
  never_of small l (c ∷ cs) rest f = (
    λ q. f 0 (omega arith) (ap (λ (x : ℕ). x / 1 % 256) q ∙ omega arith),
    never_of small (does l c).list cs rest (λ j h q. f (suc j) (omega arith) (later j ∙ q)),
  )
    where
      later : (j : ℕ) → get_or (replies_by does l (c ∷ cs) ++ rest) (reply_bytes * suc j + 3) 0
          ≡ get_or (replies_by does (does l c).list cs ++ rest) (reply_bytes * j + 3) 0
      later j =
          let further : 24 * suc j + 3 ≡ 24 + (24 * j + 3) = omega arith in
          ap (λ (x : ℕ). get_or (encode (does l c).reply ++ (replies_by does (does l c).list cs ++ rest)) x 0) further
          ∙ get_or-append-add (encode (does l c).reply) (replies_by does (does l c).list cs ++ rest) (24 * j + 3) 0

-- ALL COMMANDS OF A BATCH
module _ (n room : ℕ) where
  record AgreeAll (l m : List Entry) (cs : List Command) (rest : List ℕ) : Type 0 where
    list_same : list_by (execute n) l cs ≡ list_by (X.execute room) m cs
    valid : Valid (list_by (execute n) l cs)
    bytes_same : leaving (length cs) (replies_by (execute n) l cs ++ rest)
        ≡ leaving (length cs) (replies_by (X.execute room) m cs ++ rest)

  agree_all : (cs : List Command) (l m : List Entry) (rest : List ℕ) → l ≡ m → Valid l → All Fits cs →
      Never (execute n) too_few_nodes l cs → Never (execute n) paused l cs →
      Never (X.execute room) too_few_nodes m cs → AgreeAll l m cs rest
  agree_all [] l m rest q v f t u p = record { list_same = q; valid = v; bytes_same = refl }
  agree_all (c ∷ cs) l m rest q v (also f fs) t u p = subst
      (λ (y : List Entry). Never (X.execute room) too_few_nodes y (c ∷ cs) → AgreeAll l y (c ∷ cs) rest) q
      (λ x. step (plain_agrees n room l v c t.0 u.0 x.0) x.1
      (λ e y. agree_all cs (execute n l c).list (X.execute room l c).list rest e (execute_keeps n l v c f).valid fs t.1 u.1 y)) p
    where
      step : Agree (execute n l c) (X.execute room l c) → Never (X.execute room) too_few_nodes (X.execute room l c).list cs →
          (((execute n l c).list ≡ (X.execute room l c).list) → Never (X.execute room) too_few_nodes (X.execute room l c).list cs →
          AgreeAll (execute n l c).list (X.execute room l c).list cs rest) →
          AgreeAll l l (c ∷ cs) rest
      step d x rec =
          let r : AgreeAll (execute n l c).list (X.execute room l c).list cs rest = rec d.1 x in
          record {
            list_same = r.list_same;
            valid = r.valid;
            bytes_same = one_more (execute n l c).reply (X.execute room l c).reply
                (replies_by (execute n) (execute n l c).list cs ++ rest)
                (replies_by (X.execute room) (X.execute room l c).list cs ++ rest) (length cs)
                (reply_fits n l v c f).tag_fits d.0 r.bytes_same;
          }

  -- ONE BATCH
  record AgreeRun (l : List Entry) (rs : List ℕ) (x : Parsed) : Type 0 where
    list_same : feed_by (execute n) l (length rs) x ≡ feed_by (X.execute room) l (length rs) x
    valid : Valid (feed_by (execute n) l (length rs) x)
    seen_same : but_counts (seen_run (execute n) l rs x) ≡ but_counts (seen_run (X.execute room) l rs x)

  agree_run : (l : List Entry) → Valid l → (rs : List ℕ) (x : Parsed) → AllFit x →
      NeverSays too_few_nodes (seen_run (execute n) l rs x) → NeverSays paused (seen_run (execute n) l rs x) →
      NeverSays too_few_nodes (seen_run (X.execute room) l rs x) → AgreeRun l rs x
  agree_run l v rs (Parsed.refused at) f t u p = record { list_same = refl; valid = v; seen_same = refl }
  agree_run l v rs (Parsed.commands cs) f t u p =
      by_t (ltb (length rs) (reply_bytes * length cs))
      (λ b. record { list_same = rw b refl; valid = rw b v; seen_same = rw b refl })
      (λ b. let rest : List ℕ = drop (reply_bytes * length cs) rs in
      let r : AgreeAll l l cs (drop (reply_bytes * length cs) rs) = agree_all cs l l (drop (reply_bytes * length cs) rs) refl v f
      (never_of (execute n) too_few_nodes (omega arith) l cs (drop (reply_bytes * length cs) rs) ((rw b at t) refl))
      (never_of (execute n) paused (omega arith) l cs (drop (reply_bytes * length cs) rs) ((rw b at u) refl))
      (never_of (X.execute room) too_few_nodes (omega arith) l cs (drop (reply_bytes * length cs) rs) ((rw b at p) refl)) in
      record {
        list_same = rw b r.list_same;
        valid = rw b r.valid;
        seen_same = rw b (ap (λ (y : List ℕ). seen (result_of done (length cs)) y) r.bytes_same);
      })

  -- ALL CALLS
  pub agree_calls : (cs : List Call) (l m : List Entry) → l ≡ m → Valid l → All Bytewise cs →
      All (NeverSays too_few_nodes) (seen_by (execute n) l cs) → All (NeverSays paused) (seen_by (execute n) l cs) →
      All (NeverSays too_few_nodes) (seen_by (X.execute room) m cs) →
      map but_counts (seen_by (execute n) l cs) ≡ map but_counts (seen_by (X.execute room) m cs)
  agree_calls [] l m q v b t u p = refl
  agree_calls (Call.init ∷ cs) l m q v (also _ b) (also _ t) (also _ u) (also _ p) =
      ap (λ (x : List Seen). seen (result_of done 0) [] ∷ x) (agree_calls cs [] [] refl M.done b t u p)
  agree_calls (Call.check ∷ cs) l m q v (also _ b) (also _ t) (also _ u) (also _ p) =
      ap (λ (x : List Seen). seen (result_of done 0) [] ∷ x) (agree_calls cs l m q v b t u p)
  agree_calls (Call.batch bs rs ∷ cs) l m q v (also b c) (also t ts) (also u us) p = subst
      (λ (y : List Entry). All (NeverSays too_few_nodes) (seen_by (X.execute room) y (Call.batch bs rs ∷ cs)) →
      map but_counts (seen_by (execute n) l (Call.batch bs rs ∷ cs)) ≡ map but_counts (seen_by (X.execute room) y (Call.batch bs rs ∷ cs))) q
      (step (λ e w y. agree_calls cs (feed_by (execute n) l (length rs) (parse bs)) (feed_by (X.execute room) l (length rs) (parse bs)) e w c ts us y)) p
    where
      step : (feed_by (execute n) l (length rs) (parse bs) ≡ feed_by (X.execute room) l (length rs) (parse bs) →
          Valid (feed_by (execute n) l (length rs) (parse bs)) →
          All (NeverSays too_few_nodes) (seen_by (X.execute room) (feed_by (X.execute room) l (length rs) (parse bs)) cs) →
          map but_counts (seen_by (execute n) (feed_by (execute n) l (length rs) (parse bs)) cs)
          ≡ map but_counts (seen_by (X.execute room) (feed_by (X.execute room) l (length rs) (parse bs)) cs)) →
          All (NeverSays too_few_nodes) (seen_by (X.execute room) l (Call.batch bs rs ∷ cs)) →
          map but_counts (seen_by (execute n) l (Call.batch bs rs ∷ cs)) ≡ map but_counts (seen_by (X.execute room) l (Call.batch bs rs ∷ cs))
      step rec (also y ys) =
          let r : AgreeRun l rs (parse bs) = agree_run l v rs (parse bs) (parse_fits b) t u y in
          ap (λ (x : Seen). x ∷ map but_counts (seen_by (execute n) (feed_by (execute n) l (length rs) (parse bs)) cs)) r.seen_same
          ∙ ap (λ (xs : List Seen). but_counts (seen_run (X.execute room) l rs (parse bs)) ∷ xs) (rec r.list_same r.valid ys)

-- R309, on lists: from empty, with equal batches and reply spaces
pub engines_agree : (n room : ℕ) (cs : List Call) → All Bytewise cs → All (NeverSays too_few_nodes) (seen_by (execute n) [] cs) →
    All (NeverSays paused) (seen_by (execute n) [] cs) → All (NeverSays too_few_nodes) (seen_by (X.execute room) [] cs) →
    map but_counts (seen_by (execute n) [] cs) ≡ map but_counts (seen_by (X.execute room) [] cs)
engines_agree n room cs b t u p = agree_calls n room cs [] [] refl M.done b t u p
