-- The calls of both engines, on words and on slices, show a host the same (R309).
use Prim.Native.Nat.{ℕ, ◌*◌, ◌≤◌}
use mathlib.Core.Path.{◌≡◌, refl, sym, ap, subst, ◌∙◌}
use mathlib.Core.List.{List, [], ◌∷◌, map}
use lib.Dec.{ltb}
use lib.ListN.{length}
use Rattle.blocks.specs.Lists.{All, end, also}
use Rattle.blocks.proofs.BoolLaws.{by_t}
use Rattle.answers.specs.Answers.{result_of, done, too_few_nodes, paused}
use Rattle.model.specs.declared.Entry.{Entry}
use Rattle.layout.specs.Words.{max_nodes}
use Rattle.decode.proofs.DecodeLaws.{decode_list}
use Rattle.decode.proofs.DecideLaws.{sized_is}
use Rattle.verify.specs.Answers.{init_answer, init_words}
use Rattle.verify.proofs.AnswerLaws.{prescribed_0}
use Rattle.batch.specs.Batch.{Parsed, parse}
use Rattle.batch.specs.Reply.{reply_bytes}
use Rattle.execute.specs.Execute.{execute}
use Rattle.calls.specs.Calls.{Called, run, run_parsed}
use Rattle.calls.specs.Demand.{Call, Bytewise, Stands, Starts, Starts.fresh}
use Rattle.calls.proofs.DemandLaws.{sized, run_as, call_stands, Started, started}
use Rattle.xaplain.specs.Slices.{Slices, Prescribes, max_room, init_slices}
use Rattle.xaplain.specs.Slices as S
use Rattle.xaplain.specs.Engine as X
use Rattle.xaplain_calls.specs.Calls as P
use Rattle.xaplain_calls.specs.Demand as D
use Rattle.xaplain_calls.proofs.CheckedLaws as K
use Rattle.xaplain_calls.proofs.DemandLaws as L
use Rattle.engines.specs.Seen.{Seen, seen, but_counts, NeverSays, seen_run, seen_by}
use Rattle.engines.specs.Both.{tree_seen, plain_seen, shared}
use Rattle.engines.proofs.SameLaws.{agree_calls}

-- THE TREE's calls show what its commands on the list do
module _ {n : ℕ} (lo : 1 ≤ n) (hi : n ≤ max_nodes) where
  tree_run : {l : List Entry} {ws : List ℕ} (s : Stands n l ws) (rs : List ℕ) (x : Parsed) →
      seen (run_parsed n ws rs x).result (run_parsed n ws rs x).reply ≡ seen_run (execute n) l rs x
  tree_run s rs (Parsed.refused at) = refl
  tree_run s rs (Parsed.commands cs) =
      by_t (ltb (length rs) (reply_bytes * length cs)) (λ t. rw t refl) (λ t. rw (t, decode_list s.prescribed) refl)

  tree_shows : (cs : List Call) {l : List Entry} {ws : List ℕ} → Stands n l ws → All Bytewise cs →
      tree_seen ws cs ≡ seen_by (execute n) l (shared cs)
  tree_shows [] s b = refl
  tree_shows (Call.init ∷ cs) {ws = ws} s (also b bs) =
      ap (λ (a : ℕ). seen (result_of a 0) [] ∷ tree_seen (init_words ws) cs) (rw (sized_is (sized lo hi s.prescribed)) refl)
      ∙ ap (λ (x : List Seen). seen (result_of done 0) [] ∷ x) (tree_shows cs (call_stands lo hi s.prescribed Call.init b) bs)
  tree_shows (Call.check ∷ cs) {ws = ws} s (also b bs) =
      ap (λ (a : ℕ). seen (result_of a 0) [] ∷ tree_seen ws cs) (prescribed_0 (sized lo hi s.prescribed) s.prescribed)
      ∙ ap (λ (x : List Seen). seen (result_of done 0) [] ∷ x) (tree_shows cs s bs)
  tree_shows (Call.batch bs rs ∷ cs) {l} {ws} s (also b c) =
      ap (λ (y : Seen). y ∷ tree_seen (run ws bs rs).words cs)
      (ap (λ (y : Called). seen y.result y.reply) (run_as lo hi s.prescribed bs rs) ∙ tree_run s rs (parse bs))
      ∙ ap (λ (x : List Seen). seen_run (execute n) l rs (parse bs) ∷ x)
      (tree_shows cs (call_stands lo hi s.prescribed (Call.batch bs rs) b) c)
  tree_shows (Call.list a z bs ∷ cs) s (also b c) = tree_shows cs s c
  tree_shows (Call.prepare bs out ∷ cs) s (also b c) = tree_shows cs s c

-- THE PLAIN ENGINE's calls do so, too
module _ {room : ℕ} (hi : room ≤ max_room) where
  plain_run : {l : List Entry} {s : Slices} → Prescribes room l s → (rs : List ℕ) (x : Parsed) →
      seen (P.run_parsed s rs x).result (P.run_parsed s rs x).reply ≡ seen_run (X.execute room) l rs x
  plain_run p rs (Parsed.refused at) = refl
  plain_run {l} {s} p rs (Parsed.commands cs) =
      by_t (ltb (length rs) (reply_bytes * length cs)) (λ t. rw t refl)
      (λ t. rw (t, K.read_is s (K.sized_of hi p) (K.by_room p), K.room_is p) refl)

  plain_shows : (cs : List D.Call) {l : List Entry} {s : Slices} → Prescribes room l s → All D.Bytewise cs →
      plain_seen s cs ≡ seen_by (X.execute room) l cs
  plain_shows [] p b = refl
  plain_shows (D.Call.init ∷ cs) {s = s} p (also b bs) =
      ap (λ (a : ℕ). seen (result_of a 0) [] ∷ plain_seen (init_slices s) cs) (rw (K.sized_is s (K.sized_of hi p)) refl)
      ∙ ap (λ (x : List Seen). seen (result_of done 0) [] ∷ x) (plain_shows cs (L.call_stands hi p D.Call.init b) bs)
  plain_shows (D.Call.check ∷ cs) {s = s} p (also b bs) =
      ap (λ (a : ℕ). seen (result_of a 0) [] ∷ plain_seen s cs) (K.prescribed_0 s (K.sized_of hi p) (K.by_room p))
      ∙ ap (λ (x : List Seen). seen (result_of done 0) [] ∷ x) (plain_shows cs p bs)
  plain_shows (D.Call.batch bs rs ∷ cs) {l} {s} p (also b c) =
      ap (λ (y : Seen). y ∷ plain_seen (P.run s bs rs).slices cs)
      (ap (λ (y : P.Called). seen y.result y.reply) (L.run_as hi p bs rs) ∙ plain_run p rs (parse bs))
      ∙ ap (λ (x : List Seen). seen_run (X.execute room) l rs (parse bs) ∷ x)
      (plain_shows cs (L.call_stands hi p (D.Call.batch bs rs) b) c)

shared_bytes : (cs : List Call) → All Bytewise cs → All D.Bytewise (shared cs)
shared_bytes [] b = end
shared_bytes (Call.init ∷ cs) (also b bs) = also {x = D.Call.init} b (shared_bytes cs bs)
shared_bytes (Call.check ∷ cs) (also b bs) = also {x = D.Call.check} b (shared_bytes cs bs)
shared_bytes (Call.batch bs rs ∷ cs) (also b c) = also {x = D.Call.batch bs rs} b (shared_bytes cs c)
shared_bytes (Call.list a z bs ∷ cs) (also b c) = shared_bytes cs c
shared_bytes (Call.prepare bs out ∷ cs) (also b c) = shared_bytes cs c

-- P12: a pool and slices that start with the same list show a host the same, byte for byte, but for the counts of loads and finds,
-- for every list of calls in which no reply of either says 11 and none of the tree's 13
pub same_from : {n room : ℕ} {l : List Entry} {ws : List ℕ} {s : Slices} → Starts n l ws → D.Starts room l s →
    (cs : List Call) → All Bytewise cs → All (NeverSays too_few_nodes) (tree_seen ws cs) → All (NeverSays paused) (tree_seen ws cs) →
    All (NeverSays too_few_nodes) (plain_seen s (shared cs)) →
    map but_counts (tree_seen ws cs) ≡ map but_counts (plain_seen s (shared cs))
same_from {n} {room} {l} {ws} {s} a d cs b t u p =
    let x : Started n l ws = started a in
    let y : L.Started room l s = L.started d in
    let tw : tree_seen ws cs ≡ seen_by (execute n) l (shared cs) = tree_shows x.least x.most cs x.stands b in
    let ps : plain_seen s (shared cs) ≡ seen_by (X.execute room) l (shared cs) =
    plain_shows y.most (shared cs) y.stands (shared_bytes cs b) in
    ap (map but_counts) tw
    ∙ agree_calls n room (shared cs) l l refl y.stands.valid (shared_bytes cs b) (subst (All (NeverSays too_few_nodes)) tw t)
    (subst (All (NeverSays paused)) tw u) (subst (All (NeverSays too_few_nodes)) ps p)
    ∙ sym (ap (map but_counts) ps)

-- and so from a pool and from slices just initialised: no list of entries stands in the claim
pub same_replies : (ws : List ℕ) → init_answer ws ≡ done → (s : Slices) → S.init_answer s ≡ done → (cs : List Call) → All Bytewise cs →
    All (NeverSays too_few_nodes) (tree_seen (init_words ws) cs) → All (NeverSays paused) (tree_seen (init_words ws) cs) →
    All (NeverSays too_few_nodes) (plain_seen (init_slices s) (shared cs)) →
    map but_counts (tree_seen (init_words ws) cs) ≡ map but_counts (plain_seen (init_slices s) (shared cs))
same_replies ws e s f cs b t u p = same_from (fresh ws e) (D.fresh s f) cs b t u p
