-- A host that goes by the replies walks as `walk` does, over the lists that demand 3's calls leave (R296 to R298).
use Prim.Native.Nat.{ℕ, ◌+◌, ◌*◌, ◌≤◌}
use mathlib.Core.Path.{◌≡◌, refl, sym, ap, subst, ◌∙◌}
use mathlib.Core.Bool.{true}
use mathlib.Core.Logic.{◌≢◌}
use mathlib.Core.List.{List, [], ◌∷◌, ◌++◌, append_assoc}
use mathlib.Core.Option.{Option, none, some}
use native.Mathlib.Omega.{arith}
use lib.Dec.{ltb}
use lib.ListN.{length, drop}
use borrow.Author.Tests.{ltb-false}
use Rattle.blocks.specs.Lists.{All, end, also}
use Rattle.blocks.proofs.BoolLaws.{by_t, both_l, not-true}
use Rattle.blocks.proofs.ListLaws.{first_yes, each}
use Rattle.model.specs.declared.Entry.{Entry}
use Rattle.model.specs.Model.{Valid, reserved}
use Rattle.layout.specs.Words.{max_nodes}
use Rattle.decode.proofs.DecodeLaws.{decode_list}
use Rattle.decode.proofs.DecideLaws.{count_of}
use Rattle.verify.proofs.AnswerLaws.{prescribed_0}
use Rattle.layout.specs.Decide.{node_count}
use Rattle.layout.specs.WellFormed.{Sized}
use Rattle.lookup.specs.declared.Outcome.{Outcome}
use Rattle.lookup.specs.declared.Outcome.TheVariants.{Found, Ended, Paused}
use Rattle.lookup.specs.Find.{any_mark, matches, after, meets, find}
use Rattle.lookup.specs.Steps.{steps, enough}
use Rattle.lookup.proofs.FindLaws.{found_first, paused_passed}
use Rattle.batch.specs.declared.Command.{Command}
use Rattle.batch.specs.declared.Command.TheVariants.{Find}
use Rattle.batch.specs.declared.Reply.{Reply}
use Rattle.batch.specs.Reply.{reply_bytes, encode, answered_by, find_reply}
use Rattle.execute.specs.Execute.{execute, finding}
use Rattle.commands.specs.Commands.{Executed}
use Rattle.execute.proofs.ReplyLaws.{find_runs}
use Rattle.calls.specs.Calls.{run, replies}
use Rattle.calls.specs.Demand.{Call, words_after_all, list_after_all, Stands, AtCommand, Ran, AtBatch, Starts, Starts.checked}
use Rattle.calls.proofs.RunningLaws.{replies_length}
use Rattle.calls.proofs.DemandLaws.{Started, started, sized}
use Rattle.calls.proofs.ClaimLaws.{demand_3_whole}
use Rattle.walks.specs.Walk.{Moment, walk, go_on, next_of, still, until, accepts, reports}
use Rattle.walks.specs.Host.{Leg, calls_of, met, moments, reply_at, next_by, seen, Asks, Walks, stops, goes_on, entry_of, reports_by}
use Rattle.walks.proofs.ReadLaws.{reply_read, replies_around}
use Rattle.walks.proofs.MissLaws.{no_index_missed, none_missed_until}
use Rattle.walks.proofs.StillLaws.{budgets_agree, few_steps}

-- WHERE TO GO ON, read off the reply
by_outcome : (z : ℕ) (o : Outcome) → next_by z (finding find_reply o) ≡ next_of z o
by_outcome z (Found e n) = refl
by_outcome z (Ended n) = refl
by_outcome z (Paused q n) = refl

pub host_next : (n : ℕ) (l : List Entry) (p z f k : ℕ) → f ≤ any_mark → p ≤ z → k ≢ 0 →
    next_by z (execute n l (Find p z f k)).reply ≡ next_of z (find l p z f k)
host_next n l p z f k a b c = ap (λ (x : Executed). next_by z x.reply) (find_runs n l p z f k a b c) ∙ by_outcome z (find l p z f k)

-- the entry that a find reports stands whole in its reply: it is no reservation
whole_entry : (f : ℕ) (e : Entry) (n : ℕ) → matches f e ≡ true → entry_of (answered_by find_reply e n) ≡ e
whole_entry f e n m = λ i. record { base = e.base; order = e.order; word = same i; marks = e.marks }
  where
    same : (answered_by find_reply e n).word ≡ e.word
    same = rw (not-true (reserved e) (both_l _ _ m))

found_matches : (l : List Entry) → Valid l → (p z f k : ℕ) → p ≤ z → (e : Entry) (n : ℕ) → find l p z f k ≡ Found e n →
    matches f e ≡ true
found_matches l v p z f k h e n d =
    let (m, i) = first_yes (meets f p z) (each l (λ x i. i)) (found_first l v p z f k h e n d) in both_l (matches f e) _ m

-- ONE FIND: what the host's report and the walk's are, and where both go on
module _ (l : List Entry) (v : Valid l) (p z f k c : ℕ) (h : p ≤ z) (rest : ℕ → ℕ → Option (List Outcome)) where
  ends_as : (o : Outcome) → find l p z f k ≡ o → next_of z o ≡ none → go_on z c o rest ≡ some (reports_by c (finding find_reply o ∷ []))
  ends_as (Found e n) d x =
      by_t (ltb z (after e))
      (λ t. rw t (ap (λ (y : Entry). some (Found y (c + n) ∷ [])) (sym (whole_entry f e n (found_matches l v p z f k h e n d)))))
      (λ t. absurd (let u : some (after e) ≡ none = rw t at x in let w : ◌≡◌ {A = ℕ} 0 1 = cc in omega arith))
  ends_as (Ended n) d x = refl
  ends_as (Paused q n) d x = absurd (let w : ◌≡◌ {A = ℕ} 0 1 = cc in omega arith)

  goes_as : (q : ℕ) (rs : List Reply) → ((m : ℕ) → rest q m ≡ some (reports_by m rs)) → (o : Outcome) → find l p z f k ≡ o →
      next_of z o ≡ some q → go_on z c o rest ≡ some (reports_by c (finding find_reply o ∷ rs))
  goes_as q rs r (Found e n) d x =
      by_t (ltb z (after e)) (λ t. absurd (let u : none ≡ some q = rw t at x in let w : ◌≡◌ {A = ℕ} 0 1 = cc in omega arith))
      (λ t. let u : some (after e) ≡ some q = rw t at x in
      let a : after e ≡ q = cc in
      rw (t, a, r 0)
      (ap (λ (y : Entry). some (Found y (c + n) ∷ reports_by 0 rs)) (sym (whole_entry f e n (found_matches l v p z f k h e n d)))))
  goes_as q rs r (Ended n) d x = absurd (let w : ◌≡◌ {A = ℕ} 0 1 = cc in omega arith)
  goes_as q rs r (Paused y n) d x = let a : y ≡ q = cc in rw (a, r (c + n))

  goes_inside : (q : ℕ) (o : Outcome) → find l p z f k ≡ o → next_of z o ≡ some q → q ≤ z
  goes_inside q (Found e n) d x =
      by_t (ltb z (after e)) (λ t. absurd (let u : none ≡ some q = rw t at x in let w : ◌≡◌ {A = ℕ} 0 1 = cc in omega arith))
      (λ t. let u : some (after e) ≡ some q = rw t at x in
      let a : after e ≡ q = cc in
      omega (arith, a, ltb-false z (after e) t))
  goes_inside q (Ended n) d x = absurd (let w : ◌≡◌ {A = ℕ} 0 1 = cc in omega arith)
  goes_inside q (Paused y n) d x =
      let a : y ≡ q = cc in
      let (s, b, i, u) = paused_passed l v p z f k h y n d in
      omega (arith, a, i)

-- ONE LEG, by demand 3
again : {n : ℕ} {l : List Entry} {ws : List ℕ} → 1 ≤ n → n ≤ max_nodes → Stands n l ws → Starts n l ws
again {n} {l} {ws} lo hi s =
    let z : Sized n ws = sized lo hi s.prescribed in
    subst (λ (m : ℕ). Starts m l ws) (count_of z)
    (subst (λ (x : List Entry). Starts (node_count ws) x ws) (decode_list s.prescribed)
    (checked ws (prescribed_0 z s.prescribed)))

-- the reply that the host reads, of the list that the find meets
record Met (n : ℕ) (l : List Entry) (ws : List ℕ) (p z f : ℕ) (g : Leg) : Type 0 where
  valid : Valid (met n l g)
  reads : seen ws g ≡ finding find_reply (find (met n l g) p z f g.budget)
  starts : Starts n (list_after_all n l (calls_of g)) (words_after_all ws (calls_of g))

module _ {n : ℕ} {l : List Entry} {ws : List ℕ} (st : Starts n l ws) (p z f : ℕ) (fm : f ≤ any_mark) (h : p ≤ z) (g : Leg)
    (a : Asks f z p g)
  where
    abbrev asked : List Command
    asked = g.ahead ++ (Find p z f g.budget ∷ g.behind)

    ran : Ran n (list_after_all n l g.calls) (words_after_all ws g.calls) g.bytes g.space asked
    ran =
        (subst (AtBatch n (list_after_all n l g.calls) (words_after_all ws g.calls) g.bytes g.space) a.has_find
        ((demand_3_whole st a.bytewise).calls g.calls (Call.batch g.bytes g.space) [] refl)
        ).1 a.room

    find_is : AtCommand n (list_after_all n l g.calls) (words_after_all ws g.calls) g.bytes g.space g.ahead (Find p z f g.budget)
    find_is = ran.each g.ahead (Find p z f g.budget) g.behind refl

    read : seen ws g ≡ (execute n (met n l g) (Find p z f g.budget)).reply
    read =
        let l₁ : List Entry = list_after_all n l g.calls in
        let c : Command = Find p z f g.budget in
        let r : Reply = (execute n (met n l g) c).reply in
        let rest : List ℕ = replies n (execute n (met n l g) c).list g.behind in
        let over : List ℕ = drop (reply_bytes * length asked) g.space in
        let around : (run (words_after_all ws g.calls) g.bytes g.space).reply
        ≡ replies n l₁ g.ahead ++ (encode r ++ (rest ++ over)) =
        ran.reply_is
        ∙ ap (λ (s : List ℕ). s ++ over) (replies_around n l₁ g.ahead c g.behind)
        ∙ append_assoc (replies n l₁ g.ahead) (encode r ++ rest) over
        ∙ ap (λ (s : List ℕ). replies n l₁ g.ahead ++ s) (append_assoc (encode r) rest over) in
        ap (λ (s : List ℕ). reply_at s (length g.ahead)) around
        ∙ reply_read (replies n l₁ g.ahead) (rest ++ over) (length g.ahead) r (replies_length n l₁ g.ahead) find_is.does.fits

    leg : Met n l ws p z f g
    leg =
        let s : Started n l ws = started st in
        record {
          valid = find_is.does.before.prescribed.valid;
          reads = read ∙ ap (λ (x : Executed). x.reply) (find_runs n (met n l g) p z f g.budget fm h a.budget_left);
          starts = again s.least s.most (demand_3_whole st a.bytewise).words;
        }

-- THE WALK
follows : {n f z : ℕ} {ws : List ℕ} {p : ℕ} {gs : List Leg} {rs : List Reply} {l : List Entry} → Starts n l ws → f ≤ any_mark → p ≤ z →
    (c : ℕ) → Walks f z ws p gs rs → walk f z (moments n l gs) p c ≡ some (reports_by c rs)
unfolding walk
follows {n} {f} {z} {ws} {p} {l} st fm h c (stops g a x) =
    let m = leg st p z f fm h g a in
    let o : Outcome = find (met n l g) p z f g.budget in
    subst (λ (r : Reply). go_on z c o (walk f z []) ≡ some (reports_by c (r ∷ []))) (sym m.reads)
    (ends_as (met n l g) m.valid p z f g.budget c h (walk f z []) o refl
    (sym (by_outcome z o) ∙ ap (next_by z) (sym m.reads) ∙ x))
follows {n} {f} {z} {ws} {p} {l} st fm h c (goes_on {q = q} {gs = gs} {rs = rs} g a x w) =
    let m = leg st p z f fm h g a in
    let o : Outcome = find (met n l g) p z f g.budget in
    let rest : ℕ → ℕ → Option (List Outcome) = walk f z (moments n (list_after_all n l (calls_of g)) gs) in
    let y : next_of z o ≡ some q = sym (by_outcome z o) ∙ ap (next_by z) (sym m.reads) ∙ x in
    let i : q ≤ z = goes_inside (met n l g) m.valid p z f g.budget c h rest q o refl y in
    subst (λ (r : Reply). go_on z c o rest ≡ some (reports_by c (r ∷ rs))) (sym m.reads)
    (goes_as (met n l g) m.valid p z f g.budget c h rest q rs (λ j. follows m.starts fm i j w) o refl y)

all_valid : {n f z : ℕ} {ws : List ℕ} {p : ℕ} {gs : List Leg} {rs : List Reply} {l : List Entry} → Starts n l ws → f ≤ any_mark → p ≤ z →
    Walks f z ws p gs rs → All (λ m. Valid m.list) (moments n l gs)
all_valid {n} {f} {z} {ws} {p} {l} st fm h (stops g a x) = also (leg st p z f fm h g a).valid end
all_valid {n} {f} {z} {ws} {p} {l} st fm h (goes_on {q = q} {gs = gs} g a x w) =
    let m = leg st p z f fm h g a in
    let o : Outcome = find (met n l g) p z f g.budget in
    let y : next_of z o ≡ some q = sym (by_outcome z o) ∙ ap (next_by z) (sym m.reads) ∙ x in
    let i : q ≤ z = goes_inside (met n l g) m.valid p z f g.budget 0 h (walk f z []) q o refl y in
    also m.valid (all_valid m.starts fm i w)

module _ {n f a z : ℕ} {l : List Entry} {ws : List ℕ} {gs : List Leg} {rs : List Reply} (st : Starts n l ws) (fm : f ≤ any_mark) (h : a ≤ z)
    (w : Walks f z ws a gs rs)
  where
    -- R297: what the host reports is what the walk over the model's lists reports
    pub host_walks : walk f z (moments n l gs) a 0 ≡ some (reports_by 0 rs)
    host_walks = follows st fm h 0 w

    -- R295 of the host
    pub host_misses_none : (i : ℕ) → a ≤ i → i ≤ z → All (λ m. accepts f i m.list ≡ true) (moments n l gs) →
        reports i (reports_by 0 rs) ≡ true
    host_misses_none i lo hi t =
        no_index_missed f a z i (moments n l gs) (reports_by 0 rs) lo hi (all_valid st fm h w) t host_walks

    -- R298 of the host
    pub host_misses_none_until : (i : ℕ) → a ≤ i → i ≤ z → All (λ m. accepts f i m.list ≡ true) (until f z i (moments n l gs) a) →
        reports i (reports_by 0 rs) ≡ true
    host_misses_none_until i lo hi t =
        none_missed_until f a z i (moments n l gs) (reports_by 0 rs) lo hi (all_valid st fm h w) t host_walks

    -- R293 of the host: no change in between
    pub host_few_steps : (m : List Entry) → Valid m → (ks : List ℕ) → moments n l gs ≡ still m ks →
        All (λ o. steps o ≤ enough m) (reports_by 0 rs)
    host_few_steps m v ks e =
        few_steps m v f a z ks (reports_by 0 rs) h (subst (λ (x : List Moment). walk f z x a 0 ≡ some (reports_by 0 rs)) e host_walks)

-- and of two hosts, or of one with other budgets
pub host_budgets_agree : {n n' f a z : ℕ} {l l' : List Entry} {ws ws' : List ℕ} {gs gs' : List Leg} {rs rs' : List Reply} →
    Starts n l ws → Starts n' l' ws' → f ≤ any_mark → a ≤ z → Walks f z ws a gs rs → Walks f z ws' a gs' rs' →
    (m : List Entry) → Valid m → (ks js : List ℕ) → moments n l gs ≡ still m ks → moments n' l' gs' ≡ still m js →
    reports_by 0 rs ≡ reports_by 0 rs'
host_budgets_agree {f = f} {a = a} {z = z} {rs = rs} {rs' = rs'} st st' fm h w w' m v ks js e e' =
    budgets_agree m v f a z ks js (reports_by 0 rs) (reports_by 0 rs') h
    (subst (λ (x : List Moment). walk f z x a 0 ≡ some (reports_by 0 rs)) e (host_walks st fm h w))
    (subst (λ (x : List Moment). walk f z x a 0 ≡ some (reports_by 0 rs')) e' (host_walks st' fm h w'))
