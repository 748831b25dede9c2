-- Lists of calls as steps (R240, R241, R249): they are the model's, and none come from what is refused.
use Prim.Native.Nat.{ℕ, ◌*◌}
use mathlib.Core.Path.{◌≡◌, refl, sym, ap, subst, ◌∙◌}
use mathlib.Core.List.{List, [], ◌∷◌, ◌++◌, map}
use native.Mathlib.Omega.{arith}
use lib.Dec.{ltb}
use lib.ListN.{length}
use Rattle.blocks.specs.Lists.{All, end, also}
use Rattle.blocks.proofs.BoolLaws.{by_t}
use Rattle.model.specs.declared.Entry.{Entry}
use Rattle.model.specs.Model.{Valid}
use Rattle.batch.specs.Fits.{Fits}
use Rattle.batch.specs.declared.Command.{Command}
use Rattle.batch.specs.Batch.{Parsed, parse}
use Rattle.batch.specs.Reply.{reply_bytes}
use Rattle.batch.proofs.BoundLaws.{AllFit, parse_fits}
use Rattle.execute.specs.Execute.{execute}
use Rattle.execute.proofs.Footprint.{refused_leaves}
use Rattle.calls.specs.Calls.{Called, run, run_parsed}
use Rattle.calls.specs.Demand.{Call, words_after_all, execute_all, feed, list_after, list_after_all, Bytewise, Stands, Starts}
use Rattle.calls.proofs.DemandLaws.{Started, started, run_as}
use Rattle.calls.proofs.ClaimLaws.{demand_3_whole}
use Rattle.trace.specs.Trace.{Step, Step.ran, fed, steps_of, steps, next, after}
use Rattle.trace.proofs.StepLaws.{after_append, Fitting, after_valid, all_append}

-- THE STEPS ARE THE MODEL'S
after_ran : (n : ℕ) (l : List Entry) (cs : List Command) → after n l (map ran cs) ≡ execute_all n l cs
after_ran n l [] = refl
after_ran n l (c ∷ cs) = after_ran n (next n l (ran c)) cs

after_fed : (n : ℕ) (l : List Entry) (k : ℕ) (p : Parsed) → after n l (fed k p) ≡ feed n l k p
after_fed n l k (Parsed.refused at) = refl
after_fed n l k (Parsed.commands cs) =
    by_t (ltb k (reply_bytes * length cs)) (λ t. rw t) (λ t. rw t (after_ran n l cs))

after_call : (n : ℕ) (l : List Entry) (c : Call) → after n l (steps_of c) ≡ list_after n l c
after_call n l Call.init = refl
after_call n l Call.check = refl
after_call n l (Call.batch bs rs) = after_fed n l (length rs) (parse bs)
after_call n l (Call.list a z bs) = refl
after_call n l (Call.prepare bs out) = refl

pub after_calls : (n : ℕ) (l : List Entry) (cs : List Call) → after n l (steps cs) ≡ list_after_all n l cs
after_calls n l [] = refl
after_calls n l (c ∷ cs) =
    after_append n l (steps_of c) (steps cs)
    ∙ ap (λ (x : List Entry). after n x (steps cs)) (after_call n l c)
    ∙ after_calls n (list_after n l c) cs

-- R240, R335: a check, a listing and a preparing come to no step
pub check_nothing : steps_of Call.check ≡ []
check_nothing = refl

pub listing_nothing : (first last : ℕ) (buffer : List ℕ) → steps_of (Call.list first last buffer) ≡ []
listing_nothing a z bs = refl

pub preparing_nothing : (bytes slice : List ℕ) → steps_of (Call.prepare bytes slice) ≡ []
preparing_nothing bs out = refl

-- THE LISTS ARE VALID at every moment
ran_fits : {cs : List Command} → All Fits cs → All Fitting (map ran cs)
ran_fits end = end
ran_fits (also f fs) = also f (ran_fits fs)

fed_fits : (k : ℕ) (p : Parsed) → AllFit p → All Fitting (fed k p)
fed_fits k (Parsed.refused at) f = end
fed_fits k (Parsed.commands cs) f = by_t (ltb k (reply_bytes * length cs)) (λ t. rw t end) (λ t. rw t (ran_fits f))

both_fit : {xs ys : List Step} → All Fitting xs → All Fitting ys → All Fitting (xs ++ ys)
both_fit end b = b
both_fit (also f a) b = also f (both_fit a b)

call_fits : (c : Call) → Bytewise c → All Fitting (steps_of c)
call_fits Call.init b = also tt end
call_fits Call.check b = end
call_fits (Call.batch bs rs) b = fed_fits (length rs) (parse bs) (parse_fits b)
call_fits (Call.list a z bs) b = end
call_fits (Call.prepare bs out) b = end

pub calls_fit : {cs : List Call} → All Bytewise cs → All Fitting (steps cs)
calls_fit end = end
calls_fit (also {x = c} b bs) = both_fit (call_fits c b) (calls_fit bs)

-- the steps xs ++ ys are those of calls on a pool that starts with the list l
pub record Going (n : ℕ) (l : List Entry) (xs ys : List Step) : Type 0 where
  pub start : Valid l
  pub valid : Valid (after n l xs)
  pub so_far : All Fitting xs
  pub to_come : All Fitting ys

pub going : {n : ℕ} {l : List Entry} {ws : List ℕ} → Starts n l ws → {cs : List Call} → All Bytewise cs →
    (xs ys : List Step) → steps cs ≡ xs ++ ys → Going n l xs ys
going {n} {l} st b xs ys q =
    let (f, g) = all_append xs (subst (All Fitting) q (calls_fit b)) in
    let v : Valid l = (started st).stands.prescribed.valid in
    record { start = v; valid = after_valid n l v f; so_far = f; to_come = g }

-- NOTHING FROM A CALL THAT IS REFUSED (R249)
pub refused_nothing : {n : ℕ} {l : List Entry} {ws : List ℕ} → Starts n l ws → {cs : List Call} → All Bytewise cs →
    (bs rs : List ℕ) → ((run (words_after_all ws cs) bs rs).result.answer ≡ 0 → ⊥) → steps_of (Call.batch bs rs) ≡ []
refused_nothing {n} {l} {ws} st {cs} b bs rs r =
    let s : Started n l ws = started st in
    let p : Stands n (list_after_all n l cs) (words_after_all ws cs) = (demand_3_whole st b).words in
    go (parse bs) (λ z. r (ap (λ (x : Called). x.result.answer) (run_as s.least s.most p.prescribed bs rs) ∙ z))
  where
    go : (q : Parsed) → ((run_parsed n (words_after_all ws cs) rs q).result.answer ≡ 0 → ⊥) → fed (length rs) q ≡ []
    go (Parsed.refused at) f = refl
    go (Parsed.commands ds) f =
        by_t (ltb (length rs) (reply_bytes * length ds)) (λ t. rw t) (λ t. absurd (f (rw t)))

-- and everything from one that is not
pub run_everything : {n : ℕ} {l : List Entry} {ws : List ℕ} → Starts n l ws → {cs : List Call} → All Bytewise cs →
    (bs rs : List ℕ) → (run (words_after_all ws cs) bs rs).result.answer ≡ 0 →
    (ds : List Command) × (parse bs ≡ Parsed.commands ds) × (steps_of (Call.batch bs rs) ≡ map ran ds)
run_everything {n} {l} {ws} st {cs} b bs rs r =
    let s : Started n l ws = started st in
    let p : Stands n (list_after_all n l cs) (words_after_all ws cs) = (demand_3_whole st b).words in
    go (parse bs) refl
    (sym (ap (λ (x : Called). x.result.answer) (run_as s.least s.most p.prescribed bs rs)) ∙ r)
  where
    go : (q : Parsed) → parse bs ≡ q → (run_parsed n (words_after_all ws cs) rs q).result.answer ≡ 0 →
        (ds : List Command) × (parse bs ≡ Parsed.commands ds) × (fed (length rs) q ≡ map ran ds)
    go (Parsed.refused at) e f = absurd (let z : ◌≡◌ {A = ℕ} 3 0 = f in omega arith)
    go (Parsed.commands ds) e f =
        by_t (ltb (length rs) (reply_bytes * length ds))
        (λ t. absurd (let z : ◌≡◌ {A = ℕ} 4 0 = rw t at f in omega arith))
        (λ t. (ds, e, rw t))

-- NOR FROM A COMMAND THAT IS REFUSED (R249)
pub refused_command : {n : ℕ} {l : List Entry} {ws : List ℕ} → Starts n l ws → {cs : List Call} → All Bytewise cs →
    (xs : List Step) (c : Command) (ys : List Step) → steps cs ≡ xs ++ (ran c ∷ ys) →
    ((execute n (after n l xs) c).reply.answer ≡ 0 → ⊥) → next n (after n l xs) (ran c) ≡ after n l xs
refused_command {n} {l} st b xs c ys q r =
    refused_leaves n (after n l xs) (going st b xs (ran c ∷ ys) q).valid c r
