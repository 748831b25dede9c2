-- Moments: in which batch a step of a list of calls lies, and that every moment of the steps is the end of a list of
-- calls (R104: the last batch cut just after its command), so that the pool's words stand there.
use Prim.Native.Nat.{ℕ, ◌+◌, ◌*◌, ◌≤◌}
use mathlib.Core.Path.{◌≡◌, refl, sym, ap, ap₂, subst, ◌∙◌}
use mathlib.Core.List.{List, [], ◌∷◌, ◌++◌, map, append_assoc}
use native.Mathlib.Omega.{arith}
use lib.Dec.{ltb}
use lib.ListN.{length, take, length-append, length-take}
use lib.Seq.{get_or-take}
use borrow.Author.Tests.{le-ltb, ltb-true, ltb-false}
use Rattle.blocks.specs.Lists.{All, end, also}
use Rattle.blocks.proofs.BoolLaws.{by_t}
use Rattle.blocks.proofs.ListLaws.{get_or_out}
use Rattle.model.specs.declared.Entry.{Entry}
use Rattle.words.specs.Bytes.{Bytes}
use Rattle.batch.specs.declared.Command.{Command}
use Rattle.batch.specs.Batch.{Parsed, parse}
use Rattle.batch.specs.Reply.{reply_bytes}
use Rattle.batch.proofs.CutLaws.{cut}
use Rattle.calls.specs.Demand.{Call, words_after_all, Bytewise, Stands, Starts}
use Rattle.calls.proofs.ClaimLaws.{demand_3_whole}
use Rattle.trace.specs.Trace.{
  Step,
  Step.cleared,
  Step.ran,
  fed,
  steps_of,
  steps,
  after,
  InBatch,
  Begins,
  Begins.no_more,
  Begins.cut_short,
  Begins.and_then,
  Words,
}
use Rattle.trace.proofs.TraceLaws.{after_calls}

-- WHERE A STEP LIES
-- an element of two lists in a row lies in one of them
module _ {A : Type 0} where
  pub data Lies (ps bs xs : List A) (z : A) (ys : List A) : Type 0 where
    in_first : (us : List A) → ps ≡ xs ++ (z ∷ us) → Lies ps bs xs z ys
    in_second : (us : List A) → xs ≡ ps ++ us → bs ≡ us ++ (z ∷ ys) → Lies ps bs xs z ys

  lies : (ps bs xs : List A) (z : A) (ys : List A) → ps ++ bs ≡ xs ++ (z ∷ ys) → Lies ps bs xs z ys
  lies [] bs xs z ys q = in_second xs refl q
  lies (a ∷ ps) bs [] z ys q = in_first ps (let d : a ≡ z = cc in ap (λ (x : A). x ∷ ps) d)
  lies (a ∷ ps) bs (x ∷ xs) z ys q =
      let d : a ≡ x = cc in
      let r : ps ++ bs ≡ xs ++ (z ∷ ys) = cc in
      more (lies ps bs xs z ys r) d
    where
      more : Lies ps bs xs z ys → a ≡ x → Lies (a ∷ ps) bs (x ∷ xs) z ys
      more (in_first us e) d = in_first us (ap₂ (λ (y : A) (t : List A). y ∷ t) d e)
      more (in_second us e f) d = in_second us (ap₂ (λ (y : A) (t : List A). y ∷ t) (sym d) e) f

-- of commands that ran
pub record Ran (cs : List Command) (xs : List Step) (c : Command) : Type 0 where
  pub earlier : List Command
  pub later : List Command
  pub all : cs ≡ earlier ++ (c ∷ later)
  pub before : xs ≡ map ran earlier

in_ran : (cs : List Command) (xs : List Step) (c : Command) (ys : List Step) → map ran cs ≡ xs ++ (ran c ∷ ys) → Ran cs xs c
in_ran [] [] c ys q = let z : ◌≡◌ {A = ℕ} 0 1 = cc in absurd (omega arith)
in_ran [] (x ∷ xs) c ys q = let z : ◌≡◌ {A = ℕ} 0 1 = cc in absurd (omega arith)
in_ran (d ∷ cs) [] c ys q =
    record { earlier = []; later = cs; all = (let e : d ≡ c = cc in ap (λ (x : Command). x ∷ cs) e); before = refl }
in_ran (d ∷ cs) (x ∷ xs) c ys q =
    let r : Ran cs xs c = in_ran cs xs c ys cc in
    let e : ran d ≡ x = cc in
    record {
      earlier = d ∷ r.earlier;
      later = r.later;
      all = ap (λ (t : List Command). d ∷ t) r.all;
      before = ap₂ (λ (y : Step) (t : List Step). y ∷ t) (sym e) r.before;
    }

-- of one call
pub record OfCall (c : Call) (xs : List Step) (d : Command) : Type 0 where
  pub bytes : List ℕ
  pub reply : List ℕ
  pub is : c ≡ Call.batch bytes reply
  pub earlier : List Command
  pub later : List Command
  pub reads : parse bytes ≡ Parsed.commands (earlier ++ (d ∷ later))
  pub room : reply_bytes * length (earlier ++ (d ∷ later)) ≤ length reply
  pub before : xs ≡ map ran earlier

no_step : (d : Step) (xs ys : List Step) → [] ≡ xs ++ (d ∷ ys) → ⊥
no_step d [] ys q = let z : ◌≡◌ {A = ℕ} 0 1 = cc in omega arith
no_step d (x ∷ xs) ys q = let z : ◌≡◌ {A = ℕ} 0 1 = cc in omega arith

no_init : (d : Command) (xs ys : List Step) → cleared ∷ [] ≡ xs ++ (ran d ∷ ys) → ⊥
no_init d [] ys q = let z : ◌≡◌ {A = ℕ} 0 1 = cc in omega arith
no_init d (x ∷ xs) ys q = no_step (ran d) xs ys cc

of_call : (c : Call) (xs : List Step) (d : Command) (ys : List Step) → steps_of c ≡ xs ++ (ran d ∷ ys) → OfCall c xs d
of_call Call.init xs d ys q = absurd (no_init d xs ys q)
of_call Call.check xs d ys q = absurd (no_step (ran d) xs ys q)
of_call (Call.list a z bs) xs d ys q = absurd (no_step (ran d) xs ys q)
of_call (Call.prepare bs out) xs d ys q = absurd (no_step (ran d) xs ys q)
of_call (Call.batch bs rs) xs d ys q = go (parse bs) refl q
  where
    go : (p : Parsed) → parse bs ≡ p → fed (length rs) p ≡ xs ++ (ran d ∷ ys) → OfCall (Call.batch bs rs) xs d
    go (Parsed.refused at) e g = absurd (no_step (ran d) xs ys g)
    go (Parsed.commands cs) e g =
        by_t (ltb (length rs) (reply_bytes * length cs)) (λ t. absurd (no_step (ran d) xs ys (rw t at g)))
        (λ t. let r : Ran cs xs d = in_ran cs xs d ys (rw t at g) in
        let h : reply_bytes * length cs ≤ length rs = ltb-false _ _ t in
        record {
          bytes = bs;
          reply = rs;
          is = refl;
          earlier = r.earlier;
          later = r.later;
          reads = e ∙ ap Parsed.commands r.all;
          room = subst (λ (x : List Command). reply_bytes * length x ≤ length rs) r.all h;
          before = r.before;
        })

pub in_batch : (cs : List Call) (xs : List Step) (d : Command) (ys : List Step) → steps cs ≡ xs ++ (ran d ∷ ys) → InBatch cs xs d
in_batch [] xs d ys q = absurd (no_step (ran d) xs ys q)
in_batch (c ∷ cs) xs d ys q = go (lies (steps_of c) (steps cs) xs (ran d) ys q) (λ us e. in_batch cs us d ys e)
  where
    go : Lies (steps_of c) (steps cs) xs (ran d) ys →
        ((us : List Step) → steps cs ≡ us ++ (ran d ∷ ys) → InBatch cs us d) → InBatch (c ∷ cs) xs d
    go (in_first us e) f =
        let r : OfCall c xs d = of_call c xs d us e in
        record {
          calls = [];
          bytes = r.bytes;
          reply = r.reply;
          rest = cs;
          call = ap (λ (x : Call). x ∷ cs) r.is;
          earlier = r.earlier;
          later = r.later;
          reads = r.reads;
          room = r.room;
          moment = r.before;
        }
    go (in_second us e g) f =
        let r : InBatch cs us d = f us g in
        record {
          calls = c ∷ r.calls;
          bytes = r.bytes;
          reply = r.reply;
          rest = r.rest;
          call = ap (λ (x : List Call). c ∷ x) r.call;
          earlier = r.earlier;
          later = r.later;
          reads = r.reads;
          room = r.room;
          moment = e ∙ ap (λ (x : List Step). steps_of c ++ x) r.moment
              ∙ sym (append_assoc (steps_of c) (steps r.calls) (map ran r.earlier));
        }

-- EVERY MOMENT IS THE END OF A LIST OF CALLS
pub nil_append : {A : Type 0} (xs : List A) → xs ++ [] ≡ xs
nil_append [] = refl
nil_append (x ∷ xs) = ap (λ (t : List _). x ∷ t) (nil_append xs)

nothing_left : (xs ys : List Step) → [] ≡ xs ++ ys → [] ≡ xs
nothing_left [] ys q = refl
nothing_left (x ∷ xs) ys q = let z : ◌≡◌ {A = ℕ} 0 1 = cc in absurd (omega arith)

module _ {A : Type 0} where
  pub data Cut (ps bs xs ys : List A) : Type 0 where
    cut_first : (us : List A) → ps ≡ xs ++ us → Cut ps bs xs ys
    cut_second : (us : List A) → xs ≡ ps ++ us → bs ≡ us ++ ys → Cut ps bs xs ys

  cuts : (ps bs xs ys : List A) → ps ++ bs ≡ xs ++ ys → Cut ps bs xs ys
  cuts [] bs xs ys q = cut_second xs refl q
  cuts (a ∷ ps) bs [] ys q = cut_first (a ∷ ps) refl
  cuts (a ∷ ps) bs (x ∷ xs) ys q =
      let d : a ≡ x = cc in
      let r : ps ++ bs ≡ xs ++ ys = cc in
      more (cuts ps bs xs ys r) d
    where
      more : Cut ps bs xs ys → a ≡ x → Cut (a ∷ ps) bs (x ∷ xs) ys
      more (cut_first us e) d = cut_first us (ap₂ (λ (y : A) (t : List A). y ∷ t) d e)
      more (cut_second us e f) d = cut_second us (ap₂ (λ (y : A) (t : List A). y ∷ t) (sym d) e) f

cut_ran : (cs : List Command) (xs ys : List Step) → map ran cs ≡ xs ++ ys →
    (us : List Command) × (vs : List Command) × (cs ≡ us ++ vs) × (xs ≡ map ran us)
cut_ran cs [] ys q = ([], cs, refl, refl)
cut_ran [] (x ∷ xs) ys q = let z : ◌≡◌ {A = ℕ} 0 1 = cc in absurd (omega arith)
cut_ran (c ∷ cs) (x ∷ xs) ys q =
    let (us, vs, e, f) = cut_ran cs xs ys cc in
    let d : ran c ≡ x = cc in
    (c ∷ us, vs, ap (λ (t : List Command). c ∷ t) e, ap₂ (λ (y : Step) (t : List Step). y ∷ t) (sym d) f)

bytes_take : {bs : List ℕ} (p : ℕ) → Bytes bs → Bytes (take p bs)
bytes_take {bs} p b = record {
  small = λ i. by_t (ltb i p)
      (λ t. rw (get_or-take p bs i 0 (ltb-true _ _ t)) (b.small i))
      (λ t. rw (get_or_out (take p bs) i (simp length-take (omega (arith, ltb-false)))) (omega arith));
}

-- calls whose steps are xs, of the calls cs
pub record Ending (cs : List Call) (xs : List Step) : Type 0 where
  pub calls : List Call
  pub begins : Begins calls cs
  pub bytewise : All Bytewise calls
  pub are : steps calls ≡ xs

none_yet : {cs : List Call} {xs : List Step} → [] ≡ xs → Ending cs xs
none_yet e = record { calls = []; begins = no_more; bytewise = end; are = e }

call_moment : (c : Call) (ds : List Call) → Bytewise c → (xs ys : List Step) → steps_of c ≡ xs ++ ys → Ending (c ∷ ds) xs
call_moment Call.init ds b [] ys q = none_yet refl
call_moment Call.init ds b (x ∷ xs) ys q =
    let d : cleared ≡ x = cc in
    record {
      calls = Call.init ∷ [];
      begins = and_then no_more;
      bytewise = also tt end;
      are = ap₂ (λ (y : Step) (t : List Step). y ∷ t) d (nothing_left xs ys cc);
    }
call_moment Call.check ds b xs ys q = none_yet (nothing_left xs ys q)
call_moment (Call.list a z bs) ds b xs ys q = none_yet (nothing_left xs ys q)
call_moment (Call.prepare bs out) ds b xs ys q = none_yet (nothing_left xs ys q)
call_moment (Call.batch bs rs) ds b xs ys q = go (parse bs) refl q
  where
    go : (p : Parsed) → parse bs ≡ p → fed (length rs) p ≡ xs ++ ys → Ending (Call.batch bs rs ∷ ds) xs
    go (Parsed.refused at) e g = none_yet (nothing_left xs ys g)
    go (Parsed.commands cs) e g =
        by_t (ltb (length rs) (reply_bytes * length cs)) (λ t. none_yet (nothing_left xs ys (rw t at g)))
        (λ t. let (us, vs, h, f) = cut_ran cs xs ys (rw t at g) in
        let (p, r) = cut bs us vs (e ∙ ap Parsed.commands h) in
        let w : reply_bytes * length cs ≤ length rs = ltb-false _ _ t in
        let k : length cs ≡ length us + length vs = ap length h ∙ length-append us vs in
        let m : reply_bytes * length us ≤ length rs = omega arith in
        record {
          calls = Call.batch (take p bs) rs ∷ [];
          begins = cut_short p;
          bytewise = also (bytes_take p b) end;
          are = nil_append (fed (length rs) (parse (take p bs))) ∙ rw (r, le-ltb (length rs) (reply_bytes * length us) m) (sym f);
        })

pub ending : (cs : List Call) → All Bytewise cs → (xs ys : List Step) → steps cs ≡ xs ++ ys → Ending cs xs
ending [] b xs ys q = none_yet (nothing_left xs ys q)
ending (c ∷ cs) (also b bs) xs ys q = go (cuts (steps_of c) (steps cs) xs ys q) (λ us e. ending cs bs us ys e)
  where
    go : Cut (steps_of c) (steps cs) xs ys → ((us : List Step) → steps cs ≡ us ++ ys → Ending cs us) →
        Ending (c ∷ cs) xs
    go (cut_first us e) f = call_moment c cs b xs us e
    go (cut_second us e g) f =
        let r : Ending cs us = f us g in
        record {
          calls = c ∷ r.calls;
          begins = and_then r.begins;
          bytewise = also b r.bytewise;
          are = ap (λ (t : List Step). steps_of c ++ t) r.are ∙ sym e;
        }

-- THE WORDS OF THE POOL at every moment (R103, R104)
pub words_at_lem : {n : ℕ} {l : List Entry} {ws : List ℕ} → Starts n l ws → {cs : List Call} → All Bytewise cs →
    (xs ys : List Step) → steps cs ≡ xs ++ ys → Words n l ws cs xs
words_at_lem {n} {l} {ws} st {cs} b xs ys q =
    let r : Ending cs xs = ending cs b xs ys q in
    record {
      calls = r.calls;
      begins = r.begins;
      are = r.are;
      stand =
          subst (λ (x : List Entry). Stands n x (words_after_all ws r.calls))
          (sym (after_calls n l r.calls) ∙ ap (after n l) r.are) (demand_3_whole st r.bytewise).words;
    }
