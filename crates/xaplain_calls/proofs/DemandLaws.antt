-- Demand 3's shape for the plain engine: for every list of calls on the slices, those after it are the columns of the list fed the
-- same calls, refused calls and commands alter nothing, and shortage is exact (R308).
use Prim.Native.Nat.{ℕ, ◌*◌, ◌≤◌}
use mathlib.Core.Path.{◌≡◌, refl, sym, ap, subst, ◌∙◌}
use mathlib.Core.List.{List, [], ◌∷◌, ◌++◌, append_assoc}
use native.Mathlib.Omega.{arith}
use lib.Dec.{ltb}
use lib.ListN.{length, take, drop, length-append}
use borrow.Author.Tests.{eq-eqb, le-ltb, lt-ltb, ltb-false}
use Rattle.answers.specs.Answers.{result_of, done}
use Rattle.blocks.specs.Lists.{All, end, also}
use Rattle.blocks.proofs.BoolLaws.{by_t}
use Rattle.words.specs.Bytes.{Bytes}
use Rattle.model.specs.declared.Entry.{Entry}
use Rattle.model.specs.Model as M
use Rattle.batch.specs.declared.Command.{Command}
use Rattle.batch.specs.Fits.{Fits}
use Rattle.batch.specs.Batch.{Parsed, parse}
use Rattle.batch.specs.Reply.{reply_bytes}
use Rattle.batch.proofs.BoundLaws.{AllFit, parse_fits}
use Rattle.batch.proofs.CutLaws.{cut}
use Rattle.commands.specs.Batches.{replies_by, list_by, feed_by}
use Rattle.xaplain.specs.Slices.{Slices, columns, Prescribes, max_room, list_in, is_sized, check_answer, init_slices}
use Rattle.xaplain.specs.Engine.{execute}
use Rattle.xaplain.proofs.KeepLaws.{Keeps, execute_keeps}
use Rattle.xaplain_calls.specs.Calls.{Called, run, run_parsed}
use Rattle.xaplain_calls.specs.Refusal.{Sized}
use Rattle.xaplain_calls.specs.Demand.{Call, slices_after, slices_after_all, list_after, list_after_all, Bytewise, Commanded, AtCommand, AtBatch, AtCall, Demand3, Starts, Starts.fresh, Starts.checked}
use Rattle.xaplain_calls.proofs.CheckedLaws.{is_sized_lem, sized_is, read_is, prescribed_0, accepted, room_is, sized_of, by_room}
use Rattle.xaplain_calls.proofs.LeaveLaws.{refused_leaves, short_exact, reserve_exact}

all_split : {A : Type 0} {P : A → Type 0} (ds : List A) (c : A) (es : List A) → All P (ds ++ (c ∷ es)) → All P ds × P c
all_split [] c es (also p a) = (end, p)
all_split (d ∷ ds) c es (also p a) = let (x, y) = all_split ds c es a in (also p x, y)

-- THE LIST stays valid and fits
keeps_all : {room : ℕ} {cs : List Command} {l : List Entry} → All Fits cs → Keeps room l → Keeps room (list_by (execute room) l cs)
keeps_all end k = k
keeps_all {room} {l = l} (also {x = c} f fs) k = keeps_all fs (execute_keeps room l k c f)

list_last : (room : ℕ) (l : List Entry) (cs : List Command) (c : Command) →
    list_by (execute room) l (cs ++ (c ∷ [])) ≡ (execute room (list_by (execute room) l cs) c).list
list_last room l [] c = refl
list_last room l (d ∷ cs) c = list_last room (execute room l d).list cs c

pub columns_by : {room : ℕ} {l : List Entry} → Keeps room l → Prescribes room l (columns room l)
columns_by k = record { valid = k.valid; fits = k.fits; slices_are = refl }

held : {room : ℕ} {l : List Entry} {s : Slices} → Prescribes room l s → Keeps room l
held p = record { valid = p.valid; fits = p.fits }

as_columns : {room : ℕ} {l : List Entry} {s : Slices} → Keeps room l → s ≡ columns room l → Prescribes room l s
as_columns k e = record { valid = k.valid; fits = k.fits; slices_are = e }

-- WHAT A RUN COMES TO on slices that a list prescribes
module _ {room : ℕ} {l : List Entry} {s : Slices} (hi : room ≤ max_room) (p : Prescribes room l s) where
  sized : Sized s
  sized = sized_of hi p

  listed : list_in s ≡ l
  listed = read_is s sized (by_room p)

  pub run_as : (bs rs : List ℕ) → run s bs rs ≡ run_parsed s rs (parse bs)
  unfolding run
  run_as bs rs = rw (eq-eqb (check_answer s) 0 (prescribed_0 s sized (by_room p)))

  -- a batch that runs
  module _ (bs rs : List ℕ) (cs : List Command) (e : parse bs ≡ Parsed.commands cs) (h : reply_bytes * length cs ≤ length rs) where
    ran_result : (run s bs rs).result ≡ result_of done (length cs)
    ran_result =
        ap (λ (c : Called). c.result) (run_as bs rs) ∙ rw (e, le-ltb (length rs) (reply_bytes * length cs) h) refl

    pub ran_slices : (run s bs rs).slices ≡ columns room (list_by (execute room) l cs)
    ran_slices =
        ap (λ (c : Called). c.slices) (run_as bs rs)
        ∙ rw (e, le-ltb (length rs) (reply_bytes * length cs) h, listed, room_is p) refl

    pub ran_reply : (run s bs rs).reply ≡ replies_by (execute room) l cs ++ drop (reply_bytes * length cs) rs
    ran_reply =
        ap (λ (c : Called). c.reply) (run_as bs rs)
        ∙ rw (e, le-ltb (length rs) (reply_bytes * length cs) h, listed, room_is p) refl

  -- one batch
  batch_stands : (bs rs : List ℕ) (q : Parsed) → parse bs ≡ q → AllFit q →
      Prescribes room (feed_by (execute room) l (length rs) q) (run s bs rs).slices
  batch_stands bs rs (Parsed.refused at) e f =
      subst (Prescribes room l) (sym (ap (λ (c : Called). c.slices) (run_as bs rs ∙ ap (run_parsed s rs) e))) p
  batch_stands bs rs (Parsed.commands cs) e f =
      by_t (ltb (length rs) (reply_bytes * length cs))
      (λ t. rw t (subst (Prescribes room l)
      (sym (ap (λ (c : Called). c.slices) (run_as bs rs ∙ ap (run_parsed s rs) e) ∙ rw t refl)) p))
      (λ t. rw t (as_columns (keeps_all f (held p)) (ran_slices bs rs cs e (ltb-false _ _ t))))

  init_is : init_slices s ≡ columns room []
  init_is = rw (sized_is s sized, room_is p) refl

  -- one call
  pub call_stands : (c : Call) → Bytewise c → Prescribes room (list_after room l c) (slices_after s c)
  call_stands Call.init b = as_columns (record { valid = M.done; fits = omega arith }) init_is
  call_stands Call.check b = p
  call_stands (Call.batch bs rs) b = batch_stands bs rs (parse bs) refl (parse_fits b)

-- ONE COMMAND
commanded : {room : ℕ} {l : List Entry} {s s' : Slices} (c : Command) → Fits c → Prescribes room l s →
    s' ≡ columns room (execute room l c).list → Commanded room l c s s'
commanded {room} {l} {s} {s'} c f p e = record {
  before = p;
  after = as_columns (execute_keeps room l (held p) c f) e;
  refused = λ n. e ∙ ap (columns room) (refused_leaves room l p.valid c n) ∙ sym p.slices_are;
  shortage = λ i k w q. short_exact room l i k w;
  reserve_shortage = λ i q. reserve_exact room l i;
}

-- ONE CALL
module _ {room : ℕ} {l : List Entry} {s : Slices} (hi : room ≤ max_room) (p : Prescribes room l s) where
  at_command : (bs rs : List ℕ) → Bytes bs → (ds : List Command) (c : Command) (es : List Command) →
      parse bs ≡ Parsed.commands (ds ++ (c ∷ es)) → reply_bytes * length (ds ++ (c ∷ es)) ≤ length rs →
      AtCommand room l s bs rs ds c
  at_command bs rs b ds c es e h =
      let (x, cx) = cut bs ds (c ∷ es) e in
      let (y, cy) = cut bs (ds ++ (c ∷ [])) es (e ∙ ap Parsed.commands (sym (append_assoc ds (c ∷ []) es))) in
      let (fs, f) = all_split {P = Fits} ds c es (subst AllFit e (parse_fits b)) in
      let a = length-append ds (c ∷ es) in
      let d = length-append ds (c ∷ []) in
      let sx : (run s (take x bs) rs).slices ≡ columns room (list_by (execute room) l ds) =
      ran_slices hi p (take x bs) rs ds cx (omega arith) in
      let sy : (run s (take y bs) rs).slices ≡ columns room (execute room (list_by (execute room) l ds) c).list =
      ran_slices hi p (take y bs) rs (ds ++ (c ∷ [])) cy (omega arith) ∙ ap (columns room) (list_last room l ds c) in
      record {
        from = x;
        to = y;
        cut_from = cx;
        cut_to_lem = cy;
        does = commanded c f (as_columns (keeps_all fs (held p)) sx) sy;
      }

  at_batch : (bs rs : List ℕ) → Bytes bs → (q : Parsed) → parse bs ≡ q → AtBatch room l s bs rs q
  at_batch bs rs b (Parsed.refused at) e = run_as hi p bs rs ∙ ap (run_parsed s rs) e
  at_batch bs rs b (Parsed.commands cs) e = (
    λ h. run_as hi p bs rs ∙ rw (e, lt-ltb (length rs) (reply_bytes * length cs) h) refl,
    λ h. record {
      result_is = ran_result hi p bs rs cs e h;
      reply_is = ran_reply hi p bs rs cs e h;
      each = λ ds c es q. at_command bs rs b ds c es (e ∙ ap Parsed.commands q)
          (subst (λ (x : List Command). reply_bytes * length x ≤ length rs) q h);
    },
  )

  at_call : (c : Call) → Bytewise c → AtCall room l s c
  at_call Call.init b = rw (sized_is s (sized_of hi p)) refl
  at_call Call.check b = ap (λ (a : ℕ). result_of a 0) (prescribed_0 s (sized_of hi p) (by_room p))
  at_call (Call.batch bs rs) b = at_batch bs rs b (parse bs) refl

-- ALL CALLS
pub calls_stand : {room : ℕ} {cs : List Call} {l : List Entry} {s : Slices} → room ≤ max_room → Prescribes room l s →
    All Bytewise cs → Prescribes room (list_after_all room l cs) (slices_after_all s cs)
calls_stand hi p end = p
calls_stand hi p (also {x = c} b bs) = calls_stand hi (call_stands hi p c b) bs

-- how slices start
pub record Started (room : ℕ) (l : List Entry) (s : Slices) : Type 0 where
  pub most : room ≤ max_room
  pub stands : Prescribes room l s

pub started : {room : ℕ} {l : List Entry} {s : Slices} → Starts room l s → Started room l s
started (fresh s e) =
    by_t (is_sized s)
    (λ t. record { most = (is_sized_lem s t).most; stands = as_columns (record { valid = M.done; fits = omega arith }) (rw t refl) })
    (λ t. absurd (let z : ◌≡◌ {A = ℕ} 1 0 = rw t at e in omega arith))
started (checked s w e) = let (z, p) = accepted s w e in record { most = z.most; stands = p }

pub plain_demand_3 : {room : ℕ} {l : List Entry} {s : Slices} → Starts room l s → {cs : List Call} → All Bytewise cs →
    Demand3 room l s cs
plain_demand_3 {room} {l} {s} st {cs} b =
    let t : Started room l s = started st in
    record {
      slices = calls_stand t.most t.stands b;
      calls = λ ds c es e. let (bs, bc) = all_split {P = Bytewise} ds c es (subst (All Bytewise) e b) in
          at_call t.most (calls_stand t.most t.stands bs) c bc;
    }
