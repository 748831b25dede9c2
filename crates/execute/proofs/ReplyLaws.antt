-- What each command comes to, test by test as the code has them.
use Prim.Native.Nat.{ℕ, ◌-◌, ◌^◌, ◌≤◌, ◌<◌}
use mathlib.Core.Path.{◌≡◌, refl, sym, ap, subst, ◌∙◌}
use mathlib.Core.Bool.{Bool, true, false}
use mathlib.Core.Logic.{◌≢◌}
use mathlib.Core.List.{List}
use mathlib.Core.Option.{Option, none, some}
use native.Mathlib.Omega.{arith}
use lib.ListN.{length}
use lib.Dec.{leb, T}
use borrow.Author.Tests.{leb-true, leb-false, lt-ltb, le-ltb, le-leb, lt-leb, eq-eqb, ne_eqb}
use Rattle.blocks.specs.Choice.{pick, either}
use Rattle.blocks.proofs.BoolLaws.{by_t, clash, is_false, either_e}
use Rattle.model.specs.declared.Entry.{Entry}
use Rattle.model.specs.Model.{covering, present, covered, storable, enterable, reserved_word, max_order, aligned, store, erase, remark, mark_count, matched_mark}
use Rattle.model.specs.ByBlock as B
use Rattle.model.proofs.AlignedLaws.{store_is}
use Rattle.model.proofs.ValidLaws.{storable_enters}
use Rattle.tree.specs.Tree.{nodes, needed}
use Rattle.marks.proofs.RemarkLaws.{new_nodes_remark, places_remark, places_then_remark}
use Rattle.layout.specs.Places.{Places, new_places, prune, free_count, render}
use Rattle.layout.specs.WellFormed.{WellFormed}
use Rattle.freenodes.specs.FreeNodes.{FreeMap}
use Rattle.layout.proofs.PlacesLaws.{free_places}
use Rattle.layout.proofs.StayLaws.{same_places, places_prune}
use Rattle.lookup.specs.Load.{load, loaded, depth}
use Rattle.lookup.specs.Find.{any_mark, find}
use Rattle.std.specs.Prelude.{Some, Ok, Err}
use Rattle.std.proofs.lemmas.Option.{none-some, same_Some}
use Rattle.store.specs.declared.Refused.{Refused}
use Rattle.store.specs.Stored.{Stored, Holding, Stores, Reserves, taken, tried}
use Rattle.store.proofs.AfterLaws.{after_done}
use Rattle.freenodes.proofs.FollowLaws.{map_stays}
use Rattle.erase.proofs.FreedLaws.{map_remark}
use Rattle.batch.specs.declared.Command.{Command}
use Rattle.batch.specs.declared.Command.TheVariants.{Store, Load, Erase, Mark, Unmark, Find, Reserve}
use Rattle.batch.specs.declared.Reply.{Reply}
use Rattle.batch.specs.Reply.{answered, store_reply, load_reply, erase_reply, mark_reply, unmark_reply, find_reply, reserve_reply}
use Rattle.execute.specs.Execute.{execute, finding}
use Rattle.commands.specs.Commands.{Executed, leave, refuse, reply_of, marking}
use Rattle.answers.specs.Answers.{bad_order, bad_entry, not_aligned, bad_mark, first_above_last, no_budget, too_few_nodes}
use Rattle.execute.proofs.ExecuteLaws.{index_aligned, erase_new, short_11, enough_0, taken_15, reserve_11, reserve_0}
use Rattle.execute.specs.Promised.{loaded_reply, reserved_reply, putting, Put, put_of, remarking, reply_to, words_to, as_stored, Settles, Executes}
use Rattle.commands.specs.Replies.{covered_reply}

-- REPLIES
pub loaded_is : (t d : ℕ) (o : Option Entry) → loaded_reply t (loaded d o) ≡ reply_of t d o
loaded_is t d none = refl
loaded_is t d (some e) = refl

pub covered_is : (t : ℕ) (o : Option Entry) → covered_reply t (covered o) ≡ reply_of t 0 o
covered_is t none = refl
covered_is t (some e) = refl

module _ (n : ℕ) (l : List Entry) where
  pub load_runs : (i : ℕ) → execute n l (Load i) ≡ leave l (loaded_reply load_reply (load l i))
  unfolding execute
  load_runs i = ap (leave l) (sym (loaded_is load_reply (depth l i) (present (covering l i))))

  module _ (a z f k : ℕ) where
    pub find_mark : any_mark < f → execute n l (Find a z f k) ≡ refuse l find_reply bad_mark
    unfolding execute
    find_mark h = rw (lt-ltb any_mark f h)

    pub find_first : f ≤ any_mark → z < a → execute n l (Find a z f k) ≡ refuse l find_reply first_above_last
    unfolding execute
    find_first h g = rw (le-ltb any_mark f h, lt-ltb z a g)

    pub find_budget : f ≤ any_mark → a ≤ z → k ≡ 0 → execute n l (Find a z f k) ≡ refuse l find_reply no_budget
    unfolding execute
    find_budget h g e = rw (le-ltb any_mark f h, le-ltb z a g, eq-eqb k 0 e)

    pub find_runs : f ≤ any_mark → a ≤ z → k ≢ 0 →
        execute n l (Find a z f k) ≡ leave l (finding find_reply (find l a z f k))
    unfolding execute
    find_runs h g e = rw (le-ltb any_mark f h, le-ltb z a g, ne_eqb k 0 e)

  module _ (i m : ℕ) where
    pub remark_above : (on : Bool) → mark_count ≤ m →
        execute n l (remarking i m on) ≡ refuse l (pick on mark_reply unmark_reply) bad_mark
    unfolding execute
    remark_above true h = rw (le-leb mark_count m h)
    remark_above false h = rw (le-leb mark_count m h)

    pub remark_runs : (on : Bool) → m < mark_count →
        execute n l (remarking i m on) ≡ marking (pick on mark_reply unmark_reply) l i m on
    unfolding execute
    remark_runs true h = rw (lt-leb mark_count m h)
    remark_runs false h = rw (lt-leb mark_count m h)

-- WORDS
-- the words after a command by the list that it leaves
pub words_after_lem : {ws : List ℕ} (s : WellFormed ws) (c : Command) {l : List Entry} →
    (execute s.n s.list c).list ≡ l → words_to s c ≡ render l (new_places s.list l s.places) s.n
words_after_lem s c e = ap (λ (l : List Entry). render l (new_places s.list l s.places) s.n) e

-- a command that leaves the list leaves the words
pub leaves : {ws : List ℕ} (s : WellFormed ws) (c : Command) {r : Reply} →
    execute s.n s.list c ≡ leave s.list r → {q : Reply} → q ≡ r → Executes s c q ws
leaves s c e q = record {
  reply_is = q ∙ sym (ap (λ (x : Executed). x.reply) e);
  words_are =
      s.words_are
      ∙ ap (λ (os : Places). render s.list os s.n) (sym (same_places s.list s.placed))
      ∙ sym (words_after_lem s c (ap (λ (x : Executed). x.list) e));
}

-- a command that changes a mark
pub remarks : {ws ws' : List ℕ} (s : WellFormed ws) (c : Command) (t i m : ℕ) (b : Bool) {q : Reply} →
    execute s.n s.list c ≡ marking t s.list i m b →
    q ≡ covered_reply t (covered (present (covering (remark s.list i m b) i))) →
    ws' ≡ render (remark s.list i m b) s.places s.n → Executes s c q ws'
remarks s c t i m b e r w = record {
  reply_is = r ∙ covered_is t (present (covering (remark s.list i m b) i)) ∙ sym (ap (λ (x : Executed). x.reply) e);
  words_are =
      w
      ∙ ap (λ (os : Places). render (remark s.list i m b) os s.n) (sym (places_remark s.list i m b s.placed))
      ∙ sym (words_after_lem s c (ap (λ (x : Executed). x.list) e));
}

-- back from such a command: the words, and the reply with the tag of a store's
pub unmarked_words : {ws ws' : List ℕ} (s : WellFormed ws) (i m : ℕ) {q : Reply} → m < mark_count →
    Executes s (remarking i m false) q ws' → ws' ≡ render (remark s.list i m false) s.places s.n
unmarked_words s i m h x =
    x.words_are
    ∙ words_after_lem s (remarking i m false) (ap (λ (y : Executed). y.list) (remark_runs s.n s.list i m false h))
    ∙ ap (λ (os : Places). render (remark s.list i m false) os s.n) (places_remark s.list i m false s.placed)

pub unmarked_reply : {ws ws' : List ℕ} (s : WellFormed ws) (i m : ℕ) {q : Reply} → m < mark_count →
    present (covering (remark s.list i m false) i) ≡ covering (remark s.list i m false) i →
    Executes s (remarking i m false) q ws' →
    as_stored q ≡ covered_reply store_reply (covered (covering (remark s.list i m false) i))
unmarked_reply s i m h p x =
    ap as_stored (x.reply_is ∙ ap (λ (y : Executed). y.reply) (remark_runs s.n s.list i m false h)
    ∙ ap (reply_of unmark_reply 0) p)
    ∙ go (covering (remark s.list i m false) i)
  where
    go : (o : Option Entry) → as_stored (reply_of unmark_reply 0 o) ≡ covered_reply store_reply (covered o)
    go none = refl
    go (some e) = refl

-- an erase
pub erases : {ws ws' : List ℕ} (s : WellFormed ws) (i : ℕ) {q : Reply} →
    q ≡ covered_reply erase_reply (covered (covering s.list i)) →
    ws' ≡ render (erase s.list i) (prune (erase s.list i) s.places) s.n → Executes s (Erase i) q ws'
unfolding execute
erases s i r w = record {
  reply_is = r ∙ covered_is erase_reply (covering s.list i);
  words_are =
      w
      ∙ ap (λ (os : Places). render (erase s.list i) os s.n)
      (sym (places_prune s.list (erase s.list i) s.places (erase_new i s.valid)));
}

-- A STORE
module _ (n : ℕ) (l : List Entry) (i k w : ℕ) where
  pub store_order : max_order < k → execute n l (Store i k w) ≡ refuse l store_reply bad_order
  unfolding execute
  store_order h = rw (lt-ltb max_order k h)

  pub store_index : k ≤ max_order → aligned k i ≡ false → execute n l (Store i k w) ≡ refuse l store_reply not_aligned
  unfolding execute
  store_index h a = rw (le-ltb max_order k h, a)

  pub store_word : k ≤ max_order → aligned k i ≡ true → storable w ≡ false →
      execute n l (Store i k w) ≡ refuse l store_reply bad_entry
  unfolding execute
  store_word h a e = rw (le-ltb max_order k h, a, e)

-- its last step, by what it came to
module _ {ws : List ℕ} (s : WellFormed ws) (i : ℕ) {x : Stored} {q : Reply} where
  pub settles_done : {ws' : List ℕ} {e : Entry} → x ≡ Ok e →
      (covering s.list i ≡ some e → (q ≡ covered_reply store_reply (covered (covering (remark s.list i matched_mark false) i)))
      × (ws' ≡ render (remark s.list i matched_mark false) s.places s.n)) →
      Settles s i x q ws'
  settles_done {e = e} d f = record {
    done = λ {e = y} o c. let g : y ≡ e = cc in f (subst (λ (z : Entry). covering s.list i ≡ some z) g c);
    short = λ o. let w : ◌≡◌ {A = ℕ} 0 1 = cc in absurd (omega arith);
  }

  pub settles_refused : {y : Refused} → x ≡ Err y → q ≡ answered store_reply too_few_nodes 0 0 → Settles s i x q ws
  settles_refused d e = record {
    done = λ o c. let w : ◌≡◌ {A = ℕ} 0 1 = cc in absurd (omega arith);
    short = λ _. (e, refl);
  }

-- done, or short of nodes: exactly as the free nodes are enough. Crate store leaves ws₁, in ws' mark 2 is clear as well
module _ {ws ws₁ : List ℕ} (s : WellFormed ws) (i k w : ℕ) {x : Stored} (i< : i < 2 ^ 64) (w< : w < 2 ^ 64)
    (k≤ : k ≤ max_order) (st : storable w ≡ true)
    (r : Stores s.n s.list s.places (B.store s.list i k w) i ws ws₁ x) where
  abbrev l₁ : List Entry
  l₁ = B.store s.list i k w

  abbrev l₂ : List Entry
  l₂ = remark l₁ i matched_mark false

  abbrev Enough : Type 0
  Enough = needed s.list l₁ ≤ free_count s.places

  abbrev Lacking : Type 0
  Lacking = free_count s.places < needed s.list l₁

  by_room : {A : Type 0} → (Enough → A) → (Lacking → A) → A
  by_room f g =
      by_t (leb (needed s.list l₁) (free_count s.places)) (λ d. f (leb-true _ _ d)) (λ d. g (leb-false _ _ d))

  abbrev done_formed : Enough → WellFormed ws₁
  done_formed d = after_done s i k w i< k≤ (subst T (sym st) tt) w< r d

  pub store_formed : WellFormed ws₁
  store_formed = by_room done_formed (λ d. subst WellFormed (sym (r.short d).1) s)

  module _ {ws' : List ℕ} {q : Reply} (z : (t : WellFormed ws₁) → Settles t i x q ws') where
    settled : (d : Enough) → (q ≡ covered_reply store_reply (covered (covering l₂ i)))
        × (ws' ≡ render l₂ (new_places s.list l₁ s.places) s.n)
    settled d = (z (done_formed d)).done (r.done d).outcome_is (r.done d).covering_is

    pub store_mapped : {ms : List ℕ} → FreeMap ws₁ ms → FreeMap ws' ms
    store_mapped {ms} u =
        by_room (λ d. map_remark (done_formed d) i matched_mark false (omega arith) (settled d).1 u)
        (λ d. map_stays ((z store_formed).short (r.short d).0).1 u)

    module _ (al : aligned k i ≡ true) where
      free : free_count s.places ≡ s.n - length (nodes s.list)
      free = omega (arith, free_places s.n s.list s.places s.placed)

      new_is : store s.list i k w ≡ l₂
      new_is = store_is i k al s.list w st

      -- clearing a mark takes no node, and no node goes
      same_needed : needed s.list (store s.list i k w) ≡ needed s.list l₁
      same_needed = ap (needed s.list) new_is ∙ ap length (new_nodes_remark s.list l₁ i matched_mark false)

      full : Enough → Executes s (Store i k w) q ws'
      full d =
          let a : execute s.n s.list (Store i k w) ≡ record { reply = reply_of store_reply 0 (covering l₂ i); list = l₂ } =
          enough_0 s.n s.list i k w k≤ al st (omega (arith, free, same_needed))
          ∙ ap (λ (l : List Entry). record { reply = reply_of store_reply 0 (covering l i); list = l }) new_is in
          record {
            reply_is =
                (settled d).0 ∙ covered_is store_reply (covering l₂ i) ∙ sym (ap (λ (y : Executed). y.reply) a);
            words_are =
                (settled d).1
                ∙ ap (λ (os : Places). render l₂ os s.n)
                (sym (places_then_remark s.list l₁ s.places i matched_mark false))
                ∙ sym (words_after_lem s (Store i k w) (ap (λ (y : Executed). y.list) a));
          }

      less : Lacking → Executes s (Store i k w) q ws'
      less d =
          let (o, f) = r.short d in
          let (e, g) = (z store_formed).short o in
          subst (λ (v : List ℕ). Executes s (Store i k w) q v) (sym (g ∙ f))
          (leaves s (Store i k w)
          (short_11 s.n s.list i k w k≤ al st (omega (arith, free, same_needed))) e)

      pub stores : Executes s (Store i k w) q ws'
      stores = by_room full less

-- A RESERVATION: done, or short of nodes, exactly as the free nodes are enough
module _ {ws : List ℕ} (s : WellFormed ws) (i : ℕ) where
  abbrev reserved_list : List Entry
  reserved_list = store s.list i 0 reserved_word

  module _ {ws' : List ℕ} {q : Reply} {x : Stored} (c : covering s.list i ≡ none)
      (r : Stores s.n s.list s.places reserved_list i ws ws' x) (e : q ≡ reserved_reply x) where
    free_count_lem : free_count s.places ≡ s.n - length (nodes s.list)
    free_count_lem = omega (arith, free_places s.n s.list s.places s.placed)

    reserve_full : needed s.list reserved_list ≤ free_count s.places → Executes s (Reserve i) q ws'
    reserve_full d =
        let o : Holding s.n s.list s.places reserved_list i ws' x = r.done d in
        let a : execute s.n s.list (Reserve i)
        ≡ record { reply = reply_of reserve_reply 0 (covering reserved_list i); list = reserved_list } =
        reserve_0 s.n s.list i c (omega (arith, free_count_lem)) in
        record {
          reply_is =
              e ∙ ap reserved_reply o.outcome_is ∙ sym (ap (reply_of reserve_reply 0) o.covering_is)
              ∙ sym (ap (λ (y : Executed). y.reply) a);
          words_are = o.words_are ∙ sym (words_after_lem s (Reserve i) (ap (λ (y : Executed). y.list) a));
        }

    reserve_less : free_count s.places < needed s.list reserved_list → Executes s (Reserve i) q ws'
    reserve_less d =
        let (o, f) = r.short d in
        subst (λ (v : List ℕ). Executes s (Reserve i) q v) (sym f)
        (leaves s (Reserve i) (reserve_11 s.n s.list i c (omega (arith, free_count_lem))) (e ∙ ap reserved_reply o))

  pub reserves : {ws' : List ℕ} {q : Reply} {x : Stored} → Reserves s.n s.list s.places i ws ws' x →
      q ≡ reserved_reply x → Executes s (Reserve i) q ws'
  reserves {q = q} (taken e c w o) r = subst (λ (v : List ℕ). Executes s (Reserve i) q v) (sym w)
      (leaves s (Reserve i) (taken_15 s.n s.list i c) (r ∙ ap reserved_reply o))
  reserves (tried c h) r =
      by_t (leb (needed s.list reserved_list) (free_count s.places)) (λ d. reserve_full c h r (leb-true _ _ d))
      (λ d. reserve_less c h r (leb-false _ _ d))

-- COMMANDS THAT ONLY READ
pub leaves_words : {ws : List ℕ} (s : WellFormed ws) (c : Command) {q : Reply} →
    (execute s.n s.list c).list ≡ s.list → q ≡ reply_to s c → Executes s c q ws
leaves_words s c {q} e r = leaves s c {r = reply_to s c} (λ i. record { reply = reply_to s c; list = e i }) r

-- the command that a match found
pub by_command : {ws ws' : List ℕ} (s : WellFormed ws) {c d : Command} {q : Reply} → c ≡ d → Executes s d q ws' →
    Executes s c q ws'
by_command {ws' = ws'} s {q = q} e x = subst (λ (y : Command). Executes s y q ws') (sym e) x

-- A STORE OR A RESERVATION
either_both : (a b : Bool) → either a b ≡ false → (a ≡ false) × (b ≡ false)
either_both true b e = absurd (clash refl e)
either_both false b e = (refl, e)

module _ (i k w : ℕ) {b : Bool} where
  pub put_store : {ws ws' : List ℕ} (s : WellFormed ws) {q : Reply} → b ≡ false → Executes s (Store i k w) q ws' →
      Executes s (putting i k w b) q ws'
  put_store s f x = by_command s (ap (putting i k w) f) x

  pub put_reserve : {ws ws' : List ℕ} (s : WellFormed ws) {q : Reply} → b ≡ true → Executes s (Reserve i) q ws' →
      Executes s (putting i k w b) q ws'
  put_reserve s t x = by_command s (ap (putting i k w) t) x

  module _ (f : b ≡ true → (k ≡ 0) × (w ≡ reserved_word)) where
    -- what refuses a store's fields does not refuse a reservation's
    pub put_order : max_order < k → b ≡ false
    put_order h = is_false (λ t. let o : k ≡ 0 = (f t).0 in omega (arith, h, o))

    pub put_index : aligned k i ≡ false → b ≡ false
    put_index a = is_false (λ t. clash (subst (λ (y : ℕ). aligned y i ≡ true) (sym (f t).0) (index_aligned i)) a)

    pub put_enters : either b (storable w) ≡ true → T (enterable k w)
    put_enters e = either_e b (storable w) e
        (λ t. subst (λ (y : ℕ). T (enterable y w)) (sym (f t).0) (subst (λ (y : ℕ). T (enterable 0 y)) (sym (f t).1) tt))
        (λ t. storable_enters k w (subst T (sym t) tt))

  pub put_word : either b (storable w) ≡ false → (b ≡ false) × (storable w ≡ false)
  put_word e = either_both b (storable w) e

  pub put_storable : either b (storable w) ≡ true → b ≡ false → storable w ≡ true
  put_storable e f = either_e b (storable w) e (λ t. absurd (clash t f)) (λ t. t)

-- the words stay after the command
pub words_stay : {ws ws₁ ws' : List ℕ} (s : WellFormed ws) {c : Command} {q : Reply} → ws' ≡ ws₁ → Executes s c q ws₁ →
    Executes s c q ws'
words_stay s {c} {q} e x = subst (λ (v : List ℕ). Executes s c q v) (sym e) x

-- the command, by what it asks of a store
pub put_is : (c : Command) {p : Put} → Some p ≡ put_of c → c ≡ putting p.index p.order p.word p.reserve
put_is (Store i k w) e = subst (λ (y : Put). Store i k w ≡ putting y.index y.order y.word y.reserve) (same_Some _ _ (sym e)) refl
put_is (Load i) e = absurd (none-some _ (sym e))
put_is (Erase i) e = absurd (none-some _ (sym e))
put_is (Mark i m) e = absurd (none-some _ (sym e))
put_is (Unmark i m) e = absurd (none-some _ (sym e))
put_is (Find a z f k) e = absurd (none-some _ (sym e))
put_is (Reserve i) e = subst (λ (y : Put). Reserve i ≡ putting y.index y.order y.word y.reserve) (same_Some _ _ (sym e)) refl
