-- A command keeps a state: the list stays valid, and every node of its tree stands at one number.
use Prim.Native.Nat.{ℕ, ◌-◌, ◌^◌, ◌≤◌, ◌<◌, ◌%◌}
use mathlib.Core.Path.{◌≡◌, refl, sym, ap, subst}
use mathlib.Core.Bool.{Bool, true, false, not}
use mathlib.Core.List.{List, []}
use mathlib.Core.Option.{Option, none, some}
use native.Mathlib.Omega.{arith}
use lib.Dec.{leb, ltb, eqb, T, lit<}
use lib.ListN.{length}
use borrow.Author.Tests.{ltb-false, leb-false, lt-ltb, le-ltb, eq-eqb}
use Rattle.blocks.specs.Lists.{All, end, also}
use Rattle.blocks.proofs.BoolLaws.{by_t, not-false, T_true}
use Rattle.model.specs.declared.Entry.{Entry}
use Rattle.model.specs.Model.{
  Valid,
  storable,
  reserved_word,
  max_order,
  aligned,
  mark_count,
  matched_mark,
  covering,
  store,
  erase,
  remark,
  with_mark,
}
use Rattle.model.proofs.ValidLaws.{store_valid, store_at_valid, erase_valid, erase_clear, erase_none}
use Rattle.model.proofs.AlignedLaws.{store_is, bare_is}
use Rattle.tree.specs.Tree.{nodes, new_nodes, needed}
use Rattle.tree.proofs.ChangeLaws.{clear_new}
use Rattle.tree.proofs.RelabelLaws.{new_nodes_map}
use Rattle.layout.proofs.PlacesLaws.{placed_new, free_places}
use Rattle.layout.proofs.StayLaws.{none_new}
use Rattle.lookup.specs.Find.{any_mark}
use Rattle.marks.proofs.RemarkLaws.{sorted_remark}
use Rattle.batch.specs.declared.Command.{Command}
use Rattle.batch.specs.declared.Command.TheVariants.{Store, Load, Erase, Mark, Unmark, Find, Reserve}
use Rattle.batch.specs.Reply.{reply_tag, reserve_reply}
use Rattle.batch.specs.Fits.{Fits}
use Rattle.execute.specs.Execute.{execute, short, tree}
use Rattle.commands.specs.Commands.{refuse, reply_of, reserving}
use Rattle.answers.specs.Answers.{too_few_nodes, is_covered}
use Rattle.execute.specs.State.{State, Kept, next, states}
use Rattle.tree.proofs.ReadLaws.{over_none}

-- COMMANDS THAT ONLY READ leave the list
pub load_list : (n : ℕ) (l : List Entry) (i : ℕ) → (execute n l (Load i)).list ≡ l
unfolding execute
load_list n l i = refl

pub find_list : (n : ℕ) (l : List Entry) (a z f k : ℕ) → (execute n l (Find a z f k)).list ≡ l
unfolding execute
find_list n l a z f k =
    by_t (ltb any_mark f) (λ t. rw t)
    (λ t. by_t (ltb z a) (λ u. rw (t, u)) (λ u. by_t (eqb k 0) (λ w. rw (t, u, w)) (λ w. rw (t, u, w))))

-- EVERY COMMAND
-- what holds of a list after a change of it
pub record Keeps (n : ℕ) (l l' : List Entry) : Type 0 where
  pub valid : Valid l'
  pub enough : needed l l' ≤ n - length (nodes l)

-- a change that needs no node
no_node : (n : ℕ) (l l' : List Entry) → Valid l' → new_nodes l l' ≡ [] → Keeps n l l'
no_node n l l' v e =
    let z : needed l l' ≡ 0 = ap length e in record { valid = v; enough = omega arith }

pub stays : (n : ℕ) {l : List Entry} → Valid l → Keeps n l l
stays n {l} v = no_node n l l v (none_new l)

pub erase_new : {l : List Entry} (i : ℕ) → Valid l → new_nodes l (erase l i) ≡ []
erase_new {l} i v = go (covering l i) refl
  where
    go : (o : Option Entry) → covering l i ≡ o → new_nodes l (erase l i) ≡ []
    go none q = rw (erase_none i q) (none_new l)
    go (some e) q = rw (erase_clear i v q) (clear_new i e.order l)

pub remark_new : (l : List Entry) (i m : ℕ) (b : Bool) → new_nodes l (remark l i m b) ≡ []
remark_new l i m b = new_nodes_map (with_mark i m b) (λ x. refl) (λ x. refl) l

marked : (n : ℕ) {l : List Entry} (i m : ℕ) (b : Bool) → m < mark_count → Valid l → Keeps n l (remark l i m b)
marked n {l} i m b h v = no_node n l (remark l i m b) (sorted_remark i m b h v) (remark_new l i m b)

-- R10 to R14 and R190 keep a list valid
store_keeps : (l : List Entry) (i k w : ℕ) → aligned k i ≡ true → Valid l → i < 2 ^ 64 → k ≤ max_order → T (storable w) →
    w < 2 ^ 64 → Valid (store l i k w)
store_keeps l i k w al v i< k≤ st w< =
    rw (store_is i k al l w (T_true _ st)) (sorted_remark i matched_mark false (omega arith) (store_valid i k w v i< k≤ st w<))

-- every index is a multiple of 1
pub index_aligned : (i : ℕ) → aligned 0 i ≡ true
index_aligned i = eq-eqb (i % 2 ^ 0) 0 (omega arith)

-- and so does a reservation (R201)
reserve_keeps : (l : List Entry) (i : ℕ) → Valid l → i < 2 ^ 64 → covering l i ≡ none → Valid (store l i 0 reserved_word)
reserve_keeps l i v i< q =
    let n = over_none l i 0 q in
    rw (bare_is i 0 (index_aligned i) l reserved_word refl n, n)
    (store_at_valid i 0 reserved_word l v n i< (omega arith) tt (lit< tt))

module _ (n : ℕ) (l : List Entry) (v : Valid l) where
  stored : (i k w : ℕ) → i < 2 ^ 64 → w < 2 ^ 64 → Keeps n l (execute n l (Store i k w)).list
  unfolding execute
  stored i k w i< w< =
      by_t (ltb max_order k) (λ t. rw t (stays n v))
      (λ t. by_t (not (aligned k i)) (λ a. rw (t, a) (stays n v))
      (λ a. by_t (not (storable w)) (λ s. rw (t, a, s) (stays n v))
      (λ s. by_t (short n l (store l i k w)) (λ d. rw (t, a, s, d) (stays n v))
      (λ d. rw (t, a, s, d)
      (record {
        valid =
            store_keeps l i k w (not-false (aligned k i) a) v i< (ltb-false _ _ t)
            (subst T (sym (not-false (storable w) s)) tt) w<;
        enough = ltb-false _ _ d;
      })))))

  reserved_keeps : (i : ℕ) → i < 2 ^ 64 → (o : Option Entry) → covering l i ≡ o → Keeps n l (reserving (tree n) reserve_reply l i o).list
  reserved_keeps i i< (some e) q = stays n v
  reserved_keeps i i< none q =
      by_t (short n l (store l i 0 reserved_word)) (λ d. rw d (stays n v))
      (λ d. rw d (record {
        valid = reserve_keeps l i v i< q;
        enough = ltb-false _ _ d;
      }))

  -- every command
  pub execute_keeps : (c : Command) → Fits c → Keeps n l (execute n l c).list
  unfolding execute
  execute_keeps (Store i k w) f = stored i k w f.0 f.1
  execute_keeps (Load i) f = stays n v
  execute_keeps (Erase i) f = no_node n l (erase l i) (erase_valid i v) (erase_new i v)
  execute_keeps (Mark i m) f =
      by_t (leb mark_count m) (λ t. rw t (stays n v)) (λ t. rw t (marked n i m true (leb-false _ _ t) v))
  execute_keeps (Unmark i m) f =
      by_t (leb mark_count m) (λ t. rw t (stays n v)) (λ t. rw t (marked n i m false (leb-false _ _ t) v))
  execute_keeps (Find a z f k) _ = rw (find_list n l a z f k) (stays n v)
  execute_keeps (Reserve i) f = reserved_keeps i f (covering l i) refl

-- STATES
pub next_kept : {n : ℕ} {s : State} (c : Command) → Fits c → Kept n s → Kept n (next n s c)
next_kept {n} {s} c f k =
    let h : Keeps n s.list (execute n s.list c).list = execute_keeps n s.list k.valid c f in
    record {
      valid = h.valid;
      placed =
          placed_new n s.list s.places k.placed (execute n s.list c).list
          (omega (arith, h.enough, free_places n s.list s.places k.placed));
    }

pub states_kept : {n : ℕ} {cs : List Command} {s : State} → All Fits cs → Kept n s → Kept n (states n s cs)
states_kept end k = k
states_kept (also {x = c} f a) k = states_kept a (next_kept c f k)

-- SHORTAGE IS EXACT: a store that nothing else refuses answers 11 exactly if it needs more nodes than are free
module _ (n : ℕ) (l : List Entry) (i k w : ℕ) (k≤ : k ≤ max_order) (al : aligned k i ≡ true)
    (st : storable w ≡ true) where
  pub short_11 : n - length (nodes l) < needed l (store l i k w) →
      execute n l (Store i k w) ≡ refuse l (reply_tag (Store i k w)) too_few_nodes
  unfolding execute
  short_11 h = rw (le-ltb max_order k k≤, al, st, lt-ltb (n - length (nodes l)) (needed l (store l i k w)) h)

  pub enough_0 : needed l (store l i k w) ≤ n - length (nodes l) →
      execute n l (Store i k w)
      ≡ record { reply = reply_of (reply_tag (Store i k w)) 0 (covering (store l i k w) i); list = store l i k w }
  unfolding execute
  enough_0 h = rw (le-ltb max_order k k≤, al, st, le-ltb (n - length (nodes l)) (needed l (store l i k w)) h)

-- A RESERVATION: 15 where the index is covered, else exactly as a store
module _ (n : ℕ) (l : List Entry) (i : ℕ) where
  pub taken_15 : {e : Entry} → covering l i ≡ some e → execute n l (Reserve i) ≡ refuse l reserve_reply is_covered
  unfolding execute
  taken_15 q = rw q

  module _ (q : covering l i ≡ none) where
    pub reserve_11 : n - length (nodes l) < needed l (store l i 0 reserved_word) →
        execute n l (Reserve i) ≡ refuse l reserve_reply too_few_nodes
    unfolding execute
    reserve_11 h = rw (q, lt-ltb (n - length (nodes l)) (needed l (store l i 0 reserved_word)) h)

    pub reserve_0 : needed l (store l i 0 reserved_word) ≤ n - length (nodes l) →
        execute n l (Reserve i)
        ≡ record { reply = reply_of reserve_reply 0 (covering (store l i 0 reserved_word) i); list = store l i 0 reserved_word }
    unfolding execute
    reserve_0 h = rw (q, le-ltb (n - length (nodes l)) (needed l (store l i 0 reserved_word)) h)
