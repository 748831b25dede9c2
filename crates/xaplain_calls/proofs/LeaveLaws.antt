-- One command of the plain engine: where it is refused the list stays (R40, R83), and shortage is exact (R307).
use Prim.Native.Nat.{ℕ, ◌≤◌, ◌<◌}
use mathlib.Core.Path.{◌≡◌, refl}
use mathlib.Core.Bool.{Bool, true, false, not}
use mathlib.Core.List.{List, [], ◌∷◌, map}
use mathlib.Core.Option.{Option, none, some}
use native.Mathlib.Omega.{arith}
use lib.Dec.{leb, ltb}
use lib.ListN.{length}
use borrow.Author.Tests.{ltb-true, ltb-false, lt-ltb, le-ltb}
use Rattle.blocks.specs.Lists.{any, All, end, also}
use Rattle.blocks.proofs.BoolLaws.{by_t, clash, both_l, not-false}
use Rattle.blocks.proofs.ListLaws.{any_in_lem, first_no, look}
use Rattle.answers.specs.Answers.{too_few_nodes}
use Rattle.model.specs.declared.Entry.{Entry}
use Rattle.model.specs.Model.{Valid, storable, reserved, reserved_word, max_order, aligned, mark_count, covers, covering, present, clear, insert, new_entry, over, with_word, store, remark}
use Rattle.model.proofs.ValidLaws.{covers_self, erase_none}
use Rattle.batch.specs.declared.Command.{Command}
use Rattle.batch.specs.declared.Command.TheVariants.{Store, Load, Erase, Mark, Unmark, Find, Reserve}
use Rattle.commands.specs.Commands.{reply_of, reserving}
use Rattle.xaplain.specs.Engine.{xaplain, execute}
use Rattle.xaplain.proofs.CommandLaws.{find_list}
use Rattle.xaplain.proofs.RemarkLaws.{remark_absent}
use Rattle.xaplain_calls.specs.Demand.{ShortExact, ReserveShort}

-- WHAT STANDS THERE AFTER
-- a store leaves its index covered
module _ (i : ℕ) where
  unmapped : (w : ℕ) (l : List Entry) → All (λ x. covers i x ≡ false) (map (with_word i w) l) → All (λ x. covers i x ≡ false) l
  unmapped w [] end = end
  unmapped w (x ∷ l) (also p a) = also {x = x} p (unmapped w l a)

  inserted : (e : Entry) (l : List Entry) → All (λ x. covers i x ≡ false) (insert e l) → covers i e ≡ false
  inserted e [] (also p a) = p
  inserted e (x ∷ l) a = by_t (ltb e.base x.base) (λ t. head (rw t at a)) (λ t. inserted e l (tail (rw t at a)))
    where
      head : {y : Entry} {xs : List Entry} → All (λ x. covers i x ≡ false) (y ∷ xs) → covers i y ≡ false
      head (also p b) = p

      tail : {y : Entry} {xs : List Entry} → All (λ x. covers i x ≡ false) (y ∷ xs) → All (λ x. covers i x ≡ false) xs
      tail (also p b) = b

store_covered : (l : List Entry) (i k w : ℕ) → covering (store l i k w) i ≡ none → ⊥
store_covered l i k w q =
    by_t (any (over i k) l)
    (λ o. let (y, g, c) = any_in_lem (over i k) l o in
    let a : All (λ x. covers i x ≡ false) (map (with_word i w) l) = first_no (covers i) (map (with_word i w) l) (rw o at q) in
    clash (both_l (covers i y) (leb k y.order) c) (look (unmapped i w l a) g))
    (λ o. let e : Entry = new_entry l i k w in
    let a : All (λ x. covers i x ≡ false) (insert (new_entry l i k w) (clear l i k)) =
    first_no (covers i) (insert (new_entry l i k w) (clear l i k)) (rw o at q) in
    clash (covers_self (new_entry l i k w)) (inserted i (new_entry l i k w) (clear l i k) a))

-- what is present under a mark was present
some_none : {x : Entry} → some x ≡ none → ⊥
some_none q = let z : ◌≡◌ {A = ℕ} 0 1 = cc in omega arith

unmarked : (i m : ℕ) (b : Bool) (l : List Entry) → present (covering (remark l i m b) i) ≡ none → present (covering l i) ≡ none
unmarked i m b [] q = refl
unmarked i m b (x ∷ l) q =
    by_t (covers i x)
    (λ t. by_t (reserved x) (λ r. rw (t, r) refl)
    (λ r. absurd (some_none (rw (t, r) at q))))
    (λ t. rw t (unmarked i m b l (rw t at q)))

-- REFUSED: an answer by what covers the index is 0, or nothing does
covered_0 : (t : ℕ) (o : Option Entry) → ((reply_of t 0 o).answer ≡ 0 → ⊥) → o ≡ none
covered_0 t none f = refl
covered_0 t (some e) f = absurd (f refl)

module _ (room : ℕ) (l : List Entry) (v : Valid l) where
  reserve_leaves : (i : ℕ) (o : Option Entry) → ((reserving (xaplain room) 135 l i o).reply.answer ≡ 0 → ⊥) →
      (reserving (xaplain room) 135 l i o).list ≡ l
  reserve_leaves i (some e) f = refl
  reserve_leaves i none f =
      by_t (ltb room (length (store l i 0 reserved_word))) (λ d. rw d refl)
      (λ d. absurd (store_covered l i 0 reserved_word (covered_0 135 (covering (store l i 0 reserved_word) i) (rw d at f))))

  mark_leaves : (t i m : ℕ) (b : Bool) → ((reply_of t 0 (present (covering (remark l i m b) i))).answer ≡ 0 → ⊥) → remark l i m b ≡ l
  mark_leaves t i m b f = remark_absent i m b l v (unmarked i m b l (covered_0 t (present (covering (remark l i m b) i)) f))

  pub refused_leaves : (c : Command) → ((execute room l c).reply.answer ≡ 0 → ⊥) → (execute room l c).list ≡ l
  unfolding execute
  refused_leaves (Store i k w) f =
      by_t (ltb max_order k) (λ t. rw t refl)
      (λ t. by_t (not (aligned k i)) (λ a. rw (t, a) refl)
      (λ a. by_t (not (storable w)) (λ s. rw (t, a, s) refl)
      (λ s. by_t (ltb room (length (store l i k w))) (λ d. rw (t, a, s, d) refl)
      (λ d. absurd (store_covered l i k w (covered_0 129 (covering (store l i k w) i) (rw (t, a, s, d) at f)))))))
  refused_leaves (Load i) f = refl
  refused_leaves (Erase i) f = erase_none i (covered_0 131 (covering l i) f)
  refused_leaves (Mark i m) f = by_t (leb mark_count m) (λ t. rw t refl) (λ t. rw t (mark_leaves 132 i m true (rw t at f)))
  refused_leaves (Unmark i m) f = by_t (leb mark_count m) (λ t. rw t refl) (λ t. rw t (mark_leaves 133 i m false (rw t at f)))
  refused_leaves (Find a z g k) f = find_list room l a z g k
  refused_leaves (Reserve i) f = reserve_leaves i (covering l i) f

-- SHORTAGE
never_11 : (t : ℕ) (o : Option Entry) → (reply_of t 0 o).answer ≡ 11 → ⊥
never_11 t none e = omega arith
never_11 t (some x) e = omega arith

module _ (room : ℕ) (l : List Entry) (i : ℕ) where
  store_only : (k w : ℕ) → (execute room l (Store i k w)).reply.answer ≡ too_few_nodes →
      (k ≤ max_order) × (aligned k i ≡ true) × (storable w ≡ true) × (room < length (store l i k w))
  unfolding execute
  store_only k w e =
      by_t (ltb max_order k) (λ t. absurd (let z : ◌≡◌ {A = ℕ} 5 11 = rw t at e in omega arith))
      (λ t. by_t (not (aligned k i)) (λ a. absurd (let z : ◌≡◌ {A = ℕ} 14 11 = rw (t, a) at e in omega arith))
      (λ a. by_t (not (storable w)) (λ s. absurd (let z : ◌≡◌ {A = ℕ} 6 11 = rw (t, a, s) at e in omega arith))
      (λ s. by_t (ltb room (length (store l i k w)))
      (λ d. (ltb-false _ _ t, not-false (aligned k i) a, not-false (storable w) s, ltb-true _ _ d))
      (λ d. absurd (never_11 129 (covering (store l i k w) i) (rw (t, a, s, d) at e))))))

  pub short_exact : (k w : ℕ) → ShortExact room l i k w
  unfolding execute
  short_exact k w = record {
    only = store_only k w;
    always = λ k≤ al st h. rw (le-ltb max_order k k≤, al, st, lt-ltb room (length (store l i k w)) h) refl;
  }

  reserve_only : (o : Option Entry) → covering l i ≡ o → (reserving (xaplain room) 135 l i o).reply.answer ≡ 11 →
      (covering l i ≡ none) × (room < length (store l i 0 reserved_word))
  reserve_only (some x) q e = absurd (let z : ◌≡◌ {A = ℕ} 15 11 = e in omega arith)
  reserve_only none q e =
      by_t (ltb room (length (store l i 0 reserved_word))) (λ d. (q, ltb-true _ _ d))
      (λ d. absurd (never_11 135 (covering (store l i 0 reserved_word) i) (rw d at e)))

  pub reserve_exact : ReserveShort room l i
  unfolding execute
  reserve_exact = record {
    only = λ e. reserve_only (covering l i) refl e;
    always = λ q h. rw (q, lt-ltb room (length (store l i 0 reserved_word)) h) refl;
  }
