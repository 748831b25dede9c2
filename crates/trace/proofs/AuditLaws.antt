-- Mistakes that the claims alone refuse. Each test below is a claim at one list and one command of the copy, computed; with
-- the mistake of its must-fail edit it is false, so that the claim is false of that model.
use Prim.Native.Nat.{ℕ}
use mathlib.Core.Path.{◌≡◌, refl}
use mathlib.Core.Bool.{Bool, true, false, not}
use mathlib.Core.List.{List, [], ◌∷◌}
use mathlib.Core.Option.{Option, none, some}
use Rattle.blocks.specs.Choice.{both, either}
use Rattle.blocks.proofs.BoolLaws.{both_l, both_r, not-true}
use Rattle.blocks.proofs.ListLaws.{any_in_lem, in_any}
use Rattle.model.specs.declared.Entry.{Entry}
use Rattle.model.specs.Model.{Valid, covering}
use Rattle.tree.specs.Tree.{tall, has, slot_mark}
use Rattle.tree.specs.Slots.{slot}
use Rattle.batch.specs.declared.Command.{Command}
use Rattle.batch.specs.declared.Command.TheVariants.{Store, Load, Erase, Mark, Unmark, Find, Reserve}
use Rattle.execute.specs.Execute.{execute}
use Rattle.commands.specs.Commands.{Executed}
use Rattle.trace.specs.Trace.{Step.ran, did, same, stands, matched, enters, names, marks, unmarks}
use Rattle.trace.specs.Audit.{sourced, accounted, vouched, withdrawn, matching, stored, copy}
use Rattle.trace.proofs.RecordLaws.{Alike, alike}
use Rattle.trace.proofs.CommandLaws.{born, gone}
use Rattle.trace.proofs.MatchLaws.{mark_born, unmatched}
use Rattle.trace.proofs.ConverseLaws.{mark_matches, store_enters}

-- AT ONE COMMAND of the copy, on a pool of four nodes
abbrev tried : (Entry → List Entry → Command → Executed → Bool) → Entry → List Entry → Command → Bool
tried p e l c = p e l c (copy 4 l c)

abbrev region : (base order word marks : ℕ) → Entry
region b k w m = record { base = b; order = k; word = w; marks = m }

-- a store takes nothing beside its target range
pub neighbour_stays : tried accounted (region 1 0 5 0) (region 1 0 5 0 ∷ []) (Store 0 0 9) ≡ true
unfolding tall has slot_mark slot
neighbour_stays = refl

-- a word that takes another's place was not compared with anything
pub word_unmatched : tried vouched (region 0 0 9 0) (region 0 0 5 4 ∷ []) (Store 0 0 9) ≡ true
unfolding tall has slot_mark slot
word_unmatched = refl

-- nor was a new entry
pub new_unmatched : tried vouched (region 0 1 9 0) (region 0 0 5 4 ∷ []) (Store 0 1 9) ≡ true
unfolding tall has slot_mark slot
new_unmatched = refl

-- an erase takes one record
pub erase_one : tried accounted (region 1 0 7 0) (region 0 0 5 0 ∷ region 1 0 7 0 ∷ []) (Erase 0) ≡ true
unfolding tall has slot_mark slot
erase_one = refl

-- a refused store enters nothing
pub refused_store : tried sourced (region 0 64 5 0) [] (Store 0 64 5) ≡ true
unfolding tall has slot_mark slot
refused_store = refl

-- an unmark with answer 0 takes the mark
pub unmark_done : tried withdrawn (region 0 0 5 4) (region 0 0 5 4 ∷ []) (Unmark 0 2) ≡ true
unfolding tall has slot_mark slot
unmark_done = refl

-- a mark 0 is no match
pub mark_alone : tried vouched (region 0 0 5 0) (region 0 0 5 0 ∷ []) (Mark 0 0) ≡ true
unfolding tall has slot_mark slot
mark_alone = refl

-- a reserve enters its own index
pub reserve_own : tried sourced (region 1 0 1030 0) [] (Reserve 0) ≡ true
unfolding tall has slot_mark slot
reserve_own = refl

-- a load enters nothing
pub load_only : tried sourced (region 0 0 5 0) [] (Load 0) ≡ true
unfolding tall has slot_mark slot
load_only = refl

-- a mark 2 with answer 0 is a match
pub mark_done : tried matching (region 0 0 5 0) (region 0 0 5 0 ∷ []) (Mark 0 2) ≡ true
unfolding tall has slot_mark slot
mark_done = refl

-- a store with answer 0 stores
pub store_done : stored 0 0 5 (copy 4 [] (Store 0 0 5)) ≡ true
unfolding tall has slot_mark slot
store_done = refl

-- THE MODEL PASSES EVERYWHERE
implies_i : (a b : Bool) → (a ≡ true → b ≡ true) → either (not a) b ≡ true
implies_i true b f = f refl
implies_i false b f = refl

module _ (n : ℕ) (e : Entry) (l : List Entry) (v : Valid l) where
  pub all_sourced : (c : Command) → sourced e l c (execute n l c) ≡ true
  all_sourced c =
      let a : Bool = stands e (execute n l c).list in
      implies_i (both a (not (stands e l))) (both (did n l c) (enters e c))
      (λ t. born e n l v (ran c) (both_l a (not (stands e l)) t) (not-true (stands e l) (both_r a (not (stands e l)) t)))

  pub all_accounted : (c : Command) → accounted e l c (execute n l c) ≡ true
  all_accounted c =
      let a : Bool = stands e (execute n l c).list in
      implies_i (both (stands e l) (not a)) (both (did n l c) (names e c))
      (λ t. gone e n l (ran c) (both_l (stands e l) (not a) t) (not-true a (both_r (stands e l) (not a) t)))

  pub all_vouched : (c : Command) → vouched e l c (execute n l c) ≡ true
  all_vouched c =
      let a : Bool = matched e (execute n l c).list in
      implies_i (both a (not (matched e l))) (both (did n l c) (marks e c))
      (λ t. mark_born e n l v (ran c) (both_l a (not (matched e l)) t) (not-true (matched e l) (both_r a (not (matched e l)) t)))

  pub all_withdrawn : (c : Command) → withdrawn e l c (execute n l c) ≡ true
  all_withdrawn c =
      implies_i (both (did n l c) (either (names e c) (unmarks e c))) (not (matched e (execute n l c).list))
      (λ t. negated (matched e (execute n l c).list) (unmatched e n l v (ran c) t))
    where
      negated : (b : Bool) → b ≡ false → not b ≡ true
      negated b q = rw q

  pub all_matching : (c : Command) → matching e l c (execute n l c) ≡ true
  all_matching c =
      implies_i (both (stands e l) (both (did n l c) (marks e c))) (matched e (execute n l c).list)
      (λ t. mark_matches n l v e (both_l (stands e l) (both (did n l c) (marks e c)) t) c
      (both_r (stands e l) (both (did n l c) (marks e c)) t))

pub all_stored : (n : ℕ) (l : List Entry) (i k w : ℕ) → stored i k w (execute n l (Store i k w)) ≡ true
all_stored n l i k w =
    implies_i (did n l (Store i k w)) _
    (λ t. let (e, u, s) = store_enters n l i k w t in
    let (x, m, q) = any_in_lem (same e) (execute n l (Store i k w)).list s in
    in_any (λ y. enters y (Store i k w)) m (again e x (alike e x q) u))
  where
    again : (e x : Entry) → Alike e x → enters e (Store i k w) ≡ true → enters x (Store i k w) ≡ true
    again e x a u = rw (a.word, a.order, a.base) u

-- THE COPY IS THE MODEL
pub copy_is : (n : ℕ) (l : List Entry) (c : Command) → copy n l c ≡ execute n l c
unfolding execute
copy_is n l (Store i k w) = refl
copy_is n l (Load i) = refl
copy_is n l (Erase i) = refl
copy_is n l (Mark i m) = refl
copy_is n l (Unmark i m) = refl
copy_is n l (Find a z f k) = refl
copy_is n l (Reserve i) = by_covering (covering l i) refl
  where
    by_covering : (o : Option Entry) → covering l i ≡ o → copy n l (Reserve i) ≡ execute n l (Reserve i)
    by_covering none q = rw q
    by_covering (some e) q = rw q
