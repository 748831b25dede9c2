-- Two engines on one list: where neither lacks room and their finds come to the same, their replies agree but for the counts of
-- loads and finds, and so do the lists that they leave.
use Prim.Native.Nat.{ℕ, ◌≤◌}
use mathlib.Core.Path.{◌≡◌, refl}
use mathlib.Core.Logic.{◌≢◌}
use mathlib.Core.Bool.{not}
use mathlib.Core.List.{List}
use mathlib.Core.Option.{Option, none, some}
use lib.Dec.{ltb, eqb}
use borrow.Author.Tests.{ltb-false, eqb-false}
use Rattle.blocks.proofs.BoolLaws.{by_t}
use Rattle.answers.specs.Answers.{too_few_nodes}
use Rattle.model.specs.declared.Entry.{Entry}
use Rattle.model.specs.Model.{max_order, aligned, storable, reserved_word, mark_count, covering, present, store}
use Rattle.batch.specs.declared.Command.{Command}
use Rattle.batch.specs.declared.Command.TheVariants.{Store, Load, Erase, Mark, Unmark, Find, Reserve}
use Rattle.batch.specs.Reply.{reply_tag}
use Rattle.commands.specs.Commands.{Executed, Engine, reply_of, storing, reserving, execute_as}
use Rattle.commands.specs.Engines.{uncounted, Agree, SameFind}

-- the reply does not say that room is lacking
abbrev Roomy : Executed → Type 0
Roomy x = x.reply.answer ≢ too_few_nodes

module _ (E F : Engine) (l : List Entry) where
  loads : (m n : ℕ) (o : Option Entry) → uncounted (reply_of 130 m o) ≡ uncounted (reply_of 130 n o)
  loads m n none = refl
  loads m n (some e) = refl

  stores : (t i : ℕ) (l' : List Entry) → Roomy (storing E t l i l') → Roomy (storing F t l i l') →
      Agree (storing E t l i l') (storing F t l i l')
  stores t i l' h g =
      by_t (E.lacks l l') (λ a. absurd (h (rw a refl)))
      (λ a. by_t (F.lacks l l') (λ b. absurd (g (rw b refl))) (λ b. rw (a, b) (refl, refl)))

  reserves : (t i : ℕ) (o : Option Entry) → Roomy (reserving E t l i o) → Roomy (reserving F t l i o) →
      Agree (reserving E t l i o) (reserving F t l i o)
  reserves t i none h g = stores t i (store l i 0 reserved_word) h g
  reserves t i (some e) h g = (refl, refl)

  pub agree : (c : Command) → (execute_as E l (reply_tag c) c).reply.answer ≢ too_few_nodes →
      (execute_as F l (reply_tag c) c).reply.answer ≢ too_few_nodes → SameFind E F l c →
      Agree (execute_as E l (reply_tag c) c) (execute_as F l (reply_tag c) c)
  agree (Store i k w) h g found =
      by_t (ltb max_order k) (λ t. rw t (refl, refl))
      (λ t. by_t (not (aligned k i)) (λ a. rw (t, a) (refl, refl))
      (λ a. by_t (not (storable w)) (λ s. rw (t, a, s) (refl, refl))
      (λ s. rw (t, a, s) (stores 129 i (store l i k w) (rw (t, a, s) at h) (rw (t, a, s) at g)))))
  agree (Load i) h g found = (loads (E.count l i) (F.count l i) (present (covering l i)), refl)
  agree (Erase i) h g found = (refl, refl)
  agree (Mark i m) h g found = (refl, refl)
  agree (Unmark i m) h g found = (refl, refl)
  agree (Find a z f k) h g found = by_t (ltb mark_count f) (λ e. rw e (refl, refl)) (λ e. let in-marks : f ≤ mark_count = ltb-false _ _ e in
      by_t (ltb z a) (λ u. rw (e, u) (refl, refl)) (λ u. let in_order_lem : a ≤ z = ltb-false _ _ u in
      by_t (eqb k 0) (λ b. rw (e, u, b) (refl, refl)) (λ b. let budget : k ≢ 0 = eqb-false _ _ b in
      rw (e, u, b) (found a z f k refl in-marks in_order_lem budget, refl))))
  agree (Reserve i) h g found = reserves 135 i (covering l i) h g
