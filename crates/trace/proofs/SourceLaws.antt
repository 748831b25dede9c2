-- Where a record comes from (R243, R245): a store or a reserve of a batch.
use Prim.Native.Nat.{ℕ, ◌≤◌}
use mathlib.Core.Path.{◌≡◌, refl, sym, ap, subst, ◌∙◌}
use mathlib.Core.Bool.{true, false}
use mathlib.Core.Logic.{inl, inr}
use mathlib.Core.List.{List, [], ◌∷◌, ◌++◌, append_assoc}
use lib.Dec.{leb, eqb}
use borrow.Author.Tests.{eqb-true, leb-true}
use Rattle.blocks.specs.Choice.{both}
use Rattle.blocks.specs.Lists.{All}
use Rattle.blocks.proofs.BoolLaws.{clash, both_l, both_r}
use Rattle.model.specs.declared.Entry.{Entry}
use Rattle.model.specs.Model.{storable, reserved, reserved_word, covers}
use Rattle.layout.specs.Decide.{node_count}
use Rattle.verify.specs.Answers.{init_answer}
use Rattle.batch.specs.declared.Command.{Command}
use Rattle.batch.specs.declared.Command.TheVariants.{Store, Load, Erase, Mark, Unmark, Find, Reserve}
use Rattle.calls.specs.Demand.{Call, list_after_all, Bytewise, Starts, Starts.fresh}
use Rattle.trace.specs.Trace.{
  Step,
  Step.cleared,
  Step.ran,
  steps,
  next,
  after,
  throughout,
  did,
  stands,
  enters,
  enter,
  Source,
  Origin,
}
use Rattle.trace.proofs.StepLaws.{Since, first_moment, came}
use Rattle.trace.proofs.TraceLaws.{after_calls, going}
use Rattle.trace.proofs.MomentLaws.{nil_append, in_batch}

-- WHICH COMMAND ENTERS A RECORD: a store of its word, of an order at most its own, at an index that it covers
pub entered_by_store : (e : Entry) (c : Command) → enters e c ≡ true → reserved e ≡ false →
    (i : ℕ) × (k : ℕ) × (c ≡ Store i k e.word) × (covers i e ≡ true) × (k ≤ e.order)
entered_by_store e (Store i k w) t r =
    let u : both (eqb w e.word) (both (covers i e) (leb k e.order)) ≡ true = both_r (storable w) _ t in
    let z : both (covers i e) (leb k e.order) ≡ true = both_r (eqb w e.word) _ u in (
      i,
      k,
      ap (λ (x : ℕ). Store i k x) (eqb-true _ _ (both_l (eqb w e.word) _ u)),
      both_l (covers i e) (leb k e.order) z,
      leb-true _ _ (both_r (covers i e) (leb k e.order) z),
    )
entered_by_store e (Load i) t r = absurd (clash t refl)
entered_by_store e (Erase i) t r = absurd (clash t refl)
entered_by_store e (Mark i m) t r = absurd (clash t refl)
entered_by_store e (Unmark i m) t r = absurd (clash t refl)
entered_by_store e (Find a z f k) t r = absurd (clash t refl)
entered_by_store e (Reserve i) t r =
    absurd (clash (both_l (eqb e.word reserved_word) (both (eqb e.order 0) (eqb e.base i)) t) r)

-- and a reservation: the reserve of its index
pub entered_by_reserve : (e : Entry) (c : Command) → enters e c ≡ true → reserved e ≡ true →
    (c ≡ Reserve e.base) × (e.order ≡ 0)
entered_by_reserve e (Store i k w) t r =
    let u : both (eqb w e.word) (both (covers i e) (leb k e.order)) ≡ true = both_r (storable w) _ t in
    let q : w ≡ reserved_word = eqb-true _ _ (both_l (eqb w e.word) _ u) ∙ eqb-true _ _ r in
    absurd (clash (subst (λ (x : ℕ). storable x ≡ true) q (both_l (storable w) _ t)) refl)
entered_by_reserve e (Load i) t r = absurd (clash t refl)
entered_by_reserve e (Erase i) t r = absurd (clash t refl)
entered_by_reserve e (Mark i m) t r = absurd (clash t refl)
entered_by_reserve e (Unmark i m) t r = absurd (clash t refl)
entered_by_reserve e (Find a z f k) t r = absurd (clash t refl)
entered_by_reserve e (Reserve i) t r =
    let u : both (eqb e.order 0) (eqb e.base i) ≡ true =
    both_r (eqb e.word reserved_word) (both (eqb e.order 0) (eqb e.base i)) t in (
      ap Reserve (sym (eqb-true _ _ (both_r (eqb e.order 0) (eqb e.base i) u))),
      eqb-true _ _ (both_l (eqb e.order 0) (eqb e.base i) u),
    )

-- ITS SOURCE, in a batch of the list of calls
module _ (n : ℕ) (l : List Entry) (cs : List Call) (e : Entry) where
  source : (xs ys : List Step) → steps cs ≡ xs ++ ys → Since n l xs (enter n e) (stands e) → Source n l cs xs e
  source xs ys a x = go x.step refl
    where
      go : (s : Step) → x.step ≡ s → Source n l cs xs e
      go cleared q = absurd (clash (subst (λ (s : Step). enter n e (after n l x.before) s ≡ true) q x.passes) refl)
      go (ran c) q =
          let m : xs ≡ x.before ++ (ran c ∷ x.later) = x.among ∙ ap (λ (s : Step). x.before ++ (s ∷ x.later)) q in
          let w : steps cs ≡ x.before ++ (ran c ∷ (x.later ++ ys)) =
          a ∙ ap (λ (t : List Step). t ++ ys) m ∙ append_assoc x.before (ran c ∷ x.later) ys in
          let t : both (did n (after n l x.before) c) (enters e c) ≡ true =
          subst (λ (s : Step). enter n e (after n l x.before) s ≡ true) q x.passes in
          record {
            before = x.before;
            command = c;
            later = x.later;
            among = m;
            done = record {
              lies = in_batch cs x.before c (x.later ++ ys) w;
              answer = eqb-true _ _ (both_l (did n (after n l x.before) c) (enters e c) t);
            };
            entering = both_r (did n (after n l x.before) c) (enters e c) t;
            since = subst (λ (s : Step). throughout n (stands e) (next n (after n l x.before) s) x.later ≡ true) q
                x.holds;
          }

-- R245 at any moment
pub traced_at : {n : ℕ} {l : List Entry} {ws : List ℕ} → Starts n l ws → {cs : List Call} → All Bytewise cs →
    (xs ys : List Step) → steps cs ≡ xs ++ ys → (e : Entry) → stands e (after n l xs) ≡ true → Origin n l cs xs e
traced_at {n} {l} st {cs} b xs ys q e t =
    elim (came n l (going st b xs ys q).start (going st b xs ys q).so_far e t) [
      | inl x ↦ inl (source n l cs e xs ys q x)
      | inr h ↦ inr h
    ]

-- R245: entered by a command of a batch, or there at every moment
pub traced : {n : ℕ} {l : List Entry} {ws : List ℕ} → Starts n l ws → {cs : List Call} → All Bytewise cs → (e : Entry) →
    stands e (list_after_all n l cs) ≡ true → Origin n l cs (steps cs) e
traced {n} {l} st {cs} b e t =
    traced_at st b (steps cs) [] (sym (nil_append (steps cs))) e
    (subst (λ (x : List Entry). stands e x ≡ true) (sym (after_calls n l cs)) t)

-- R245, R91: in a pool just initialised, by a command
pub traced_fresh : (ws : List ℕ) → init_answer ws ≡ 0 → {cs : List Call} → All Bytewise cs → (e : Entry) →
    stands e (list_after_all (node_count ws) [] cs) ≡ true → Source (node_count ws) [] cs (steps cs) e
traced_fresh ws q {cs} b e t = elim (traced (fresh ws q) b e t) [
  | inl x ↦ x
  | inr h ↦ absurd (clash (first_moment (node_count ws) (stands e) [] (steps cs) h) refl)
]
