-- What mark 2 is worth (R247), and the other way (R248).
use Prim.Native.Nat.{ℕ}
use mathlib.Core.Path.{◌≡◌, refl, sym, ap, subst, ◌∙◌}
use mathlib.Core.Bool.{true}
use mathlib.Core.Logic.{◌⊎◌, inl, inr}
use mathlib.Core.List.{List, [], ◌∷◌, ◌++◌, append_assoc}
use lib.Dec.{eqb}
use borrow.Author.Tests.{eqb-true, eq-eqb}
use Rattle.blocks.specs.Choice.{both}
use Rattle.blocks.specs.Lists.{All}
use Rattle.blocks.proofs.BoolLaws.{clash, both_i, both_l, both_r, both_no}
use Rattle.model.specs.declared.Entry.{Entry}
use Rattle.model.specs.Model.{matched_mark, covers}
use Rattle.layout.specs.Decide.{node_count}
use Rattle.verify.specs.Answers.{init_answer}
use Rattle.batch.specs.declared.Command.TheVariants.{Store, Load, Erase, Mark, Unmark, Find, Reserve}
use Rattle.execute.specs.Execute.{execute}
use Rattle.calls.specs.Demand.{Call, list_after_all, Bytewise, Starts, Starts.fresh}
use Rattle.trace.specs.Trace.{
  Step,
  Step.cleared,
  Step.ran,
  steps,
  next,
  after,
  throughout,
  never,
  did,
  stands,
  matched,
  match,
  unmatch,
  Source,
  Origin,
  MarkedBy,
  Confirmed,
}
use Rattle.trace.proofs.StepLaws.{
  Since,
  after_append,
  first_moment,
  last_moment,
  matched_stands,
  matched_since,
  matched_spared,
  matched_remains,
}
use Rattle.trace.proofs.ConverseLaws.{mark_matches}
use Rattle.trace.proofs.TraceLaws.{after_calls, going}
use Rattle.trace.proofs.MomentLaws.{nil_append, in_batch}
use Rattle.trace.proofs.SourceLaws.{traced_at}

-- WHICH COMMAND MATCHES A RECORD: the mark 2 of an index that it covers
matched_by_mark : (n : ℕ) (e : Entry) (l : List Entry) (s : Step) → match n e l s ≡ true →
    (i : ℕ) × (s ≡ ran (Mark i matched_mark)) × (did n l (Mark i matched_mark) ≡ true) × (covers i e ≡ true)
matched_by_mark n e l cleared t = absurd (clash t refl)
matched_by_mark n e l (ran (Store i k w)) t = absurd (clash t (both_no (did n l (Store i k w))))
matched_by_mark n e l (ran (Load i)) t = absurd (clash t (both_no (did n l (Load i))))
matched_by_mark n e l (ran (Erase i)) t = absurd (clash t (both_no (did n l (Erase i))))
matched_by_mark n e l (ran (Unmark i m)) t = absurd (clash t (both_no (did n l (Unmark i m))))
matched_by_mark n e l (ran (Find a z f k)) t = absurd (clash t (both_no (did n l (Find a z f k))))
matched_by_mark n e l (ran (Reserve i)) t = absurd (clash t (both_no (did n l (Reserve i))))
matched_by_mark n e l (ran (Mark i m)) t =
    let d : did n l (Mark i m) ≡ true = both_l (did n l (Mark i m)) (both (eqb m matched_mark) (covers i e)) t in
    let u : both (eqb m matched_mark) (covers i e) ≡ true =
    both_r (did n l (Mark i m)) (both (eqb m matched_mark) (covers i e)) t in
    let q : m ≡ matched_mark = eqb-true _ _ (both_l (eqb m matched_mark) (covers i e) u) in (
      i,
      ap (λ (x : ℕ). ran (Mark i x)) q,
      subst (λ (x : ℕ). did n l (Mark i x) ≡ true) q d,
      both_r (eqb m matched_mark) (covers i e) u,
    )

module _ {n : ℕ} {l : List Entry} {ws : List ℕ} (st : Starts n l ws) {cs : List Call} (b : All Bytewise cs) (e : Entry) where
  -- it stands with mark 2 after the steps us and at every moment since
  confirm : (us ys : List Step) → steps cs ≡ us ++ ys →
      MarkedBy n l cs us e ⊎ ((us ≡ []) × (matched e l ≡ true)) → throughout n (matched e) (after n l us) ys ≡ true →
      Confirmed n l cs e
  confirm us ys q m h =
      record {
        until = us;
        later = ys;
        among = q;
        mark = m;
        origin = traced_at st b us ys q e
            (matched_stands e (after n l us) (first_moment n (matched e) (after n l us) ys h));
        since = h;
        spared = matched_spared n (after n l us) (going st b us ys q).valid (going st b us ys q).to_come e h;
      }

  marked : Since n l (steps cs) (match n e) (matched e) → Confirmed n l cs e
  marked x = go (matched_by_mark n e (after n l x.before) x.step x.passes)
    where
      go : (i : ℕ) × (x.step ≡ ran (Mark i matched_mark)) × (did n (after n l x.before) (Mark i matched_mark) ≡ true)
          × (covers i e ≡ true) → Confirmed n l cs e
      go (i, d, t, c) =
          let s : Step = ran (Mark i matched_mark) in
          let a : steps cs ≡ x.before ++ (s ∷ x.later) =
          x.among ∙ ap (λ (z : Step). x.before ++ (z ∷ x.later)) d in
          let h : throughout n (matched e) (next n (after n l x.before) s) x.later ≡ true =
          subst (λ (z : Step). throughout n (matched e) (next n (after n l x.before) z) x.later ≡ true) d x.holds in
          confirm (x.before ++ (s ∷ [])) x.later (a ∙ sym (append_assoc x.before (s ∷ []) x.later))
          (inl (record {
            before = x.before;
            index = i;
            last = refl;
            done = record { lies = in_batch cs x.before (Mark i matched_mark) x.later a; answer = eqb-true _ _ t };
            marking = c;
          }))
          (subst (λ (k : List Entry). throughout n (matched e) k x.later ≡ true)
          (sym (after_append n l x.before (s ∷ []))) h)

  -- R247: of any start
  pub matched_by : matched e (list_after_all n l cs) ≡ true → Confirmed n l cs e
  matched_by t =
      let q : steps cs ≡ steps cs ++ [] = sym (nil_append (steps cs)) in
      elim (matched_since n l (going st b (steps cs) [] q).start (going st b (steps cs) [] q).so_far e
      (subst (λ (x : List Entry). matched e x ≡ true) (sym (after_calls n l cs)) t)) [
        | inl x ↦ marked x
        | inr h ↦ confirm [] (steps cs) refl (inr (refl, first_moment n (matched e) l (steps cs) h)) h
      ]

-- R247, R91: in a pool just initialised it was marked, and entered, by a command of a batch
pub confirmed : (ws : List ℕ) → init_answer ws ≡ 0 → {cs : List Call} → All Bytewise cs → (e : Entry) →
    matched e (list_after_all (node_count ws) [] cs) ≡ true →
    (x : Confirmed (node_count ws) [] cs e) × MarkedBy (node_count ws) [] cs x.until e
    × Source (node_count ws) [] cs x.until e
confirmed ws q {cs} b e t =
    let x : Confirmed (node_count ws) [] cs e = matched_by (fresh ws q) b e t in (x, mark x x.mark, source x x.origin)
  where
    mark : (x : Confirmed (node_count ws) [] cs e) →
        MarkedBy (node_count ws) [] cs x.until e ⊎ ((x.until ≡ []) × (matched e [] ≡ true)) →
        MarkedBy (node_count ws) [] cs x.until e
    mark x (inl m) = m
    mark x (inr (u, m)) = absurd (clash m refl)

    source : (x : Confirmed (node_count ws) [] cs e) → Origin (node_count ws) [] cs x.until e →
        Source (node_count ws) [] cs x.until e
    source x (inl s) = s
    source x (inr h) = absurd (clash (first_moment (node_count ws) (stands e) [] x.until h) refl)

-- R248: a mark of 2 with answer 0 over a record that stands makes it matched, until a step that takes it or its mark
pub matches : {n : ℕ} {l : List Entry} {ws : List ℕ} → Starts n l ws → {cs : List Call} → All Bytewise cs → (e : Entry) →
    (xs ys : List Step) → steps cs ≡ xs ++ ys → (m : MarkedBy n l cs xs e) → stands e (after n l m.before) ≡ true →
    never n (unmatch n e) (after n l xs) ys ≡ true → matched e (list_after_all n l cs) ≡ true
matches {n} {l} st {cs} b e xs ys q m t h =
    let s : Step = ran (Mark m.index matched_mark) in
    let k : List Entry = after n l m.before in
    let r : after n l xs ≡ next n k s = ap (after n l) m.last ∙ after_append n l m.before (s ∷ []) in
    let p : steps cs ≡ m.before ++ (s ∷ ys) =
    q ∙ ap (λ (x : List Step). x ++ ys) m.last ∙ append_assoc m.before (s ∷ []) ys in
    let d : did n k (Mark m.index matched_mark) ≡ true =
    eq-eqb (execute n k (Mark m.index matched_mark)).reply.answer 0 m.done.answer in
    let u : matched e (next n k s) ≡ true =
    mark_matches n k (going st b m.before (s ∷ ys) p).valid e t (Mark m.index matched_mark) (both_i d m.marking) in
    let w : throughout n (matched e) (after n l xs) ys ≡ true =
    matched_remains n (after n l xs) (going st b xs ys q).valid (going st b xs ys q).to_come e
    (subst (λ (x : List Entry). matched e x ≡ true) (sym r) u) h in
    subst (λ (x : List Entry). matched e x ≡ true)
    (sym (after_append n l xs ys) ∙ ap (after n l) (sym q) ∙ after_calls n l cs)
    (last_moment n (matched e) (after n l xs) ys w)
