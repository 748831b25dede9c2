-- How a record goes (R244, R246): by an init, or by an erase or a store that names it.
use Prim.Native.Nat.{ℕ, ◌+◌, ◌-◌, ◌^◌, ◌≤◌, ◌<◌}
use mathlib.Core.Path.{◌≡◌, sym, ap, subst, ◌∙◌}
use mathlib.Core.Bool.{true, false}
use mathlib.Core.List.{List, ◌++◌}
use native.Mathlib.Omega.{arith}
use lib.Dec.{leb, ltb}
use borrow.Author.Tests.{eqb-true, leb-true, leb-false, le-leb, ltb-true, lt-ltb}
use Rattle.blocks.specs.Choice.{either}
use Rattle.blocks.specs.Lists.{All}
use Rattle.blocks.proofs.BoolLaws.{by_t, clash, iff, both_i, both_l, both_r, both_no, either_e}
use Rattle.blocks.proofs.BlockLaws.{pow_pos}
use Rattle.blocks.proofs.ListLaws.{any_in_lem, look}
use Rattle.model.specs.declared.Entry.{Entry}
use Rattle.model.specs.Model.{EntryOk, Valid, covers, starts_in, meets}
use Rattle.model.proofs.ValidLaws.{covers_i, covers_lo, covers_hi, sorted_ok}
use Rattle.batch.specs.declared.Command.TheVariants.{Store, Load, Erase, Mark, Unmark, Find, Reserve}
use Rattle.calls.specs.Demand.{Call, Bytewise, Starts}
use Rattle.trace.specs.Trace.{
  Step,
  Step.cleared,
  Step.ran,
  steps,
  after,
  did,
  same,
  stands,
  names,
  take,
  Taking,
  Taking.by_init,
  Taking.by_erase,
  Taking.by_store,
  Lost,
}
use Rattle.trace.proofs.RecordLaws.{Alike, alike, covers_same}
use Rattle.trace.proofs.CommandLaws.{either_l, either_r}
use Rattle.trace.proofs.StepLaws.{Until, Fitting, after_append, all_append, after_valid, last_moment, went}
use Rattle.trace.proofs.TraceLaws.{Going, going}

-- R244: a store names what its target range meets
pub names_meets : {l : List Entry} → Valid l → (e : Entry) → stands e l ≡ true → (i k w : ℕ) →
    names e (Store i k w) ≡ meets i (i + 2 ^ k - 1) e
names_meets {l} v e t i k w =
    let (x, m, s) = any_in_lem (same e) l t in go x (alike e x s) (look (sorted_ok v) m)
  where
    go : (x : Entry) → Alike e x → EntryOk x → either (covers i e) (starts_in i k e) ≡ meets i (i + 2 ^ k - 1) e
    go x a o =
        let b : x.base ≡ e.base = a.base in
        let z : 2 ^ x.order ≡ 2 ^ e.order = ap (λ (j : ℕ). 2 ^ j) a.order in
        let p : 0 < 2 ^ k = pow_pos k in
        let q : 0 < 2 ^ e.order = pow_pos e.order in
        iff (either (covers i e) (starts_in i k e)) (meets i (i + 2 ^ k - 1) e)
        (λ c. either_e (covers i e) (starts_in i k e) c
        (λ d. let lo : x.base ≤ i = covers_lo x i o (covers_same i a ∙ d) in
        let hi : i < x.base + 2 ^ x.order = covers_hi x i o (covers_same i a ∙ d) in
        both_i (le-leb e.base (i + 2 ^ k - 1) (omega arith)) (lt-ltb i (e.base + 2 ^ e.order) (omega arith)))
        (λ d. let lo : i ≤ e.base = leb-true _ _ (both_l (leb i e.base) (ltb e.base (i + 2 ^ k)) d) in
        let hi : e.base < i + 2 ^ k = ltb-true _ _ (both_r (leb i e.base) (ltb e.base (i + 2 ^ k)) d) in
        both_i (le-leb e.base (i + 2 ^ k - 1) (omega arith)) (lt-ltb i (e.base + 2 ^ e.order) (omega arith))))
        (λ c. let lo : e.base ≤ i + 2 ^ k - 1 =
        leb-true _ _ (both_l (leb e.base (i + 2 ^ k - 1)) (ltb i (e.base + 2 ^ e.order)) c) in
        let hi : i < e.base + 2 ^ e.order =
        ltb-true _ _ (both_r (leb e.base (i + 2 ^ k - 1)) (ltb i (e.base + 2 ^ e.order)) c) in
        by_t (leb i e.base)
        (λ d. let y : i ≤ e.base = leb-true _ _ d in
        either_r (covers i e) (starts_in i k e) (both_i d (lt-ltb e.base (i + 2 ^ k) (omega arith))))
        (λ d. let y : e.base < i = leb-false _ _ d in
        either_l (covers i e) (starts_in i k e) (sym (covers_same i a) ∙ covers_i x i o (omega arith) (omega arith))))

-- a step that takes it, told in full
told : (n : ℕ) (e : Entry) (l : List Entry) → Valid l → stands e l ≡ true → (s : Step) → take n e l s ≡ true → Taking n l e s
told n e l v h cleared u = by_init
told n e l v h (ran (Load i)) u = absurd (clash u (both_no (did n l (Load i))))
told n e l v h (ran (Mark i m)) u = absurd (clash u (both_no (did n l (Mark i m))))
told n e l v h (ran (Unmark i m)) u = absurd (clash u (both_no (did n l (Unmark i m))))
told n e l v h (ran (Find a z g j)) u = absurd (clash u (both_no (did n l (Find a z g j))))
told n e l v h (ran (Reserve i)) u = absurd (clash u (both_no (did n l (Reserve i))))
told n e l v h (ran (Erase i)) u =
    by_erase i (eqb-true _ _ (both_l (did n l (Erase i)) (covers i e) u)) (both_r (did n l (Erase i)) (covers i e) u)
told n e l v h (ran (Store i j w)) u =
    by_store i j w (eqb-true _ _ (both_l (did n l (Store i j w)) (names e (Store i j w)) u))
    (sym (names_meets v e h i j w) ∙ both_r (did n l (Store i j w)) (names e (Store i j w)) u)

-- R246: between two moments of a list of calls
pub lost : {n : ℕ} {l : List Entry} {ws : List ℕ} → Starts n l ws → {cs : List Call} → All Bytewise cs →
    (xs ys zs : List Step) → steps cs ≡ xs ++ (ys ++ zs) → (e : Entry) → stands e (after n l xs) ≡ true →
    stands e (after n l (xs ++ ys)) ≡ false → Lost n (after n l xs) ys e
lost {n} {l} st {cs} b xs ys zs q e t f =
    tell (going st b xs (ys ++ zs) q)
    (went n (after n l xs) ys e t (subst (λ (x : List Entry). stands e x ≡ false) (after_append n l xs ys) f))
  where
    tell : Going n l xs (ys ++ zs) → Until n (after n l xs) ys (take n e) (stands e) → Lost n (after n l xs) ys e
    tell g x =
        let (fy, fz) = all_append ys g.to_come in
        let (fb, fl) = all_append x.before (subst (All Fitting) x.among fy) in
        record {
          before = x.before;
          step = x.step;
          later = x.later;
          among = x.among;
          held = x.held;
          taking =
              told n e (after n (after n l xs) x.before) (after_valid n (after n l xs) g.valid fb)
              (last_moment n (stands e) (after n l xs) x.before x.held) x.step x.passes;
        }
