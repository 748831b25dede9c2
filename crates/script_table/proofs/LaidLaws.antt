-- A script written pair by pair into a slice, while the places are gone through.
use Prim.Native.Nat.{ℕ, suc, ◌+◌, ◌-◌, ◌≤◌, ◌<◌}
use mathlib.Core.Path.{◌≡◌, refl, sym, ap, ◌∙◌}
use mathlib.Core.List.{List, [], ◌∷◌, ◌++◌, append_assoc}
use native.Mathlib.Omega.{arith}
use native.Mathlib.Nat.{add-zero}
use lib.ListN.{length, get_or, set, take, drop, length-set, take-append-drop}
use lib.Seq.{take-suc-set, drop-set-lt}
use borrow.Author.Tests.{eq-eqb, ne_eqb}
use Rattle.script.specs.Script.{script_from, script}
use Rattle.script_table.specs.Table.{laid}

-- LAID FROM THE BEGINNING
laid_at : (out : List ℕ) (q : ℕ) (ss : List ℕ) → q + length ss ≤ length out →
    laid out q ss ≡ take q out ++ (ss ++ drop (q + length ss) out)
unfolding laid
laid_at out q [] h = rw (add-zero q) (sym (take-append-drop q out))
laid_at out q (x ∷ ss) h =
    let e : suc q + length ss ≡ q + suc (length ss) = omega arith in
    laid_at (set out q x) (suc q) ss (simp length-set (omega arith))
    ∙ rw (take-suc-set out q x (omega arith), drop-set-lt (suc q + length ss) out q x (omega arith), append_assoc)
    (ap (λ (m : ℕ). take q out ++ (x ∷ (ss ++ drop m out))) e)

pub laid_all : (out ss : List ℕ) → length ss ≤ length out → laid out 0 ss ≡ ss ++ drop (length ss) out
laid_all out ss h =
    let z : 0 + length ss ≡ length ss = omega arith in
    laid_at out 0 ss (omega arith) ∙ ap (λ (m : ℕ). ss ++ drop m out) z

pub laid_none : (out : List ℕ) (q : ℕ) → out ≡ laid out q []
unfolding laid
laid_none out q = refl

pub laid_pair : (out : List ℕ) (q p x : ℕ) (ss : List ℕ) →
    laid out q (p ∷ x ∷ ss) ≡ laid (set (set out q p) (q + 1) x) (q + 2) ss
unfolding laid
laid_pair out q p x ss =
    let a : q + 1 ≡ suc q = omega arith in
    let b : q + 2 ≡ suc (suc q) = omega arith in
    rw (a, b)

-- ONE PLACE MORE
module _ (ws ws' : List ℕ) (len p : ℕ) (h : p < len) where
  step : script_from ws ws' p (len - p) ≡ script_from ws ws' p (suc (len - (p + 1)))
  step = ap (script_from ws ws' p) (omega arith)

  pub next_same : get_or ws' p 0 ≡ get_or ws p 0 → script_from ws ws' p (len - p) ≡ script_from ws ws' (p + 1) (len - (p + 1))
  unfolding script_from
  next_same e =
      let a : p + 1 ≡ suc p = omega arith in
      step ∙ rw (eq-eqb (get_or ws p 0) (get_or ws' p 0) (sym e), a)

  pub next_pair : (get_or ws' p 0 ≡ get_or ws p 0 → ⊥) →
      script_from ws ws' p (len - p) ≡ p ∷ get_or ws' p 0 ∷ script_from ws ws' (p + 1) (len - (p + 1))
  unfolding script_from
  next_pair e =
      let a : p + 1 ≡ suc p = omega arith in
      step ∙ rw (ne_eqb (get_or ws p 0) (get_or ws' p 0) (λ z. e (sym z)), a)

pub script_end : (ws ws' : List ℕ) (len p : ℕ) → len ≤ p → script_from ws ws' p (len - p) ≡ []
unfolding script_from
script_end ws ws' len p h = let z : len - p ≡ 0 = omega arith in rw z

pub script_start : (ws ws' : List ℕ) (len : ℕ) → len ≡ length ws → script ws ws' ≡ script_from ws ws' 0 (len - 0)
script_start ws ws' len e = ap (script_from ws ws' 0) (omega arith)
