-- The script by nodes: those without a row are passed at once.
use Prim.Native.Nat.{ℕ, zero, suc, ◌+◌, ◌-◌, ◌≤◌, ◌<◌}
use mathlib.Core.Path.{◌≡◌, refl, sym, ap, subst, ◌∙◌}
use mathlib.Core.List.{List, [], ◌∷◌}
use mathlib.Core.Bool.{Bool, true}
use native.Mathlib.Omega.{arith}
use lib.Dec.{eqb}
use lib.ListN.{length, get_or, set, take}
use borrow.Author.Tests.{eqb-true, eqb-false, le-leb}
use Rattle.std.specs.Prelude.{nat_le, None, Some}
use Rattle.std.specs.List.{All, filter, position, position_or_len}
use Rattle.std.proofs.lemmas.Grind.{common_steps}
use Rattle.std.proofs.lemmas.List.{get_or-take, length-take-le}
use Rattle.std.proofs.lemmas.List.Quantifiers.{position-Some}
use Rattle.std.proofs.lemmas.List.Sums.{fails_before_first}
use Rattle.blocks.specs.Choice.{pick}
use Rattle.blocks.proofs.BoolLaws.{by_t}
use Rattle.layout.specs.Words.{anchor_words, node_words, pool_words, place, node_of, field_in}
use Rattle.script.specs.Script.{script_from, script}
use Rattle.script_table.proofs.LaidLaws.{next_same, next_pair, laid_pair, laid_none, script_end, script_start}
use Rattle.script_table.specs.Table.{laid, row_count, Tables, Agrees, NextNumber, RowOf, numbers_from, Wrote}

module _ (ws ws' : List ℕ) (len : ℕ) where
  abbrev pub after : ℕ → List ℕ
  after p = script_from ws ws' p (len - p)

  -- places that do not change are passed
  pub skip : (d p : ℕ) → p + d ≤ len → ((t : ℕ) → t < d → get_or ws' (p + t) 0 ≡ get_or ws (p + t) 0) → after p ≡ after (p + d)
  skip zero p h s = ap after (omega arith)
  skip (suc d) p h s =
      let e : p + 0 ≡ p = omega arith in
      let z : p + 1 + d ≡ p + suc d = omega arith in
      next_same ws ws' len p (omega arith) (subst (λ (x : ℕ). get_or ws' x 0 ≡ get_or ws x 0) e (s 0 (omega arith)))
      ∙ (skip d (p + 1) (omega arith) (λ t lt. let y : p + suc t ≡ p + 1 + t = omega arith in
      subst (λ (x : ℕ). get_or ws' x 0 ≡ get_or ws x 0) y (s (suc t) (omega arith))) ∙ ap after z)

  -- one place, counted
  pub count_step : (p n N r x : ℕ) → p < len → n + length (after p) ≡ N → get_or ws' p 0 ≡ x →
      r ≡ pick (eqb (get_or ws p 0) x) n (n + 2) → r + length (after (p + 1)) ≡ N
  count_step p n N r x h e d q =
      by_t (eqb (get_or ws p 0) x)
      (λ t. let a : r ≡ n = q ∙ rw t in
      let b : after p ≡ after (p + 1) = next_same ws ws' len p h (d ∙ sym (eqb-true _ _ t)) in omega (arith, ap length b))
      (λ t. let a : r ≡ n + 2 = q ∙ rw t in
      let b = next_pair ws ws' len p h (λ z. eqb-false _ _ t (sym (sym d ∙ z))) in omega (arith, ap length b))

  -- one place, written
  pub write_room : (p t N x : ℕ) → p < len → t + length (after p) ≤ N → get_or ws' p 0 ≡ x → (get_or ws p 0 ≡ x → ⊥) → t + 2 ≤ N
  write_room p t N x h e d n = let b = next_pair ws ws' len p h (λ z. n (sym (sym d ∙ z))) in omega (arith, ap length b)

  pub write_step : (p : ℕ) (out₀ out out' : List ℕ) (t t' x : ℕ) → p < len → out₀ ≡ laid out t (after p) →
      get_or ws' p 0 ≡ x → t' ≡ pick (eqb (get_or ws p 0) x) t (t + 2) →
      out' ≡ pick (eqb (get_or ws p 0) x) out (set (set out t p) (t + 1) x) → out₀ ≡ laid out' t' (after (p + 1))
  write_step p out₀ out out' t t' x h e d q r =
      by_t (eqb (get_or ws p 0) x)
      (λ z. let b : after p ≡ after (p + 1) = next_same ws ws' len p h (d ∙ sym (eqb-true _ _ z)) in
      let a : t' ≡ t = q ∙ rw z in
      let g : out' ≡ out = r ∙ rw z in
      e ∙ rw (a, g) (ap (laid out t) b))
      (λ z. let b = next_pair ws ws' len p h (λ y. eqb-false _ _ z (sym (sym d ∙ y))) in
      let a : t' ≡ t + 2 = q ∙ rw z in
      let g : out' ≡ set (set out t p) (t + 1) x = r ∙ rw z in
      e ∙ rw (a, g) (ap (laid out t) b ∙ (laid_pair out t p (get_or ws' p 0) (after (p + 1))
      ∙ ap (λ (y : ℕ). laid (set (set out t p) (t + 1) y) (t + 2) (after (p + 1))) d)))

-- THE ROWS' NUMBERS
-- no number of a row from `from` on is below r
pub record NoneBelow (ns : List ℕ) (from r : ℕ) : Type 0 where
  pub least : from ≤ r
  pub between : (t : ℕ) → t < row_count → from ≤ get_or ns t 0 → r ≤ get_or ns t 0

no_position : (p : ℕ → Bool) (xs : List ℕ) → position p xs ≡ None → length xs ≤ position_or_len p xs
no_position p xs e = grind (arith, common_steps)

-- what holds of those that pass holds of one that passes
filter_each : (p : ℕ → Bool) (P : ℕ → Type 0) (xs : List ℕ) (i : ℕ) → i < length xs → p (get_or xs i 0) ≡ true →
    All P (filter p xs) → P (get_or xs i 0)
filter_each p P [] i h t a = absurd (omega arith)
filter_each p P (x ∷ xs) zero h t a = (rw t at a) 0 0 (omega arith)
filter_each p P (x ∷ xs) (suc i) h t a =
    by_t (p x) (λ e. filter_each p P xs i (omega arith) t (λ k d lt. (rw e at a) (suc k) d (omega arith)))
    (λ e. filter_each p P xs i (omega arith) t (rw e at a))

module _ (ns : List ℕ) (from : ℕ) (P : ℕ → Type 0) (h : row_count ≤ length ns) (a : All P (numbers_from ns from)) where
  number_each : (t : ℕ) → t < row_count → from ≤ get_or ns t 0 → P (get_or ns t 0)
  number_each t lt le =
      let same : get_or (take row_count ns) t 0 ≡ get_or ns t 0 = get_or-take row_count ns t 0 lt in
      subst P same (filter_each (λ x. nat_le from x) P (take row_count ns) t
      (omega (arith, length-take-le row_count ns h))
      (subst (λ (x : ℕ). nat_le from x ≡ true) (sym same) (le-leb from (get_or ns t 0) le)) a)

pub none_below : {ns : List ℕ} {from n : ℕ} → row_count ≤ length ns → from ≤ n → NextNumber ns from n None → NoneBelow ns from n
none_below {ns} {from} {n} h f x = record { least = f; between = number_each ns from (λ (y : ℕ). n ≤ y) h x }

pub some_below : {ns : List ℕ} {from n m : ℕ} → row_count ≤ length ns → NextNumber ns from n (Some m) → NoneBelow ns from m
some_below {ns} {from} {n} {m} h x = record { least = x.0; between = number_each ns from (λ (y : ℕ). m ≤ y) h x.2 }

pub row_some : (ns : List ℕ) (m r : ℕ) → row_count ≤ length ns → RowOf ns m (Some r) → (r < row_count) × (get_or ns r 0 ≡ m)
row_some ns m r h x =
    let f = position-Some (λ y. eqb y m) (take row_count ns) r 0 (sym x) in
    let lt : r < row_count = omega (arith, length-take-le row_count ns h, f.0) in
    (lt, sym (get_or-take row_count ns r 0 lt) ∙ eqb-true _ _ f.1)

pub row_none : (ns : List ℕ) (m : ℕ) → row_count ≤ length ns → RowOf ns m None →
    (t : ℕ) → t < row_count → get_or ns t 0 ≡ m → ⊥
row_none ns m h x t lt e =
    let size : length (take row_count ns) ≡ row_count = length-take-le row_count ns h in
    let far : length (take row_count ns) ≤ position_or_len (λ y. eqb y m) (take row_count ns) = no_position _ _ (sym x) in
    eqb-false _ _ (fails_before_first (λ y. eqb y m) (take row_count ns) t 0 (omega arith)) (get_or-take row_count ns t 0 lt ∙ e)

module _ {ws rs ns ws' : List ℕ} {n : ℕ} (T : Tables ws rs ns ws' n) where
  -- the nodes from m on, below m', have no row
  pub pass_nodes : (len m m' : ℕ) → len ≡ pool_words n → m' ≤ n → NoneBelow ns m m' →
      after ws ws' len (pool_words m) ≡ after ws ws' len (pool_words m')
  pass_nodes len m m' e most x =
      let z : pool_words m + (pool_words m' - pool_words m) ≡ pool_words m' = omega (arith, x.least) in
      skip ws ws' len (pool_words m' - pool_words m) (pool_words m) (omega (arith, x.least, most))
      (λ t lt.
      let g : node_of (pool_words m + t) < m' = omega arith in
      let l : m ≤ node_of (pool_words m + t) = omega arith in
      let b : place (node_of (pool_words m + t)) (field_in (pool_words m + t)) ≡ pool_words m + t = omega arith in
      subst (λ (p : ℕ). get_or ws' p 0 ≡ get_or ws p 0) b
      (T.rest (node_of (pool_words m + t)) (omega (arith, most))
      (λ r lt' q. omega (arith, x.between r lt' (omega arith))) (field_in (pool_words m + t)) (omega arith)))
      ∙ ap (after ws ws' len) z

  -- a node without a row
  pub no_row : (len m : ℕ) → len ≡ pool_words n → m < n → ((r : ℕ) → r < row_count → get_or ns r 0 ≡ m → ⊥) →
      after ws ws' len (pool_words m) ≡ after ws ws' len (pool_words (m + 1))
  no_row len m e h f =
      let z : pool_words m + node_words ≡ pool_words (m + 1) = omega arith in
      skip ws ws' len node_words (pool_words m) (omega arith) (λ t lt. T.rest m h f t lt) ∙ ap (after ws ws' len) z

  pub row_agrees : (m r : ℕ) → m < n → r < row_count → get_or ns r 0 ≡ m → Agrees ws' rs (pool_words m) (pool_words r) node_words
  row_agrees m r h g e = record {
    words = λ t lt. subst (λ (x : ℕ). get_or ws' (place x t) 0 ≡ get_or rs (place r t) 0) e
        (T.row r g (subst (λ (x : ℕ). x < n) (sym e) h) t lt);
  }

  pub anchor_agrees : Agrees ws' rs 0 0 anchor_words
  anchor_agrees = record {
    words = λ t lt. let a : 0 + t ≡ t = omega arith in
        subst (λ (x : ℕ). get_or ws' x 0 ≡ get_or rs x 0) (sym a) (T.anchor t lt);
  }

-- WRITING A SPAN
pub wrote_start : (ws ws' : List ℕ) (p t : ℕ) (out : List ℕ) → Wrote ws ws' p (p + 0) t t out out
wrote_start ws ws' p t out =
    let z : p + 0 ≡ p = omega arith in
    record {
      count = ap (λ (x : ℕ). t + length (after ws ws' (length ws) x)) z;
      same = ap (λ (x : ℕ). laid out t (after ws ws' (length ws) x)) (sym z);
    }

pub wrote_step : {ws ws' : List ℕ} {p r t y : ℕ} {out₀ out : List ℕ} → Wrote ws ws' p r t y out₀ out → (x y' r' : ℕ)
    (out' : List ℕ) → r < length ws → get_or ws' r 0 ≡ x → y' ≡ pick (eqb (get_or ws r 0) x) y (y + 2) →
    out' ≡ pick (eqb (get_or ws r 0) x) out (set (set out y r) (y + 1) x) → r + 1 ≡ r' → Wrote ws ws' p r' t y' out₀ out'
wrote_step {ws} {ws'} {p} {r} {t} {y} {out₀} {out} w x y' r' out' h d q o e =
    subst (λ (z : ℕ). Wrote ws ws' p z t y' out₀ out') e (record {
      count = count_step ws ws' (length ws) r y _ y' x h w.count d q;
      same = write_step ws ws' (length ws) r _ out out' y y' x h w.same d q o;
    })

pub wrote_then : {ws ws' : List ℕ} {p r z t y x : ℕ} {out₀ out out' : List ℕ} → Wrote ws ws' p r t y out₀ out →
    Wrote ws ws' r z y x out out' → Wrote ws ws' p z t x out₀ out'
wrote_then a b = record { count = b.count ∙ a.count; same = a.same ∙ b.same }

-- places that are passed
pub wrote_pass : {ws ws' : List ℕ} (p z t : ℕ) (out : List ℕ) →
    after ws ws' (length ws) p ≡ after ws ws' (length ws) z → Wrote ws ws' p z t t out out
wrote_pass p z t out e = record {
  count = ap (λ (q : List ℕ). t + length q) (sym e);
  same = ap (laid out t) e;
}

-- to the end
pub wrote_all : {ws ws' : List ℕ} {p t : ℕ} {out out' : List ℕ} → Wrote ws ws' 0 p 0 t out out' → length ws ≤ p →
    out' ≡ laid out 0 (script ws ws')
wrote_all {ws} {ws'} {p} {t} {out} {out'} w h =
    laid_none out' t ∙ (ap (laid out' t) (sym (script_end ws ws' (length ws) p h))
    ∙ (sym w.same ∙ ap (laid out 0) (sym (script_start ws ws' (length ws) refl))))
