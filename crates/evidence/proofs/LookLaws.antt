-- What a look-up comes to, by the records themselves (R254 to R260). Assumes nothing.
use Prim.Native.Nat.{ℕ, zero, suc, ◌+◌, ◌-◌, ◌≤◌, ◌<◌, min}
use mathlib.Core.Path.{◌≡◌, refl, sym, ap, subst, ◌∙◌}
use mathlib.Core.Bool.{true}
use mathlib.Core.List.{List}
use native.Mathlib.Omega.{arith}
use lib.Dec.{leb, ltb, eqb}
use lib.ListN.{length, drop, length-take}
use denote.Ref.{Bor}
use borrow.Author.Tests.{leb-true, leb-false, ltb-true, ltb-false, eqb-true, eqb-false}
use Rattle.blocks.proofs.BoolLaws.{by_t}
use Rattle.evidence.specs.Sheets.{
  body_bytes,
  is_record,
  index_at,
  text_at,
  rest_at,
  sought_in,
  seek,
  Span,
  Sought,
  malformed,
  Found,
  InBase,
  InSupplement,
  Nowhere,
  BadSheet,
  together,
  look,
}
use Rattle.std.specs.Prelude as rust
use Rattle.std.specs.Prelude.{None, Some, Ok, Err}
use Rattle.evidence.specs.Reading.{newer}
use Rattle.evidence.specs.Parts.{PartOf}
use Rattle.evidence.specs.Claims.{
  Begins,
  Begins.first,
  Begins.later,
  DamagedAt,
  Whole,
  Names,
  Counts,
  Unnamed,
  Outcome,
  Outcome.is_malformed,
  Outcome.is_nothing,
  Outcome.is_text,
  Looked,
  Looked.bad_base,
  Looked.bad_supplement,
  Looked.in_supplement,
  Looked.in_base,
  Looked.nowhere,
  Named,
  Named.by_base,
  Named.by_supplement,
  HasText,
  HasText.of_base,
  HasText.of_supplement,
}
use Rattle.evidence.proofs.SheetLaws.{good, rest_end, rest_bad, sought_on}

-- DAMAGE
-- from where a record begins on, with what is known there
record From (s : List ℕ) (i at : ℕ) : Type 0 where
  best : rust.Option Span
  same : seek s i ≡ sought_in s i best (rest_at s at)

from : (s : List ℕ) (i : ℕ) {at : ℕ} → Begins s at → From s i at
unfolding seek
from s i first = record { best = None; same = refl }
from s i (later {at} b h r) =
    let f : From s i at = from s i b in
    record { best = newer s at i f.best; same = f.same ∙ sought_on s at i f.best h r }

pub damaged : (s : List ℕ) (i : ℕ) {at : ℕ} → DamagedAt s at → seek s i ≡ malformed
damaged s i {at} d =
    let f : From s i at = from s i d.begins in
    f.same ∙ ap (sought_in s i f.best) (rest_bad s at d.inside d.bad)

-- R259: whichever sheet, wherever in it, whatever the other holds
pub damaged_base : (b s : List ℕ) (i : ℕ) {at : ℕ} → DamagedAt b at → look b s i ≡ BadSheet
unfolding look
damaged_base b s i d = ap (λ (x : Sought). together x (seek s i)) (damaged b i d)

with_bad : (x : Sought) → together x malformed ≡ BadSheet
with_bad (Ok b) = refl
with_bad (Err e) = refl

pub damaged_supplement : (b s : List ℕ) (i : ℕ) {at : ℕ} → DamagedAt s at → look b s i ≡ BadSheet
unfolding look
damaged_supplement b s i d = ap (together (seek b i)) (damaged s i d) ∙ with_bad (seek b i)

-- ONE SHEET
-- no record begins inside another
past : (s : List ℕ) (n : ℕ) {j k : ℕ} → j + k < n → Begins s j → Begins s k → is_record s k ≡ true → k < j → k + (3 + body_bytes s k) ≤ j
past s zero h b c r l = absurd (omega arith)
past s (suc n) h first c r l = absurd (omega arith)
past s (suc n) {j} {k} h (later {at} b i t) c r l =
    by_t (ltb k at)
    (λ y. let z : k + (3 + body_bytes s k) ≤ at = past s n (omega arith) b c r (ltb-true k at y) in omega arith)
    (λ y. by_t (ltb at k)
    (λ x. let z : at + (3 + body_bytes s at) ≤ k = past s n (omega arith) c b t (ltb-true at k x) in absurd (omega arith))
    (λ x. let e : k ≡ at = omega (arith, ltb-false k at y, ltb-false at k x) in
    subst (λ m. m + (3 + body_bytes s m) ≤ at + (3 + body_bytes s at)) (sym e) (omega arith)))

-- before a place where a record begins
data Upto (s : List ℕ) (i k : ℕ) : rust.Option Span → Type 0 where
  none_yet : ((j : ℕ) → Names s i j → k ≤ j) → Upto s i k None
  so_far : {at : ℕ} → Names s i at → ((j : ℕ) → Names s i j → j < k → j ≤ at) → Upto s i k (Some (text_at s at))

module _ (s : List ℕ) (i k : ℕ) (b : Begins s k) (h : k < length s) (r : is_record s k ≡ true) where
  within : {j : ℕ} → Names s i j → j < k + (3 + body_bytes s k) → j ≤ k
  within {j} n l =
      by_t (ltb k j)
      (λ t. let z : k + (3 + body_bytes s k) ≤ j = past s (suc (j + k)) (omega arith) n.begins b r (ltb-true k j t) in absurd (omega arith))
      (λ t. ltb-false k j t)

  named : index_at s k ≡ i → Upto s i (k + (3 + body_bytes s k)) (Some (text_at s k))
  named e = so_far (record { begins = b; inside = h; good = r; index = e }) (λ j n l. within n l)

  at_other : (index_at s k ≡ i → ⊥) → {j : ℕ} → Names s i j → j ≡ k → ⊥
  at_other f n e = f (subst (λ m. index_at s m ≡ i) e n.index)

  unnamed : {x : rust.Option Span} → (index_at s k ≡ i → ⊥) → Upto s i k x → Upto s i (k + (3 + body_bytes s k)) x
  unnamed f (none_yet g) = none_yet (λ j n.
      by_t (ltb j (k + (3 + body_bytes s k)))
      (λ t. absurd (at_other f n (let z : j ≤ k = within n (ltb-true j _ t) in omega (arith, g j n))))
      (λ t. ltb-false j _ t))
  unnamed f (so_far m g) = so_far m (λ j n l.
      g j n (by_t (ltb j k) (λ t. ltb-true j k t)
      (λ t. absurd (at_other f n (let z : j ≤ k = within n l in omega (arith, ltb-false j k t))))))

  step : {x : rust.Option Span} → Upto s i k x → Upto s i (k + (3 + body_bytes s k)) (newer s k i x)
  step {x} u =
      by_t (eqb (index_at s k) i)
      (λ t. rw t (named (eqb-true (index_at s k) i t)))
      (λ t. rw t (unnamed (eqb-false (index_at s k) i t) u))

ended : (s : List ℕ) (i k : ℕ) {x : rust.Option Span} → Whole s → length s ≤ k → Upto s i k x → Outcome s i (Ok x)
ended s i k w l (none_yet g) = is_nothing (λ j n. let a : j < length s = n.inside in omega (arith, g j n)) w
ended s i k w l (so_far m g) =
    is_text (record { names = m; last = λ j n. g j n (let a : j < length s = n.inside in omega arith) }) w

-- from a place where a record begins to the end
walk : (s : List ℕ) (i n k : ℕ) {x : rust.Option Span} → length s - k < n → Begins s k → Upto s i k x →
    seek s i ≡ sought_in s i x (rest_at s k) → Outcome s i (seek s i)
walk s i zero k l b u e = absurd (omega arith)
walk s i (suc n) k {x} l b u e =
    by_t (leb (length s) k)
    (λ t. let f : seek s i ≡ Ok x = e ∙ ap (sought_in s i x) (rest_end s k (leb-true _ _ t)) in
    let whole : Whole s = λ at d. let z : malformed ≡ Ok x = sym (damaged s i d) ∙ f in cc in
    subst (Outcome s i) (sym f) (ended s i k whole (leb-true _ _ t) u))
    (λ t. let h : k < length s = leb-false _ _ t in
    by_t (is_record s k)
    (λ r. walk s i n (k + (3 + body_bytes s k)) (let g = good s k r in omega (arith, g.ends)) (later b h r) (step s i k b h r u)
    (e ∙ sought_on s k i x h r))
    (λ r. let d : DamagedAt s k = record { begins = b; inside = h; bad = r } in subst (Outcome s i) (sym (damaged s i d)) (is_malformed d)))

-- R254, R255: what a look-up in one sheet comes to
pub outcome : (s : List ℕ) (i : ℕ) → Outcome s i (seek s i)
unfolding seek
outcome s i = walk s i (suc (length s)) 0 (omega arith) first (none_yet (λ j n. omega arith)) refl

counts_sole : (s : List ℕ) (i : ℕ) {j k : ℕ} → Counts s i j → Counts s i k → j ≡ k
counts_sole s i {j} {k} c d = omega (arith, c.last k d.names, d.last j c.names)

-- R255: of the records of an index the last counts, whatever stands between
pub last_counts : (s : List ℕ) (i : ℕ) {at : ℕ} → Whole s → Counts s i at → seek s i ≡ Ok (Some (text_at s at))
last_counts s i {at} w c = go (outcome s i)
  where
    go : {x : Sought} → Outcome s i x → x ≡ Ok (Some (text_at s at))
    go (is_malformed d) = absurd (w _ d)
    go (is_nothing f v) = absurd (f _ c.names)
    go (is_text d v) = ap (λ (j : ℕ). Ok (Some (text_at s j))) (counts_sole s i d c)

unnamed_nothing : (s : List ℕ) (i : ℕ) → Whole s → Unnamed s i → seek s i ≡ Ok None
unnamed_nothing s i w f = go (outcome s i)
  where
    go : {x : Sought} → Outcome s i x → x ≡ Ok None
    go (is_malformed d) = absurd (w _ d)
    go (is_nothing g v) = refl
    go (is_text d v) = absurd (f _ d.names)

-- BOTH SHEETS
-- a row holds
pub looked : (b s : List ℕ) (i : ℕ) → Looked b s i (look b s i)
unfolding look
looked b s i = go (outcome b i) (outcome s i)
  where
    go : {x y : Sought} → Outcome b i x → Outcome s i y → Looked b s i (together x y)
    go (is_malformed d) o = bad_base d
    go (is_nothing f v) (is_malformed d) = bad_supplement d
    go (is_nothing f v) (is_nothing g w) = nowhere v w f g
    go (is_nothing f v) (is_text c w) = in_supplement v w c
    go (is_text c v) (is_malformed d) = bad_supplement d
    go (is_text c v) (is_nothing g w) = in_base v w g c
    go (is_text c v) (is_text d w) = in_supplement v w d

over_whole : (b : List ℕ) (i : ℕ) (t : Span) → Whole b → together (seek b i) (Ok (Some t)) ≡ InSupplement t.place t.size
over_whole b i t w = go (outcome b i)
  where
    go : {x : Sought} → Outcome b i x → together x (Ok (Some t)) ≡ InSupplement t.place t.size
    go (is_malformed d) = absurd (w _ d)
    go (is_nothing f v) = refl
    go (is_text c v) = refl

-- R256, R257: a record in the supplement hides the base sheet's, whatever that has, and however short the text
pub hides_base : (b s : List ℕ) (i : ℕ) {at : ℕ} → Whole b → Whole s → Counts s i at →
    look b s i ≡ InSupplement (at + 11) (body_bytes s at - 8)
unfolding look
hides_base b s i {at} v w c =
    ap (together (seek b i)) (last_counts s i w c) ∙ over_whole b i (text_at s at) v

-- and a row that holds is the one that a look-up comes to
pub looked_sole : (b s : List ℕ) (i : ℕ) {f : Found} → Looked b s i f → look b s i ≡ f
unfolding look
looked_sole b s i (bad_base d) = damaged_base b s i d
looked_sole b s i (bad_supplement d) = damaged_supplement b s i d
looked_sole b s i (in_supplement v w c) = hides_base b s i v w c
looked_sole b s i (in_base {at} v w f c) =
    ap (λ (y : Sought). together (seek b i) y) (unnamed_nothing s i w f) ∙ ap (λ (x : Sought). together x (Ok None)) (last_counts b i v c)
looked_sole b s i (nowhere v w f g) =
    ap (λ (y : Sought). together (seek b i) y) (unnamed_nothing s i w g) ∙ ap (λ (x : Sought). together x (Ok None)) (unnamed_nothing b i v f)

-- R256, R258: in whole sheets a text is found exactly if a record names the index
pub found_exactly : (b s : List ℕ) (i : ℕ) → Whole b → Whole s →
    (HasText (look b s i) → Named b s i) × (Named b s i → HasText (look b s i))
found_exactly b s i v w = (there (looked b s i), back (looked b s i))
  where
    there : {f : Found} → Looked b s i f → HasText f → Named b s i
    there (bad_base {at = at} _) h = elim h [ ]
    there (bad_supplement {at = at} _) h = elim h [ ]
    there (nowhere _ _ _ _) h = elim h [ ]
    there (in_supplement _ _ c) h = by_supplement c.names
    there (in_base _ _ _ c) h = by_base c.names

    back : {f : Found} → Looked b s i f → Named b s i → HasText f
    back (bad_base d) n = absurd (v _ d)
    back (bad_supplement d) n = absurd (w _ d)
    back (in_supplement _ _ c) n = of_supplement
    back (in_base _ _ _ c) n = of_base
    back (nowhere _ _ f g) (by_base m) = absurd (f _ m)
    back (nowhere _ _ f g) (by_supplement m) = absurd (g _ m)

-- WHERE THE TEXT LIES
text_inside : (s : List ℕ) (i : ℕ) {at : ℕ} → Counts s i at → at + 11 + (body_bytes s at - 8) ≤ length s
text_inside s i {at} c = let g = good s at c.names.good in omega (arith, g.ends, g.body)

-- wherever a look-up finds it
abbrev LiesIn : (b s : List ℕ) → Found → Type 0
LiesIn b s (InBase p n) = p + n ≤ length b
LiesIn b s (InSupplement p n) = p + n ≤ length s
LiesIn b s Nowhere = Unit {0}
LiesIn b s BadSheet = Unit {0}

lies : (b s : List ℕ) (i : ℕ) {f : Found} → Looked b s i f → LiesIn b s f
lies b s i (bad_base d) = tt
lies b s i (bad_supplement d) = tt
lies b s i (in_supplement v w c) = text_inside s i c
lies b s i (in_base v w f c) = text_inside b i c
lies b s i (nowhere v w f g) = tt

pub base_inside : (b s : List ℕ) (i p n : ℕ) → look b s i ≡ InBase p n → p + n ≤ length b
base_inside b s i p n e = subst (LiesIn b s) e (lies b s i (looked b s i))

pub supplement_inside : (b s : List ℕ) (i p n : ℕ) → look b s i ≡ InSupplement p n → p + n ≤ length s
supplement_inside b s i p n e = subst (LiesIn b s) e (lies b s i (looked b s i))

-- R260: a part has the sheet's own block of memory, and begins and ends inside the sheet; equal bytes elsewhere are none
pub part_inside : {s r : Bor (List ℕ)} {p n : ℕ} → PartOf s p n r →
    (r.ref_ptr.0 ≡ s.ref_ptr.0) × (s.ref_ptr.1 ≤ r.ref_ptr.1) × (r.ref_ptr.1 + length r.now ≤ s.ref_ptr.1 + length s.now)
part_inside {s} {r} {p} {n} h =
    let l : length r.now ≡ min n (length (drop p s.now)) = ap length h.bytes ∙ length-take n (drop p s.now) in
    (h.block, omega (arith, h.place), omega (arith, h.place, h.inside, l))
