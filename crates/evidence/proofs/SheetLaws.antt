-- Reading a sheet record by record.
use Prim.Native.Nat.{ℕ, zero, suc, ◌+◌, ◌-◌, ◌≤◌, ◌<◌}
use mathlib.Core.Path.{◌≡◌, refl, ap, ◌∙◌}
use mathlib.Core.Bool.{Bool, true, false}
use mathlib.Core.List.{List, []}
use mathlib.Core.Option.{Option, none, some}
use native.Mathlib.Omega.{arith}
use lib.Dec.{leb, eqb}
use lib.ListN.{length, get_or}
use borrow.Author.Tests.{leb-true, leb-false, eqb-true, le-leb, lt-leb}
use Rattle.blocks.specs.Choice.{both}
use Rattle.blocks.proofs.BoolLaws.{by_t, both_l, both_r}
use Rattle.evidence.specs.Sheets.{body_bytes, is_record, index_at, onto, records_from, rest_at, latest, sought_in, Span}
use Rattle.evidence.specs.Reading.{newer}
use Rattle.std.specs.Prelude as rust
use Rattle.std.specs.Prelude.{Ok}

-- the tests of a whole record
pub record Good (s : List ℕ) (at : ℕ) : Type 0 where
  pub tag_is : get_or s at 0 ≡ 48
  pub body : 8 ≤ body_bytes s at
  pub ends : at + 3 + body_bytes s at ≤ length s

pub good : (s : List ℕ) (at : ℕ) → is_record s at ≡ true → Good s at
good s at t =
    let a : Bool = leb (at + 3) (length s) in
    let b : Bool = eqb (get_or s at 0) 48 in
    let c : Bool = leb 8 (body_bytes s at) in
    let d : Bool = leb (at + 3 + body_bytes s at) (length s) in
    let t₁ : both b (both c d) ≡ true = both_r a (both b (both c d)) t in
    let t₂ : both c d ≡ true = both_r b (both c d) t₁ in
    record { tag_is = eqb-true _ _ (both_l b (both c d) t₁); body = leb-true _ _ (both_l c d t₂); ends = leb-true _ _ (both_r c d t₂) }

-- THE RECORDS IN ORDER
-- more than enough places to read change nothing
fuel : (s : List ℕ) (k m at : ℕ) → length s - at < k → length s - at < m → records_from s k at ≡ records_from s m at
unfolding records_from
fuel s zero m at h g = absurd (omega arith)
fuel s (suc k) zero at h g = absurd (omega arith)
fuel s (suc k) (suc m) at h g =
    by_t (leb (length s) at) (λ t. rw t)
    (λ t. by_t (is_record s at)
    (λ r. let w = good s at r in rw (t, r) (ap (onto at) (fuel s k m (at + (3 + body_bytes s at))
    (omega (arith, w.ends, leb-false (length s) at t)) (omega (arith, w.ends, leb-false (length s) at t)))))
    (λ r. rw (t, r)))

pub rest_end : (s : List ℕ) (at : ℕ) → length s ≤ at → rest_at s at ≡ some []
unfolding rest_at records_from
rest_end s at h = rw (le-leb (length s) at h)

pub rest_bad : (s : List ℕ) (at : ℕ) → at < length s → is_record s at ≡ false → rest_at s at ≡ none
unfolding rest_at records_from
rest_bad s at h r = rw (lt-leb (length s) at h, r)

pub rest_on : (s : List ℕ) (at : ℕ) → at < length s → is_record s at ≡ true → rest_at s at ≡ onto at (rest_at s (at + (3 + body_bytes s at)))
unfolding rest_at records_from
rest_on s at h r =
    let w = good s at r in
    rw (lt-leb (length s) at h, r)
    (ap (onto at) (fuel s (length s - at) (suc (length s - (at + (3 + body_bytes s at)))) (at + (3 + body_bytes s at))
    (omega (arith, w.ends)) (omega (arith, w.ends))))

-- WHAT IS KNOWN AFTER A RECORD
known : (s : List ℕ) (at i : ℕ) (b : rust.Option Span) (r : Option (List ℕ)) → sought_in s i b (onto at r) ≡ sought_in s i (newer s at i b) r
known s at i b none = refl
known s at i b (some ats) = ap (λ (x : rust.Option Span). Ok (latest s i ats x)) (by_t (eqb (index_at s at) i) (λ t. rw t) (λ t. rw t))

pub sought_on : (s : List ℕ) (at i : ℕ) (b : rust.Option Span) → at < length s → is_record s at ≡ true →
    sought_in s i b (rest_at s at) ≡ sought_in s i (newer s at i b) (rest_at s (at + (3 + body_bytes s at)))
sought_on s at i b h r = ap (sought_in s i b) (rest_on s at h r) ∙ known s at i b (rest_at s (at + (3 + body_bytes s at)))
