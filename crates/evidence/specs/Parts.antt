-- What it is to be a part of a sheet, and no copy (R260).
use Rattle.std.specs.Prelude.{ℕ, ◌+◌, ◌≤◌, ◌≡◌, List, [], length, take, drop}
use Rattle.std.specs.Borrow.{Bor}
use Rattle.evidence.specs.Sheets.{Found, Nowhere, InBase, InSupplement, BadSheet}

-- the reference r points to n bytes of the slice s, from its place p on: the same block of memory, the same place in it
pub record PartOf (s : Bor (List ℕ)) (p n : ℕ) (r : Bor (List ℕ)) : Type 0 where
  pub inside : p + n ≤ length s.now
  pub block : r.ref_ptr.0 ≡ s.ref_ptr.0
  pub place : r.ref_ptr.1 ≡ s.ref_ptr.1 + p
  pub bytes : r.now ≡ take n (drop p s.now)

-- the part of the supplement or of the base sheet, or an empty one
abbrev pub IsPart : (base supplement : Bor (List ℕ)) → Found → Bor (List ℕ) → Type 0
IsPart b s BadSheet r = r.now ≡ []
IsPart b s Nowhere r = r.now ≡ []
IsPart b s (InBase p n) r = PartOf b p n r
IsPart b s (InSupplement p n) r = PartOf s p n r
