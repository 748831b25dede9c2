-- Records, damage and what a sheet names, as R254 and R255 word them and without the reading in order.
use Rattle.std.specs.Prelude.{ℕ, ◌+◌, ◌-◌, ◌≤◌, ◌<◌, ◌≡◌, true, false, List, length, None, Some, Ok}
use Rattle.evidence.specs.Sheets.{
  body_bytes,
  is_record,
  index_at,
  text_at,
  Sought,
  malformed,
  Found,
  Nowhere,
  InBase,
  InSupplement,
  BadSheet,
}

-- where records begin: at 0, and where a good one ends
pub data Begins (s : List ℕ) : ℕ → Type 0 where
  first : Begins s 0
  later : {at : ℕ} → Begins s at → at < length s → is_record s at ≡ true → Begins s (at + (3 + body_bytes s at))

-- R254: a record that begins at a place is cut, of another tag, or too short
pub record DamagedAt (s : List ℕ) (at : ℕ) : Type 0 where
  pub begins : Begins s at
  pub inside : at < length s
  pub bad : is_record s at ≡ false

abbrev pub Whole : List ℕ → Type 0
Whole s = (at : ℕ) → DamagedAt s at → ⊥

-- the record that begins at a place names the index
pub record Names (s : List ℕ) (i at : ℕ) : Type 0 where
  pub begins : Begins s at
  pub inside : at < length s
  pub good : is_record s at ≡ true
  pub index : index_at s at ≡ i

-- R255: and it is the last that does
pub record Counts (s : List ℕ) (i at : ℕ) : Type 0 where
  pub names : Names s i at
  pub last : (k : ℕ) → Names s i k → k ≤ at

abbrev pub Unnamed : List ℕ → ℕ → Type 0
Unnamed s i = (at : ℕ) → Names s i at → ⊥

-- ONE SHEET: a row for each outcome
pub data Outcome (s : List ℕ) (i : ℕ) : Sought → Type 0 where
  is_malformed : {at : ℕ} → DamagedAt s at → Outcome s i malformed
  is_nothing : Unnamed s i → Whole s → Outcome s i (Ok None)
  is_text : {at : ℕ} → Counts s i at → Whole s → Outcome s i (Ok (Some (text_at s at)))

-- BOTH SHEETS: a row for each answer (R256 to R259)
pub data Looked (b s : List ℕ) (i : ℕ) : Found → Type 0 where
  bad_base : {at : ℕ} → DamagedAt b at → Looked b s i BadSheet
  bad_supplement : {at : ℕ} → DamagedAt s at → Looked b s i BadSheet
  in_supplement : {at : ℕ} → Whole b → Whole s → Counts s i at → Looked b s i (InSupplement (at + 11) (body_bytes s at - 8))
  in_base : {at : ℕ} → Whole b → Whole s → Unnamed s i → Counts b i at → Looked b s i (InBase (at + 11) (body_bytes b at - 8))
  nowhere : Whole b → Whole s → Unnamed b i → Unnamed s i → Looked b s i Nowhere

-- a record of either names the index
pub data Named (b s : List ℕ) (i : ℕ) : Type 0 where
  by_base : {at : ℕ} → Names b i at → Named b s i
  by_supplement : {at : ℕ} → Names s i at → Named b s i

-- a text was found, in one or the other
pub data HasText : Found → Type 0 where
  of_base : {p n : ℕ} → HasText (InBase p n)
  of_supplement : {p n : ℕ} → HasText (InSupplement p n)
