-- Words after a command, given by the words before it and by rows for the nodes that change.
use Rattle.std.specs.Prelude.{ℕ, suc, ◌+◌, ◌-◌, ◌≤◌, ◌<◌, ◌≡◌, List, [], ◌∷◌, length, get_or, set, Option, MatchOption, take, eqb, nat_le}
use Rattle.std.specs.List.{All, position, filter}
use Rattle.script.specs.Script.{script_from, script}
use Rattle.layout.specs.Words.{anchor_words, pool_words, place, IsField}

abbrev pub row_count : ℕ
row_count = 24

-- row r has the words of node ns r, if that is below n; the anchor of the rows is the anchor; all else stays
pub record Tables (ws rs ns ws' : List ℕ) (n : ℕ) : Type 0 where
  pub size : length ws ≡ pool_words n
  pub anchor : (p : ℕ) → p < anchor_words → get_or ws' p 0 ≡ get_or rs p 0
  pub row : (r : ℕ) → r < row_count → get_or ns r 0 < n → (f : ℕ) → IsField f →
      get_or ws' (place (get_or ns r 0) f) 0 ≡ get_or rs (place r f) 0
  pub rest : (m : ℕ) → m < n → ((r : ℕ) → r < row_count → get_or ns r 0 ≡ m → ⊥) → (f : ℕ) → IsField f →
      get_or ws' (place m f) 0 ≡ get_or ws (place m f) 0

-- c new words from place p on are those of rs from q on
pub record Agrees (ws' rs : List ℕ) (p q c : ℕ) : Type 0 where
  pub words : (t : ℕ) → t < c → get_or ws' (p + t) 0 ≡ get_or rs (q + t) 0

-- the numbers of the rows that are from or more
abbrev pub numbers_from : (ns : List ℕ) (from : ℕ) → List ℕ
numbers_from ns from = filter (λ x. nat_le from x) (take row_count ns)

-- the least of them, if one is below n
abbrev pub NextNumber : (ns : List ℕ) (from n : ℕ) → Option ℕ → Type 0
NextNumber ns from n o = MatchOption o (All (λ x. n ≤ x) (numbers_from ns from))
    (λ m. (from ≤ m) × (m < n) × All (λ x. m ≤ x) (numbers_from ns from))

-- the row whose number is m, if there is one
abbrev pub RowOf : (ns : List ℕ) (m : ℕ) → Option ℕ → Type 0
RowOf ns m r = r ≡ position (λ x. eqb x m) (take row_count ns)

-- words laid over those of a slice from place q on
unfoldable pub laid : (slice : List ℕ) → (q : ℕ) → (ss : List ℕ) → List ℕ
laid out q [] = out
laid out q (x ∷ ss) = laid (set out q x) (suc q) ss

-- a span's part of the script fits into a slice, from t on
pub record Fits (ws rs : List ℕ) (p q c t : ℕ) (out : List ℕ) : Type 0 where
  pub in_pool : p + c ≤ length ws
  pub in_rows : q + c ≤ length rs
  pub words : List ℕ
  pub agrees : Agrees words rs p q c
  pub room : t + length (script_from ws words p (length ws - p)) ≤ length out

-- and what writing it leaves
pub record Wrote (ws ws' : List ℕ) (p p' t t' : ℕ) (out out' : List ℕ) : Type 0 where
  pub count : t' + length (script_from ws ws' p' (length ws - p')) ≡ t + length (script_from ws ws' p (length ws - p))
  pub same : laid out t (script_from ws ws' p (length ws - p)) ≡ laid out' t' (script_from ws ws' p' (length ws - p'))

-- there are words that the table gives, and the script from node m on fits, from t on
pub record NodeFits (ws rs ns : List ℕ) (m t : ℕ) (out : List ℕ) : Type 0 where
  pub n : ℕ
  pub below : m < n
  pub words : List ℕ
  pub tables : Tables ws rs ns words n
  pub room : t + length (script_from ws words (pool_words m) (length ws - pool_words m)) ≤ length out

-- and all of it
pub record AllFits (ws rs ns : List ℕ) (n : ℕ) (out : List ℕ) : Type 0 where
  pub words : List ℕ
  pub tables : Tables ws rs ns words n
  pub room : length (script ws words) ≤ length out
