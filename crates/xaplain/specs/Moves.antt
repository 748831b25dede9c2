-- What the functions of this crate promise each other of slices, searches and moves.
use Rattle.std.specs.Prelude.{ℕ, suc, ◌+◌, ◌-◌, ◌/◌, ◌^◌, ◌≤◌, ◌<◌, ◌≡◌, ◌≢◌, Bool, true, false, List, [], ◌∷◌, ◌++◌, ltb, eqb, length, get_or, take, drop, Option, None, Some, MatchOption}
use Rattle.std.specs.List.{list_any}
use Rattle.blocks.specs.Choice.{pick}
use Rattle.blocks.specs.Blocks.{bit}
use Rattle.model.specs.declared.Entry.{Entry}
use Rattle.model.specs.Model.{Valid, reserved}
use Rattle.batch.specs.declared.Command.{Command}
use Rattle.batch.specs.declared.Command.TheVariants.{Mark, Unmark}
use Rattle.batch.specs.declared.Reply.{Reply}
use Rattle.batch.specs.Reply.{answered, answered_by}
use Rattle.answers.specs.Answers.{ended}
use Rattle.xaplain.specs.Slices.{column}

-- the slices hold a list of n entries
pub record Holds (index order word marks : List ℕ) (n : ℕ) : Type 0 where
  pub list : List Entry
  pub valid : Valid list
  pub count : length list ≡ n
  pub fits : n ≤ length index
  pub order_fits : length order ≡ length index
  pub word_fits : length word ≡ length index
  pub marks_fit : length marks ≡ length index
  pub index_is : index ≡ column (λ e. e.base) (length index) list
  pub order_is : order ≡ column (λ e. e.order) (length index) list
  pub word_is : word ≡ column (λ e. e.word) (length index) list
  pub marks_are : marks ≡ column (λ e. e.marks) (length index) list

-- SEARCH
-- the first n numbers rise
pub record Rising (xs : List ℕ) (n : ℕ) : Type 0 where
  pub rises : (j k : ℕ) → j ≤ k → k < n → get_or xs j 0 ≤ get_or xs k 0

-- the first r of them are at most i, the others above
pub record Splits (xs : List ℕ) (n i r : ℕ) : Type 0 where
  pub within : r ≤ n
  pub low : (k : ℕ) → k < r → get_or xs k 0 ≤ i
  pub high : (k : ℕ) → r ≤ k → k < n → i < get_or xs k 0

-- what a search for the entry over an index needs of the slices
pub record Searchable (index order : List ℕ) (n : ℕ) : Type 0 where
  pub fits : n ≤ length index
  pub order_fits : n ≤ length order
  pub rises : Rising index n
  pub orders : (k : ℕ) → k < n → get_or order k 0 < 64

-- entry k is over i: the last that starts at i or before, and it reaches i
pub record Reaches (index order : List ℕ) (n i k : ℕ) : Type 0 where
  pub splits : Splits index n i (suc k)
  pub near : (i - get_or index k 0) / 2 ^ get_or order k 0 ≡ 0

-- none is: none starts at i or before, or the last that does ends before i
pub record Unreached (index order : List ℕ) (n i : ℕ) : Type 0 where
  pub at : ℕ
  pub splits : Splits index n i at
  pub short : at ≢ 0 → ((i - get_or index (at - 1) 0) / 2 ^ get_or order (at - 1) 0 ≡ 0 → ⊥)

-- the number of the entry over i, if there is one
abbrev pub Placed : (index order : List ℕ) → (n i : ℕ) → Option ℕ → Type 0
Placed is os n i r = MatchOption r (Unreached is os n i) (Reaches is os n i)

-- MOVES in one slice: ys is what xs has become
pub record Opened (xs ys : List ℕ) (p n : ℕ) : Type 0 where
  pub same_length : length ys ≡ length xs
  pub before : (k : ℕ) → k < p → get_or ys k 0 ≡ get_or xs k 0
  pub moved : (k : ℕ) → p ≤ k → k < n → get_or ys (k + 1) 0 ≡ get_or xs k 0
  pub after : (k : ℕ) → n < k → get_or ys k 0 ≡ get_or xs k 0

pub record Pulled (xs ys : List ℕ) (a q n : ℕ) : Type 0 where
  pub same_length : length ys ≡ length xs
  pub before : (k : ℕ) → k < a → get_or ys k 0 ≡ get_or xs k 0
  pub moved : (k : ℕ) → k < n - q → get_or ys (a + k) 0 ≡ get_or xs (q + k) 0
  pub after : (k : ℕ) → a + (n - q) ≤ k → get_or ys k 0 ≡ get_or xs k 0

pub record Cleared (xs ys : List ℕ) (a n : ℕ) : Type 0 where
  pub same_length : length ys ≡ length xs
  pub before : (k : ℕ) → k < a → get_or ys k 0 ≡ get_or xs k 0
  pub zeros : (k : ℕ) → a ≤ k → k < n → get_or ys k 0 ≡ 0
  pub after : (k : ℕ) → n ≤ k → get_or ys k 0 ≡ get_or xs k 0

-- v for the places from p to q - 1 of n
pub record Spliced (xs ys : List ℕ) (p q n v : ℕ) : Type 0 where
  pub same_length : length ys ≡ length xs
  pub before : (k : ℕ) → k < p → get_or ys k 0 ≡ get_or xs k 0
  pub new : get_or ys p 0 ≡ v
  pub moved : (k : ℕ) → k < n - q → get_or ys (p + 1 + k) 0 ≡ get_or xs (q + k) 0
  pub zeros : (k : ℕ) → p + 1 + (n - q) ≤ k → k < n → get_or ys k 0 ≡ 0
  pub after : (k : ℕ) → n ≤ k → p + 1 + (n - q) ≤ k → get_or ys k 0 ≡ get_or xs k 0

-- without the place k of n
pub record Closed (xs ys : List ℕ) (k n : ℕ) : Type 0 where
  pub same_length : length ys ≡ length xs
  pub before : (j : ℕ) → j < k → get_or ys j 0 ≡ get_or xs j 0
  pub moved : (j : ℕ) → k ≤ j → j + 1 < n → get_or ys j 0 ≡ get_or xs (j + 1) 0
  pub last : get_or ys (n - 1) 0 ≡ 0
  pub after : (j : ℕ) → n ≤ j → get_or ys j 0 ≡ get_or xs j 0

-- the slices hold the list, in so many places
pub record Columns (index order word marks : List ℕ) (room : ℕ) (l : List Entry) : Type 0 where
  pub index_is : index ≡ column (λ e. e.base) room l
  pub order_is : order ≡ column (λ e. e.order) room l
  pub word_is : word ≡ column (λ e. e.word) room l
  pub marks_are : marks ≡ column (λ e. e.marks) room l

-- e for the entries from p to q - 1
abbrev pub replaced : ℕ → ℕ → Entry → List Entry → List Entry
replaced p q e l = take p l ++ (e ∷ drop q l)

-- without the entry k
abbrev pub removed : ℕ → List Entry → List Entry
removed k l = take k l ++ drop (suc k) l

-- how many entries of a list in index order start below x
abbrev pub below : ℕ → List Entry → ℕ
below x [] = 0
below x (e ∷ l) = pick (ltb e.base x) (suc (below x l)) 0

-- what the check's loops say
-- r words stand before the first 0
pub record Counts (ws : List ℕ) (r : ℕ) : Type 0 where
  pub within : r ≤ length ws
  pub some : (k : ℕ) → k < r → get_or ws k 0 ≢ 0
  pub none : r < length ws → get_or ws r 0 ≡ 0

-- where the next entry may start, by the last index of the one before
abbrev pub low_of : Option ℕ → ℕ
low_of None = 0
low_of (Some last) = suc last

-- STORE: the first r numbers are below i, the others not
pub record Parts (xs : List ℕ) (n i r : ℕ) : Type 0 where
  pub within : r ≤ n
  pub low : (k : ℕ) → k < r → get_or xs k 0 < i
  pub high : (k : ℕ) → r ≤ k → k < n → i ≤ get_or xs k 0

-- some of the n marks words from k on has mark m
abbrev pub any_from : List ℕ → (m n k : ℕ) → Bool
any_from xs m n k = list_any (λ x. eqb (bit m x) 1) (take n (drop k xs))

abbrev pub kept_from : List ℕ → (n k : ℕ) → ℕ
kept_from xs n k = pick (any_from xs 0 n k) (2 ^ 0) 0 + pick (any_from xs 1 n k) (2 ^ 1) 0

-- FIND
-- the entry after r, if there is one below n, starts above a or is the last that does not
pub record Begins (xs : List ℕ) (n a r : ℕ) : Type 0 where
  pub within : r ≤ n
  pub before : (k : ℕ) → k < r → (k + 1 < n) × (get_or xs (k + 1) 0 ≤ a)

-- the entry after the first r, if there is one, starts above a or is the last that does not; those behind it start above a
pub record BeginsAt (xs : List ℕ) (n a r : ℕ) : Type 0 where
  pub within : r ≤ n
  pub before : (k : ℕ) → k < r → (k + 1 < n) × (get_or xs (k + 1) 0 ≤ a)
  pub after : (k : ℕ) → r < k → k < n → a < get_or xs k 0

-- the runs of the first r entries end before a, those of the others do not
pub record Starts (index order : List ℕ) (n a r : ℕ) : Type 0 where
  pub within : r ≤ n
  pub before : (k : ℕ) → k < r → get_or index k 0 + 2 ^ get_or order k 0 ≤ a
  pub after : (k : ℕ) → r ≤ k → k < n → a < get_or index k 0 + 2 ^ get_or order k 0

-- r is the first place from k to q - 1 that passes
pub record Passes (p : ℕ → Bool) (k q r : ℕ) : Type 0 where
  pub from : k ≤ r
  pub to : r < q
  pub yes : p r ≡ true
  pub before : (j : ℕ) → k ≤ j → j < r → p j ≡ false

-- that place, if there is one
abbrev pub FirstFrom : (p : ℕ → Bool) → (k q : ℕ) → Option ℕ → Type 0
FirstFrom p k q r = MatchOption r ((j : ℕ) → k ≤ j → j < q → p j ≡ false) (Passes p k q)

-- COMMANDS
-- what load, mark and unmark see of what covers an index (R203)
abbrev pub seen : Option Entry → Option Entry
seen None = None
seen (Some e) = pick (reserved e) None (Some e)

-- a find's reply by what it found
abbrev pub found_reply : Option Entry → Reply
found_reply None = answered 134 ended 0 0
found_reply (Some e) = answered_by 134 e 0

-- the command that sets a mark, or clears it
abbrev pub remarking : (i m : ℕ) → Bool → Command
remarking i m true = Mark i m
remarking i m false = Unmark i m
