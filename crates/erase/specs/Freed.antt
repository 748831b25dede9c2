-- What freeing a node leaves: its words 0, and the other words as they were.
use Rattle.std.specs.Prelude.{ℕ, ◌+◌, ◌≤◌, ◌<◌, ◌≡◌, ◌≢◌, Bool, true, false, List, get_or}
use Rattle.layout.specs.Words.{pool_words, node_end, count_word, head_word, shift_place, owner_place, filled_place, slot_place}

-- the words from ws to ws': those of node n became 0
abbrev pub Gone : List ℕ → ℕ → Type 0
Gone ws' n = (j : ℕ) → pool_words n ≤ j → j < node_end n → get_or ws' j 0 ≡ 0

-- place j is none of node n's
abbrev pub Outside : ℕ → ℕ → Type 0
Outside n j = pool_words n ≤ j → j < node_end n → ⊥

-- and the head's word became x
pub record Freed (ws ws' : List ℕ) (n x : ℕ) : Type 0 where
  pub gone : Gone ws' n
  pub head : get_or ws' head_word 0 ≡ x
  pub rest : (j : ℕ) → Outside n j → j ≢ head_word → get_or ws' j 0 ≡ get_or ws j 0

-- and the owner word of node m became 0
pub record Raised (ws ws' : List ℕ) (n m x : ℕ) : Type 0 where
  pub gone : Gone ws' n
  pub own : m ≢ n → get_or ws' (owner_place m) 0 ≡ 0
  pub head : get_or ws' head_word 0 ≡ x
  pub rest : (j : ℕ) → Outside n j → j ≢ owner_place m → j ≢ head_word → get_or ws' j 0 ≡ get_or ws j 0

-- slot o of node m became 0, and the filled count of m is one less
pub record Unlinked (ws ws' : List ℕ) (n m o : ℕ) : Type 0 where
  pub gone : Gone ws' n
  pub cleared : m ≢ n → get_or ws' (slot_place m o) 0 ≡ 0
  pub counted : m ≢ n → get_or ws' (filled_place m) 0 + 1 ≡ get_or ws (filled_place m) 0
  pub rest : (j : ℕ) → Outside n j → j ≢ slot_place m o → j ≢ filled_place m → get_or ws' j 0 ≡ get_or ws j 0

-- of the first words only that of node n changed, and it became 0 if r
pub record Sheds (r : Bool) (n : ℕ) (ws ws' : List ℕ) : Type 0 where
  pub count_is : get_or ws' count_word 0 ≡ get_or ws count_word 0
  pub rest : (m : ℕ) → (m ≡ n → ⊥) → get_or ws' (shift_place m) 0 ≡ get_or ws (shift_place m) 0
  pub freed : r ≡ true → get_or ws' (shift_place n) 0 ≡ 0
  pub kept : r ≡ false → get_or ws' (shift_place n) 0 ≡ get_or ws (shift_place n) 0
