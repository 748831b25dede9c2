-- A map of the free nodes: a bit for each node, 64 to a word; then a second level, a bit for each of these words; and
-- last the count of the nodes that are free. So the lowest free node and the count are a few words away in any pool.
use Rattle.std.specs.Prelude.{ℕ, ◌+◌, ◌*◌, ◌/◌, ◌%◌, ◌≤◌, ◌<◌, ◌≡◌, Bool, true, false, List, leb, eqb, length, get_or}
use Rattle.blocks.specs.Choice.{pick, both}
use Rattle.blocks.specs.Blocks.{bit, count_to}
use Rattle.words.specs.Bits.{word_bits}

-- the most numbers that a map has bits for: four words of the second level
abbrev pub map_nodes : ℕ
map_nodes = 4 * word_bits * word_bits

-- how many words they take; the second level begins there
abbrev pub map_top : ℕ
map_top = map_nodes / word_bits

-- where the count stands, after the second level
abbrev pub map_count : ℕ
map_count = map_top + map_top / word_bits

abbrev pub map_words : ℕ
map_words = map_count + 1

-- bit x of the map: of node x below map_nodes, from there on of the second level
abbrev pub map_bit : List ℕ → ℕ → ℕ
map_bit ms x = bit (x % word_bits) (get_or ms (x / word_bits) 0)

-- 1 for what passes; 1 for a word that is not 0
abbrev pub one_if : Bool → ℕ
one_if b = pick b 1 0

abbrev pub one_over : ℕ → ℕ
one_over w = pick (eqb w 0) 0 1

-- how many numbers below m pass: shut, as map_nodes is a numeral
unfoldable pub tally : (ℕ → Bool) → ℕ → ℕ
tally f m = count_to f m

-- the map of the nodes that pass
pub record MapOf (free : ℕ → Bool) (ms : List ℕ) : Type 0 where
  pub long : length ms ≡ map_words
  pub bits : (m : ℕ) → m < map_nodes → map_bit ms m ≡ one_if (free m)
  pub tops : (j : ℕ) → j < map_top → map_bit ms (map_nodes + j) ≡ one_over (get_or ms j 0)
  pub count_is : get_or ms map_count 0 ≡ tally free map_nodes

-- words for a map, in which nothing stands yet
pub record BlankMap (ms : List ℕ) : Type 0 where
  pub long : length ms ≡ map_words
  pub zeros : (j : ℕ) → get_or ms j 0 ≡ 0

-- a map of some nodes
pub record Sound (ms : List ℕ) : Type 0 where
  pub free : ℕ → Bool
  pub is : MapOf free ms

-- as before, but node m is free, or is not
abbrev pub put : (ℕ → Bool) → ℕ → Bool → ℕ → Bool
put f m b x = pick (eqb x m) b (f x)

-- no node is in the map
abbrev pub Full : List ℕ → Type 0
Full ms = (x : ℕ) → x < map_nodes → map_bit ms x ≡ 0

-- r is the lowest node in the map
pub record Lowest (ms : List ℕ) (r : ℕ) : Type 0 where
  pub most : r < map_nodes
  pub on : map_bit ms r ≡ 1
  pub first : (x : ℕ) → x < r → map_bit ms x ≡ 0

-- bit x became b, and nothing else changed
pub record Flips (ms ms' : List ℕ) (x : ℕ) (b : Bool) : Type 0 where
  pub long : length ms' ≡ length ms
  pub at : map_bit ms' x ≡ one_if b
  pub rest : (y : ℕ) → (y ≡ x → ⊥) → map_bit ms' y ≡ map_bit ms y
  pub words : (j : ℕ) → (j ≡ x / word_bits → ⊥) → get_or ms' j 0 ≡ get_or ms j 0

-- the second level's bit of word k is right, and nothing else changed
pub record Topped (ms ms' : List ℕ) (k : ℕ) : Type 0 where
  pub long : length ms' ≡ length ms
  pub top : map_bit ms' (map_nodes + k) ≡ one_over (get_or ms' k 0)
  pub rest : (y : ℕ) → (y ≡ map_nodes + k → ⊥) → map_bit ms' y ≡ map_bit ms y
  pub words : (j : ℕ) → (j ≡ map_top + k / word_bits → ⊥) → get_or ms' j 0 ≡ get_or ms j 0

-- DRAWING
-- m is free, and none of the k lowest free ones
abbrev pub left_of : (ℕ → Bool) → ℕ → ℕ → Bool
left_of free k m = both (free m) (leb k (tally free m))

-- the k lowest free numbers: number j is free and has j free ones before it; and the map of those that are left
pub record Drawn (free : ℕ → Bool) (k : ℕ) (nums ms : List ℕ) : Type 0 where
  pub is_free : (j : ℕ) → j < k → free (get_or nums j 0) ≡ true
  pub before : (j : ℕ) → j < k → tally free (get_or nums j 0) ≡ j
  pub left : MapOf (left_of free k) ms

-- what drawing so many numbers from a map comes to; where there are too few the map stays
pub record Draws (free : ℕ → Bool) (need : ℕ) (nums ms ms' : List ℕ) (r : Bool) : Type 0 where
  pub enough : r ≡ true → need ≤ get_or ms map_count 0
  pub drawn : r ≡ true → Drawn free need nums ms'
  pub short : r ≡ false → get_or ms map_count 0 < need
  pub same : r ≡ false → ms' ≡ ms
