-- Keys as numbers, and the plain list (P10).
use Rattle.std.specs.Prelude.{ℕ, suc, ◌+◌, ◌*◌, ◌-◌, ◌/◌, ◌%◌, ◌^◌, ◌≤◌, ◌≡◌, Bool, true, List, [], ◌∷◌, leb, ltb, eqb, length}
use Rattle.std.proofs.Math.Option.{Option}
use Rattle.blocks.specs.Choice.{pick, both}
use Rattle.blocks.specs.Lists.{without, first}
use Rattle.model.specs.Model.{storable}

-- R340: the bytes of the longest key
abbrev pub max_key : ℕ
max_key = 32

abbrev pub is_key_length : ℕ → Bool
is_key_length n = both (leb 1 n) (leb n max_key)

-- R340: the length byte and the key's bytes, high first, then zeros
-- to 33 bytes, as one number
abbrev pub digits : ℕ → List ℕ → ℕ
digits x [] = x
digits x (b ∷ bs) = digits (x * 256 + b) bs

abbrev pub key_number : List ℕ → ℕ
key_number bs = digits (length bs) bs * 256 ^ (max_key - length bs)

-- a number is that of some key: the length byte is 1 to 32, the bytes after the key are 0
abbrev pub length_of : ℕ → ℕ
length_of x = x / 256 ^ max_key

abbrev pub is_key : ℕ → Bool
is_key x = both (is_key_length (length_of x)) (eqb (x % 256 ^ (max_key - length_of x)) 0)

pub record Item : Type 0 where
  pub key : ℕ
  pub object : ℕ

abbrev pub item : ℕ → ℕ → Item
item k w = record { key = k; object = w }

-- THE LIST, in nibble order (R343)
abbrev pub insert : Item → List Item → List Item
insert e [] = e ∷ []
insert e (x ∷ xs) =
    pick (ltb e.key x.key) (e ∷ x ∷ xs) (pick (eqb e.key x.key) (e ∷ xs) (x ∷ insert e xs))

abbrev pub is_key_of : ℕ → Item → Bool
is_key_of k x = eqb x.key k

abbrev pub delete : ℕ → List Item → List Item
delete k l = without (is_key_of k) l

abbrev pub find : ℕ → List Item → Option Item
find k l = first (is_key_of k) l

-- R342, R343: strictly ascending from n on, each a key with an object
abbrev pub is_item : Item → Bool
is_item x = both (is_key x.key) (both (storable x.object) (ltb x.object (2 ^ 64)))

abbrev pub is_sorted_from : ℕ → List Item → Bool
is_sorted_from n [] = true
is_sorted_from n (x ∷ xs) = both (leb n x.key) (both (is_item x) (is_sorted_from (suc x.key) xs))

pub data Sorted : ℕ → List Item → Type 0 where
  done : {n : ℕ} → Sorted n []
  more : {n : ℕ} {x : Item} {l : List Item} → n ≤ x.key → is_item x ≡ true → Sorted (suc x.key) l → Sorted n (x ∷ l)
