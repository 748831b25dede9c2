-- A base is a key's number: by its highest word, the length, and by what stands after so many bytes.
use Prim.Native.Nat.{ℕ, zero, suc, ◌+◌, ◌*◌, ◌-◌, ◌/◌, ◌%◌, ◌^◌, ◌≤◌}
use mathlib.Core.Path.{◌≡◌, refl, sym, ap, ◌∙◌}
use mathlib.Core.Bool.{Bool, true}
use mathlib.Core.List.{List}
use native.Mathlib.Omega.{arith}
use native.Mathlib.Nat.{mul-mod_left, div-add-mod', pow-suc}
use lib.Dec.{leb, eqb}
use lib.ListN.{get_or}
use borrow.Author.Tests.{eqb-true, eq-eqb, leb-true, le-leb}
use Rattle.blocks.specs.Deciding.{Decides}
use Rattle.blocks.proofs.BoolLaws.{both_i, both_l, both_r}
use Rattle.blocks.proofs.BlockLaws.{pow-add}
use Rattle.assoc_keys.specs.Number.{Words}
use Rattle.assoc_keys.proofs.AlignLaws.{top_word}
use Rattle.assoc_tree.specs.Keys.{max_key, length_of, is_key_length, is_key}
use Rattle.assoc_tree.specs.Parts.{block_of, tier_bits}
use Rattle.assoc_layout.specs.Words.{place, base_field}
use Rattle.assoc_layout.specs.Decode.{word, base_at}

-- a byte has eight bits
bytes_bits : (k : ℕ) → 256 ^ k ≡ 2 ^ tier_bits (2 * k)
bytes_bits zero = refl
bytes_bits (suc k) =
    let e : tier_bits (2 * k) + 8 ≡ tier_bits (2 * suc k) = omega arith in
    pow-suc 256 k ∙ ap (λ (x : ℕ). x * 256) (bytes_bits k) ∙ pow-add (tier_bits (2 * k)) 8 ∙ ap (λ (j : ℕ). 2 ^ j) e

pub length_is : (ws : List ℕ) → Words ws → (m : ℕ) → length_of (base_at ws m) ≡ word ws m 7
length_is ws fit m =
    let e : place m base_field + 4 ≡ place m 7 = omega arith in
    ap (λ (d : ℕ). base_at ws m / d) (bytes_bits max_key) ∙ top_word ws fit (place m base_field) ∙ ap (λ (i : ℕ). get_or ws i 0) e

-- x is the first number of its block of the tier that has the bytes after the key
abbrev Ends : ℕ → ℕ → Type 0
Ends x size = x ≡ block_of (2 * (max_key - size)) x * 2 ^ tier_bits (2 * (max_key - size))

rest_of : (x size : ℕ) → x % 256 ^ (max_key - size) ≡ x % 2 ^ tier_bits (2 * (max_key - size))
rest_of x size = ap (λ (d : ℕ). x % d) (bytes_bits (max_key - size))

pub key_yes : (x size : ℕ) → length_of x ≡ size → 1 ≤ size → size ≤ max_key → Ends x size → is_key x ≡ true
key_yes x size e lo hi a =
    rw e (both_i (both_i (le-leb 1 size lo) (le-leb size max_key hi)) (eq-eqb _ 0 (rest_of x size ∙ none)))
  where
    none : x % 2 ^ tier_bits (2 * (max_key - size)) ≡ 0
    none = ap (λ (y : ℕ). y % 2 ^ tier_bits (2 * (max_key - size))) a ∙ mul-mod_left _ (2 ^ tier_bits (2 * (max_key - size)))

pub key_size : (x size : ℕ) → length_of x ≡ size → is_key x ≡ true → (1 ≤ size) × (size ≤ max_key)
key_size x size e t =
    let u : is_key_length size ≡ true = ap is_key_length (sym e) ∙ both_l (is_key_length (length_of x)) _ t in
    (leb-true 1 size (both_l (leb 1 size) _ u), leb-true size max_key (both_r (leb 1 size) _ u))

pub key_ends : (x size : ℕ) → length_of x ≡ size → is_key x ≡ true → Ends x size
key_ends x size e t =
    let u : eqb (x % 256 ^ (max_key - length_of x)) 0 ≡ true = both_r (is_key_length (length_of x)) _ t in
    let z : x % 2 ^ tier_bits (2 * (max_key - size)) ≡ 0 =
    sym (rest_of x size) ∙ ap (λ (k : ℕ). x % 256 ^ (max_key - k)) (sym e) ∙ eqb-true _ _ u in
    sym (div-add-mod' x (2 ^ tier_bits (2 * (max_key - size)))) ∙
    ap (λ (y : ℕ). block_of (2 * (max_key - size)) x * 2 ^ tier_bits (2 * (max_key - size)) + y) z ∙ add_none _
  where
    add_none : (a : ℕ) → a + 0 ≡ a
    add_none a = omega arith

pub key_decides : (r : Bool) (x size : ℕ) → length_of x ≡ size → 1 ≤ size → size ≤ max_key → Decides r (Ends x size) →
    Decides r (is_key x ≡ true)
key_decides r x size e lo hi d = ((λ t. key_yes x size e lo hi (d.0 t)), (λ t k. d.1 t (key_ends x size e k)))
