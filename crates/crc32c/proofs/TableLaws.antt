-- The tables' rules, each from one test that antt computes over the whole table, and what a look-up then gives. Assumes nothing.
use mathlib.Core.Path.{◌≡◌, refl, sym, ap, ap₂, subst, ◌∙◌}
use mathlib.Core.Bool.{Bool, true, false}
use mathlib.Core.List.{List, [], ◌∷◌, ◌++◌, map}
use Prim.Native.Nat.{ℕ, zero, suc, ◌+◌, ◌*◌, ◌/◌, ◌%◌, ◌^◌, ◌<◌}
use native.Mathlib.Nat.{add-zero, zero-add, add-suc, suc-add, le_of_suc-le-suc, not-suc-le-zero, mod-lt}
use native.Mathlib.Omega.{arith}
use lib.Dec.{T, eqb, eqb→eq, lit<}
use lib.Bits.{bit_xor, xor_comm, xor_shifted}
use lib.Pow.{split}
use lib.ListN.{length, get_or, length-map, get_or-append}
use lib.Seq.{get_or-append-add, ext_get_or}
use Rattle.crc32c.specs.Crc.{bit_steps, byte_step}
use Rattle.crc32c.specs.Tables.{Table, Further}
use Rattle.crc32c.specs.Words.{after}
use Rattle.crc32c.proofs.CrcLaws.{steps_linear, steps_high, steps_more, steps_none}

abbrev both : Bool → Bool → Bool
both true b = b
both false b = false

both_left : (a b : Bool) → T (both a b) → T a
both_left true b t = tt
both_left false b t = t

both_right : (a b : Bool) → T (both a b) → T b
both_right true b t = t
both_right false b t = absurd t

-- each y is eight bits after its fellow x
unfoldable pub follow : List ℕ → List ℕ → Bool
follow xs [] = true
follow [] (y ∷ ys) = false
follow (x ∷ xs) (y ∷ ys) = both (eqb y (bit_steps 8 x)) (follow xs ys)

-- k numbers from i on
unfoldable pub up_to : (i k : ℕ) → List ℕ
up_to i zero = []
up_to i (suc k) = i ∷ up_to (suc i) k

followed : (xs ys : List ℕ) → T (follow xs ys) → (k : ℕ) → k < length ys → get_or ys k 0 ≡ bit_steps 8 (get_or xs k 0)
unfolding follow
followed xs [] t k h = absurd (not-suc-le-zero h)
followed [] (y ∷ ys) t k h = absurd t
followed (x ∷ xs) (y ∷ ys) t zero h = eqb→eq y (bit_steps 8 x) (both_left (eqb y (bit_steps 8 x)) (follow xs ys) t)
followed (x ∷ xs) (y ∷ ys) t (suc k) h = followed xs ys (both_right (eqb y (bit_steps 8 x)) (follow xs ys) t) k (le_of_suc-le-suc h)

up_at : (i n k : ℕ) → k < n → get_or (up_to i n) k 0 ≡ i + k
unfolding up_to
up_at i zero k h = absurd (not-suc-le-zero h)
up_at i (suc n) zero h = sym (add-zero i)
up_at i (suc n) (suc k) h = up_at (suc i) n k (le_of_suc-le-suc h) ∙ suc-add i k ∙ sym (add-suc i k)

-- R164: every entry of the table of one byte follows from the bitwise rule
pub table_rule : (t : List ℕ) → length t ≡ 256 → T (follow (up_to 0 256) t) → Table t
table_rule t e h = record {
  long = e;
  entry = λ k l.
      followed (up_to 0 256) t h k (subst (λ (n : ℕ). k < n) (sym e) l)
      ∙ ap (bit_steps 8) (up_at 0 256 k l ∙ zero-add k);
}

up_long : (i n : ℕ) → length (up_to i n) ≡ n
unfolding up_to
up_long i zero = refl
up_long i (suc n) = ap suc (up_long (suc i) n)

map_at : (xs : List ℕ) (k : ℕ) → k < length xs → get_or (map (bit_steps 8) xs) k 0 ≡ bit_steps 8 (get_or xs k 0)
map_at [] k h = absurd (not-suc-le-zero h)
map_at (x ∷ xs) zero h = refl
map_at (x ∷ xs) (suc k) h = map_at xs k (le_of_suc-le-suc h)

-- so the table of one byte is but one list
table_is : (t : List ℕ) → Table t → t ≡ map (bit_steps 8) (up_to 0 256)
table_is t r =
    ext_get_or 0 t (map (bit_steps 8) (up_to 0 256)) (r.long ∙ sym (length-map (up_to 0 256) (bit_steps 8) ∙ up_long 0 256)) (λ k h.
    let l : k < 256 = subst (λ (n : ℕ). k < n) r.long h in
    r.entry k l
    ∙ sym (map_at (up_to 0 256) k (subst (λ (n : ℕ). k < n) (sym (up_long 0 256)) l) ∙ ap (bit_steps 8) (up_at 0 256 k l ∙ zero-add k)))

-- R164: every entry of the further tables follows from the table before by the same rule
pub tables_rule : (f : List ℕ) → length f ≡ 1792 → T (follow (map (bit_steps 8) (up_to 0 256) ++ f) f) → (t : List ℕ) → Table t → Further t f
tables_rule f e h t r =
    let g : T (follow (t ++ f) f) = subst (λ (l : List ℕ). T (follow (l ++ f) f)) (sym (table_is t r)) h in
    record { long = e; entry = λ k l. followed (t ++ f) f g k (subst (λ (n : ℕ). k < n) (sym e) l) }

-- ---- look-ups

-- the low byte by a look-up, the rest one byte nearer
low_bits : (n x : ℕ) → bit_steps (8 + n) x ≡ bit_xor (bit_steps (8 + n) (x % 256)) (bit_steps n (x / 256))
low_bits n x =
    ap (bit_steps (8 + n)) (sym (xor_shifted (x / 256) 8 (x % 256) (mod-lt x (lit< tt)) ∙ split x 8) ∙ xor_comm (x / 256 * 2 ^ 8) (x % 256))
    ∙ steps_linear (8 + n) (x % 256) (x / 256 * 2 ^ 8)
    ∙ ap (bit_xor (bit_steps (8 + n) (x % 256))) (steps_more 8 n (x / 256 * 2 ^ 8) ∙ ap (bit_steps n) (steps_high 8 (x / 256)))

pub byte_by_table : (t : List ℕ) → Table t → (c b : ℕ) → byte_step c b ≡ bit_xor (get_or t (bit_xor c b % 256) 0) (bit_xor c b / 256)
unfolding byte_step
byte_by_table t r c b =
    low_bits 0 (bit_xor c b)
    ∙ ap₂ bit_xor (sym (r.entry (bit_xor c b % 256) (mod-lt (bit_xor c b) (lit< tt)))) (steps_none (bit_xor c b / 256))

pub low_byte : (n x : ℕ) → after (n + 1) x ≡ bit_xor (after (n + 1) (x % 256)) (after n (x / 256))
unfolding after
low_byte n x =
    let e : 8 * (n + 1) ≡ 8 + 8 * n = omega arith in
    subst (λ (m : ℕ). bit_steps m x ≡ bit_xor (bit_steps m (x % 256)) (bit_steps (8 * n) (x / 256))) (sym e) (low_bits (8 * n) x)

pub first_at : (t : List ℕ) → Table t → (b : ℕ) → b < 256 → get_or t b 0 ≡ after 1 b
unfolding after
first_at t r b h = r.entry b h

after_next : (n c : ℕ) → bit_steps 8 (after n c) ≡ after (n + 1) c
unfolding after
after_next n c = let e : 8 * n + 8 ≡ 8 * (n + 1) = omega arith in sym (steps_more (8 * n) 8 c) ∙ ap (λ (m : ℕ). bit_steps m c) e

-- the entry of a byte in the k-th of the further tables
pub further_at : (t f : List ℕ) → Table t → Further t f → (k b : ℕ) → k < 7 → b < 256 → get_or f (k * 256 + b) 0 ≡ after (k + 2) b
further_at t f r g zero b h l =
    ap (λ (i : ℕ). get_or f i 0) {x = 0 * 256 + b} {y = b} (omega arith)
    ∙ g.entry b (omega arith)
    ∙ ap (bit_steps 8) (get_or-append t f 0 b (omega (arith, r.long)) ∙ first_at t r b l)
    ∙ after_next 1 b
further_at t f r g (suc k) b h l =
    let e : suc k * 256 + b ≡ length t + (k * 256 + b) = omega (arith, r.long) in
    let i : k + 2 + 1 ≡ suc k + 2 = omega arith in
    g.entry (suc k * 256 + b) (omega arith)
    ∙ ap (λ (j : ℕ). bit_steps 8 (get_or (t ++ f) j 0)) e
    ∙ ap (bit_steps 8) (get_or-append-add t f (k * 256 + b) 0 ∙ further_at t f r g k b (omega arith) l)
    ∙ after_next (k + 2) b
    ∙ ap (λ (n : ℕ). after n b) i
