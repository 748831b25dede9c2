-- Laws of bytes written over others.
use Prim.Native.Nat.{ℕ, zero, suc, ◌+◌, ◌/◌, ◌%◌, ◌^◌, ◌≤◌}
use mathlib.Core.Path.{◌≡◌, refl, sym, ap, ◌∙◌}
use mathlib.Core.List.{List, [], ◌∷◌, ◌++◌, append_assoc}
use native.Mathlib.Omega.{arith}
use native.Mathlib.Nat.{add-zero}
use lib.ListN.{length, set, take, drop, length-set, take-append-drop}
use lib.Seq.{take-suc-set, drop-set-lt, drop-drop}
use borrow.Rule.Slice.PartMut.{put_mid}
use Rattle.std.specs.Int.{bytes_high_first}
use Rattle.words.specs.Bytes.{bytes_then, write_from, overwrite}

-- the place may be moved into the distance
pub write_shift : (s : List ℕ) (at n k : ℕ) (bs : List ℕ) → write_from s (at + n) k bs ≡ write_from s at (n + k) bs
unfolding write_from
write_shift s at n k [] = refl
write_shift s at n k (b ∷ bs) =
    let e : at + n + k ≡ at + (n + k) = omega arith in
    let f : n + suc k ≡ suc (n + k) = omega arith in
    rw e (write_shift (set s (at + (n + k)) b) at n (suc k) bs ∙ ap
    (λ (m : ℕ). write_from (set s (at + (n + k)) b) at m bs) f)

-- a number first, then the rest
write_number : (s : List ℕ) (at k n x : ℕ) (more : List ℕ) →
    write_from s at k (bytes_then n x more) ≡ write_from (write_from s at k (bytes_then n x [])) at (k + n) more
unfolding write_from
write_number s at k zero x more = rw (add-zero k)
write_number s at k (suc n) x more =
    let e : suc k + n ≡ k + suc n = omega arith in
    let t : List ℕ = set s (at + k) (x / 256 ^ n % 256) in
    write_number t at (suc k) n x more
    ∙ ap (λ (m : ℕ). write_from (write_from t at (suc k) (bytes_then n x [])) at m more) e

-- a number was written k bytes after a place, and the rest is to follow
pub written : (s : List ℕ) {t : List ℕ} (at k n x : ℕ) (more : List ℕ) → t ≡ overwrite s (at + k) (bytes_then n x []) →
    write_from s at k (bytes_then n x more) ≡ write_from t at (k + n) more
written s {t} at k n x more e =
    write_number s at k n x more
    ∙ ap (λ (w : List ℕ). write_from w at (k + n) more)
    (sym (e ∙ write_shift s at k 0 (bytes_then n x []) ∙ ap (λ (m : ℕ). write_from s at m (bytes_then n x []))
    (add-zero k)))

-- ONE LIST OF BYTES AFTER ANOTHER
pub write_append : (s : List ℕ) (at k : ℕ) (xs bs : List ℕ) →
    write_from s at k (xs ++ bs) ≡ write_from (write_from s at k xs) at (k + length xs) bs
unfolding write_from
write_append s at k [] bs = rw (add-zero k)
write_append s at k (a ∷ xs) bs =
    let t : List ℕ = set s (at + k) a in
    let e : suc k + length xs ≡ k + suc (length xs) = omega arith in
    write_append t at (suc k) xs bs ∙ ap (λ (m : ℕ). write_from (write_from t at (suc k) xs) at m bs) e

pub overwrite_append : (s : List ℕ) (at : ℕ) (xs bs : List ℕ) →
    overwrite s at (xs ++ bs) ≡ overwrite (overwrite s at xs) (at + length xs) bs
overwrite_append s at xs bs =
    let t : List ℕ = overwrite s at xs in
    write_append s at 0 xs bs
    ∙ ap (λ (m : ℕ). write_from t at m bs) (omega arith)
    ∙ sym (write_shift t at (length xs) 0 bs)

-- bytes from the beginning on, and what stood after them
write_all_lem : (s : List ℕ) (k : ℕ) (bs : List ℕ) → k + length bs ≤ length s →
    write_from s 0 k bs ≡ take k s ++ (bs ++ drop (k + length bs) s)
unfolding write_from
write_all_lem s k [] h = rw (add-zero k) (sym (take-append-drop k s))
write_all_lem s k (b ∷ bs) h =
    let z : 0 + k ≡ k = omega arith in
    let e : suc k + length bs ≡ k + suc (length bs) = omega arith in
    rw z
    (write_all_lem (set s k b) (suc k) bs (simp length-set (omega arith))
    ∙ rw (take-suc-set s k b (omega arith), drop-set-lt (suc k + length bs) s k b (omega arith), append_assoc)
    (ap (λ (m : ℕ). take k s ++ (b ∷ (bs ++ drop m s))) e))

pub overwrite_all : (s bs : List ℕ) → length bs ≤ length s → overwrite s 0 bs ≡ bs ++ drop (length bs) s
overwrite_all s bs h =
    let z : 0 + length bs ≡ length bs = omega arith in
    write_all_lem s 0 bs (omega arith) ∙ ap (λ (m : ℕ). bs ++ drop m s) z

-- bytes put in the place of a part, and so many written from where it begins
pub put_over : (s : List ℕ) (at k : ℕ) (bs : List ℕ) → k ≡ length bs → at + k ≤ length s → put_mid at k s bs ≡ overwrite s at bs
put_over s at k bs e h =
    let z : at + 0 ≡ at = omega arith in
    let w : 0 + at ≡ at = omega arith in
    ap (λ (t : List ℕ). take at s ++ (bs ++ t)) (drop-drop k at s ∙ ap (λ (m : ℕ). drop (at + m) s) e)
    ∙ sym (write_all_lem s at bs (omega arith))
    ∙ sym (ap (λ (m : ℕ). write_from s 0 m bs) z)
    ∙ sym (write_shift s 0 at 0 bs)
    ∙ ap (λ (m : ℕ). write_from s m 0 bs) w

-- a number's bytes, as the library has them
high_first : (n x : ℕ) → bytes_high_first n x ≡ bytes_then n x []
high_first zero x = refl
high_first (suc zero) x = let e : x ≡ x / 1 = omega arith in ap (λ (y : ℕ). y % 256 ∷ []) e
high_first (suc (suc n)) x = ap (λ (bs : List ℕ). x / 256 ^ suc n % 256 ∷ bs) (high_first (suc n) x)

length_bytes : (n x : ℕ) → length (bytes_then n x []) ≡ n
length_bytes zero x = refl
length_bytes (suc n) x = ap suc (length_bytes n x)

pub put_number : (s : List ℕ) (at k n x : ℕ) → k ≡ n → at + k ≤ length s →
    put_mid at k s (bytes_high_first n x) ≡ overwrite s at (bytes_then n x [])
put_number s at k n x e h =
    ap (put_mid at k s) (high_first n x) ∙ put_over s at k (bytes_then n x []) (e ∙ sym (length_bytes n x)) h
