-- A reply that was written as bytes is read back.
use Prim.Native.Nat.{ℕ, zero, suc, ◌+◌, ◌*◌, ◌/◌, ◌%◌, ◌^◌, ◌<◌}
use mathlib.Core.Path.{◌≡◌, refl, sym, ap, ◌∙◌}
use mathlib.Core.List.{List, [], ◌∷◌, ◌++◌, append_assoc}
use native.Mathlib.Omega.{arith}
use native.Mathlib.Nat.{zero-add, add_assoc, add-mul, mul_comm, mul_assoc, zero-mul, pow-suc, div-one, div-add-mod', div-div-eq-div-mul, div-eq_of_lt}
use lib.ListN.{length, get_or}
use lib.Seq.{get_or-append-add}
use Rattle.model.specs.declared.Entry.{Entry}
use Rattle.words.specs.Bytes.{number_at, bytes_then}
use Rattle.batch.specs.declared.Command.{Command}
use Rattle.batch.specs.declared.Reply.{Reply}
use Rattle.batch.specs.Reply.{reply_bytes, encode}
use Rattle.execute.specs.Execute.{execute}
use Rattle.execute.specs.Widths.{FitsReply}
use Rattle.calls.specs.Calls.{replies}
use Rattle.calls.specs.Demand.{execute_all}
use Rattle.walks.specs.Host.{reply_at}

-- NUMBERS
highest_first : (b : ℕ) (s : List ℕ) (n : ℕ) → number_at (b ∷ s) 0 (suc n) ≡ b * 256 ^ n + number_at s 0 n
highest_first b s zero = omega arith
highest_first b s (suc n) =
    ap (λ (k : ℕ). number_at (b ∷ s) 0 (suc n) * 256 + get_or (b ∷ s) k 0) (zero-add (suc n))
    ∙ (let h : number_at (b ∷ s) 0 (suc n) ≡ b * 256 ^ n + number_at s 0 n = highest_first b s n in
    let m : b * 256 ^ n * 256 ≡ b * 256 ^ suc n = mul_assoc b (256 ^ n) 256 ∙ ap (λ (x : ℕ). b * x) (sym (pow-suc 256 n)) in
    let g : get_or s (0 + n) 0 ≡ get_or s n 0 = ap (λ (k : ℕ). get_or s k 0) (zero-add n) in
    omega (arith, h, m, g))

digit_more : (q P N x : ℕ) → q * P + N ≡ x → q / 256 * (P * 256) + (q % 256 * P + N) ≡ x
digit_more q P N x e =
    let m : (q / 256 * 256 + q % 256) * P ≡ q * P = ap (λ (y : ℕ). y * P) (div-add-mod' q 256) in
    let a : (q / 256 * 256 + q % 256) * P ≡ q / 256 * 256 * P + q % 256 * P = add-mul (q / 256 * 256) (q % 256) P in
    let b : q / 256 * (P * 256) ≡ q / 256 * 256 * P =
    ap (λ (y : ℕ). q / 256 * y) (mul_comm P 256) ∙ sym (mul_assoc (q / 256) 256 P) in
    omega (arith, m, a, b, e)

cut_off_lem : (n x : ℕ) (more : List ℕ) → x / 256 ^ n * 256 ^ n + number_at (bytes_then n x more) 0 n ≡ x
cut_off_lem zero x more = omega (arith, div-one x)
cut_off_lem (suc n) x more =
    let P : ℕ = 256 ^ n in
    let b : ℕ = x / P % 256 in
    ap (λ (y : ℕ). x / y * y + number_at (b ∷ bytes_then n x more) 0 (suc n)) (pow-suc 256 n)
    ∙ ap (λ (y : ℕ). x / (P * 256) * (P * 256) + y) (highest_first b (bytes_then n x more) n)
    ∙ ap (λ (y : ℕ). y * (P * 256) + (b * P + number_at (bytes_then n x more) 0 n)) (sym (div-div-eq-div-mul x P 256))
    ∙ digit_more (x / P) P (number_at (bytes_then n x more) 0 n) x (cut_off_lem n x more)

read_back : (n x : ℕ) (more : List ℕ) → x < 256 ^ n → number_at (bytes_then n x more) 0 n ≡ x
read_back n x more h =
    let z : x / 256 ^ n * 256 ^ n ≡ 0 = ap (λ (y : ℕ). y * 256 ^ n) (div-eq_of_lt h) ∙ zero-mul (256 ^ n) in
    omega (arith, z, cut_off_lem n x more)

number_after : (xs s : List ℕ) (at n : ℕ) → number_at (xs ++ s) (length xs + at) n ≡ number_at s at n
number_after xs s at zero = refl
number_after xs s at (suc n) =
    let h : number_at (xs ++ s) (length xs + at) n ≡ number_at s at n = number_after xs s at n in
    let g : get_or (xs ++ s) (length xs + at + n) 0 ≡ get_or s (at + n) 0 =
    ap (λ (k : ℕ). get_or (xs ++ s) k 0) (add_assoc (length xs) at n) ∙ get_or-append-add xs s (at + n) 0 in
    omega (arith, h, g)

-- ONE REPLY
module _ (xs more : List ℕ) (k : ℕ) (r : Reply) (here : length xs ≡ reply_bytes * k) (fits : FitsReply r) where
  field : (at n x : ℕ) → x < 256 ^ n → number_at (encode r ++ more) at n ≡ number_at (bytes_then n x []) 0 n →
      number_at (xs ++ (encode r ++ more)) (reply_bytes * k + at) n ≡ x
  field at n x h e =
      ap (λ (p : ℕ). number_at (xs ++ (encode r ++ more)) (p + at) n) (sym here)
      ∙ number_after xs (encode r ++ more) at n
      ∙ e
      ∙ read_back n x [] h

  pub reply_read : reply_at (xs ++ (encode r ++ more)) k ≡ r
  reply_read = λ i. record {
    tag = field 0 1 r.tag fits.tag_fits refl i;
    answer = field 3 1 r.answer fits.answer_fits refl i;
    index = field 4 8 r.index fits.index_fits refl i;
    order = field 12 1 r.order fits.order_fits refl i;
    word = field 13 8 r.word fits.word_fits refl i;
    marks = field 21 1 r.marks fits.marks_fit refl i;
    count = field 22 2 r.count fits.count_fits refl i;
  }

-- THE REPLIES of a batch, around one of them
pub replies_around : (n : ℕ) (l : List Entry) (ds : List Command) (c : Command) (es : List Command) →
    replies n l (ds ++ (c ∷ es)) ≡ replies n l ds
    ++ (encode (execute n (execute_all n l ds) c).reply ++ replies n (execute n (execute_all n l ds) c).list es)
replies_around n l [] c es = refl
replies_around n l (d ∷ ds) c es =
    ap (λ (s : List ℕ). encode (execute n l d).reply ++ s) (replies_around n (execute n l d).list ds c es)
    ∙ sym (append_assoc (encode (execute n l d).reply) (replies n (execute n l d).list ds) _)
