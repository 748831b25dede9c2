-- Reading a batch from a place to its end, record by record.
use Prim.Native.Nat.{ℕ, zero, suc, ◌+◌, ◌-◌, ◌≤◌, ◌<◌}
use mathlib.Core.Path.{◌≡◌, refl, sym, ap, ◌∙◌}
use mathlib.Core.Bool.{Bool, true, false, not}
use mathlib.Core.Logic.{◌≢◌}
use mathlib.Core.List.{List, []}
use native.Mathlib.Omega.{arith}
use lib.Dec.{leb, eqb}
use lib.ListN.{length, get_or}
use borrow.Author.Tests.{leb-true, leb-false, eqb-true, eq-eqb, lt-ltb, le-ltb, lt-leb}
use Rattle.blocks.specs.Choice.{both}
use Rattle.blocks.proofs.BoolLaws.{by_t, clash, both_l, both_r}
use Rattle.words.specs.Bytes.{number_at}
use Rattle.batch.specs.Batch.{max_batch, head_bytes, field_bytes, command_at, is_record, next_at, read_at, Read, Next, Bad, End, Command, Cursor, Parsed, cons_to, parse_read, parse_from, rest_at, parse, BadRecord, counted}
use Rattle.std.specs.Prelude.{Result, Ok, Err}

-- a record that was read
pub record WasRead (s : List ℕ) (at : ℕ) (c : Command) (k : Cursor) : Type 0 where
  pub before : at < length s
  pub whole : is_record s at ≡ true
  pub command_is : command_at s (get_or s at 0) (at + head_bytes) ≡ c
  pub next_is : next_at s at ≡ k

pub was_read : (s : List ℕ) (at : ℕ) {c : Command} {k : Cursor} → read_at s at ≡ Next c k → WasRead s at c k
unfolding read_at
was_read s at {c} {k} e =
    by_t (leb (length s) at) (λ t. absurd (no_end (rw t at e)))
    (λ t. by_t (is_record s at) (λ r. went t r (rw (t, r) at e)) (λ r. absurd (no_bad (rw (t, r) at e))))
  where
    no_end : End ≡ Next c k → ⊥
    no_end q = let z : ◌≡◌ {A = ℕ} 0 1 = cc in omega arith

    no_bad : Bad ≡ Next c k → ⊥
    no_bad q = let z : ◌≡◌ {A = ℕ} 0 1 = cc in omega arith

    went : leb (length s) at ≡ false → is_record s at ≡ true →
        Next (command_at s (get_or s at 0) (at + head_bytes)) (next_at s at) ≡ Next c k → WasRead s at c k
    went t r q = record { before = leb-false _ _ t; whole = r; command_is = cc; next_is = cc }

-- it begins before the batch's end, and the next place is after it
pub record Onward (s : List ℕ) (at next : ℕ) : Type 0 where
  pub before : at < length s
  pub after : at < next
  pub within : next ≤ length s

-- the tests of a whole record
pub record Whole (s : List ℕ) (at : ℕ) : Type 0 where
  pub some_fields : field_bytes (get_or s at 0) ≢ 0
  pub length_is : number_at s (at + 1) 2 ≡ field_bytes (get_or s at 0)
  pub ends : at + head_bytes + field_bytes (get_or s at 0) ≤ length s

pub whole : (s : List ℕ) (at : ℕ) → is_record s at ≡ true → Whole s at
whole s at t =
    let a : Bool = leb (at + head_bytes) (length s) in
    let b : Bool = not (eqb (field_bytes (get_or s at 0)) 0) in
    let c : Bool = eqb (number_at s (at + 1) 2) (field_bytes (get_or s at 0)) in
    let d : Bool = leb (at + head_bytes + field_bytes (get_or s at 0)) (length s) in
    let t₁ : both b (both c d) ≡ true = both_r a (both b (both c d)) t in
    let t₂ : both c d ≡ true = both_r b (both c d) t₁ in
    record {
      some_fields = λ e. clash {b = b} (both_l b (both c d) t₁) (rw (eq-eqb (field_bytes (get_or s at 0)) 0 e));
      length_is = eqb-true _ _ (both_l c d t₂);
      ends = leb-true _ _ (both_r c d t₂);
    }

-- what is read where a good record stands
module _ (s : List ℕ) (at : ℕ) (r : is_record s at ≡ true) where
  pub read_good : {c : Command} {n : ℕ} → c ≡ command_at s (get_or s at 0) (at + head_bytes) →
      n ≡ at + head_bytes + field_bytes (get_or s at 0) → Next c (record { at = n }) ≡ read_at s at
  unfolding read_at
  read_good q e = rw (lt-leb (length s) at (omega (arith, (whole s at r).ends)), r) (λ i. Next (q i) (record { at = e i }))

pub next_after : (s : List ℕ) (at : ℕ) {c : Command} {k : Cursor} → read_at s at ≡ Next c k → Onward s at k.at
next_after s at {c} {k} e =
    let w : WasRead s at c k = was_read s at e in
    let place : at + head_bytes + field_bytes (get_or s at 0) ≡ k.at = ap (λ (x : Cursor). x.at) w.next_is in
    let ends : at + head_bytes + field_bytes (get_or s at 0) ≤ length s = (whole s at w.whole).ends in
    record { before = w.before; after = omega arith; within = omega arith }

-- more than enough places to read changes nothing
fuel : (s : List ℕ) (k m at : ℕ) → length s - at < k → length s - at < m → parse_from s k at ≡ parse_from s m at
unfolding parse_from
fuel s zero m at h g = absurd (omega arith)
fuel s (suc k) zero at h g = absurd (omega arith)
fuel s (suc k) (suc m) at h g = go (read_at s at) refl (λ next. fuel s k m next)
  where
    go : (r : Read) → read_at s at ≡ r →
        ((next : ℕ) → length s - next < k → length s - next < m → parse_from s k next ≡ parse_from s m next) →
        parse_read r at (λ next. parse_from s k next) ≡ parse_read r at (λ next. parse_from s m next)
    go End e f = refl
    go Bad e f = refl
    go (Next c j) e f =
        let o : Onward s at j.at = next_after s at e in
        let b : at < length s = o.before in
        let a : at < j.at = o.after in
        ap (cons_to c) (f j.at (omega arith) (omega arith))

module _ (s : List ℕ) (at : ℕ) where
  pub rest_end : End ≡ read_at s at → rest_at s at ≡ Parsed.commands []
  unfolding rest_at parse_from
  rest_end e = rw (← e)

  pub rest_bad : Bad ≡ read_at s at → rest_at s at ≡ Parsed.refused at
  unfolding rest_at parse_from
  rest_bad e = rw (← e)

  pub rest_next : {c : Command} {k : Cursor} → Next c k ≡ read_at s at → rest_at s at ≡ cons_to c (rest_at s k.at)
  unfolding rest_at parse_from
  rest_next {c} {k} e =
      let o : Onward s at k.at = next_after s at (sym e) in
      let b : at < length s = o.before in
      let a : at < k.at = o.after in
      rw (← e) (ap (cons_to c) (fuel s (length s - at) (suc (length s - k.at)) k.at (omega arith) (omega arith)))

-- commands are not a refusal
pub not_refused : {at : ℕ} {cs : List Command} → Parsed.refused at ≡ Parsed.commands cs → ⊥
not_refused e = let z : ◌≡◌ {A = ℕ} 0 1 = cc in omega arith

-- COUNTING
-- a count with n commands before it
abbrev pub plus : ℕ → Result ℕ BadRecord → Result ℕ BadRecord
plus n (Ok k) = Ok (n + k)
plus n (Err b) = Err b

pub plus_cons : (n : ℕ) (c : Command) (p : Parsed) → plus n (counted (cons_to c p)) ≡ plus (n + 1) (counted p)
plus_cons n c (Parsed.commands cs) = ap Ok (omega arith)
plus_cons n c (Parsed.refused at) = refl

-- a count so far, n commands up to a place
module _ (s : List ℕ) (n at : ℕ) where
  abbrev pub CountedTo : Type 0
  CountedTo = counted (rest_at s 0) ≡ plus n (counted (rest_at s at))

  pub count_end : CountedTo → End ≡ read_at s at → Ok n ≡ counted (rest_at s 0)
  count_end i e =
      sym (i ∙ ap (λ (p : Parsed). plus n (counted p)) (rest_end s at e) ∙ ap Ok (omega arith))

  pub count_bad : CountedTo → Bad ≡ read_at s at → Err (record { at = at }) ≡ counted (rest_at s 0)
  count_bad i e = sym (i ∙ ap (λ (p : Parsed). plus n (counted p)) (rest_bad s at e))

  pub count_next : CountedTo → {c : Command} {k : Cursor} → Next c k ≡ read_at s at →
      counted (rest_at s 0) ≡ plus (n + 1) (counted (rest_at s k.at))
  count_next i {c} {k} e =
      i ∙ ap (λ (p : Parsed). plus n (counted p)) (rest_next s at e) ∙ plus_cons n c (rest_at s k.at)

-- THE WHOLE BATCH
pub parse_long : (s : List ℕ) → max_batch < length s → parse s ≡ Parsed.refused max_batch
unfolding parse
parse_long s h = rw (lt-ltb max_batch (length s) h)

pub parse_rest : (s : List ℕ) → length s ≤ max_batch → parse s ≡ rest_at s 0
unfolding parse
parse_rest s h = rw (le-ltb max_batch (length s) h)
