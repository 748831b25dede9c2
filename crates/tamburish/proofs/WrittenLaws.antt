-- What the program writes, by the bytes that it read alone (R3, R56, R230): with a pool of 40 nodes and 17,856 bytes for replies.
use Prim.Native.Nat.{ℕ, zero, suc, ◌+◌, ◌*◌, ◌-◌, ◌≤◌, ◌<◌}
use mathlib.Core.Path.{◌≡◌, refl, sym, ap, subst, ◌∙◌}
use mathlib.Core.Logic.{◌≢◌}
use mathlib.Core.List.{List, [], ◌∷◌, ◌++◌}
use native.Mathlib.Omega.{arith}
use lib.Dec.{ltb, eqb}
use lib.ListN.{length, get_or, take, drop}
use borrow.Author.Tests.{lt-ltb, le-ltb, ltb-true, ltb-false}
use Rattle.blocks.proofs.BoolLaws.{by_t}
use Rattle.layout.specs.Words.{pool_words}
use Rattle.verify.specs.Answers.{init_words}
use Rattle.batch.specs.declared.Command.{Command}
use Rattle.batch.specs.declared.Cursor.{Cursor}
use Rattle.batch.specs.declared.Read.{Read}
use Rattle.batch.specs.declared.Read.TheVariants.{Next, Bad, End}
use Rattle.batch.specs.Batch.{max_batch, head_bytes, field_bytes, Parsed, cons_to, parse_read, read_at, parse_from, rest_at, parse}
use Rattle.batch.specs.Reply.{reply_bytes}
use Rattle.batch.proofs.ParseLaws.{WasRead, was_read, whole, Onward, next_after, not_refused, parse_long, parse_rest}
use Rattle.calls.specs.Calls.{refuse_call, replies, run, run_parsed}
use Rattle.answers.specs.Answers.{bad_batch}
use Rattle.calls.specs.Demand.{Starts.fresh}
use Rattle.decode.proofs.DecodeLaws.{decode_list}
use Rattle.calls.proofs.DemandLaws.{run_as, Started, started}
use Rattle.calls.proofs.RunningLaws.{replies_length}
use Rattle.tamburish.specs.Program.{
  max_input,
  ran,
  refusal_size,
  refusal_bytes,
  refusal_over,
  size,
  space,
  program_nodes,
  input_bytes,
  output_bytes,
  written_for,
  written,
}

take_first : (xs ys : List ℕ) (n : ℕ) → length xs ≡ n → take n (xs ++ ys) ≡ xs
take_first [] ys zero e = refl
take_first [] ys (suc n) e = absurd (omega arith)
take_first (x ∷ xs) ys zero e = absurd (omega arith)
take_first (x ∷ xs) ys (suc n) e = ap (λ (l : List ℕ). x ∷ l) (take_first xs ys n (omega arith))

-- THE SHORTEST RECORD has 11 bytes
least_fields : (t : ℕ) → field_bytes t ≢ 0 → 8 ≤ field_bytes t
least_fields t f =
    by_t (eqb t 1) (λ a. rw a (omega arith))
    (λ a. by_t (eqb t 2) (λ b. rw (a, b) (omega arith))
    (λ b. by_t (eqb t 3) (λ c. rw (a, b, c) (omega arith))
    (λ c. by_t (eqb t 4) (λ d. rw (a, b, c, d) (omega arith))
    (λ d. by_t (eqb t 5) (λ g. rw (a, b, c, d, g) (omega arith))
    (λ g. by_t (eqb t 6) (λ h. rw (a, b, c, d, g, h) (omega arith))
    (λ h. by_t (eqb t 7) (λ i. rw (a, b, c, d, g, h, i) (omega arith))
    (λ i. absurd (f (rw (a, b, c, d, g, h, i) refl)))))))))

long_next : (s : List ℕ) (at : ℕ) {c : Command} {k : Cursor} → read_at s at ≡ Next c k → at + 11 ≤ k.at
long_next s at {c} {k} q =
    let w : WasRead s at c k = was_read s at q in
    let e : at + head_bytes + field_bytes (get_or s at 0) ≡ k.at = ap (λ (x : Cursor). x.at) w.next_is in
    let f : 8 ≤ field_bytes (get_or s at 0) = least_fields (get_or s at 0) (whole s at w.whole).some_fields in
    omega arith

few_from : (s : List ℕ) (n at : ℕ) (cs : List Command) → at ≤ length s → parse_from s n at ≡ Parsed.commands cs →
    at + 11 * length cs ≤ length s
unfolding parse_from
few_from s zero at cs h e = subst (λ (l : List Command). at + 11 * length l ≤ length s) (same cs e) (omega arith)
  where
    same : (cs : List Command) → Parsed.commands [] ≡ Parsed.commands cs → [] ≡ cs
    same cs q = cc
few_from s (suc n) at cs h e = go (read_at s at) refl e (λ k. few_from s n k)
  where
    same : (ds : List Command) → Parsed.commands ds ≡ Parsed.commands cs → ds ≡ cs
    same ds q = cc

    tail : (c : Command) (k : ℕ) (x : Parsed) → at + 11 ≤ k → cons_to c x ≡ Parsed.commands cs →
        ((ds : List Command) → x ≡ Parsed.commands ds → k + 11 * length ds ≤ length s) → at + 11 * length cs ≤ length s
    tail c k (Parsed.refused y) l q f = absurd (not_refused q)
    tail c k (Parsed.commands ds) l q f =
        let z : k + 11 * length ds ≤ length s = f ds refl in
        subst (λ (es : List Command). at + 11 * length es ≤ length s) (same (c ∷ ds) q) (omega arith)

    go : (r : Read) → read_at s at ≡ r → parse_read r at (λ next. parse_from s n next) ≡ Parsed.commands cs →
        ((k : ℕ) (ds : List Command) → k ≤ length s → parse_from s n k ≡ Parsed.commands ds → k + 11 * length ds ≤ length s) →
        at + 11 * length cs ≤ length s
    go End q f g = subst (λ (l : List Command). at + 11 * length l ≤ length s) (same [] f) (omega arith)
    go Bad q f g = absurd (not_refused f)
    go (Next c k) q f g =
        let o : Onward s at k.at = next_after s at q in
        tail c k.at (parse_from s n k.at) (long_next s at q) f (λ ds. g k.at ds o.within)

pub few : (bs : List ℕ) (cs : List Command) → parse bs ≡ Parsed.commands cs → 11 * length cs ≤ length bs
unfolding rest_at
few bs cs e =
    by_t (ltb max_batch (length bs)) (λ t. absurd (not_refused (sym (parse_long bs (ltb-true _ _ t)) ∙ e)))
    (λ t. let z : 0 + 11 * length cs ≤ length bs =
    few_from bs (suc (length bs - 0)) 0 cs (omega arith) (sym (parse_rest bs (ltb-false _ _ t)) ∙ e) in
    omega arith)

-- THE BYTES
module _ (ws bs rs : List ℕ) (pool : length ws ≡ pool_words program_nodes) (out : length rs ≡ output_bytes) where
  start : Started program_nodes [] (init_words ws)
  start =
      subst (λ (n : ℕ). Started n [] (init_words ws)) (rw pool refl) (started (fresh ws (rw pool refl)))

  runs : run (init_words ws) bs rs ≡ run_parsed program_nodes (init_words ws) rs (parse bs)
  runs = run_as start.least start.most start.stands.prescribed bs rs

  by_parse : (q : Parsed) → parse bs ≡ q → length bs ≤ max_input →
      take (size (run_parsed program_nodes (init_words ws) rs q)) (space (run_parsed program_nodes (init_words ws) rs q)) ≡ written_for q
  unfolding refusal_over
  by_parse (Parsed.refused at) e h = take_first (refusal_bytes bad_batch at) (drop refusal_size rs) 6 refl
  by_parse (Parsed.commands cs) e h =
      let f : 11 * length cs ≤ length bs = few bs cs e in
      let r : reply_bytes * length cs ≤ length rs = omega arith in
      rw (le-ltb (length rs) (reply_bytes * length cs) r, decode_list start.stands.prescribed)
      (take_first (replies program_nodes [] cs) (drop (reply_bytes * length cs) rs) (24 * length cs)
      (replies_length program_nodes [] cs))

  ran_is : length bs ≤ max_input → ran ws bs rs ≡ run (init_words ws) bs rs
  unfolding ran
  ran_is h = rw (le-ltb max_input (length bs) h)

  ran_long : max_input < length bs → ran ws bs rs ≡ refuse_call ws rs bad_batch max_input
  unfolding ran
  ran_long h = rw (lt-ltb max_input (length bs) h)

  -- R3, R56, R230: what is written depends on the bytes read alone
  pub program_writes : take (size (ran ws bs rs)) (space (ran ws bs rs)) ≡ written bs
  unfolding refusal_over
  program_writes =
      by_t (ltb max_input (length bs))
      (λ t. let e = ran_long (ltb-true _ _ t) in
      rw (t, e) (take_first (refusal_bytes bad_batch max_input) (drop refusal_size rs) 6 refl))
      (λ t. let h : length bs ≤ max_input = ltb-false _ _ t in
      let e = ran_is h in
      rw (t, e, runs) (by_parse (parse bs) refl h))

-- the program's numbers: 8,192 bytes are taken and one more is read, 40 nodes; and its refusals in bytes (R56, R230)
pub program_in_numbers : (input_bytes ≡ 8193) × (program_nodes ≡ 40)
program_in_numbers = (refl, refl)

pub refusals_in_bytes : (bs : List ℕ) →
    (8192 < length bs → written bs ≡ 0xff ∷ 0x00 ∷ 0x03 ∷ 0x03 ∷ 0x20 ∷ 0x00 ∷ [])
    × (length bs ≤ 8192 → parse bs ≡ Parsed.refused 0x1234 → written bs ≡ 0xff ∷ 0x00 ∷ 0x03 ∷ 0x03 ∷ 0x12 ∷ 0x34 ∷ [])
refusals_in_bytes bs = (
  λ h. rw (lt-ltb max_input (length bs) h) refl,
  λ h e. rw (le-ltb max_input (length bs) h, e) refl,
)
