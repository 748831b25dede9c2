-- A batch is refused, with a place, exactly as R71 words it.
use Prim.Native.Nat.{ℕ, zero, suc, ◌+◌, ◌-◌, ◌≤◌, ◌<◌}
use mathlib.Core.Path.{◌≡◌, refl, sym, ap, subst, ◌∙◌}
use mathlib.Core.Bool.{false}
use mathlib.Core.List.{List}
use native.Mathlib.Omega.{arith}
use lib.Dec.{leb, ltb}
use lib.ListN.{length, get_or}
use borrow.Author.Tests.{leb-false, ltb-true, ltb-false}
use Rattle.blocks.proofs.BoolLaws.{by_t}
use Rattle.batch.specs.Batch.{max_batch, head_bytes, field_bytes, command_at, is_record, next_at, read_at, Read, Next, Bad, End, Command, Cursor, Parsed, cons_to, parse_read, parse_from, rest_at, parse}
use Rattle.batch.specs.Records.{Begins, Begins.first, Begins.later, Refuses, Refuses.too_long, Refuses.bad_record}
use Rattle.batch.proofs.BatchLaws.{read_no}
use Rattle.batch.proofs.ParseLaws.{WasRead, was_read, rest_bad, rest_next, read_good, not_refused, parse_long, parse_rest}

-- a bad record that begins somewhere
pub record BadAt (s : List ℕ) (at : ℕ) : Type 0 where
  pub begins : Begins s at
  pub inside : at < length s
  pub bad : is_record s at ≡ false

was_bad : (s : List ℕ) (at : ℕ) → read_at s at ≡ Bad → (at < length s) × (is_record s at ≡ false)
unfolding read_at
was_bad s at e =
    by_t (leb (length s) at) (λ t. absurd (no_end (rw t at e)))
    (λ t. by_t (is_record s at) (λ r. absurd (no_next (rw (t, r) at e))) (λ r. (leb-false _ _ t, r)))
  where
    no_end : End ≡ Bad → ⊥
    no_end q = let z : ◌≡◌ {A = ℕ} 0 1 = cc in omega arith

    no_next : Next (command_at s (get_or s at 0) (at + head_bytes)) (next_at s at) ≡ Bad → ⊥
    no_next q = let z : ◌≡◌ {A = ℕ} 0 1 = cc in omega arith

-- from a place where a record begins on
refused_from : (s : List ℕ) (n at p : ℕ) → Begins s at → parse_from s n at ≡ Parsed.refused p → BadAt s p
unfolding parse_from
refused_from s zero at p b e = absurd (not_refused (sym e))
refused_from s (suc n) at p b e = go (read_at s at) refl e (λ k. refused_from s n k p)
  where
    same : Parsed.refused at ≡ Parsed.refused p → at ≡ p
    same q = cc

    tail : (c : Command) (x : Parsed) → cons_to c x ≡ Parsed.refused p → x ≡ Parsed.refused p
    tail c (Parsed.refused y) q = q
    tail c (Parsed.commands cs) q = absurd (not_refused (sym q))

    go : (r : Read) → read_at s at ≡ r → parse_read r at (λ next. parse_from s n next) ≡ Parsed.refused p →
        ((k : ℕ) → Begins s k → parse_from s n k ≡ Parsed.refused p → BadAt s p) → BadAt s p
    go End q f h = absurd (not_refused (sym f))
    go Bad q f h =
        let (i, r) = was_bad s at q in
        subst (BadAt s) (same f) (record { begins = b; inside = i; bad = r })
    go (Next c k) q f h =
        let w : WasRead s at c k = was_read s at q in
        let at_is : at + head_bytes + field_bytes (get_or s at 0) ≡ k.at = ap (λ (x : Cursor). x.at) w.next_is in
        h k.at (subst (Begins s) at_is (later b w.before w.whole)) (tail c (parse_from s n k.at) f)

-- and back to the beginning
back : (s : List ℕ) {at : ℕ} (p : ℕ) → Begins s at → rest_at s at ≡ Parsed.refused p → rest_at s 0 ≡ Parsed.refused p
back s p first e = e
back s p (later {at} b i r) e =
    back s p b (rest_next s at (read_good s at r refl refl) ∙ ap (cons_to (command_at s (get_or s at 0) (at + head_bytes))) e)

-- R71, both ways
pub refused_exactly : (s : List ℕ) (at : ℕ) →
    (parse s ≡ Parsed.refused at → Refuses s at) × (Refuses s at → parse s ≡ Parsed.refused at)
unfolding rest_at
refused_exactly s at = (there, back_again)
  where
    same : (p : ℕ) → Parsed.refused p ≡ Parsed.refused at → p ≡ at
    same p q = cc

    there : parse s ≡ Parsed.refused at → Refuses s at
    there e =
        by_t (ltb max_batch (length s))
        (λ t. let h : max_batch < length s = ltb-true _ _ t in
        subst (Refuses s) (same max_batch (sym (parse_long s h) ∙ e)) (too_long h))
        (λ t. let h : length s ≤ max_batch = ltb-false _ _ t in
        let x : BadAt s at = refused_from s (suc (length s - 0)) 0 at first (sym (parse_rest s h) ∙ e) in
        bad_record h x.begins x.inside x.bad)

    back_again : {p : ℕ} → Refuses s p → parse s ≡ Parsed.refused p
    back_again {p} (too_long h) = parse_long s h
    back_again {p} (bad_record h b i r) = parse_rest s h ∙ back s p b (rest_bad s p (read_no s p i r))
