-- A batch cut just after one of its commands is the batch of the commands up to there.
use Prim.Native.Nat.{ℕ, ◌+◌, ◌≤◌}
use mathlib.Core.Path.{◌≡◌, refl, sym, ap, ap₂, ◌∙◌}
use mathlib.Core.Logic.{◌≢◌}
use mathlib.Core.List.{List, [], ◌∷◌, ◌++◌}
use native.Mathlib.Omega.{arith}
use native.Mathlib.Nat.{le_refl}
use lib.Dec.{ltb, eqb}
use lib.ListN.{length, get_or, take, length-take}
use lib.Seq.{get_or-take}
use borrow.Author.Tests.{ltb-true, ltb-false}
use Rattle.blocks.proofs.BoolLaws.{by_t}
use Rattle.blocks.specs.Choice.{pick}
use Rattle.words.specs.Bytes.{number_at}
use Rattle.words.proofs.NumberLaws.{number_cut, one_byte}
use Rattle.std.specs.Prelude.{Some, None}
use Rattle.batch.specs.Batch.{max_batch, head_bytes, field_bytes, command_at, is_record, next_at, read_at, Read, Next, Bad, End, Command, Cursor, Store, Load, Erase, Mark, Unmark, Find, Reserve, Parsed, cons_to, rest_at, parse}
use Rattle.batch.proofs.BatchLaws.{skip_whole, read_end, read_next}
use Rattle.batch.proofs.ParseLaws.{
  WasRead,
  was_read,
  Whole,
  whole,
  Onward,
  next_after,
  rest_end,
  rest_bad,
  rest_next,
  not_refused,
  parse_long,
  parse_rest,
}

module _ (s : List ℕ) (p : ℕ) (fits : p ≤ length s) where
  cut_length : length (take p s) ≡ p
  cut_length = simp length-take (omega arith)

  -- commands before the cut
  command_cut : (tag at : ℕ) → field_bytes tag ≢ 0 → at + field_bytes tag ≤ p →
      command_at (take p s) tag at ≡ command_at s tag at
  command_cut tag at f h =
      by_t (eqb tag 1)
      (λ t. let h₁ : at + 17 ≤ p = rw t at h in
      rw t (λ i. Store (number_cut s p fits at 8 (omega arith) i) (number_cut s p fits (at + 8) 1 (omega arith) i)
      (number_cut s p fits (at + 9) 8 (omega arith) i)))
      (λ t. by_t (eqb tag 2)
      (λ u. let h₂ : at + 8 ≤ p = rw (t, u) at h in rw (t, u) (ap Load (number_cut s p fits at 8 (omega arith))))
      (λ u. by_t (eqb tag 3)
      (λ v. let h₃ : at + 8 ≤ p = rw (t, u, v) at h in rw (t, u, v) (ap Erase (number_cut s p fits at 8 (omega arith))))
      (λ v. by_t (eqb tag 4)
      (λ w. let h₄ : at + 9 ≤ p = rw (t, u, v, w) at h in
      rw (t, u, v, w) (ap₂ Mark (number_cut s p fits at 8 (omega arith)) (number_cut s p fits (at + 8) 1 (omega arith))))
      (λ w. by_t (eqb tag 5)
      (λ x. let h₅ : at + 9 ≤ p = rw (t, u, v, w, x) at h in
      rw (t, u, v, w, x) (ap₂ Unmark (number_cut s p fits at 8 (omega arith)) (number_cut s p fits (at + 8) 1 (omega arith))))
      (λ x. by_t (eqb tag 6)
      (λ y. let h₆ : at + 19 ≤ p = rw (t, u, v, w, x, y) at h in
      rw (t, u, v, w, x, y)
      (λ i. Find (number_cut s p fits at 8 (omega arith) i) (number_cut s p fits (at + 8) 8 (omega arith) i)
      (number_cut s p fits (at + 16) 1 (omega arith) i) (number_cut s p fits (at + 17) 2 (omega arith) i)))
      (λ y. by_t (eqb tag 7)
      (λ z. let h₇ : at + 8 ≤ p = rw (t, u, v, w, x, y, z) at h in
      rw (t, u, v, w, x, y) (ap Reserve (number_cut s p fits at 8 (omega arith))))
      (λ z. absurd (f (rw (t, u, v, w, x, y, z))))))))))

  -- a record that ends before the cut is read the same
  read_before : (at : ℕ) {c : Command} {k : Cursor} → read_at s at ≡ Next c k → k.at ≤ p →
      Next c k ≡ read_at (take p s) at
  read_before at {c} {k} e h =
      let r : WasRead s at c k = was_read s at e in
      let w : Whole s at = whole s at r.whole in
      let place : at + head_bytes + field_bytes (get_or s at 0) ≡ k.at = ap (λ (x : Cursor). x.at) r.next_is in
      let tag : ℕ = number_at (take p s) at 1 in
      let t : tag ≡ get_or s at 0 =
      one_byte (take p s) at {tag = tag} refl ∙ get_or-take p s at 0 (omega arith) in
      let z : field_bytes tag ≡ field_bytes (get_or s at 0) = ap field_bytes t in
      let f : field_bytes tag ≢ 0 = λ x. w.some_fields (sym z ∙ x) in
      let q : c ≡ command_at (take p s) tag (at + head_bytes) =
      sym r.command_is ∙ ap (λ (x : ℕ). command_at s x (at + head_bytes)) (sym t)
      ∙ sym (command_cut tag (at + head_bytes) f (omega arith)) in
      let skipped : Some (at + head_bytes + field_bytes tag) ≡ pick (is_record (take p s) at) (Some (next_at (take p s) at).at) None =
      skip_whole (take p s) at tag (field_bytes tag) refl refl (rw cut_length (omega arith)) f
      (number_cut s p fits (at + 1) 2 (omega arith) ∙ w.length_is ∙ sym z) (rw cut_length (omega arith)) in
      let n : Next c (record { at = at + head_bytes + field_bytes tag }) ≡ read_at (take p s) at =
      read_next (take p s) at (rw cut_length (omega arith)) skipped
      (q ∙ ap (λ (x : ℕ). command_at (take p s) x (at + head_bytes)) (one_byte (take p s) at {tag = tag} refl)) in
      ap (λ (x : ℕ). Next c (record { at = x })) (sym place ∙ ap (λ (x : ℕ). at + head_bytes + x) (sym z)) ∙ n

-- a batch read from a place on, cut after its first commands
pub record CutAt (s : List ℕ) (at : ℕ) (cs : List Command) : Type 0 where
  pub place : ℕ
  pub after : at ≤ place
  pub fits : place ≤ length s
  pub rest_is : rest_at (take place s) at ≡ Parsed.commands cs

same_rest : (p : Parsed) {c d : Command} {ds : List Command} → cons_to c p ≡ Parsed.commands (d ∷ ds) →
    (c ≡ d) × (p ≡ Parsed.commands ds)
same_rest (Parsed.commands cs) e = let (a, b) = heads e in (a, ap Parsed.commands b)
  where
    heads : {c d : Command} {xs ys : List Command} → Parsed.commands (c ∷ xs) ≡ Parsed.commands (d ∷ ys) →
        (c ≡ d) × (xs ≡ ys)
    heads e = (cc, cc)
same_rest (Parsed.refused at) e = absurd (not_refused e)

pub cut_rest : (s : List ℕ) (at : ℕ) (cs ds : List Command) → at ≤ length s →
    rest_at s at ≡ Parsed.commands (cs ++ ds) →
    CutAt s at cs
cut_rest s at [] ds h e = record {
  place = at;
  after = le_refl at;
  fits = h;
  rest_is = rest_end (take at s) at (read_end (take at s) at (rw (cut_length s at h) (le_refl at)));
}
cut_rest s at (c ∷ cs) ds h e = go (read_at s at) refl (λ next. cut_rest s next cs ds)
  where
    nil : Parsed.commands [] ≡ Parsed.commands (c ∷ (cs ++ ds)) → ⊥
    nil q = let z : ◌≡◌ {A = ℕ} 0 1 = cc in omega arith

    go : (r : Read) → read_at s at ≡ r →
        ((next : ℕ) → next ≤ length s → rest_at s next ≡ Parsed.commands (cs ++ ds) → CutAt s next cs) →
        CutAt s at (c ∷ cs)
    go End g f = absurd (nil (sym (rest_end s at (sym g)) ∙ e))
    go Bad g f = absurd (not_refused (sym (rest_bad s at (sym g)) ∙ e))
    go (Next d k) g f =
        let o : Onward s at k.at = next_after s at g in
        let (a, b) = same_rest (rest_at s k.at) {c = d} {d = c} (sym (rest_next s at (sym g)) ∙ e) in
        let r : CutAt s k.at cs = f k.at o.within b in
        record {
          place = r.place;
          after = omega (arith, r.after, o.after);
          fits = r.fits;
          rest_is =
              rest_next (take r.place s) at (read_before s r.place r.fits at g r.after)
              ∙ ap (cons_to d) r.rest_is ∙ ap (λ (x : Command). Parsed.commands (x ∷ cs)) a;
        }

-- R104: where a batch is cut after its first commands, these are the commands of what is left
pub cut : (s : List ℕ) (cs ds : List Command) → parse s ≡ Parsed.commands (cs ++ ds) →
    (place : ℕ) × (parse (take place s) ≡ Parsed.commands cs)
cut s cs ds e = by_t (ltb max_batch (length s)) (λ t. absurd (not_refused (sym (parse_long s (ltb-true _ _ t)) ∙ e)))
    (λ t. let h : length s ≤ max_batch = ltb-false _ _ t in
    let r : CutAt s 0 cs = cut_rest s 0 cs ds (omega arith) (sym (parse_rest s h) ∙ e) in (
      r.place,
      parse_rest (take r.place s) (rw (cut_length s r.place r.fits) (omega (arith, r.fits))) ∙ r.rest_is,
    ))
