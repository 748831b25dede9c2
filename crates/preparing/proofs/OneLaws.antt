-- Bytes that are one whole record, by what is read at their start and as a batch (R330).
use Prim.Native.Nat.{ℕ, ◌+◌, ◌≤◌}
use mathlib.Core.Path.{◌≡◌, refl, sym, ap, subst, ◌∙◌}
use mathlib.Core.Bool.{true, false}
use mathlib.Core.List.{List, [], ◌∷◌}
use mathlib.Core.Option.{Option, none, some}
use native.Mathlib.Omega.{arith}
use lib.Dec.{ltb, eqb}
use lib.ListN.{length, get_or}
use borrow.Author.Tests.{ltb-true, ltb-false, eqb-true, eq-eqb, ne_eqb}
use Rattle.blocks.specs.Choice.{both}
use Rattle.blocks.proofs.BoolLaws.{by_t, both_l, both_r, both_no}
use Rattle.batch.specs.declared.Command.{Command}
use Rattle.batch.specs.declared.Cursor.{Cursor}
use Rattle.batch.specs.declared.Read.{Read}
use Rattle.batch.specs.declared.Read.TheVariants.{Next, Bad, End}
use Rattle.batch.specs.Batch.{
  max_batch,
  head_bytes,
  field_bytes,
  command_at,
  is_record,
  next_at,
  read_at,
  Parsed,
  Parsed.commands,
  Parsed.refused,
  cons_to,
  rest_at,
  parse,
}
use Rattle.batch.proofs.BatchLaws.{read_end, read_no}
use Rattle.batch.proofs.ParseLaws.{
  read_good,
  WasRead,
  was_read,
  Onward,
  next_after,
  rest_end,
  rest_bad,
  rest_next,
  not_refused,
  parse_long,
  parse_rest,
}
use Rattle.execute.specs.Part.{changing}
use Rattle.preparing.specs.Prepare.{one_of, the_one}
use Rattle.preparing.specs.Claims.{OneChange}

-- FROM WHAT IS READ
fields_few : (tag : ℕ) → field_bytes tag ≤ 19
fields_few tag =
    by_t (eqb tag 1) (λ a. rw a (omega arith))
    (λ a. by_t (eqb tag 2) (λ b. rw (a, b) (omega arith))
    (λ b. by_t (eqb tag 3) (λ c. rw (a, b, c) (omega arith))
    (λ c. by_t (eqb tag 4) (λ d. rw (a, b, c, d) (omega arith))
    (λ d. by_t (eqb tag 5) (λ e. rw (a, b, c, d, e) (omega arith))
    (λ e. by_t (eqb tag 6) (λ f. rw (a, b, c, d, e, f) (omega arith))
    (λ f. by_t (eqb tag 7) (λ g. rw (a, b, c, d, e, f, g) (omega arith))
    (λ g. rw (a, b, c, d, e, f, g) (omega arith))))))))

module _ (bs : List ℕ) {c : Command} {k : Cursor} (q : read_at bs 0 ≡ Next c k) where
  short : k.at ≤ 22
  short =
      let w : WasRead bs 0 c k = was_read bs 0 q in
      let p : 0 + head_bytes + field_bytes (get_or bs 0 0) ≡ k.at = ap (λ (x : Cursor). x.at) w.next_is in
      let f : field_bytes (get_or bs 0 0) ≤ 19 = fields_few (get_or bs 0 0) in omega (arith, p, f)

  pub parse_one : k.at ≡ length bs → parse bs ≡ commands (c ∷ [])
  parse_one e =
      let h : k.at ≤ 22 = short in
      parse_rest bs (omega (arith, e, h))
      ∙ (rest_next bs 0 (sym q) ∙ ap (cons_to c) (ap (rest_at bs) e ∙ rest_end bs (length bs) (read_end bs (length bs) (omega arith))))

-- FROM THE BATCH
one_then : (c d : Command) (p : Parsed) → cons_to c p ≡ commands (d ∷ []) → (c ≡ d) × (p ≡ commands [])
one_then c d (commands cs) e = let (a, b) = heads e in (a, ap commands b)
  where
    heads : {x y : Command} {xs ys : List Command} → commands (x ∷ xs) ≡ commands (y ∷ ys) → (x ≡ y) × (xs ≡ ys)
    heads q = (cc, cc)
one_then c d (refused at) e = absurd (not_refused e)

not_none : {c : Command} {cs : List Command} → commands [] ≡ commands (c ∷ cs) → ⊥
not_none q = let z : ◌≡◌ {A = ℕ} 0 1 = cc in omega arith

cons_some : (c : Command) (p : Parsed) → cons_to c p ≡ commands [] → ⊥
cons_some c (commands cs) e = not_none (sym e)
cons_some c (refused at) e = not_refused e

-- where no command is left, the batch ends
at_end : (bs : List ℕ) (p : ℕ) → p ≤ length bs → rest_at bs p ≡ commands [] → p ≡ length bs
at_end bs p h e =
    by_t (ltb p (length bs))
    (λ t. absurd (by_t (is_record bs p)
    (λ r. let g : Next (command_at bs (get_or bs p 0) (p + head_bytes)) (next_at bs p) ≡ read_at bs p = read_good bs p r refl refl in
    cons_some (command_at bs (get_or bs p 0) (p + head_bytes)) (rest_at bs (next_at bs p).at) (sym (rest_next bs p g) ∙ e))
    (λ r. not_refused (sym (rest_bad bs p (read_no bs p (ltb-true _ _ t) r)) ∙ e))))
    (λ t. omega (arith, ltb-false p (length bs) t))

-- what is read at the start of bytes that have one command
pub record ReadAlone (bs : List ℕ) (c : Command) : Type 0 where
  pub cursor : Cursor
  pub reads : read_at bs 0 ≡ Next c cursor
  pub ends_there : cursor.at ≡ length bs

pub read_alone : (bs : List ℕ) {c : Command} → parse bs ≡ commands (c ∷ []) → ReadAlone bs c
read_alone bs {c} e =
    by_t (ltb max_batch (length bs)) (λ t. absurd (not_refused (sym (parse_long bs (ltb-true _ _ t)) ∙ e)))
    (λ t. go (sym (parse_rest bs (ltb-false _ _ t)) ∙ e) (read_at bs 0) refl)
  where
    go : rest_at bs 0 ≡ commands (c ∷ []) → (r : Read) → read_at bs 0 ≡ r → ReadAlone bs c
    go f End q = absurd (not_none (sym (rest_end bs 0 (sym q)) ∙ f))
    go f Bad q = absurd (not_refused (sym (rest_bad bs 0 (sym q)) ∙ f))
    go f (Next d k) q =
        let o : Onward bs 0 k.at = next_after bs 0 q in
        let (a, b) = one_then d c (rest_at bs k.at) (sym (rest_next bs 0 (sym q)) ∙ f) in
        record {
          cursor = k;
          reads = q ∙ ap (λ (x : Command). Next x k) a;
          ends_there = at_end bs k.at o.within b;
        }

-- THE ONE
some_is : {c d : Command} → some c ≡ some d → c ≡ d
some_is q = cc

none_some : {c : Command} → none ≡ some c → ⊥
none_some q = let z : ◌≡◌ {A = ℕ} 0 1 = cc in omega arith

module _ (bs : List ℕ) where
  pub the_one_lem : {c : Command} → the_one bs ≡ some c → OneChange bs c
  unfolding the_one
  the_one_lem {c} e = go (read_at bs 0) refl e
    where
      go : (r : Read) → read_at bs 0 ≡ r → one_of (length bs) r ≡ some c → OneChange bs c
      go End q f = absurd (none_some f)
      go Bad q f = absurd (none_some f)
      go (Next d k) q f =
          by_t (both (eqb k.at (length bs)) (changing d))
          (λ t. let g : some d ≡ some c = rw t at f in
          subst (OneChange bs) (some_is g)
          (record {
            alone = parse_one bs q (eqb-true _ _ (both_l (eqb k.at (length bs)) (changing d) t));
            changes = both_r (eqb k.at (length bs)) (changing d) t;
          }))
          (λ t. absurd (none_some (rw t at f)))

  pub is_the_one : {c : Command} → OneChange bs c → the_one bs ≡ some c
  unfolding the_one
  is_the_one {c} o =
      let r : ReadAlone bs c = read_alone bs o.alone in
      ap (one_of (length bs)) r.reads
      ∙ rw (eq-eqb r.cursor.at (length bs) r.ends_there, o.changes) refl

  pub not_one : ((c : Command) → OneChange bs c → ⊥) → the_one bs ≡ none
  not_one f = go (the_one bs) refl
    where
      go : (o : Option Command) → the_one bs ≡ o → the_one bs ≡ none
      go none q = q
      go (some c) q = absurd (f c (the_one_lem q))

  pub no_one : the_one bs ≡ none → (c : Command) → OneChange bs c → ⊥
  no_one e c o = none_some (sym e ∙ is_the_one o)

  -- by what stands at the start
  pub end_none : End ≡ read_at bs 0 → the_one bs ≡ none
  unfolding the_one
  end_none e = sym (ap (one_of (length bs)) e)

  pub bad_none : Bad ≡ read_at bs 0 → the_one bs ≡ none
  unfolding the_one
  bad_none e = sym (ap (one_of (length bs)) e)

  module _ {c : Command} {k : Cursor} (e : Next c k ≡ read_at bs 0) where
    pub more_none : (k.at ≡ length bs → ⊥) → the_one bs ≡ none
    unfolding the_one
    more_none h = sym (ap (one_of (length bs)) e) ∙ rw (ne_eqb k.at (length bs) h) refl

    pub same_none : changing c ≡ false → the_one bs ≡ none
    unfolding the_one
    same_none h = sym (ap (one_of (length bs)) e) ∙ rw (h, both_no) refl

    pub one_some : k.at ≡ length bs → changing c ≡ true → the_one bs ≡ some c
    unfolding the_one
    one_some h g = sym (ap (one_of (length bs)) e) ∙ rw (eq-eqb k.at (length bs) h, g) refl
