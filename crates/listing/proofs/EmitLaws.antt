-- Laws of entries written one after the other.
use Rattle.std.specs.Prelude.{Ok, Err}
use Prim.Native.Nat.{ℕ, suc, ◌+◌, ◌*◌, ◌/◌, ◌≤◌, ◌<◌}
use mathlib.Core.Path.{◌≡◌, refl, sym, ap, ◌∙◌}
use mathlib.Core.Bool.{true, false}
use mathlib.Core.List.{List, [], ◌∷◌, ◌++◌}
use native.Mathlib.Omega.{arith}
use native.Mathlib.Nat.{add-zero}
use lib.ListN.{length, drop, length-append}
use borrow.Author.Tests.{lt-ltb, le-ltb, le-leb, lt-leb}
use Rattle.model.specs.declared.Entry.{Entry}
use Rattle.model.specs.Model.{meets, shown}
use Rattle.words.specs.Bytes.{write_from, overwrite, bytes_then}
use Rattle.words.proofs.WriteLaws.{written, overwrite_append, overwrite_all}
use Rattle.listing.specs.Listing.{listed_tag, listed_length, entry_bytes, encode_entry, listed, listing, fits, outcome, filled_with}
use Rattle.listing.specs.Visits.{put_at, emit, Emits}

-- the six numbers of an entry, one after the other
pub entry_written : (s : List ℕ) {a b c d e f : List ℕ} (at : ℕ) (x : Entry) {w : ℕ} → w ≡ shown x →
    a ≡ overwrite s (at + 0) (bytes_then 1 listed_tag []) → b ≡ overwrite a (at + 1) (bytes_then 2 listed_length []) →
    c ≡ overwrite b (at + 3) (bytes_then 8 x.base []) → d ≡ overwrite c (at + 11) (bytes_then 1 x.order []) →
    e ≡ overwrite d (at + 12) (bytes_then 8 w []) → f ≡ overwrite e (at + 20) (bytes_then 1 x.marks []) →
    f ≡ overwrite s at (encode_entry x)
unfolding write_from
entry_written s {a} {b} {c} {d} {e} {f} at x hw ha hb hc hd he hf =
    let m₅ : List ℕ = bytes_then 1 x.marks [] in
    let m₄ : List ℕ = bytes_then 8 (shown x) m₅ in
    let m₃ : List ℕ = bytes_then 1 x.order m₄ in
    let m₂ : List ℕ = bytes_then 8 x.base m₃ in
    let m₁ : List ℕ = bytes_then 2 listed_length m₂ in
    sym
    (written s at 0 1 listed_tag m₁ ha
    ∙ written a at 1 2 listed_length m₂ hb
    ∙ written b at 3 8 x.base m₃ hc
    ∙ written c at 11 1 x.order m₄ hd
    ∙ written d at 12 8 (shown x) m₅ (he ∙ ap (λ (v : ℕ). overwrite d (at + 12) (bytes_then 8 v [])) hw)
    ∙ written e at 20 1 x.marks [] hf)

-- ONE LIST OF ENTRIES AFTER ANOTHER
pub emit_append : (room : ℕ) (bs : List ℕ) (k : ℕ) (es fs : List Entry) →
    emit room bs k (es ++ fs) ≡ emit room (emit room bs k es) (k + length es) fs
unfolding emit
emit_append room bs k [] fs = rw (add-zero k)
emit_append room bs k (e ∷ es) fs =
    let q : suc k + length es ≡ k + suc (length es) = omega arith in
    emit_append room (put_at room bs k e) (suc k) es fs
    ∙ ap (λ (m : ℕ). emit room (emit room (put_at room bs k e) (suc k) es) m fs) q

pub emits_none : (room : ℕ) (bs : List ℕ) (k : ℕ) → Emits room [] bs k bs k
unfolding emit
emits_none room bs k = record { bytes_are = refl; count_is = omega arith }

pub emits_nothing : (room : ℕ) {es : List Entry} (bs : List ℕ) (k : ℕ) → es ≡ [] → Emits room es bs k bs k
emits_nothing room bs k e = rw e (emits_none room bs k)

pub emits_then : {room : ℕ} {es fs : List Entry} {bs bs₁ bs₂ : List ℕ} {k r₁ r₂ : ℕ} → Emits room es bs k bs₁ r₁ →
    Emits room fs bs₁ r₁ bs₂ r₂ → Emits room (es ++ fs) bs k bs₂ r₂
emits_then {room} {es} {fs} {bs} {bs₁} {bs₂} {k} {r₁} a b =
    record {
      bytes_are = b.bytes_are ∙ ap (λ (x : List ℕ). emit room x r₁ fs) a.bytes_are ∙ ap
          (λ (m : ℕ). emit room (emit room bs k es) m fs) a.count_is ∙ sym (emit_append room bs k es fs);
      count_is = omega (arith, a.count_is, b.count_is, length-append es fs);
    }

-- ONE ENTRY: without room it is counted alone
emits_counted : {room : ℕ} (bs : List ℕ) {k : ℕ} (e : Entry) → room ≤ k → Emits room (e ∷ []) bs k bs (k + 1)
unfolding emit
emits_counted {room} bs {k} e h = record { bytes_are = rw (le-ltb k room h) refl; count_is = omega arith }

emits_written : {room : ℕ} {bs bs' : List ℕ} {k : ℕ} (e : Entry) → k < room →
    bs' ≡ overwrite bs (entry_bytes * k) (encode_entry e) → Emits room (e ∷ []) bs k bs' (k + 1)
unfolding emit
emits_written {room} {k} e h q = record { bytes_are = rw (lt-ltb k room h) q; count_is = omega arith }

-- and where it is asked for only if it meets a range
module _ (room a z : ℕ) (e : Entry) (bs : List ℕ) (k : ℕ) where
  pub offered_no : meets a z e ≡ false → Emits room (listed (e ∷ []) a z) bs k bs k
  offered_no t = rw t (emits_none room bs k)

  pub offered_counted : meets a z e ≡ true → room ≤ k → Emits room (listed (e ∷ []) a z) bs k bs (k + 1)
  offered_counted t h = rw t (emits_counted bs e h)

  pub offered_written : (bs' : List ℕ) → meets a z e ≡ true → k < room →
      bs' ≡ overwrite bs (entry_bytes * k) (encode_entry e) → Emits room (listed (e ∷ []) a z) bs k bs' (k + 1)
  offered_written bs' t h q = rw t (emits_written e h q)

-- THE WHOLE LISTING
pub emit_zero : (bs : List ℕ) (k : ℕ) (es : List Entry) → emit 0 bs k es ≡ bs
unfolding emit
emit_zero bs k [] = refl
emit_zero bs k (e ∷ es) = rw (le-ltb k 0 (omega arith)) (emit_zero bs (suc k) es)

length_listing : (es : List Entry) → length (listing es) ≡ entry_bytes * length es
length_listing [] = refl
length_listing (e ∷ es) =
    let q : length (encode_entry e) ≡ entry_bytes = refl in
    omega (arith, q, length-append (encode_entry e) (listing es), length_listing es)

pub emit_all : (room : ℕ) (bs : List ℕ) (k : ℕ) (es : List Entry) → k + length es ≤ room →
    emit room bs k es ≡ overwrite bs (entry_bytes * k) (listing es)
unfolding emit write_from
emit_all room bs k [] h = refl
emit_all room bs k (e ∷ es) h =
    let q : length (encode_entry e) ≡ entry_bytes = refl in
    let t : List ℕ = overwrite bs (entry_bytes * k) (encode_entry e) in
    let g : entry_bytes * k + length (encode_entry e) ≡ entry_bytes * suc k = omega (arith, q) in
    rw (lt-ltb k room (omega arith))
    (emit_all room t (suc k) es (omega arith)
    ∙ ap (λ (m : ℕ). overwrite t m (listing es)) (sym g)
    ∙ sym (overwrite_append bs (entry_bytes * k) (encode_entry e) (listing es)))

-- what the two visits leave
pub listed_short : {es : List Entry} {bs bs' : List ℕ} {k : ℕ} → Emits 0 es bs 0 bs' k → length bs' / entry_bytes < k →
    (Err (record { entries = k }) ≡ outcome es bs) × (bs' ≡ filled_with es bs)
listed_short {es} {bs} {bs'} {k} e h =
    let q : k ≡ length es = omega (arith, e.count_is) in
    let w : bs' ≡ bs = e.bytes_are ∙ emit_zero bs 0 es in
    let g : length bs' ≡ length bs = ap length w in
    let n : fits es bs ≡ false = lt-leb (entry_bytes * length es) (length bs) (omega arith) in
    (rw n (ap (λ (m : ℕ). Err (record { entries = m })) q), rw n w)

pub listed_done : {es : List Entry} {bs bs₁ bs₂ : List ℕ} {k r : ℕ} → Emits 0 es bs 0 bs₁ k →
    k ≤ length bs₁ / entry_bytes → Emits k es bs₁ 0 bs₂ r → (Ok k ≡ outcome es bs) × (bs₂ ≡ filled_with es bs)
listed_done {es} {bs} {bs₁} {bs₂} {k} a h b =
    let q : k ≡ length es = omega (arith, a.count_is) in
    let w : bs₁ ≡ bs = a.bytes_are ∙ emit_zero bs 0 es in
    let g : length bs₁ ≡ length bs = ap length w in
    let f : entry_bytes * length es ≤ length bs = omega arith in
    let n : fits es bs ≡ true = le-leb (entry_bytes * length es) (length bs) f in (
      rw n (ap Ok q),
      rw n
          (b.bytes_are
          ∙ ap (λ (x : List ℕ). emit k x 0 es) w
          ∙ emit_all k bs 0 es (omega arith)
          ∙ overwrite_all bs (listing es) (rw (length_listing es) f)
          ∙ ap (λ (m : ℕ). listing es ++ drop m bs) (length_listing es)),
    )
