-- The slices that `lent` shows are those lent to write.
use Prim.Native.Nat.{ℕ, ◌≤◌, ◌<◌}
use mathlib.Core.Path.{◌≡◌, sym, ap, subst}
use native.Mathlib.Omega.{arith}
use mathlib.Core.List.{List}
use lib.ListN.{length}
use Rattle.xaplain.specs.Slices.{Slices, column, entry_at}
use Rattle.xaplain.specs.Moves.{Holds}
use Rattle.xaplain.specs.Lent.{Entries, EntriesMut, lent, lent_mut, Held, HeldMut, Shown, entry_in}

pub same : {s : Entries} {t : EntriesMut} → Shown s t → lent s ≡ lent_mut t
same e = let a = e.index_is in let b = e.order_is in let c = e.word_is in let d = e.marks_are in
    λ i. record { index = a i; order = b i; word = c i; marks = d i }

-- they hold the same list
abbrev pub held : {s : Entries} {t : EntriesMut} {n : ℕ} → Shown s t → HeldMut t n → Held s n
held {s} {t} {n} e h =
    let q : lent_mut t ≡ lent s = sym (same e) in
    record {
      list = h.list;
      valid = h.valid;
      count = h.count;
      fits = subst (λ (x : Slices). n ≤ length x.index) q h.fits;
      order_fits = subst (λ (x : Slices). length x.order ≡ length x.index) q h.order_fits;
      word_fits = subst (λ (x : Slices). length x.word ≡ length x.index) q h.word_fits;
      marks_fit = subst (λ (x : Slices). length x.marks ≡ length x.index) q h.marks_fit;
      index_is = subst (λ (x : Slices). x.index ≡ column (λ e. e.base) (length x.index) h.list) q h.index_is;
      order_is = subst (λ (x : Slices). x.order ≡ column (λ e. e.order) (length x.index) h.list) q h.order_is;
      word_is = subst (λ (x : Slices). x.word ≡ column (λ e. e.word) (length x.index) h.list) q h.word_is;
      marks_are = subst (λ (x : Slices). x.marks ≡ column (λ e. e.marks) (length x.index) h.list) q h.marks_are;
    }

pub within : {is os ws ms : List ℕ} {n k : ℕ} → Holds is os ws ms n → k < n → (k < length is) × (k < length os) × (k < length ws) × (k < length ms)
within h g = (
  omega (arith, h.fits),
  omega (arith, h.fits, h.order_fits),
  omega (arith, h.fits, h.word_fits),
  omega (arith, h.fits, h.marks_fit),
)

-- what is so of the one is so of the others
module _ {s : Entries} {t : EntriesMut} (e : Shown s t) where
  pub of_index : (P : List ℕ → Type 0) → P s.index.now → P t.index.now
  of_index P p = subst P e.index_is p

  pub of_two : (P : (is os : List ℕ) → Type 0) → P s.index.now s.order.now → P t.index.now t.order.now
  of_two P p = subst (λ (x : Slices). P x.index x.order) (same e) p

  pub same_entry : (k : ℕ) → entry_in s k ≡ entry_at t.index.now t.order.now t.word.now t.marks.now k
  same_entry k = ap (λ (x : Slices). entry_at x.index x.order x.word x.marks k) (same e)
