-- Laws of reading a batch, as the code tests it.
use Prim.Native.Nat.{ℕ, ◌+◌, ◌≤◌, ◌<◌}
use mathlib.Core.Path.{◌≡◌, sym, ap, ◌∙◌}
use mathlib.Core.Logic.{◌≢◌}
use mathlib.Core.Bool.{true, false}
use mathlib.Core.List.{List}
use native.Mathlib.Omega.{arith}
use lib.ListN.{length, get_or}
use borrow.Author.Tests.{le-leb, lt-leb, eq-eqb, ne_eqb}
use Rattle.blocks.specs.Choice.{pick}
use Rattle.blocks.proofs.BoolLaws.{by_t}
use Rattle.words.specs.Bytes.{number_at}
use Rattle.words.proofs.NumberLaws.{one_byte}
use Rattle.std.specs.Prelude.{Option, Some, None}
use Rattle.batch.specs.Batch.{field_bytes, head_bytes, command_at, is_record, next_at, read_at, Next, Bad, End, Command}

-- WHETHER A RECORD IS WHOLE, test by test as the code has them
module _ (s : List ℕ) (at : ℕ) where
  -- the tag and the length of its fields
  module _ (tag size : ℕ) (t : tag ≡ number_at s at 1) (z : size ≡ field_bytes tag) (h : at + head_bytes ≤ length s) where
    size_is : size ≡ field_bytes (get_or s at 0)
    size_is = z ∙ ap field_bytes (one_byte s at t)

    module _ (f : size ≢ 0) where
      some_fields : field_bytes (get_or s at 0) ≢ 0
      some_fields e = f (size_is ∙ e)

      module _ (e : number_at s (at + 1) 2 ≡ size) where
        whole_head : number_at s (at + 1) 2 ≡ field_bytes (get_or s at 0)
        whole_head = e ∙ size_is

        pub skip_whole : at + head_bytes + size ≤ length s →
            Some (at + head_bytes + size) ≡ pick (is_record s at) (Some (next_at s at).at) None
        skip_whole g = rw (
          le-leb (at + head_bytes) (length s) h,
          ne_eqb (field_bytes (get_or s at 0)) 0 some_fields,
          eq-eqb (number_at s (at + 1) 2) (field_bytes (get_or s at 0)) whole_head,
          le-leb (at + head_bytes + field_bytes (get_or s at 0)) (length s) (rw (← size_is) g),
        ) (ap (λ (y : ℕ). Some (at + head_bytes + y)) size_is)

  -- SKIPPING AGREES WITH READING
  pub read_end : length s ≤ at → End ≡ read_at s at
  unfolding read_at
  read_end h = rw (le-leb (length s) at h)

  pub read_no : at < length s → is_record s at ≡ false → Bad ≡ read_at s at
  unfolding read_at
  read_no h r = rw (lt-leb (length s) at h, r)

  apart : {x : ℕ} → ◌≡◌ {A = Option ℕ} None (Some x) → ◌≡◌ {A = ℕ} 0 1
  apart e = cc

  module _ (before : at < length s) where
    pub read_bad : None ≡ pick (is_record s at) (Some (next_at s at).at) None → Bad ≡ read_at s at
    read_bad z = by_t (is_record s at)
        (λ r. let e : None ≡ Some (next_at s at).at = rw r at z in absurd (omega (arith, apart e)))
        (read_no before)

    module _ {next : ℕ} (skipped : Some next ≡ pick (is_record s at) (Some (next_at s at).at) None) where
      skipped_next : (is_record s at ≡ true) × (next ≡ at + head_bytes + field_bytes (get_or s at 0))
      skipped_next = by_t (is_record s at)
          (λ r. let e : Some next ≡ Some (next_at s at).at = rw r at skipped in (r, cc))
          (λ r. let e : Some next ≡ None = rw r at skipped in absurd (omega (arith, apart (sym e))))

      pub read_next : {c : Command} → c ≡ command_at s (get_or s at 0) (at + head_bytes) →
          Next c (record { at = next }) ≡ read_at s at
      unfolding read_at
      read_next {c} q = rw (lt-leb (length s) at before, skipped_next.0) (λ i. Next (q i) (record { at = skipped_next.1 i }))
