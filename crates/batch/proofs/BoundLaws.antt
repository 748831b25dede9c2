-- Bytes make numbers that fit, so the fields of a command that was read fit.
use Prim.Native.Nat.{ℕ, zero, suc, ◌+◌, ◌-◌}
use mathlib.Core.Path.{◌≡◌, refl, subst}
use mathlib.Core.List.{List}
use lib.Dec.{ltb, eqb}
use lib.ListN.{length, get_or}
use Rattle.blocks.specs.Lists.{All, end, also}
use Rattle.blocks.proofs.BoolLaws.{by_t}
use Rattle.words.specs.Bytes.{Bytes}
use Rattle.words.proofs.NumberLaws.{number_lt}
use Rattle.batch.specs.Batch.{Command, max_batch, head_bytes, command_at, read_at, Read, Next, Bad, End, Cursor, Parsed, cons_to, parse_read, parse_from, rest_at, parse}
use Rattle.batch.specs.Fits.{Fits}
use Rattle.batch.proofs.ParseLaws.{was_read}

command_fits : {s : List ℕ} → Bytes s → (tag at : ℕ) → Fits (command_at s tag at)
command_fits {s} b tag at =
    by_t (eqb tag 1) (λ t. rw t (number_lt b at 8, number_lt b (at + 9) 8))
    (λ t. by_t (eqb tag 2) (λ u. rw (t, u) tt)
    (λ u. by_t (eqb tag 3) (λ v. rw (t, u, v) tt)
    (λ v. by_t (eqb tag 4) (λ w. rw (t, u, v, w) tt)
    (λ w. by_t (eqb tag 5) (λ x. rw (t, u, v, w, x) tt)
    (λ x. by_t (eqb tag 6) (λ y. rw (t, u, v, w, x, y) (number_lt b (at + 8) 8, number_lt b (at + 17) 2))
    (λ y. rw (t, u, v, w, x, y) (number_lt b at 8)))))))

-- what a batch parses to
abbrev pub AllFit : Parsed → Type 0
AllFit (Parsed.commands cs) = All Fits cs
AllFit (Parsed.refused at) = Unit

cons_fit : (c : Command) (p : Parsed) → Fits c → AllFit p → AllFit (cons_to c p)
cons_fit c (Parsed.commands cs) f a = also f a
cons_fit c (Parsed.refused at) f a = tt

pub read_fits : {s : List ℕ} → Bytes s → (at : ℕ) {c : Command} {k : Cursor} → read_at s at ≡ Next c k → Fits c
read_fits {s} b at e =
    subst Fits (was_read s at e).command_is (command_fits b (get_or s at 0) (at + head_bytes))

from_fits : {s : List ℕ} → Bytes s → (n at : ℕ) → AllFit (parse_from s n at)
unfolding parse_from
from_fits b zero at = end
from_fits {s} b (suc n) at = go (read_at s at) refl (from_fits b n)
  where
    go : (r : Read) → read_at s at ≡ r → ((next : ℕ) → AllFit (parse_from s n next)) →
        AllFit (parse_read r at (λ next. parse_from s n next))
    go End e f = end
    go Bad e f = tt
    go (Next c k) e f = cons_fit c (parse_from s n k.at) (read_fits b at e) (f k.at)

-- every command of a batch of bytes has fields that fit
pub parse_fits : {s : List ℕ} → Bytes s → AllFit (parse s)
unfolding parse rest_at
parse_fits {s} b =
    by_t (ltb max_batch (length s)) (λ t. rw t tt) (λ t. rw t (from_fits b (suc (length s - 0)) 0))
