-- `part`: a byte by a look-up.
use mathlib.Core.Path.{◌≡◌, ap, ◌∙◌}
use Prim.Native.Nat.{ℕ, ◌+◌, ◌-◌, ◌%◌}
use native.Mathlib.Nat.{mod-lt}
use native.Mathlib.Omega.{arith}
use lib.Dec.{lit<}
use Rattle.crc32c.specs.Words.{after}
use Rattle.crc32c.proofs.TableLaws.{first_at, further_at}
use Rattle.crc32c.proofs.part.Goals as goal

pub returns-then-level-eq0 : goal.returns-then-level-eq0
returns-then-level-eq0 c =
    let s = c in
    let e : 1 ≡ s.args.level + 1 = omega arith in
    first_at s.args.t.now s.requires.table (s.args.x % 256) (mod-lt s.args.x (lit< tt)) ∙ ap (λ (n : ℕ). after n (s.args.x % 256)) e

pub returns : goal.returns
returns c =
    let s = c in
    let k = s.args.level - 1 in
    let e : k + 2 ≡ s.args.level + 1 = omega arith in
    further_at s.args.t.now s.args.f.now s.requires.table s.requires.further k (s.args.x % 256) (omega arith) (mod-lt s.args.x (lit< tt))
    ∙ ap (λ (n : ℕ). after n (s.args.x % 256)) e
