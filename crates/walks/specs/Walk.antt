-- A walk by finds (R290 to R295, R298): a find at each moment, from where the last one left it, over the models that the calls in between leave.
use Rattle.std.specs.Prelude.{ℕ, ◌+◌, ◌≤◌, ◌<◌, ◌≡◌, Bool, List, [], ◌∷◌, leb, ltb}
use Rattle.std.proofs.Math.Option.{Option, none, some}
use Rattle.blocks.specs.Choice.{pick, both}
use Rattle.blocks.specs.Lists.{any}
use Rattle.model.specs.declared.Entry.{Entry}
use Rattle.model.specs.Model.{covers}
use Rattle.lookup.specs.declared.Outcome.{Outcome}
use Rattle.lookup.specs.declared.Outcome.TheVariants.{Found, Ended, Paused}
use Rattle.lookup.specs.Find.{matches, after, find}
use Rattle.lookup.specs.Steps.{enough}

-- R290: the model that a find meets, and the find's budget
pub record Moment : Type 0 where
  pub list : List Entry
  pub budget : ℕ

-- one more report, if the rest comes to its end
abbrev pub reporting : Outcome → Option (List Outcome) → Option (List Outcome)
reporting o none = none
reporting o (some os) = some (o ∷ os)

-- R291, after the finds of one report took n steps: behind the run of an entry, or where the find paused. Its end: a find that
-- ended, or a run up to last
abbrev pub go_on : (last n : ℕ) → Outcome → (ℕ → ℕ → Option (List Outcome)) → Option (List Outcome)
go_on z n (Found e k) rest =
    pick (ltb z (after e)) (some (Found e (n + k) ∷ [])) (reporting (Found e (n + k)) (rest (after e) 0))
go_on z n (Ended k) rest = some (Ended (n + k) ∷ [])
go_on z n (Paused q k) rest = rest q (n + k)

-- R292: what the walk reports, each with the steps of all finds that led to it; none: the moments are over before its end
unfoldable pub walk : (filter last : ℕ) → List Moment → (p n : ℕ) → Option (List Outcome)
walk f z [] p n = none
walk f z (m ∷ ms) p n = go_on z n (find m.list p z f m.budget) (walk f z ms)

-- where a walk goes on; none: it has come to its end
abbrev pub next_of : (last : ℕ) → Outcome → Option ℕ
next_of z (Found e n) = pick (ltb z (after e)) none (some (after e))
next_of z (Ended n) = none
next_of z (Paused q n) = some q

-- the entries of the reports
abbrev pub entries_of : List Outcome → List Entry
entries_of [] = []
entries_of (Found e n ∷ os) = e ∷ entries_of os
entries_of (Ended n ∷ os) = entries_of os
entries_of (Paused q n ∷ os) = entries_of os

-- R293, no change in between: one model, and the budgets of the finds
abbrev pub still : List Entry → List ℕ → List Moment
still l [] = []
still l (k ∷ ks) = record { list = l; budget = k } ∷ still l ks

-- R293: finds that no budget limits, one for each report
module _ (l : List Entry) (f z : ℕ) where
  pub data Unlimited : (p : ℕ) → List Outcome → Type 0 where
    to_end : {p n : ℕ} → p ≤ z → find l p z f (enough l) ≡ Ended n → Unlimited p (Ended n ∷ [])
    to_last : {p n : ℕ} {e : Entry} → p ≤ z → find l p z f (enough l) ≡ Found e n → z < after e →
        Unlimited p (Found e n ∷ [])
    and_on : {p n : ℕ} {e : Entry} {os : List Outcome} → p ≤ z → find l p z f (enough l) ≡ Found e n → after e ≤ z →
        Unlimited (after e) os → Unlimited p (Found e n ∷ os)

-- R298: the finds of a walk from p until it is past i
abbrev pub wherever : Option ℕ → (ℕ → List Moment) → List Moment
wherever none g = []
wherever (some q) g = g q

unfoldable pub until : (filter last i : ℕ) → List Moment → (p : ℕ) → List Moment
until f z i [] p = []
until f z i (m ∷ ms) p =
    pick (leb p i) (m ∷ wherever (next_of z (find m.list p z f m.budget)) (until f z i ms)) []

-- R295: an entry that the filter accepts covers i
abbrev pub accepts : (filter i : ℕ) → List Entry → Bool
accepts f i l = any (λ e. both (covers i e) (matches f e)) l

-- R295: some entry that is reported covers i
abbrev pub reports : (i : ℕ) → List Outcome → Bool
reports i os = any (covers i) (entries_of os)
