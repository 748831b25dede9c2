-- What a test's answer says of a fact.
use Rattle.std.specs.Prelude.{◌≡◌, Bool, true, false}

abbrev pub Decides : Bool → Type 0 → Type 0
Decides r A = (r ≡ true → A) × (r ≡ false → A → ⊥)
