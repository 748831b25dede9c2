-- A float that differs from itself is no number, and no other does. Assumes nothing.
use mathlib.Core.Path.{◌≡◌, refl, sym, ◌∙◌}
use lib.Ieee.{Float, nan, inf, fin, eq, ne, is_nan, up, down}
use mathlib.Core.Bool.{Bool, true, false, beq}
use lib.Dec.{eqb, eqb_refl}
use Prim.Native.Nat.{◌*◌}
use Rattle.blocks.proofs.BoolLaws.{T_true}

beq_refl : (s : Bool) → beq s s ≡ true
beq_refl true = refl
beq_refl false = refl

differs : (x : Float) → ne x x ≡ is_nan x
unfolding ne eq is_nan
differs nan = refl
differs (inf s) = rw (beq_refl s)
differs (fin s m e) = rw (T_true (eqb (m * up e * down e) (m * up e * down e)) (eqb_refl (m * up e * down e)), beq_refl s)

pub is_nan_lem : (x : Float) → ne x x ≡ true → is_nan x ≡ true
is_nan_lem x e = sym (differs x) ∙ e

pub is_number : (x : Float) → ne x x ≡ false → is_nan x ≡ false
is_number x e = sym (differs x) ∙ e
