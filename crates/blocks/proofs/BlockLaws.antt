-- Laws of aligned blocks, over the order of the block.
use Prim.Native.Nat.{ℕ, zero, suc, ◌+◌, ◌*◌, ◌-◌, ◌/◌, ◌^◌, ◌≤◌, ◌<◌}
use mathlib.Core.Path.{◌≡◌}
use native.Mathlib.Nat.{
  pow-suc,
  pow-zero,
  add-zero,
  add-suc,
  mul-one,
  mul_assoc,
  div-div-eq-div-mul,
  one-le-pow,
  mul-div_cancel,
  add-sub_of_le,
  le-div_iff_mul-le,
  div-mul-le_self,
  lt-div-mul-add,
  le_trans,
}
use lib.Dec.{lit<}
use Rattle.blocks.specs.Blocks.{block}

pub pow-add : (a b : ℕ) → 2 ^ a * 2 ^ b ≡ 2 ^ (a + b)
pow-add a zero = rw (pow-zero, mul-one, add-zero)
pow-add a (suc b) = rw (pow-suc, ← mul_assoc, pow-add a b, add-suc, pow-suc)

pub pow_pos : (a : ℕ) → 0 < 2 ^ a
pow_pos a = one-le-pow a 2 (lit< tt)

pub block_block : {j k : ℕ} (x : ℕ) → j ≤ k → block k x ≡ block j x / 2 ^ (k - j)
block_block {j} {k} x h = rw (div-div-eq-div-mul, pow-add j (k - j), add-sub_of_le)

pub block_up : {j k : ℕ} (x y : ℕ) → j ≤ k → block j x ≡ block j y → block k x ≡ block k y
block_up {j} {k} x y h e = rw (block_block x h, block_block y h, e)

pub block_at : (j c : ℕ) → block j (c * 2 ^ j) ≡ c
block_at j c = mul-div_cancel c (pow_pos j)

pub block_mono : (j : ℕ) {x y : ℕ} → x ≤ y → block j x ≤ block j y
block_mono j {x} {y} h = (le-div_iff_mul-le (pow_pos j)).1 (le_trans (div-mul-le_self x (2 ^ j)) h)

-- the block's first index is not above the index, and the next block's is
pub block_lo : (j x : ℕ) → block j x * 2 ^ j ≤ x
block_lo j x = div-mul-le_self x (2 ^ j)

pub block_hi : (j x : ℕ) → x < block j x * 2 ^ j + 2 ^ j
block_hi j x = lt-div-mul-add (pow_pos j)
