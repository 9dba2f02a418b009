-- The square root of IEEE 754: the binary64 nearest to the exact root, a tie to the even one, over the values of `logic/Lib/Ieee.antt`.
-- There are no real numbers here, so it is said by squares of whole numbers. Definitions only.
use Rattle.std.specs.Prelude.{◌≡◌, ℕ, zero, suc, ◌+◌, ◌-◌, ◌*◌, ◌/◌, ◌%◌, ◌^◌, ◌<◌, ◌≤◌, Bool, true, false, cond, T, ◌≢◌, nat_le, to_bits, Float}
use Prim.Native.Nat.{compare}
use Rattle.std.specs.Float.{nan, inf, fin, binary64}
use Rattle.std.specs.Float.Ieee.{low, prec, up, down, size, nearest, units, fits}

-- ---- the whole part of a root: the largest s with s * s ≤ n (`proofs/Floor.antt` proves that)

-- r, or r + 1 where the square of that is still at most n
unfoldable pub better : ℕ → ℕ → ℕ
better r n = cond (nat_le ((r + 1) * (r + 1)) n) (r + 1) r

-- for an n below 4 ^ k, digit by digit
unfoldable pub root_in : ℕ → ℕ → ℕ
unfolding better
root_in zero n = 0
root_in (suc k) n = better (2 * root_in k (n / 4)) n

unfoldable pub whole_root : ℕ → ℕ
unfolding root_in size
whole_root n = root_in (size n) n

-- ---- the root of a number x = m * 2 ^ e, which is u times the square of the format's smallest value, 2 ^ -1074. So the root of x is the root of u, in smallest values.
-- Of the root of u the format keeps 53 digits, and drops k. q is what is kept, cut off: the whole part of the root of u / 4 ^ k.
-- The result is q or q + 1, by how the root of u compares with (q + 1 / 2) * 2 ^ k, both squared and times four.
unfoldable pub root_from : ℕ → Float
unfolding whole_root size units
root_from u =
    let k = (size u + 1) / 2 - prec binary64 in
    let q = whole_root (u / (2 ^ k * 2 ^ k)) in
    units binary64 false (nearest q (compare (4 * u) ((2 * q + 1) * (2 * q + 1) * (2 ^ k * 2 ^ k)))) k

-- x in units of the format's smallest value, for a finite x: a whole number, where the format holds x
unfoldable pub in_units : Float → ℕ
in_units nan = 0
in_units (inf s) = 0
in_units (fin s m e) = m * up e * 2 ^ low binary64 / down e

-- The root of a negative number is `nan`, and that of -0 is -0.
unfoldable pub root_of : Float → Float
unfolding root_from in_units
root_of nan = nan
root_of (inf false) = inf false
root_of (inf true) = nan
root_of (fin true zero e) = fin true zero e
root_of (fin true (suc m) e) = nan
root_of (fin false m e) = root_from (in_units (fin false m e) * 2 ^ low binary64)

-- x is finite, and has no minus sign
unfoldable pub plain : Float → Bool
plain nan = false
plain (inf s) = false
plain (fin true m e) = false
plain (fin false m e) = true

-- ---- IEEE 754's own words for a root, by squares of whole numbers. In units of 2 ^ -1074 the exact root of x is the root of `squared x`.
unfoldable pub squared : Float → ℕ
unfolding in_units
squared x = in_units x * 2 ^ low binary64

-- the root of n lies at least as near to r as to y: on r's side of the middle between the two, or on the middle
pub record NoNearer (n r y : ℕ) : Type 0 where
  pub above : r < y → 4 * n ≤ (r + y) * (r + y)
  pub below : y < r → (r + y) * (r + y) ≤ 4 * n

-- r is the root of x, rounded to nearest, ties to even: no binary64 lies nearer to the exact root (one below zero lies farther off than +0 does),
-- and where another lies as near, r is the one whose last bit is 0
pub record Rounded (x r : Float) : Type 0 where
  pub finite : T (plain r)
  pub nearest : (y : Float) → T (fits binary64 y) → T (plain y) → NoNearer (squared x) (in_units r) (in_units y)
  pub even : (y : Float) → T (fits binary64 y) → T (plain y) → (in_units y ≢ in_units r) → (in_units r + in_units y) * (in_units r + in_units y) ≡ 4 * squared x
      → to_bits binary64 r % 2 ≡ 0
