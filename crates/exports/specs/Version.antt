-- The version of what is exported: PZ_VERSION of firmware/pizhgarol.h. Definitions only.
use Rattle.std.specs.Prelude.{ℕ, ◌+◌, ◌*◌}

-- three numbers below 256 in one: a later version has a greater number
abbrev pub version_of : ℕ → ℕ → ℕ → ℕ
version_of major minor patch = (major * 256 + minor) * 256 + patch

-- 1.0.0
abbrev pub version : ℕ
version = version_of 1 0 0
