-- A coordinate's bound; and where each lent number may be a coordinate, each lent command is in the domain, whatever its kind. Assumes nothing.
use Prim.Native.Nat.{ℕ, zero, suc, ◌+◌, ◌*◌, ◌^◌, ◌≤◌, ◌<◌}
use mathlib.Core.Path.{◌≡◌, refl, sym}
use mathlib.Core.Bool.{true}
use mathlib.Core.List.{List}
use native.Mathlib.Omega.{arith}
use lib.ListN.{length, get_or}
use lib.Ieee.{Float, nan, inf, fin, le, lt, eq, of_bits}
use Rattle.floats.specs.Float.{abs_of}
use Rattle.floats.specs.Limits.{million}
use Rattle.floats.proofs.Order.{clash}
use Rattle.floats.proofs.Bounds.{Below, within_of_abs}
use Rattle.geo.specs.declared.types.Point3D.{Point3D}
use Rattle.geo.specs.Lent.{point_at, command_of, command_at}
use Rattle.geo.specs.Domain.{coordinate, is_finite, numbers_in, point3_in, finite3, command_in, commands_in}
use Rattle.geo.proofs.Every.{every_at, every_all}

finite : (x : Float) → coordinate x ≡ true → is_finite x ≡ true
unfolding coordinate is_finite abs_of le lt eq of_bits
finite nan h = clash h
finite (inf s) h = clash h
finite (fin s m e) h = refl

-- a coordinate is at most 2 ^ 20 from zero
pub coordinate-below : {x : Float} → coordinate x ≡ true → Below 20 x
unfolding coordinate of_bits
coordinate-below {x} h = record { within = within_of_abs (2 ^ 20) x million h (omega arith) }

-- three coordinates
abbrev Three : Point3D → Type 0
Three p = (coordinate p.x ≡ true) × (coordinate p.y ≡ true) × (coordinate p.z ≡ true)

three_in : (p : Point3D) → Three p → point3_in p ≡ true
unfolding point3_in
three_in p h = rw (h.0, h.1, h.2)

three-finite : (p : Point3D) → Three p → finite3 p ≡ true
unfolding finite3
three-finite p h = rw (finite _ h.0, finite _ h.1, finite _ h.2)

command_in_lem : (k : ℕ) (p q r : Point3D) → Three p → Three q → Three r → command_in (command_of k p q r) ≡ true
unfolding command_in command_of
command_in_lem zero p q r a b c = three_in p a
command_in_lem (suc zero) p q r a b c = three_in p a
command_in_lem (suc (suc zero)) p q r a b c = rw (three_in p a, three-finite q b, three-finite r c)
command_in_lem (suc (suc (suc k))) p q r a b c = rw (three_in p a, three_in q b, three_in r c)

pub all_in : (ks : List ℕ) (ns : List Float) → 9 * length ks ≤ length ns → numbers_in coordinate ns ≡ true → true ≡ commands_in ks ns
unfolding numbers_in commands_in command_at point_at
all_in ks ns l h =
    let at : (j : ℕ) → j < length ns → coordinate (get_or ns j nan) ≡ true = λ j b. every_at (λ i. coordinate (get_or ns i nan)) (length ns) 0 h j (omega arith) (omega arith) in
    let three : (i : ℕ) → 3 * i + 2 < length ns → Three (point_at ns i) = λ i b. (at (3 * i) (omega arith), at (3 * i + 1) (omega arith), at (3 * i + 2) b) in
    sym (every_all (λ i. command_in (command_at ks ns i)) (length ks) 0 (λ i a b. command_in_lem (get_or ks i 0) _ _ _ (three (3 * i) (omega arith)) (three (3 * i + 1) (omega arith)) (three (3 * i + 2) (omega arith))))
