-- What is written of a file is bytes, each below 256: by the parts of which it is made. Assumes nothing.
use Prim.Native.Nat.{ℕ, zero, suc, ◌+◌, ◌*◌, ◌/◌, ◌%◌, ◌<◌}
use mathlib.Core.List.{List, [], ◌∷◌, ◌++◌, map}
use native.Mathlib.Omega.{arith}
use lib.ListN.{length}
use lib.Ieee.{Float, binary64, to_bits}
use Rattle.geo.specs.declared.types.Point3D.{Point3D}
use Rattle.geo.specs.declared.types.Command.{Command}
use Rattle.geo.specs.declared.types.Command.TheVariants.{Move, Line, Arc, Bezier}
use Rattle.geo.specs.Lent.{flat, kind_of, numbers_of}
use Rattle.file.specs.Bytes.{u32_bytes, f64_bytes}
use Rattle.file.specs.Command.{decoded, enc}
use Rattle.pieces.specs.declared.pieces.Rule.{Rule}
use Rattle.course.specs.Course.{fit_on}
use Rattle.laps.specs.File.{Lap, body, bodies, table, mark, encode, Bytes}
use Rattle.lap_fit.specs.Fit.{lap_end, fit_lap, fit_laps}

none : Bytes []
none i = omega arith

cons : (x : ℕ) (l : List ℕ) → x < 256 → Bytes l → Bytes (x ∷ l)
cons x l h b zero = h
cons x l h b (suc i) = b i

both : (a b : List ℕ) → Bytes a → Bytes b → Bytes (a ++ b)
both [] b p q i = q i
both (x ∷ a) b p q zero = p 0
both (x ∷ a) b p q (suc i) = both a b (λ j. p (suc j)) q i

four : (w x y z : ℕ) (l : List ℕ) → w < 256 → x < 256 → y < 256 → z < 256 → Bytes l → Bytes (w ∷ x ∷ y ∷ z ∷ l)
four w x y z l a b c d e = cons w (x ∷ y ∷ z ∷ l) a (cons x (y ∷ z ∷ l) b (cons y (z ∷ l) c (cons z l d e)))

-- ---- numbers
whole : (n : ℕ) → Bytes (u32_bytes n)
unfolding u32_bytes
whole n = four (n % 256) (n / 256 % 256) (n / 65536 % 256) (n / 16777216 % 256) [] (omega arith) (omega arith) (omega arith) (omega arith) none

float : (x : Float) → Bytes (f64_bytes x)
unfolding f64_bytes
float x = both (u32_bytes (to_bits binary64 x)) _ (whole (to_bits binary64 x)) (whole (to_bits binary64 x / 4294967296))

floats : (xs : List Float) → Bytes (flat f64_bytes xs)
unfolding flat
floats [] = none
floats (x ∷ xs) = both (f64_bytes x) (flat f64_bytes xs) (float x) (floats xs)

-- ---- commands and laps
kind : (c : Command) → kind_of c < 256
unfolding kind_of
kind (Move p) = omega arith
kind (Line p) = omega arith
kind (Arc p o n) = omega arith
kind (Bezier p c d) = omega arith

command : (c : Command) → Bytes (enc c)
unfolding enc
command c = cons (kind_of c) (flat f64_bytes (numbers_of c)) (kind c) (floats (numbers_of c))

lap : (cs : List Command) → Bytes (body (map enc cs))
unfolding body
lap [] = none
lap (c ∷ cs) = both (enc c) (body (map enc cs)) (command c) (lap cs)

laps : (r : Rule) (p : Point3D) (ls : List Lap) → Bytes (bodies (fit_laps r p ls))
unfolding bodies fit_lap fit_laps
laps r p [] = none
laps r p (l ∷ ls) = both (body (fit_lap r p l)) (bodies (fit_laps r (lap_end p l) ls)) (lap (fit_on r p (map decoded l))) (laps r (lap_end p l) ls)

entries : (at : ℕ) (ls : List Lap) → Bytes (table at ls)
unfolding table
entries at [] = none
entries at (l ∷ ls) =
    both (u32_bytes at ++ u32_bytes (length l)) (table (at + 73 * length l) ls) (both (u32_bytes at) (u32_bytes (length l)) (whole at) (whole (length l)))
    (entries (at + 73 * length l) ls)

-- The fitted laps of a file, as a file.
pub bytes-file : (r : Rule) (p : Point3D) (ls : List Lap) → Bytes (encode (fit_laps r p ls))
unfolding encode
bytes-file r p ls =
    let fs : List Lap = fit_laps r p ls in
    let head = four 0x4c 0x41 0x50 0x53 [] (omega arith) (omega arith) (omega arith) (omega arith) none in
    both (mark ++ u32_bytes (length fs) ++ table (8 + 8 * length fs) fs) (bodies fs)
    (both (mark ++ u32_bytes (length fs)) (table (8 + 8 * length fs) fs) (both mark (u32_bytes (length fs)) head (whole (length fs))) (entries (8 + 8 * length fs) fs))
    (laps r p ls)
