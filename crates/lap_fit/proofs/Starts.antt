-- Where laps start: what the start matters to, and that one lap back is enough. Assumes nothing.
use Prim.Native.Nat.{ℕ, zero, suc, ◌<◌}
use mathlib.Core.Path.{◌≡◌, refl, sym, ap, ◌∙◌}
use mathlib.Core.Bool.{false}
use mathlib.Core.List.{List, [], ◌∷◌, map}
use native.Mathlib.Omega.{arith}
use borrow.Author.Tests.{eqb-true, not-false}
use lib.ListN.{length, get_or, length-map}
use lib.Ieee.{Float}
use Rattle.geo.specs.declared.types.Point3D.{Point3D}
use Rattle.geo.specs.declared.types.Command.TheVariants.{Move}
use Rattle.geo.specs.Lent.{command_of}
use Rattle.file.specs.Command.{decoded, enc, point_from}
use Rattle.pieces.specs.declared.pieces.Rule.{Rule}
use Rattle.course.proofs.Start as start
use Rattle.laps.specs.File.{Lap, lacks}
use Rattle.laps.proofs.ReadBack.{Somes}
use Rattle.lap_fit.specs.Fit.{lap_end, start_from, fit_lap, fit_laps, most_lap}

-- where a lap ends does not depend on where it starts
pub end-some : (p q : Point3D) (l : Lap) → 0 < length l → lap_end p l ≡ lap_end q l
unfolding lap_end
end-some p q l h = let d = length-map l decoded in start.end-some p q (map decoded l) (omega arith)

-- so a lap behind another starts where that one ends, from wherever it started
pub one-back : (p q : Point3D) (ls : List Lap) (i : ℕ) → Somes ls → suc i < length ls → start_from p ls (suc i) ≡ lap_end q (get_or ls i [])
unfolding start_from
one-back p q [] i e h = absurd (omega arith)
one-back p q (l ∷ []) i e h = absurd (omega arith)
one-back p q (l ∷ m ∷ ms) zero e h = end-some p q l e.0
one-back p q (l ∷ m ∷ ms) (suc i) e h = one-back (lap_end p l) q (m ∷ ms) i e.1 (omega arith)

-- a lap that has its Move
has_move : (c : List ℕ) (l : Lap) → lacks (c ∷ l) ≡ false → decoded c ≡ Move (point_from c 1)
unfolding lacks decoded command_of
has_move c l e = let k = eqb-true (get_or c 0 0) 0 (not-false _ e) in rw k

-- is fitted alike from any start
pub start_not_asked : (r : Rule) (p q : Point3D) (l : Lap) → lacks l ≡ false → fit_lap r p l ≡ fit_lap r q l
unfolding fit_lap
start_not_asked r p q [] e = ap (map enc) (start.fit_none r p ∙ sym (start.fit_none r q))
start_not_asked r p q (c ∷ l) e =
    let m = has_move c l e in
    let a = point_from c 1 in
    rw m (ap (map enc) (start.fit-move r p a (map decoded l) ∙ sym (start.fit-move r q a (map decoded l))))

pub most-start_not_asked : (tol : Float) (p q : Point3D) (l : Lap) → lacks l ≡ false → most_lap tol p l ≡ most_lap tol q l
unfolding most_lap
most-start_not_asked tol p q [] e = start.most-none tol p ∙ sym (start.most-none tol q)
most-start_not_asked tol p q (c ∷ l) e =
    let m = has_move c l e in
    let a = point_from c 1 in
    rw m (start.most-move tol p a (map decoded l) ∙ sym (start.most-move tol q a (map decoded l)))

-- no commands come to nothing, and have no most
pub fit_no_lap : (r : Rule) (p : Point3D) → fit_lap r p [] ≡ []
unfolding fit_lap
fit_no_lap r p = ap (map enc) (start.fit_none r p)

pub most_no_lap : (tol : Float) (p : Point3D) → most_lap tol p [] ≡ 0
unfolding most_lap
most_no_lap tol p = start.most-none tol p

-- the lap of index i of the fits is the fit of that lap from its start
pub fit_at : (r : Rule) (p : Point3D) (ls : List Lap) (i : ℕ) → i < length ls → get_or (fit_laps r p ls) i [] ≡ fit_lap r (start_from p ls i) (get_or ls i [])
unfolding fit_laps start_from
fit_at r p [] i h = absurd (omega arith)
fit_at r p (l ∷ ls) zero h = refl
fit_at r p (l ∷ ls) (suc i) h = fit_at r (lap_end p l) ls i (omega arith)
