-- The code's own way: the ranges that a fit has still to look at. It looks at the first of them; a cut shortens that to its front and lets its end wait, and behind a piece the
-- end that came last is the next range's. Definitions only.
use Rattle.std.specs.Prelude.{ℕ, zero, suc, ◌+◌, ◌-◌, ◌≤◌, ◌<◌, ◌≡◌, List, [], ◌∷◌, ◌++◌, map, length, get_or, set, Float}
use Rattle.geo.specs.declared.types.Point3D.{Point3D}
use Rattle.pieces.specs.declared.pieces.Rule.{Rule}
use Rattle.pieces.specs.Pieces.{Piece, Choice, whole, cut_at, choice, pieces_in}
use Rattle.pieces.specs.Written.{Noted, piece_noted, NotedPlaced}
use Rattle.ranges.specs.declared.ranges.Stand.{Stand}

-- ---- the ranges behind the point hi: n of the ends wait, of which the last comes first
abbrev pub behind : (ℕ → ℕ → List Piece) → List ℕ → ℕ → ℕ → List Piece
behind inside ends zero hi = []
behind inside ends (suc n) hi = inside hi (get_or ends n 0) ++ behind inside ends n (get_or ends n 0)

-- what is left to write: the pieces of the range that is looked at, and of those behind
unfoldable pub left_in : Rule → (ℕ → Point3D) → List ℕ → Stand → List Noted
left_in r at ends w = map (piece_noted r at) (pieces_in r at w.lo w.hi ++ behind (pieces_in r at) ends w.waiting w.hi)

-- ---- one range: what is written of it, which ends wait then, and where the fit stands
unfoldable pub step_noted : Rule → (ℕ → Point3D) → Stand → Choice → List Noted
step_noted r at w (whole s) = piece_noted r at (record { from = w.lo; to = w.hi; shape = s }) ∷ []
step_noted r at w (cut_at k) = []

unfoldable pub step_ends : List ℕ → Stand → Choice → List ℕ
step_ends ends w (whole s) = ends
step_ends ends w (cut_at k) = set ends w.waiting w.hi

-- behind a piece: the next range, none where no end waits
unfoldable pub next_from : List ℕ → ℕ → ℕ → ℕ → Stand
next_from ends hi place zero = record { lo = hi; hi = hi; waiting = 0; place = place }
next_from ends hi place (suc n) = record { lo = hi; hi = get_or ends n 0; waiting = n; place = place }

unfoldable pub step_stand : List ℕ → Stand → Choice → Stand
step_stand ends w (whole s) = next_from ends w.hi (w.place + 1) w.waiting
step_stand ends w (cut_at k) = record { lo = w.lo; hi = k; waiting = w.waiting + 1; place = w.place }

-- ---- the ends that wait ascend, from behind hi to the end of all
abbrev pub Ascend : List ℕ → ℕ → ℕ → ℕ → Type 0
Ascend ends zero hi end = hi ≡ end
Ascend ends (suc n) hi end = (hi < get_or ends n 0) × Ascend ends n (get_or ends n 0) end

-- a fit of the points from start to end, written from place `at` on, stands at w: each piece that is written covered a step
pub record Stands (start end at : ℕ) (ends : List ℕ) (w : Stand) : Type 0 where
  pub from : start ≤ w.lo
  pub some : w.lo < end → w.lo < w.hi
  pub ordered : w.lo ≤ w.hi
  pub ascend : Ascend ends w.waiting w.hi end
  pub placed : at ≤ w.place
  pub few : w.place ≤ at + (w.lo - start)

-- one range was looked at: w has become w', and what it gives is written
pub record Looked (r : Rule) (at : ℕ → Point3D) (w w' : Stand) (ends ends' ks ks' : List ℕ) (ns ns' : List Float) (ss ss' : List ℕ) : Type 0 where
  pub stands : w' ≡ step_stand ends w (choice r at w.lo w.hi)
  pub put : ends' ≡ step_ends ends w (choice r at w.lo w.hi)
  pub wrote : NotedPlaced (step_noted r at w (choice r at w.lo w.hi)) w.place (length (step_noted r at w (choice r at w.lo w.hi))) ks ks' ns ns' ss ss'
