-- A point at or above the tolerance from a Line: the Line does not pass. Assumes nothing.
use Prim.Native.Nat.{ℕ, ◌<◌}
use mathlib.Core.Path.{◌≡◌, refl, sym, ap, ◌∙◌, subst}
use mathlib.Core.Logic.{⊎_elim}
use mathlib.Core.Bool.{true, false}
use mathlib.Core.List.{List}
use lib.Ieee.{Float, nan, inf, fin, is_nan}
use Rattle.floats.specs.Ops.{◌≼◌}
use Rattle.floats.specs.Root.{root_of}
use Rattle.floats.proofs.Order.{either, clash, le_below, le_right}
use Rattle.geo.specs.declared.types.Point3D.{Point3D}
use Rattle.geo.specs.Lent.{point_at}
use Rattle.deviations.proofs.Between.{point-below}
use Rattle.farthest.specs.declared.farthest.Chord.{Chord}
use Rattle.farthest.specs.Measure.{chord_of, to_line, line_sq}
use Rattle.farthest.specs.Search.{spread_of, square_of_spread}
use Rattle.farthest.proofs.Search.{scaled-is}
use Rattle.fewest.specs.Straights.{passing}

-- what has a root that is a number is one
rooted-number : (x : Float) → is_nan (root_of x) ≡ false → is_nan x ≡ false
unfolding root_of is_nan
rooted-number nan h = clash (sym h)
rooted-number (inf s) h = refl
rooted-number (fin s m e) h = refl

-- the squared distance to the Line of a and b by its chord and a spread
by_chord : (a b p : Point3D) (c : Chord) → c ≡ chord_of a b → square_of_spread c (spread_of c p) ≡ line_sq a b p
unfolding line_sq
by_chord a b p c e = sym (scaled-is c p) ∙ ap (λ (k : Chord). to_line k p) e

-- the chord of a Line, of its two points
pub chord_is : (c : Chord) (a b a' b' : Point3D) → c ≡ chord_of a b → a ≡ a' → b ≡ b' → c ≡ chord_of a' b'
chord_is c a b a' b' e p q = e ∙ ap (λ (x : Point3D). chord_of x b) p ∙ ap (chord_of a') q

module _ (s : List Float) (t : Float) (u v i : ℕ) (h : u < i) (k : i < v) where
  line_stray : (t ≼ root_of (line_sq (point_at s u) (point_at s v) (point_at s i))) ≡ true → passing s t u v ≡ false
  unfolding passing
  line_stray l =
      let d = line_sq (point_at s u) (point_at s v) (point_at s i) in
      let n = rooted-number d (le_right t (root_of d) l) in
      ⊎_elim (λ p. clash (sym (le_below t (root_of d) l) ∙ point-below (point_at s) u v t p i h k n)) (λ p. p) (either (passing s t u v))

  -- the point i, of spread w, strays
  pub stray : (c : Chord) (p : Point3D) (w d r : Float) → c ≡ chord_of (point_at s u) (point_at s v) → p ≡ point_at s i → w ≡ spread_of c p → d ≡ square_of_spread c w → r ≡ root_of d
      → (t ≼ r) ≡ true → passing s t u v ≡ false
  stray c p w d r ec ep ew ed er l =
      let q : r ≡ root_of (line_sq (point_at s u) (point_at s v) (point_at s i)) =
      er ∙ ap root_of (ed ∙ ap (square_of_spread c) (ew ∙ ap (spread_of c) ep) ∙ by_chord (point_at s u) (point_at s v) (point_at s i) c ec) in
      line_stray (subst (λ (x : Float). (t ≼ x) ≡ true) q l)
