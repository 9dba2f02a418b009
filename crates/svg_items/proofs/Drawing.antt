-- Commands as they are drawn, by the points that are read one behind the other. Assumes nothing.
use Prim.Native.Nat.{ℕ}
use mathlib.Core.Path.{◌≡◌, refl, sym, ap}
use mathlib.Core.List.{List}
use lib.IntN.{ℤ}
use Rattle.geo.specs.declared.types.Point3D.{Point3D}
use Rattle.geo.specs.declared.types.Command.{Command}
use Rattle.geo.specs.declared.types.Command.TheVariants.{Move, Line, Bezier}
use Rattle.svg_text.specs.Path.{Drawn, move, line, curve, Reading, broken, read, and_then, spaced, pair_of}
use Rattle.svg_text.specs.Drawing.{place, drawn}
use Rattle.svg_text.proofs.Spelled.{no_reading, value_of, rest_of}
use Rattle.svg_items.specs.Readings.{mapped, bent}

-- what is made of two numbers, by what is made of their point
module _ (make : ℤ → ℤ → Drawn) (g : Point3D → Command) (same : (x y : ℤ) → drawn (make x y) ≡ g (place x y)) where
  pub pair_drawn : (t : List ℕ) → mapped drawn (pair_of make t) ≡ and_then (pair_of place t) (λ p u. read (g p) u)
  unfolding pair_of and_then
  pair_drawn t = first (spaced t)
    where
      second : (x : ℤ) (r : Reading ℤ) → mapped drawn (and_then r (λ y w. read (make x y) w)) ≡ and_then (and_then r (λ y w. read (place x y) w)) (λ p u. read (g p) u)
      second x broken = refl
      second x (read y w) = rw (same x y)

      first : (r : Reading ℤ) → mapped drawn (and_then r (λ x u. and_then (spaced u) (λ y w. read (make x y) w)))
          ≡ and_then (and_then r (λ x u. and_then (spaced u) (λ y w. read (place x y) w))) (λ p u. read (g p) u)
      first broken = refl
      first (read x u) = second x (spaced u)

-- the same where more is read behind them
module _ {A B : Type 0} (make : ℤ → ℤ → A) (next : A → List ℕ → Reading B) (m : Reading B → Reading Command) (g : Point3D → List ℕ → Reading Command)
    (none : m broken ≡ broken) (same : (x y : ℤ) (w : List ℕ) → m (next (make x y) w) ≡ g (place x y) w) where
  pub pair_followed : (t : List ℕ) → m (and_then (pair_of make t) next) ≡ and_then (pair_of place t) g
  unfolding pair_of and_then
  pair_followed t = first (spaced t)
    where
      second : (x : ℤ) (r : Reading ℤ) → m (and_then (and_then r (λ y w. read (make x y) w)) next) ≡ and_then (and_then r (λ y w. read (place x y) w)) g
      second x broken = none
      second x (read y w) = same x y w

      first : (r : Reading ℤ) → m (and_then (and_then r (λ x u. and_then (spaced u) (λ y w. read (make x y) w))) next)
          ≡ and_then (and_then r (λ x u. and_then (spaced u) (λ y w. read (place x y) w))) g
      first broken = none
      first (read x u) = second x (spaced u)

-- ---- a move, a line, a curve
pub move_drawn : (t : List ℕ) → mapped drawn (pair_of move t) ≡ and_then (pair_of place t) (λ p u. read (Move p) u)
unfolding drawn
move_drawn t = pair_drawn (λ x y. move x y) (λ p. Move p) (λ x y. refl) t

pub line_drawn : (t : List ℕ) → mapped drawn (pair_of line t) ≡ and_then (pair_of place t) (λ p u. read (Line p) u)
unfolding drawn
line_drawn t = pair_drawn (λ x y. line x y) (λ p. Line p) (λ x y. refl) t

-- its end, and then what stands in front of it
abbrev ending : Point3D → Point3D → List ℕ → Reading Command
ending p q w = and_then (pair_of place w) (λ r z. read (Bezier r p q) z)

abbrev full : ℤ → ℤ → ℤ → ℤ → ℤ → ℤ → Drawn
full = λ a b c d x y. curve a b c d x y

pub curve_drawn : (t : List ℕ) → mapped drawn (bent t) ≡ and_then (pair_of place t) (λ p u. and_then (pair_of place u) (λ q w. and_then (pair_of place w) (λ r z. read (Bezier r p q) z)))
unfolding drawn
curve_drawn t =
    pair_followed full pair_of (λ r. mapped drawn (and_then r pair_of)) (λ p u. and_then (pair_of place u) (ending p)) none first t
  where
    none : mapped drawn (and_then {A = ℤ → ℤ → Drawn} broken pair_of) ≡ broken
    none = unfold and_then in refl

    second : (a b c d : ℤ) (w : List ℕ) → mapped drawn (pair_of (full a b c d) w) ≡ ending (place a b) (place c d) w
    second a b c d w = pair_drawn (full a b c d) (λ r. Bezier r (place a b) (place c d)) (λ x y. refl) w

    first : (a b : ℤ) (u : List ℕ) → mapped drawn (and_then (pair_of (full a b) u) pair_of) ≡ and_then (pair_of place u) (ending (place a b))
    first a b u = pair_followed (full a b) pair_of (λ r. mapped drawn r) (ending (place a b)) refl (second a b) u

-- ---- what a command that was read tells of the text
pub record Stroked (r : Reading Drawn) (c : Command) (u : List ℕ) : Type 0 where
  pub named : Drawn
  pub reads : r ≡ read named u
  pub is : c ≡ drawn named

pub stroked : (r : Reading Drawn) (c : Command) (u : List ℕ) → read c u ≡ mapped drawn r → Stroked r c u
stroked broken c u e = no_reading c u (sym e)
stroked (read d t) c u e = record { named = d; reads = ap (read d) (sym (rest_of c (drawn d) u t e)); is = value_of c (drawn d) u t e }

pub unread : (r : Reading Drawn) → broken ≡ mapped drawn r → r ≡ broken
unread broken e = refl
unread (read d t) e = no_reading (drawn d) t e
