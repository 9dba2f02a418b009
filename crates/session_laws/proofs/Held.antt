-- Every number that a fit writes is one that an f64 holds, so that it is read back as it was written. Assumes nothing.
use Prim.Native.Nat.{ℕ, zero, suc, ◌+◌, ◌-◌, ◌*◌, ◌/◌}
use mathlib.Core.Path.{sym, subst}
use mathlib.Core.Bool.{Bool, true, false}
use mathlib.Core.List.{List, [], ◌∷◌, ◌++◌, map}
use lib.ListN.{length, get_or}
use lib.Dec.{T}
use lib.Ieee.{Float, nan, binary64, fits, to_unsigned}
use lib.Ieee.Bits.{of_bits-fits}
use lib.Ieee.Fits.{add-fits, sub-fits, neg-fits}
use Rattle.floats.specs.Ops.{◌⊗◌, one}
use Rattle.floats.specs.Limits.{quarter}
use Rattle.geo.specs.declared.types.Point3D.{Point3D}
use Rattle.geo.specs.declared.types.Command.{Command}
use Rattle.geo.specs.declared.types.Command.TheVariants.{Move, Line, Arc, Bezier}
use Rattle.geo.specs.Walk.{list_from}
use Rattle.geo.specs.Lent.{point_at, triple, flat, origin, end_of, command_of}
use Rattle.geo.proofs.Flat.{flat-one}
use Rattle.bezier.specs.Curve.{mixed, point_on3}
use Rattle.bezier.specs.Linearize.{step_end, step_at, steps, first_third, last_third, steps_needed, param_steps}
use Rattle.file.specs.Bytes.{number_at, word_at}
use Rattle.file.specs.Command.{decoded, point_from, HeldPoint}
use Rattle.file.proofs.RoundTrip.{HeldCommand}
use Rattle.simplify.specs.Thin.{thinned, thinned_points}
use Rattle.pieces.specs.declared.pieces.Rule.{Rule}
use Rattle.pieces.specs.Pieces.{distance, Shape, line, arc, Piece, pieces_in}
use Rattle.pieces.specs.Commands.{normal_of, shaped, piece_command, fit_in, kept_of, chain_fit}
use Rattle.chain.specs.Parts.{Part, chain, kept, closed, carried, parts_from, part_fit, fit_of}
use Rattle.chain.specs.Joins.{joined}
use Rattle.course.specs.Course.{parts_on, fit_on, end_on}
use Rattle.laps.specs.File.{Lap}
use Rattle.lap_fit.specs.Fit.{lap_end, start_from}

-- ---- lists of numbers
abbrev HeldAll : List Float → Type 0
HeldAll [] = Unit
HeldAll (x ∷ xs) = T (fits binary64 x) × HeldAll xs

held_append : (xs ys : List Float) → HeldAll xs → HeldAll ys → HeldAll (xs ++ ys)
held_append [] ys h g = g
held_append (x ∷ xs) ys h g = (h.0, held_append xs ys h.1 g)

held_at : (xs : List Float) → HeldAll xs → (i : ℕ) → T (fits binary64 (get_or xs i nan))
unfolding fits
held_at [] h i = tt
held_at (x ∷ xs) h zero = h.0
held_at (x ∷ xs) h (suc i) = held_at xs h.1 i

point-held : (s : List Float) → HeldAll s → (i : ℕ) → HeldPoint (point_at s i)
unfolding point_at
point-held s h i = (held_at s h (3 * i), held_at s h (3 * i + 1), held_at s h (3 * i + 2))

triple-held : (p : Point3D) → HeldPoint p → HeldAll (triple p)
triple-held p h = (h.0, (h.1, (h.2, tt)))

pub held-origin : HeldPoint origin
held-origin = let h = of_bits-fits binary64 0 in (h, h, h)

-- ---- lists of commands
abbrev pub HeldCommands : List Command → Type 0
HeldCommands [] = Unit
HeldCommands (c ∷ cs) = HeldCommand c × HeldCommands cs

commands_append : (cs ds : List Command) → HeldCommands cs → HeldCommands ds → HeldCommands (cs ++ ds)
commands_append [] ds h g = g
commands_append (c ∷ cs) ds h g = (h.0, commands_append cs ds h.1 g)

end-held : (c : Command) → HeldCommand c → HeldPoint (end_of c)
unfolding end_of
end-held (Move p) h = h
end-held (Line p) h = h
end-held (Arc p o n) h = h.0
end-held (Bezier p c d) h = h.0

-- ---- a chain: what is kept of it, and its pieces
mapped_held : (at : ℕ → Point3D) → ((i : ℕ) → HeldPoint (at i)) → (is : List ℕ) → HeldAll (flat triple (map at is))
unfolding flat
mapped_held at h [] = tt
mapped_held at h (i ∷ is) = held_append (triple (at i)) (flat triple (map at is)) (triple-held (at i) (h i)) (mapped_held at h is)

normal-held : (d : Bool) → HeldPoint (normal_of d)
unfolding normal_of
normal-held true = let h = of_bits-fits binary64 0 in (h, h, neg-fits binary64 one (of_bits-fits binary64 0x3ff0_0000_0000_0000))
normal-held false = let h = of_bits-fits binary64 0 in (h, h, of_bits-fits binary64 0x3ff0_0000_0000_0000)

shaped-held : (a b : Point3D) (s : Shape) → HeldPoint b → HeldCommand (shaped a b s)
unfolding shaped
shaped-held a b line h = h
shaped-held a b (arc m d) h = (h, (sub-fits binary64 m.x a.x, sub-fits binary64 m.y a.y, of_bits-fits binary64 0), normal-held d)

pieces-held : (at : ℕ → Point3D) → ((i : ℕ) → HeldPoint (at i)) → (ps : List Piece) → HeldCommands (map (piece_command at) ps)
unfolding piece_command
pieces-held at h [] = tt
pieces-held at h (p ∷ ps) = (shaped-held (at p.from) (at p.to) p.shape (h p.to), pieces-held at h ps)

module _ (r : Rule) where
  kept-held : (s : List Float) → HeldAll s → HeldAll (flat triple (kept_of r s))
  unfolding thinned_points
  kept-held s h = mapped_held (point_at s) (point-held s h) (thinned (distance r) (r.tolerance ⊗ r.tolerance) (point_at s) (length s / 3))

  chain_held : (s : List Float) → HeldAll s → HeldCommands (chain_fit r s)
  unfolding chain_fit fit_in
  chain_held s h = pieces-held (point_at (flat triple (kept_of r s))) (point-held (flat triple (kept_of r s)) (kept-held s h)) (pieces_in r (point_at (flat triple (kept_of r s))) 0 (length (kept_of r s) - 1))

-- ---- the steps of a Bezier: each coordinate is a sum
step_held : (p0 c1 c2 p1 : Point3D) (n i : ℕ) → HeldPoint (step_at p0 c1 c2 p1 n i).to
unfolding step_at point_on3 mixed
step_held p0 c1 c2 p1 n i = (add-fits binary64 _ _, add-fits binary64 _ _, add-fits binary64 _ _)

ends_held : (p0 c1 c2 p1 : Point3D) (n m i : ℕ) → HeldAll (flat step_end (list_from (step_at p0 c1 c2 p1 n) m i))
unfolding flat list_from
ends_held p0 c1 c2 p1 n zero i = tt
ends_held p0 c1 c2 p1 n (suc m) i = held_append (triple (step_at p0 c1 c2 p1 n i).to) (flat step_end (list_from (step_at p0 c1 c2 p1 n) m (i + 1))) (triple-held (step_at p0 c1 c2 p1 n i).to (step_held p0 c1 c2 p1 n i)) (ends_held p0 c1 c2 p1 n m (i + 1))

bezier_held : (end c1 c2 start : Point3D) (resolution : Float) → HeldAll (flat step_end (param_steps end c1 c2 start resolution))
unfolding param_steps steps
bezier_held end c1 c2 start resolution =
    let n = to_unsigned 64 (steps_needed end c1 c2 start resolution) in ends_held start (first_third start end c1) (last_third start end c2) end n n 0

-- ---- a course
module _ (r : Rule) where
  kept_in : (s : List Float) (c : Command) (ps : List Part) → HeldAll s → HeldCommand c → HeldCommands (fit_of (chain_fit r) ps) → HeldCommands (fit_of (chain_fit r) (chain s ∷ kept c ∷ ps))
  unfolding fit_of flat part_fit
  kept_in s c ps h k g = commands_append (chain_fit r s) (c ∷ flat (part_fit (chain_fit r)) ps) (chain_held r s h) (k, g)

  last-chain : (s : List Float) → HeldAll s → HeldCommands (fit_of (chain_fit r) (chain s ∷ []))
  unfolding fit_of part_fit
  last-chain s h = subst HeldCommands (sym (flat-one (part_fit (chain_fit r)) (chain s))) (chain_held r s h)

  parts_held : (last : Point3D) (s : List Float) (cs : List Command) → HeldAll s → HeldCommands cs → HeldCommands (fit_of (chain_fit r) (parts_from (joined r.tolerance) last s cs))
  unfolding parts_from closed carried joined end_of
  parts_held last s [] h g = last-chain s h
  parts_held last s (Move p ∷ cs) h g = kept_in s (Move p) (parts_from (joined r.tolerance) p (triple p) cs) h g.0 (parts_held p (triple p) cs (triple-held p g.0) g.1)
  parts_held last s (Line p ∷ cs) h g = parts_held p (s ++ triple p) cs (held_append s (triple p) h (triple-held p g.0)) g.1
  parts_held last s (Arc p o n ∷ cs) h g = kept_in s (Arc p o n) (parts_from (joined r.tolerance) p (triple p) cs) h g.0 (parts_held p (triple p) cs (triple-held p g.0.0) g.1)
  parts_held last s (Bezier p c d ∷ cs) h g =
      parts_held p (s ++ flat step_end (param_steps p c d last (r.tolerance ⊗ quarter))) cs (held_append s (flat step_end (param_steps p c d last (r.tolerance ⊗ quarter))) h (bezier_held p c d last (r.tolerance ⊗ quarter))) g.1

  -- Every number of a fit of held commands from a held start is held.
  pub fit-held : (p : Point3D) (cs : List Command) → HeldPoint p → HeldCommands cs → HeldCommands (fit_on r p cs)
  unfolding fit_on parts_on
  fit-held p cs h g = parts_held p (triple p) cs (triple-held p h) g

-- ---- what stands in a file is held: each number is that of a pattern
read_held : (c : List ℕ) (at : ℕ) → HeldPoint (point_from c at)
unfolding point_from number_at
read_held c at = (of_bits-fits binary64 (word_at c at), of_bits-fits binary64 (word_at c (at + 8)), of_bits-fits binary64 (word_at c (at + 16)))

of_held : (k : ℕ) (p q r : Point3D) → HeldPoint p → HeldPoint q → HeldPoint r → HeldCommand (command_of k p q r)
unfolding command_of
of_held zero p q r a b c = a
of_held (suc zero) p q r a b c = a
of_held (suc (suc zero)) p q r a b c = (a, b, c)
of_held (suc (suc (suc k))) p q r a b c = (a, b, c)

decoded-held : (c : List ℕ) → HeldCommand (decoded c)
unfolding decoded
decoded-held c = of_held (get_or c 0 0) (point_from c 1) (point_from c 25) (point_from c 49) (read_held c 1) (read_held c 25) (read_held c 49)

pub lap-held : (l : Lap) → HeldCommands (map decoded l)
lap-held [] = tt
lap-held (c ∷ l) = (decoded-held c, lap-held l)

ends-on-held : (p : Point3D) (cs : List Command) → HeldPoint p → HeldCommands cs → HeldPoint (end_on p cs)
unfolding end_on
ends-on-held p [] h g = h
ends-on-held p (c ∷ cs) h g = ends-on-held (end_of c) cs (end-held c g.0) g.1

pub end_of_lap-held : (p : Point3D) (l : Lap) → HeldPoint p → HeldPoint (lap_end p l)
unfolding lap_end
end_of_lap-held p l h = ends-on-held p (map decoded l) h (lap-held l)

pub start-held : (p : Point3D) (ls : List Lap) (i : ℕ) → HeldPoint p → HeldPoint (start_from p ls i)
unfolding start_from
start-held p [] i h = h
start-held p (l ∷ ls) zero h = h
start-held p (l ∷ ls) (suc i) h = start-held (lap_end p l) ls i (end_of_lap-held p l h)
