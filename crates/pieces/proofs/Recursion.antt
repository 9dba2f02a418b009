-- The recursion of a fit, with no count of cuts: a cut lies strictly inside its range, so that hi - lo cuts are enough. Assumes nothing.
use Rattle.std.specs.Prelude.{Option, None, Some}
use Prim.Native.Nat.{ℕ, zero, suc, ◌-◌, ◌≤◌, ◌<◌}
use mathlib.Core.Path.{◌≡◌, refl, sym, ap, ◌∙◌, subst}
use mathlib.Core.Logic.{⊎_elim}
use mathlib.Core.Bool.{true, false}
use mathlib.Core.List.{List}
use native.Mathlib.Omega.{arith}
use lib.ListN.{length, length-append}
use lib.Ieee.{Float, lt, of_bits}
use Rattle.floats.specs.Ops.{◌≺◌, +0}
use Rattle.floats.specs.Root.{root_of}
use Rattle.floats.proofs.Order.{either, clash}
use Rattle.geo.specs.declared.types.Point3D.{Point3D}
use Rattle.circle.specs.declared.circle.Deviation.{Deviation}
use Rattle.trial.specs.declared.trial.Trial.{Trial}
use Rattle.trial.specs.Trial.{try_arcs}
use Rattle.deviations.specs.Line.{rooted, line_deviation}
use Rattle.pieces.specs.declared.pieces.Rule.{Rule}
use Rattle.pieces.specs.Pieces.{distance, Piece, Choice, whole, cut_at, counted, arc_or_cut, choose_by, choice, follow, pieces_by, pieces_in}
use Rattle.farthest.proofs.First.{found_in}

zero_root : root_of +0 ≡ +0
unfolding root_of of_bits
zero_root = refl

module _ (r : Rule) (pos : (+0 ≺ r.tolerance) ≡ true) (at : ℕ → Point3D) where
  -- where the Line fails, its first farthest point lies strictly inside the range
  pub farthest_inside : (lo hi : ℕ) (w : Deviation) → w ≡ line_deviation (distance r) at lo hi → lt w.dist r.tolerance ≡ false → (lo < w.index) × (w.index < hi)
  unfolding line_deviation rooted
  farthest_inside lo hi w e h =
      subst (λ (d : Deviation). (lo < d.index) × (d.index < hi)) (sym e)
      (⊎_elim
      (λ f. clash (sym (subst (λ (d : Deviation). lt d.dist r.tolerance ≡ false) (e ∙ ap rooted f.0) h) ∙ ap (λ (x : Float). lt x r.tolerance) zero_root ∙ pos))
      (λ g. (let f = g.from in omega arith, g.to)) (found_in (distance r) at lo hi))

  -- a cut lies strictly inside
  abbrev pub Inside : ℕ → ℕ → Choice → Type 0
  Inside lo hi (whole s) = Unit
  Inside lo hi (cut_at k) = (lo < k) × (k < hi)

  inside_or : (t : Option Trial) (lo k hi : ℕ) → lo < k → k < hi → Inside lo hi (arc_or_cut t k)
  unfolding arc_or_cut
  inside_or (Some t) lo k hi g h = tt
  inside_or None lo k hi g h = (g, h)

  pub inside : (lo hi : ℕ) → Inside lo hi (choice r at lo hi)
  unfolding choice choose_by
  inside lo hi =
      let w = line_deviation (distance r) at lo hi in
      ⊎_elim (λ h. rw h tt)
      (λ h. let i = farthest_inside lo hi w refl h in rw h (inside_or (counted r (try_arcs at lo hi w.index r.tolerance)) lo w.index hi i.0 i.1))
      (either (lt w.dist r.tolerance))

  -- ---- any count of cuts that is large enough
  follow-same : (f g : ℕ → ℕ → List Piece) (lo hi : ℕ) (c : Choice) → Inside lo hi c
      → ((a b : ℕ) → a < b → b - a < hi - lo → f a b ≡ g a b) → follow f lo hi c ≡ follow g lo hi c
  unfolding follow
  follow-same f g lo hi (whole s) v e = refl
  follow-same f g lo hi (cut_at k) v e = rw (e lo k v.0 (omega (arith, v.1)), e k hi v.1 (omega (arith, v.0)))

  enough : (n k lo hi : ℕ) → lo < hi → hi - lo ≤ n → hi - lo ≤ k → pieces_by r at n lo hi ≡ pieces_by r at k lo hi
  unfolding pieces_by
  enough zero k lo hi h p q = absurd (omega arith)
  enough (suc n) zero lo hi h p q = absurd (omega arith)
  enough (suc n) (suc k) lo hi h p q =
      follow-same (pieces_by r at n) (pieces_by r at k) lo hi (choice r at lo hi) (inside lo hi)
      (λ a b g l. enough n k a b g (omega arith) (omega arith))

  -- The pieces of a range are what its choice says: one, or those of the two ranges that a cut leaves.
  pub pieces-follow : (lo hi : ℕ) → lo < hi → pieces_in r at lo hi ≡ follow (pieces_in r at) lo hi (choice r at lo hi)
  unfolding pieces_by
  pieces-follow lo hi h =
      enough (hi - lo) (suc (hi - lo)) lo hi h (omega arith) (omega arith)
      ∙ follow-same (pieces_by r at (hi - lo)) (pieces_in r at) lo hi (choice r at lo hi) (inside lo hi)
      (λ a b g l. enough (hi - lo) (b - a) a b g (omega arith) (omega arith))

  -- ---- at most one piece for each step
  follow_length : (f : ℕ → ℕ → List Piece) (lo hi : ℕ) (c : Choice) → lo < hi → Inside lo hi c
      → ((a b : ℕ) → a < b → b - a < hi - lo → length (f a b) ≤ b - a) → length (follow f lo hi c) ≤ hi - lo
  unfolding follow
  follow_length f lo hi (whole s) h v e = omega arith
  follow_length f lo hi (cut_at k) h v e =
      rw length-append (omega (arith, v.0, v.1, e lo k v.0 (omega (arith, v.1)), e k hi v.1 (omega (arith, v.0))))

  length_by : (n lo hi : ℕ) → lo < hi → hi - lo ≤ n → length (pieces_by r at n lo hi) ≤ hi - lo
  unfolding pieces_by
  length_by zero lo hi h p = absurd (omega arith)
  length_by (suc n) lo hi h p =
      follow_length (pieces_by r at n) lo hi (choice r at lo hi) h (inside lo hi) (λ a b g l. length_by n a b g (omega arith))

  pub pieces_length : (lo hi : ℕ) → lo < hi → length (pieces_in r at lo hi) ≤ hi - lo
  pieces_length lo hi h = length_by (hi - lo) lo hi h (omega arith)
