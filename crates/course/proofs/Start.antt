-- Commands from a start: a Move first makes the start not matter, which is the reference of document 02, §13. Assumes nothing.
use Prim.Native.Nat.{ℕ, zero, suc, ◌+◌, ◌-◌, ◌<◌}
use mathlib.Core.Path.{◌≡◌, refl, sym, ap, ◌∙◌}
use mathlib.Core.List.{List, [], ◌∷◌}
use native.Mathlib.Omega.{arith}
use lib.ListN.{length}
use lib.Ieee.{Float}
use Rattle.geo.specs.declared.types.Point3D.{Point3D}
use Rattle.geo.specs.declared.types.Command.{Command}
use Rattle.geo.specs.declared.types.Command.TheVariants.{Move}
use Rattle.geo.specs.Lent.{triple, flat, origin, end_of, command_at, commands_from}
use Rattle.geo.proofs.Flat.{flat-one}
use Rattle.pieces.specs.declared.pieces.Rule.{Rule}
use Rattle.pieces.specs.Commands.{chain_fit}
use Rattle.chain.specs.Parts.{chain, closed, carried, parts_from, part_fit, part_most, most_of, fit_of}
use Rattle.chain.specs.Joins.{joined}
use Rattle.course.specs.Course.{parts_on, fit_on, most_on, end_on, lent_course}
use Rattle.course.specs.Demand.{Reference, StartNotAsked}
use Rattle.course.proofs.Demand.{no_commands}

one-point : (r : Rule) (p : Point3D) → chain_fit r (triple p) ≡ []
one-point r p = no_commands r (triple p) (omega arith)

-- a Move is kept, and what is behind it is fitted from its end, whatever the start
pub fit-move : (r : Rule) (p q : Point3D) (cs : List Command) → fit_on r p (Move q ∷ cs) ≡ Move q ∷ fit_on r q cs
unfolding fit_on parts_on parts_from closed carried joined fit_of flat part_fit end_of
fit-move r p q cs = rw (one-point r p)

pub most-move : (tol : Float) (p q : Point3D) (cs : List Command) → most_on tol p (Move q ∷ cs) ≡ 1 + most_on tol q cs
unfolding most_on parts_on parts_from closed carried joined most_of part_most end_of
most-move tol p q cs = omega arith

-- The fit of commands from p is that of a course with a Move to p put in front, which is then taken out; its most is one less.
pub reference : Reference
reference r p cs = (fit-move r origin p cs, most-move r.tolerance origin p cs)

-- With a Move first the start does not matter.
pub start_not_asked : StartNotAsked
start_not_asked r p q m cs = (fit-move r p m cs ∙ sym (fit-move r q m cs), most-move r.tolerance p m cs ∙ sym (most-move r.tolerance q m cs))

-- no commands come to nothing, from any start
pub fit_none : (r : Rule) (p : Point3D) → fit_on r p [] ≡ []
unfolding fit_on parts_on parts_from fit_of
fit_none r p = flat-one (part_fit (chain_fit r)) (chain (triple p)) ∙ (unfold part_fit in one-point r p)

pub most-none : (tol : Float) (p : Point3D) → most_on tol p [] ≡ 0
unfolding most_on parts_on parts_from most_of part_most
most-none tol p = refl

-- ---- where commands end
-- some commands end where they do from any start
pub end-some : (p q : Point3D) (cs : List Command) → 0 < length cs → end_on p cs ≡ end_on q cs
unfolding end_on
end-some p q [] h = absurd (omega arith)
end-some p q (c ∷ cs) h = refl

-- lent commands end with the last one
end-lent : (ks : List ℕ) (ns : List Float) (p : Point3D) (n i : ℕ) → end_on p (commands_from ks ns (suc n) i) ≡ end_of (command_at ks ns (i + n))
unfolding end_on commands_from
end-lent ks ns p zero i = let z : i + 0 ≡ i = omega arith in rw z
end-lent ks ns p (suc n) i = let z : i + suc n ≡ i + 1 + n = omega arith in rw z (end-lent ks ns (end_of (command_at ks ns i)) n (i + 1))

pub end-nothing : (ks : List ℕ) (ns : List Float) (p : Point3D) → length ks ≡ 0 → p ≡ end_on p (lent_course ks ns)
unfolding end_on commands_from
end-nothing ks ns p e = rw e

pub end-last : (ks : List ℕ) (ns : List Float) (p q : Point3D) (c : Command) → (length ks ≡ 0 → ⊥) → c ≡ command_at ks ns (length ks - 1) → q ≡ end_of c → q ≡ end_on p (lent_course ks ns)
end-last ks ns p q c h e f =
    let z : length ks ≡ suc (length ks - 1) = omega (arith, h) in
    let o : 0 + (length ks - 1) ≡ length ks - 1 = omega arith in
    f ∙ ap end_of e ∙ sym (ap (λ (n : ℕ). end_on p (commands_from ks ns n 0)) z ∙ end-lent ks ns p (length ks - 1) 0 ∙ ap (λ (n : ℕ). end_of (command_at ks ns n)) o)
