-- The commands of a text without the bound on their number: what follows a command is nothing, or a space, a command and what follows that. Assumes nothing.
use Rattle.std.specs.Prelude.{if◌then◌else◌}
use Prim.Native.Nat.{ℕ, zero, suc, ◌≤◌, ◌<◌}
use mathlib.Core.Path.{◌≡◌, refl, ap, subst}
use mathlib.Core.List.{List, [], ◌∷◌}
use native.Mathlib.Omega.{arith}
use lib.ListN.{length}
use lib.Dec.{eqb}
use Rattle.geo.specs.Outcome.{Outcome, gives}
use Rattle.svg_text.specs.Path.{Drawn, Reading, broken, read, space, command, bad, in_front, then_rest, more, others}
use Rattle.svg_text.proofs.Read.{command_longer}
use Rattle.svg_text.proofs.Spelled.{command_means}

-- a command takes bytes
pub command_takes : (t : List ℕ) (c : Drawn) (u : List ℕ) → command t ≡ read c u → length u < length t
command_takes t c u e =
    let k = command_means t c u e in
    subst (λ (l : List ℕ). length u < length l) k.text (command_longer k.spelling u)

-- readings that agree on every shorter text agree behind a command
follow-same : (f g : List ℕ → Outcome (List Drawn)) (t : List ℕ) → ((u : List ℕ) → length u < length t → f u ≡ g u) → then_rest f (command t) ≡ then_rest g (command t)
unfolding then_rest
follow-same f g t h = go (command t) refl
  where
    go : (r : Reading Drawn) → command t ≡ r → then_rest f r ≡ then_rest g r
    go broken p = refl
    go (read c u) p = ap (in_front c) (h u (command_takes t c u p))

-- any bound that is no smaller than the text gives the same
more_same : (n m : ℕ) (t : List ℕ) → length t ≤ n → length t ≤ m → more n t ≡ more m t
unfolding more
more_same zero zero [] h k = refl
more_same zero (suc m) [] h k = refl
more_same (suc n) zero [] h k = refl
more_same (suc n) (suc m) [] h k = refl
more_same zero zero (b ∷ t) h k = refl
more_same zero (suc m) (b ∷ t) h k = absurd (omega arith)
more_same (suc n) zero (b ∷ t) h k = absurd (omega arith)
more_same (suc n) (suc m) (b ∷ t) h k =
    ap (λ (o : Outcome (List Drawn)). if eqb b space then o else bad)
    (follow-same (more n) (more m) t (λ (u : List ℕ) (l : length u < length t). more_same n m u (omega arith) (omega arith)))

-- Behind a command stands nothing, or a space and a command.
pub others-none : others [] ≡ gives []
unfolding more
others-none = refl

pub others-some : (b : ℕ) (t : List ℕ) → others (b ∷ t) ≡ (if eqb b space then then_rest others (command t) else bad)
unfolding more
others-some b t =
    ap (λ (o : Outcome (List Drawn)). if eqb b space then o else bad)
    (follow-same (more (length t)) others t (λ (u : List ℕ) (l : length u < length t). more_same (length t) (length u) u (omega arith) (omega arith)))
