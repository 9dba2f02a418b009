-- The derived equality of where a search stands says what the definitions say. Assumes nothing.
use mathlib.Core.Path.{◌≡◌, refl, sym, ◌∙◌}
use mathlib.Core.Bool.{Bool, true, false, not}
use borrow.Author.Tests.{not-true, not-false}
use denote.Enum.Bare.{sameb}
use Rattle.ways.specs.declared.phase.Phase.{Phase}
use Rattle.ways.specs.declared.phase.Phase.TheVariants.{Going, Arrived, Spent}
use Rattle.ways.specs.contracts.phase.Phase as told
use Rattle.ways.specs.Layers.{going, arrived}

pub is_going : (p : Phase) → sameb told.the_type p Going ≡ going p
is_going Going = refl
is_going Arrived = refl
is_going Spent = refl

pub is_arrived : (p : Phase) → sameb told.the_type p Arrived ≡ arrived p
is_arrived Going = refl
is_arrived Arrived = refl
is_arrived Spent = refl

-- a test b whether a search does not go on
module _ (b : Bool) (p : Phase) (e : b ≡ not (sameb told.the_type p Going)) where
  pub stopped : b ≡ true → going p ≡ false
  stopped h = sym (is_going p) ∙ not-true _ (sym e ∙ h)

  pub goes_on : b ≡ false → going p ≡ true
  goes_on h = sym (is_going p) ∙ not-false _ (sym e ∙ h)
