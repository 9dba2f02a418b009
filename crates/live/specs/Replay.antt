-- The code's own way: one point fed to the state at hand, and the held points fed again in a loop that writes each end as it comes. What a reader has to believe stands in Thinner.antt and Calls.antt. Definitions only.
use Rattle.std.specs.Prelude.{ℕ, List, [], ◌∷◌, Float, ◌≡◌, length, Option, Some, None}
use Rattle.geo.specs.declared.types.Point3D.{Point3D}
use Rattle.live.specs.declared.live.Live.{Live}
use Rattle.live.specs.Thinner.{push, retuned}
use Rattle.live.specs.Calls.{end_for}
use Rattle.std.proofs.lemmas.List.Edits.{sets}
use Rattle.geo.specs.Lent.{flat, triple}

-- the point p fed to s: the end handed out, and the state afterwards
pub record Pushed (s s' : Live) (p : Point3D) (r : Option Point3D) : Type 0 where
  pub end : r ≡ end_for (push s p).ends
  pub state : s' ≡ (push s p).state

-- the ends of an answer
unfoldable pub ends_in : Option Point3D → List Point3D
ends_in (Some p) = p ∷ []
ends_in None = []

-- the held points fed again: n ends are written from the front of the output on
pub record Replays (s s' : Live) (t : Float) (out out' : List Float) (n : ℕ) : Type 0 where
  pub state : s' ≡ (retuned s t).state
  pub count : n ≡ length (retuned s t).ends
  pub stored : out' ≡ sets out 0 (flat triple (retuned s t).ends)
