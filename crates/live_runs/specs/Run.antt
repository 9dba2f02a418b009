-- Runs of the live thinner: calls one after the other, each given the last one's state. Definitions only.
use Rattle.std.specs.Prelude.{ℕ, List, [], ◌∷◌, ◌++◌, map, get_or, Float}
use Rattle.geo.specs.declared.types.Point3D.{Point3D}
use Rattle.geo.specs.Lent.{origin}
use Rattle.geo.specs.Outcome.{Outcome, refused, gives}
use Rattle.live.specs.declared.live.Live.{Live}
use Rattle.live.specs.Thinner.{Next, started}
use Rattle.live.specs.Calls.{Event, feed, retune, close, live_call}

-- an end that was handed out, and the tolerance in force then
pub record LineEnd : Type 0 where
  pub end : Point3D
  pub under : Float

abbrev pub end_under : Float → Point3D → LineEnd
end_under t p = record { end = p; under = t }

-- what a run comes to: the points fed to it in order, all ends handed out in order, and the last state
pub record Ran : Type 0 where
  pub fed : List Point3D
  pub ends : List LineEnd
  pub last : Live

-- the points that an accepted call feeds
unfoldable pub fed_by : Event → List Point3D
fed_by (feed p) = p ∷ []
fed_by (retune t n) = []
fed_by close = []

-- a call in front of the rest of a run: a refused call leaves the state, feeds nothing and hands out nothing
unfoldable pub call_then : (Live → Ran) → Live → Event → Outcome Next → Ran
call_then rest s e (refused n) = rest s
call_then rest s e (gives r) =
    record {
      fed = fed_by e ++ (rest r.state).fed;
      ends = map (end_under r.state.tolerance) r.ends ++ (rest r.state).ends;
      last = (rest r.state).last;
    }

-- a run of calls from a state
unfoldable pub run_from : List Event → Live → Ran
run_from [] s = record { fed = []; ends = []; last = s }
run_from (e ∷ es) s = call_then (run_from es) s e (live_call s e)

-- from a new state
unfoldable pub run : Float → List Event → Ran
run t es = run_from es (started t)

-- the i-th point fed to a run
unfoldable pub fed_at : Ran → ℕ → Point3D
fed_at r i = get_or r.fed i origin
