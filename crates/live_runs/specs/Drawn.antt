-- What is shown of every run of the live thinner (document 02, §2 and §12), as propositions. Definitions only; proofs/Runs.antt, Way.antt, Coarser.antt and Zigzag.antt show that they hold.
use Rattle.std.specs.Prelude.{ℕ, ◌+◌, ◌-◌, ◌*◌, ◌≤◌, ◌<◌, ◌≡◌, true, false, List, [], ◌∷◌, ◌++◌, map, length, Float}
use Rattle.floats.specs.Ops.{◌≺◌}
use Rattle.floats.specs.Root.{root_of}
use Rattle.geo.specs.declared.types.Point3D.{Point3D}
use Rattle.geo.specs.Domain.{point3_in, tolerance}
use Rattle.geo.specs.Outcome.{refused, gives}
use Rattle.farthest.specs.Measure.{line_sq}
use Rattle.simplify.specs.Words.{Ascending}
use Rattle.live.specs.declared.live.Live.{Live}
use Rattle.live.specs.Thinner.{Next, push}
use Rattle.live.specs.Calls.{Event, feed, retune, close, live_call}
use Rattle.live_runs.specs.Run.{LineEnd, Ran, run, fed_at}

-- the last of a, xs ..
unfoldable pub last_of : {A : Type 0} → A → List A → A
last_of a [] = a
last_of a (x ∷ xs) = last_of x xs

-- R holds of each two neighbours of a, ks ..
abbrev pub Pairs : (ℕ → ℕ → Type 0) → ℕ → List ℕ → Type 0
Pairs R a [] = Unit
Pairs R a (k ∷ ks) = R a k × Pairs R k ks

-- each point strictly between the places a and k is below t from the line of the points at a and k, as computed: by the root of the squared distance to the endless line
abbrev pub NearLine : (ℕ → Point3D) → Float → ℕ → ℕ → Type 0
NearLine at t a k = (j : ℕ) → a < j → j < k → (root_of (line_sq (at a) (at k) (at j)) ≺ t) ≡ true

-- The end h is the fed point at place k, and its neighbour before it the one at place a.
pub record Gap (at : ℕ → Point3D) (a k : ℕ) (h : LineEnd) : Type 0 where
  pub fed : h.end ≡ at k
  pub later : a < k
  -- no end comes later than 64 points after the end before it
  pub short : k ≤ a + 64
  -- each point between them is below the tolerance that was in force when h was handed out
  pub below : NearLine at h.under a k

-- of each two neighbours among the point at place a and the ends that follow it, which are at the places ks
abbrev pub Gaps : (ℕ → Point3D) → ℕ → List LineEnd → List ℕ → Type 0
Gaps at a [] [] = Unit
Gaps at a [] (k ∷ ks) = ⊥
Gaps at a (h ∷ hs) [] = ⊥
Gaps at a (h ∷ hs) (k ∷ ks) = Gap at a k h × Gaps at k hs ks

-- what §2 says of a whole run, and §12 of one with new tolerances in it; the first point fed, at place 0, counts as an end
pub record Drawn (r : Ran) : Type 0 where
  -- where the ends stand among the fed points
  pub places : List ℕ
  pub ends-fed : map (λ h. h.end) r.ends ≡ map (fed_at r) places
  pub in_order : Ascending 1 (length r.fed) places
  pub gaps : Gaps (fed_at r) 0 r.ends places
  -- of the points fed so far, at most 64 came after the last end
  pub prompt : length r.fed ≤ last_of 0 places + 65
  pub last_included : r.last.closed ≡ true → 2 ≤ length r.fed → last_of 0 places ≡ length r.fed - 1
  pub none_of_few : length r.fed < 2 → r.ends ≡ []

-- THE RUN. Of every run from a start, whatever its calls are, refused ones among them, and whatever its tolerances: the ends are fed points in order, the last
-- included after a close; between two neighbours, the first fed point counting as an end, each point is below the tolerance in force when the later one was
-- handed out; no end comes later than 64 points after the end before it; a run of no or one point hands out none.
abbrev pub RunsAreDrawn : Type 0
RunsAreDrawn = (t : Float) (es : List Event) → Drawn (run t es)

-- no call sets a new tolerance
abbrev pub Untuned : List Event → Type 0
Untuned [] = Unit
Untuned (feed p ∷ es) = Untuned es
Untuned (retune t n ∷ es) = ⊥
Untuned (close ∷ es) = Untuned es

-- §2's SENTENCE, the case of the run without a new tolerance: each point between two neighbouring ends, the first point fed counting as one, is below the
-- tolerance of the start from their line.
abbrev pub BelowTheTolerance : Type 0
BelowTheTolerance = (t : Float) (es : List Event) → Untuned es → (d : Drawn (run t es)) → Pairs (NearLine (fed_at (run t es)) t) 0 d.places

-- REFUSED CALLS. A call that is refused in the middle of a run changes nothing: the run without it feeds the same points, hands out the same ends and has the
-- same last state.
abbrev pub RefusedLeftOut : Type 0
RefusedLeftOut = (t : Float) (es fs : List Event) (e : Event) (n : ℕ) → live_call (run t es).last e ≡ refused n → run t (es ++ e ∷ fs) ≡ run t (es ++ fs)

-- THE WAY ON. After a start at a tolerance that is not refused, the thinner takes every point of the domain until it is closed,
abbrev pub TakesPoints : Type 0
TakesPoints = (t : Float) (es : List Event) (p : Point3D) → tolerance t ≡ true → point3_in p ≡ true → (run t es).last.closed ≡ false
    → live_call (run t es).last (feed p) ≡ gives (push (run t es).last p)

-- and then 10 is given to a point of the domain and to a second close.
pub record TenAfterClose (t : Float) (es : List Event) : Type 0 where
  pub point : (p : Point3D) → point3_in p ≡ true → live_call (run t es).last (feed p) ≡ refused 10
  pub second : live_call (run t es).last close ≡ refused 10

abbrev pub ClosedForGood : Type 0
ClosedForGood = (t : Float) (es : List Event) → tolerance t ≡ true → (run t es).last.closed ≡ true → TenAfterClose t es

-- ---- a new tolerance
-- THE MOST. It hands out at most 63 ends, of every state that it accepts, one that no run reaches too;
abbrev pub AtMost63 : Type 0
AtMost63 = (s : Live) (t : Float) (room : ℕ) (r : Next) → live_call s (retune t room) ≡ gives r → length r.ends ≤ 63

-- and 63 can come out, in a run.
pub record SixtyThree : Type 0 where
  pub coarse : Float
  pub calls : List Event
  pub finer : Float
  pub next : Next
  pub accepted : live_call (run coarse calls).last (retune finer (3 * 63)) ≡ gives next
  pub ends : length next.ends ≡ 63

-- COARSER. Where the new tolerance is not below the old one, a run hands out nothing and keeps its points.
abbrev pub CoarserKeeps : Type 0
CoarserKeeps = (t : Float) (es : List Event) (u : Float) (room : ℕ) (r : Next) → live_call (run t es).last (retune u room) ≡ gives r → (u ≺ (run t es).last.tolerance) ≡ false
    → (r.ends ≡ []) × (r.state ≡ record { tolerance = u; points = (run t es).last.points; count = (run t es).last.count; closed = (run t es).last.closed })
