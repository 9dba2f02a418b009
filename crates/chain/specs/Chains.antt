-- The code's own way: the chain under way as the walk holds it, what a command needs and leaves, and what is written of a chain. Definitions only.
use Rattle.std.specs.Prelude.{ℕ, ◌+◌, ◌-◌, ◌*◌, ◌/◌, ◌≤◌, ◌≡◌, Bool, true, false, List, [], ◌∷◌, map, length, take, drop, ltb, Float, if◌then◌else◌}
use Rattle.geo.specs.declared.types.Point3D.{Point3D}
use Rattle.geo.specs.declared.types.Command.{Command}
use Rattle.geo.specs.declared.types.Command.TheVariants.{Line}
use Rattle.geo.specs.Domain.{most_commands}
use Rattle.geo.specs.Lent.{point_at, flat, end_of}
use Rattle.pieces.specs.declared.pieces.Rule.{Rule}
use Rattle.pieces.specs.Commands.{kept_of}
use Rattle.pieces.specs.Written.{Noted, noted, noted_in, chain_noted, NotedPlaced}
use Rattle.chain.specs.declared.chain.Walk.{Walk}
use Rattle.chain.specs.declared.chain.Walker.{Walker}
use Rattle.chain.specs.declared.chain.Flush.{Flush}
use Rattle.chain.specs.declared.chain.Flush.TheVariants.{Fitted, AsItStands, Lines}
use Rattle.chain.specs.Parts.{Part, chain, kept, Join, closed, carried, most_of}
use Rattle.chain.specs.Joins.{joined, lines_joined}

-- ---- counts
-- "The most of a course ... above 800" is refused; so a chain has at most one point more, its first included, of three numbers each
abbrev pub chain_points : ℕ
chain_points = 801

abbrev pub chain_numbers : ℕ
chain_numbers = 2403

-- a most as it is counted: one more than the most that is accepted stands for every greater one
unfoldable pub cap : ℕ → ℕ
cap n = if ltb most_commands n then chain_points else n

-- ---- how commands join, in both courses
-- whether Beziers join a chain
unfoldable pub joins_beziers : Flush → Bool
joins_beziers Fitted = true
joins_beziers AsItStands = false
joins_beziers Lines = false

unfoldable pub joined_by : Flush → Float → Point3D → Command → Join
joined_by f tol last c = if joins_beziers f then joined tol last c else lines_joined last c

-- ---- what is written, with the steps that each command covers: a Line to the next point that is kept covers one
unfoldable pub line_noted : Point3D → Noted
line_noted p = noted (Line p) 1

unfoldable pub flushed_by : Flush → Rule → List Float → List Noted
flushed_by Fitted r s = chain_noted r s
flushed_by AsItStands r s = noted_in r (point_at s) 0 (length s / 3 - 1)
flushed_by Lines r s = map line_noted (drop 1 (kept_of r s))

-- of a part, a chain's by `fit`; a command that is kept covers none
unfoldable pub part_noted : (List Float → List Noted) → Part → List Noted
part_noted fit (chain s) = fit s
part_noted fit (kept c) = noted c 0 ∷ []

unfoldable pub noted_of : (List Float → List Noted) → List Part → List Noted
noted_of fit ps = flat (part_noted fit) ps

-- ---- one command
-- the chain under way, at the front of its buffer
abbrev pub under_way : Walk → List Float → List Float
under_way w s = take (3 * w.points) s

-- before the command c, which joins by j: the chain has a point, there is room for it and for what c closes
pub record Room (j : Join) (c : Command) (w : Walk) (s : List Float) (kinds numbers : ℕ) : Type 0 where
  pub some : 1 ≤ w.points
  pub inside : 3 * w.points ≤ length s
  pub buffer : length s ≡ chain_numbers
  pub few : w.written ≤ most_commands
  pub chain : length (carried (under_way w s) c j) / 3 ≤ chain_points
  pub for_kinds : w.written + most_of (closed (under_way w s) c j) ≤ kinds
  pub for_numbers : 9 * (w.written + most_of (closed (under_way w s) c j)) ≤ numbers

-- behind it: w has become r, the buffer s has become s', and what c closes is written, each chain by `fit`
pub record Stepped (fit : List Float → List Noted) (j : Join) (c : Command) (w r : Walk) (s s' : List Float) (ks ks' : List ℕ) (ns ns' : List Float) (ss ss' : List ℕ) : Type 0 where
  pub last : r.last ≡ end_of c
  pub some : 1 ≤ r.points
  pub inside : 3 * r.points ≤ length s'
  pub carries : under_way r s' ≡ carried (under_way w s) c j
  pub written : r.written ≡ w.written + length (noted_of fit (closed (under_way w s) c j))
  pub wrote : NotedPlaced (noted_of fit (closed (under_way w s) c j)) w.written (length (noted_of fit (closed (under_way w s) c j))) ks ks' ns ns' ss ss'

-- what is lent to a walk stays lent: each reference is the one that it was, and the buffer as long; and its chains are written as before, by the same rule
pub record SameLent (w w' : Walker) : Type 0 where
  pub how : w'.how ≡ w.how
  pub rule : w'.rule ≡ w.rule
  pub chain : w'.chain.ghost_name ≡ w.chain.ghost_name
  pub kinds : w'.kinds.ghost_name ≡ w.kinds.ghost_name
  pub nums : w'.nums.ghost_name ≡ w.nums.ghost_name
  pub steps : w'.steps.ghost_name ≡ w.steps.ghost_name
  pub buffer : length w'.chain.now ≡ length w.chain.now
