-- Thinning a thinned lap (document 02, §1), as a proposition over points of any form. Definitions only; proofs/Twice.antt shows that it holds.
use Rattle.std.specs.Prelude.{ℕ, ◌*◌, ◌≤◌, true, List, ◌≡◌, length, take, Float}
use Rattle.geo.specs.Lent.{flat}
use Rattle.geo.specs.Domain.{whole}
use Rattle.geo.specs.Outcome.{Outcome, gives, left}
use Rattle.simplify.specs.Simplify.{Form}

-- Of a call that thins points of the form f, r being the points that it gives for the numbers s at tolerance t with the output out: its output begins with r as it is
-- lent, and the call on those numbers, at that tolerance, with any output that has room for r, is accepted and gives r.
pub record ThinnedTwice {P : Type 0} (f : Form P) (call : List Float → Float → ℕ → Outcome (List P)) (t : Float) (out : List Float) (o : Outcome (List P)) (r : List P) : Type 0 where
  pub lent : take (f.width * length r) (left (flat f.lay) out o) ≡ flat f.lay r
  pub again : (room : ℕ) → whole f.width room ≡ true → f.width * length r ≤ room → call (flat f.lay r) t room ≡ gives r

-- whatever list, tolerance and output the call accepts
abbrev pub ThinsTwice : {P : Type 0} → Form P → (List Float → Float → ℕ → Outcome (List P)) → Type 0
ThinsTwice {P} f call =
    (s : List Float) (t : Float) (out : List Float) (r : List P) → call s t (length out) ≡ gives r → ThinnedTwice f call t out (call s t (length out)) r
