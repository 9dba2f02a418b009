-- `exports::drawings::pz_read_course` meets its contract: what is written stays, and the answer is handed on. Assumes nothing.
use Prim.Native.Nat.{ℕ}
use mathlib.Core.List.{List}
use Rattle.exports.proofs.Plain.{listed}
use Rattle.exports.proofs.drawings.pz_read_course.Goals as goal

pub returns : goal.returns
returns c = listed (λ (bytes : List ℕ). bytes) _ c.args.out.now _ _ c.args.count.now _ _ c.read_course.ensures c.hand_cause.ensures
