-- `printing::input::list_input` meets its contract: an input below 16 bytes is refused by 1, and any other is a tolerance and a file. Assumes nothing.
use Prim.Native.Nat.{ℕ, ◌-◌, ◌≤◌, ◌<◌}
use mathlib.Core.Path.{◌≡◌, refl}
use mathlib.Core.List.{List}
use native.Mathlib.Omega.{arith}
use borrow.Author.Tests.{lt-ltb, le-ltb}
use lib.ListN.{length, take, drop, length-drop}
use lib.Seq.{take_all}
use lib.Ieee.{Float}
use Rattle.std.specs.Prelude.{Err}
use Rattle.geo.specs.declared.refusal.Refusal.TheVariants.{NotWhole}
use Rattle.geo.specs.Outcome.{left}
use Rattle.geo.specs.Wrote.{answer, Wrote}
use Rattle.geo.proofs.Wrote.{wrote-same}
use Rattle.file.specs.Bytes.{number_at}
use Rattle.lap_rows.specs.Listing.{list_file}
use Rattle.printing.specs.Input.{list_input}
use Rattle.printing.proofs.input.list_input.Goals as goal

below : (s : List ℕ) (room : ℕ) (out : List ℕ) → length s < 16 → Wrote (λ (bytes : List ℕ). bytes) (list_input s room) out out (Err NotWhole)
unfolding list_input answer left
below s room out h = rw (lt-ltb (length s) 16 h) record { says = refl; leaves = refl }

enough : (s : List ℕ) (room : ℕ) (tol : Float) → 16 ≤ length s → tol ≡ number_at s 0 → list_file (take (length s - 8) (drop 8 s)) tol room ≡ list_input s room
unfolding list_input
enough s room tol h e = rw (le-ltb (length s) 16 h, e, rest)
  where
    rest : take (length s - 8) (drop 8 s) ≡ drop 8 s
    rest = take_all (length s - 8) (drop 8 s) (rw (length-drop 8 s) (omega arith))

pub returns-then-input-lt16 : goal.returns-then-input-lt16
returns-then-input-lt16 c = below c.args.input.now _ c.args.out.now c.if-input-lt16.true

pub returns : goal.returns
returns c = let a = c.args in wrote-same _ _ _ _ _ _ (enough a.input.now (length a.out.now) _ c.if-input-lt16.false c.number_at-tolerance.ensures) c.list_file.ensures
