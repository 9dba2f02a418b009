-- What the checks of the public calls leave, and what an accepted call answers and leaves. Assumes nothing.
use Prim.Native.Nat.{ℕ, zero, suc, ◌+◌, ◌*◌, ◌/◌, ◌≤◌}
use Rattle.std.specs.Prelude.{Ok}
use mathlib.Core.Path.{◌≡◌, sym, ap, ◌∙◌, subst}
use mathlib.Core.Logic.{⊎_elim}
use mathlib.Core.Bool.{Bool, true, false, ◌||◌}
use mathlib.Core.List.{List, [], ◌∷◌, map}
use native.Mathlib.Nat.{le_trans, mul-le-mul_left}
use native.Mathlib.Omega.{arith}
use borrow.Author.Tests.{ltb-false, eqb-true, not-false}
use lib.ListN.{length, length-map}
use lib.Seq.{sets}
use lib.Ieee.{Float}
use Rattle.floats.specs.Ops.{◌⊗◌, ◌≺◌, +0}
use Rattle.floats.proofs.Order.{either}
use Rattle.floats.proofs.Unsigned.{square_not_negative}
use Rattle.geo.specs.declared.types.Command.{Command}
use Rattle.geo.specs.Domain.{coordinate, numbers_in, tolerance}
use Rattle.geo.specs.Outcome.{refusal, unless}
use Rattle.geo.specs.Lent.{flat, command_at, kind_of, numbers_of}
use Rattle.geo.specs.Wrote.{Wrote, WroteCommands}
use Rattle.geo.proofs.Rows.{row_passed}
use Rattle.geo.proofs.Flat.{flat_length}
use Rattle.geo.proofs.Wrote.{wrote-given, commands-given}
use Rattle.geo.proofs.Wrote.{nine}
use Rattle.farthest.specs.Measure.{Measure}
use Rattle.farthest.specs.Ends.{is_move, command_sq}
use Rattle.simplify.specs.Thin.{thinned, thinned_points}
use Rattle.simplify.specs.Data.{among, select, kept_commands, thinned_commands}
use Rattle.simplify.specs.Flags.{Copied}
use Rattle.simplify.specs.Track.{kept_of, never, Wide}
use Rattle.simplify.proofs.Flags.{points-kept}
use Rattle.simplify.specs.Words.{Ascending}
use Rattle.simplify.specs.Simplify.{Form, point_rows, command_rows, simplify_form, simplify_data}
use Rattle.simplify.proofs.Kept.{thinned-ascending}

-- Points that no check refuses are few enough, there is room for all, and numbers and tolerance are in the domain
pub points-accepted : (width : ℕ) (s : List Float) (t : Float) (room : ℕ) → 0 ≡ refusal (point_rows width s t room)
    → (length s / width ≤ 2048) × (length s / width ≤ room / width) × (numbers_in coordinate s ≡ true) × (tolerance t ≡ true)
points-accepted width s t room z =
    let a = row_passed 0 _ _ z in
    let b = row_passed 0 _ _ a.1 in
    let c = row_passed 1 _ _ b.1 in
    let d = row_passed 4 _ _ c.1 in
    let e = row_passed 5 _ _ d.1 in
    let f = row_passed 8 _ _ e.1 in
    (ltb-false _ _ c.0, ltb-false _ _ f.0, not-false _ d.0, not-false _ e.0)

-- what the table says of points of a width, which is this one
pub by_width : (w w' n : ℕ) → w ≡ w' → (s : List Float) (t : Float) (room : ℕ) → n ≡ refusal (point_rows w s t room) → n ≡ refusal (point_rows w' s t room)
by_width w w' n e s t room h = rw e at h

-- commands that none refuses have nine numbers each, are few enough, and there is room for all
pub commands-accepted : (ks : List ℕ) (ns : List Float) (t : Float) (kinds numbers : ℕ) → 0 ≡ refusal (command_rows ks ns t kinds numbers)
    → (length ns ≡ 9 * length ks) × (length ks ≤ 800) × (length ks ≤ kinds) × (length ks ≤ numbers / 9)
commands-accepted ks ns t kinds numbers z =
    let a = row_passed 0 _ _ z in
    let b = row_passed 0 _ _ a.1 in
    let c = row_passed 1 _ _ b.1 in
    let d = row_passed 3 _ _ c.1 in
    let e = row_passed 4 _ _ d.1 in
    let f = row_passed 5 _ _ e.1 in
    let g = row_passed 8 _ _ f.1 in
    let k = row_passed 8 _ _ g.1 in
    (eqb-true _ _ (not-false _ a.0), ltb-false _ _ c.0, ltb-false _ _ g.0, ltb-false _ _ k.0)

-- ---- at most all are kept
pub ascending_length : (i e : ℕ) (ks : List ℕ) → Ascending i e ks → i ≤ e → i + length ks ≤ e
ascending_length i e [] a h = omega arith
ascending_length i e (k ∷ ks) a h = let r = ascending_length (k + 1) e ks a.2 (omega (arith, a.1)) in omega (arith, a.0)

pub points_length : {P : Type 0} (m : Measure P) (limit : Float) → (limit ≺ +0) ≡ false → (at : ℕ → P) (n : ℕ) → length (thinned_points m limit at n) ≤ n
unfolding thinned_points
points_length m limit pos at n =
    rw length-map (let r = ascending_length 0 n (thinned m limit at n) (thinned-ascending m limit pos at n) (omega arith) in omega arith)

select_length : (p : ℕ → Bool) (n i : ℕ) → length (select p n i) ≤ n
unfolding select
select_length p zero i = omega arith
select_length p (suc n) i =
    let r = select_length p n (i + 1) in ⊎_elim (λ h. rw h (omega arith)) (λ h. rw h (omega arith)) (either (p i))

pub commands_length : (limit : Float) (at : ℕ → Command) (n : ℕ) → length (thinned_commands limit at n) ≤ n
unfolding thinned_commands kept_commands
commands_length limit at n = rw length-map (select_length (λ i. is_move (at i) || among i (thinned command_sq limit at n)) n 0)

-- points of which none is always kept, written from the front of out on and counted
pub copied-points : {P B : Type 0} (m : Measure P) (limit : Float) → (limit ≺ +0) ≡ false → (at : ℕ → P) (n : ℕ) (row : P → List B) (out out' : List B) (k : ℕ)
    → k ≡ length (kept_of never m limit at n) → out' ≡ sets out 0 (flat row (kept_of never m limit at n)) → Copied row (thinned_points m limit at n) out out' k
copied-points m limit pos at n row out out' k ek eo =
    let e = points-kept m limit pos at n in
    record { count = ek ∙ ap length e; items = eo ∙ ap (λ ys. sets out 0 (flat row ys)) e }

-- ---- what an accepted call answers and leaves
pub wrote-form : {P : Type 0} (f : Form P) (width : ℕ) → Wide f width → (s : List Float) (t : Float) (out out' : List Float) (k : ℕ) → 0 ≡ refusal (point_rows width s t (length out))
    → k ≡ length (kept_of never f.measure (t ⊗ t) (f.read s) (length s / width)) → out' ≡ sets out 0 (flat f.lay (kept_of never f.measure (t ⊗ t) (f.read s) (length s / width)))
    → Wrote (flat f.lay) (simplify_form f s t (length out)) out out' (Ok k)
wrote-form {P} f width v s t out out' k z ek eo =
    let n = length s / width in
    let pos = square_not_negative t in
    let xs = thinned_points f.measure (t ⊗ t) (f.read s) n in
    let r = points-accepted width s t (length out) z in
    let c = copied-points f.measure (t ⊗ t) pos (f.read s) n f.lay out out' k ek eo in
    let room : width * length xs ≤ length out =
    le_trans (mul-le-mul_left width (le_trans (points_length f.measure (t ⊗ t) pos (f.read s) n) r.1)) (let h = v.some in omega arith) in
    subst (λ (w : ℕ). Wrote (flat f.lay) (unless (refusal (point_rows w s t (length out))) (thinned_points f.measure (t ⊗ t) (f.read s) (length s / w))) out out' (Ok k)) (sym v.is)
    (wrote-given _ z (flat f.lay) xs out out' k c.count (rw (flat_length f.lay width v.each xs) room) c.items)

pub wrote-commands : (ks : List ℕ) (ns : List Float) (t : Float) (oks oks' : List ℕ) (ons ons' : List Float) (k : ℕ)
    → 0 ≡ refusal (command_rows ks ns t (length oks) (length ons))
    → k ≡ length (kept_of is_move command_sq (t ⊗ t) (command_at ks ns) (length ks))
    → oks' ≡ sets oks 0 (map kind_of (kept_of is_move command_sq (t ⊗ t) (command_at ks ns) (length ks)))
    → ons' ≡ sets ons 0 (flat numbers_of (kept_of is_move command_sq (t ⊗ t) (command_at ks ns) (length ks)))
    → WroteCommands (simplify_data ks ns t (length oks) (length ons)) oks oks' ons ons' (Ok k)
unfolding simplify_data thinned_commands kept_commands
wrote-commands ks ns t oks oks' ons ons' k z ek eo en =
    let xs = thinned_commands (t ⊗ t) (command_at ks ns) (length ks) in
    let l = commands_length (t ⊗ t) (command_at ks ns) (length ks) in
    let a = commands-accepted ks ns t (length oks) (length ons) z in
    commands-given _ z xs oks oks' ons ons' k ek (omega (arith, a)) (omega (arith, a, flat_length numbers_of 9 nine xs)) eo en
