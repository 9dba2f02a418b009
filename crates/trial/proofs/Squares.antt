-- What the square of a length decides without its root: that a range is not closed, and that a step is neither short nor longer than the circle is wide. Assumes nothing.
use mathlib.Core.Path.{◌≡◌, refl, sym, ◌∙◌}
use mathlib.Core.Logic.{⊎_elim}
use mathlib.Core.Bool.{true, false}
use lib.Dec.{T}
use lib.Ieee.{Float, binary64, of_bits, fits, lt, le, is_nan}
use lib.Ieee.Fits.{add-fits}
use Rattle.floats.specs.Ops.{◌⊖◌, ◌⊗◌, +0, two}
use Rattle.floats.specs.Float.{abs_of, max_of}
use Rattle.floats.specs.Root.{root_of}
use Rattle.floats.proofs.Order.{either, clash, lt_gap, lt_asym, le_right, le_under, lt_under}
use Rattle.floats.proofs.root.Compared.{root_not_below, root_under-twice}
use Rattle.geo.specs.Vector.{length_sq, length_of}
use Rattle.floats.specs.Limits.{nano, millionth}
use Rattle.trial.specs.declared.trial.Spoke.{Spoke}
use Rattle.trial.specs.Deviation.{sagitta_of, ends_of, step_of}

-- 1e-17: its root is above 1e-9
abbrev short_square : Float
short_square = of_bits binary64 0x3c67_0ef5_4646_d497

short-fits : T (fits binary64 short_square)
unfolding fits of_bits
short-fits = tt

short_root : le nano (root_of short_square) ≡ true
unfolding le root_of of_bits
short_root = refl

short-above : lt +0 short_square ≡ true
unfolding lt of_bits
short-above = refl

-- 1e-11: its root is above 1e-6
abbrev closed_square : Float
closed_square = of_bits binary64 0x3da5_fd7f_e179_6495

closed-fits : T (fits binary64 closed_square)
unfolding fits of_bits
closed-fits = tt

closed_root : le millionth (root_of closed_square) ≡ true
unfolding le root_of of_bits
closed_root = refl

-- the ends of such a range are not nearer than 1e-6
pub not_closed : (x y : Float) → le closed_square (length_sq x y) ≡ true → lt (length_of x y) millionth ≡ false
unfolding length_of
not_closed x y h = root_not_below millionth closed_square (length_sq x y) closed-fits (add-fits binary64 (x ⊗ x) (y ⊗ y)) closed_root h

-- a step that is not short, and no longer than the radius r, whose square is q
pub step_inside : (x y q r : Float) (s t : Spoke) → T (fits binary64 q) → r ≡ root_of q → le short_square (length_sq x y) ≡ true → le (length_sq x y) q ≡ true
    → step_of r (length_of x y) s t ≡ max_of (sagitta_of r s t) (ends_of r s t)
unfolding step_of length_of
step_inside x y q r s t g e h k =
    let l = length_sq x y in
    let f = add-fits binary64 (x ⊗ x) (y ⊗ y) in
    let w : lt (two ⊗ r) (root_of l) ≡ false = rw e (root_under-twice l q f g (lt_under +0 short_square l short-above h) k) in
    rw (root_not_below nano short_square l short-fits f short_root h, w)

-- ---- the greater of two is no less than the second, and a number where that is one
max_number : (a b : Float) → is_nan b ≡ false → is_nan (max_of a b) ≡ false
unfolding max_of
max_number a b h = ⊎_elim (λ e. rw e h) (λ e. rw e (⊎_elim (λ g. rw g h) (λ g. rw g g) (either (is_nan a)))) (either (lt a b))

max_not_below : (a b : Float) → lt (max_of a b) b ≡ false
unfolding max_of
max_not_below a b =
    let z : lt b b ≡ false = ⊎_elim (λ e. lt_asym b b e) (λ e. e) (either (lt b b)) in
    ⊎_elim (λ e. rw e z) (λ e. rw e (⊎_elim (λ g. rw g z) (λ g. rw g e) (either (is_nan a)))) (either (lt a b))

not_below : (x y z : Float) → is_nan y ≡ false → lt x y ≡ false → lt y z ≡ false → lt x z ≡ false
not_below x y z n h k = ⊎_elim (λ e. ⊎_elim (λ g. clash (sym h ∙ g)) (λ g. clash (sym k ∙ g)) (lt_gap x y z n e)) (λ e. e) (either (lt x z))

-- a step that is not short deviates by no less than its end
pub end_decides : (x y r tol : Float) (s t : Spoke) → le short_square (length_sq x y) ≡ true → le tol (abs_of (t.len ⊖ r)) ≡ true
    → (is_nan (step_of r (length_of x y) s t) ≡ false) × (lt (step_of r (length_of x y) s t) tol ≡ false)
unfolding step_of ends_of length_of
end_decides x y r tol s t h k =
    let a = abs_of (s.len ⊖ r) in
    let b = abs_of (t.len ⊖ r) in
    let n = max_number a b (le_right tol b k) in
    let e = sagitta_of r s t in
    rw (root_not_below nano short_square (length_sq x y) short-fits (add-fits binary64 (x ⊗ x) (y ⊗ y)) short_root h)
    (⊎_elim
    (λ g. rw g (n, le_under tol b (max_of a b) k (max_not_below a b)))
    (λ g. rw g (max_number e (max_of a b) n, le_under tol b (max_of e (max_of a b)) k (not_below (max_of e (max_of a b)) (max_of a b) b n (max_not_below e (max_of a b)) (max_not_below a b))))
    (either (lt (two ⊗ r) (root_of (length_sq x y)))))
