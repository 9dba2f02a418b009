-- How many pairs are left to test: the sum of the later points of each point that is not yet taken. Assumes nothing.
use Rattle.std.specs.Prelude.{if◌then◌else◌}
use Prim.Native.Nat.{ℕ, zero, suc, ◌+◌, ◌-◌, ◌*◌, ◌≤◌, ◌<◌}
use mathlib.Core.Path.{◌≡◌, refl, sym, ap, ◌∙◌}
use mathlib.Core.Bool.{Bool, true, false, ◌||◌}
use native.Mathlib.Omega.{arith}
use native.Mathlib.Nat.{suc-mul, mul-suc}
use borrow.Author.Tests.{leb-true, leb-false, eqb-true, eqb-false, eq-eqb, ne_eqb, lt-ltb, le-ltb, le-leb, lt-leb}
use lib.Dec.{eqb, ltb, leb}
use Rattle.ways.specs.Way.{all_pairs}
use Rattle.ways.proofs.Steps.{split}

-- the pairs of n points, one point after the other
pub tri : ℕ → ℕ
tri zero = 0
tri (suc n) = n + tri n

-- of n points from i on those for which p holds, each with the number of points behind it
pub weigh : (ℕ → Bool) → ℕ → ℕ → ℕ
weigh p zero i = 0
weigh p (suc n) i = (if p i then n else 0) + weigh p n (i + 1)

pub weigh_most : (p : ℕ → Bool) (n i : ℕ) → weigh p n i ≤ tri n
unfolding weigh tri
weigh_most p zero i = omega arith
weigh_most p (suc n) i =
    let h = weigh_most p n (i + 1) in split (p i) (λ e. rw e (omega arith)) (λ e. rw e (omega arith))

pub weigh_same : (p q : ℕ → Bool) (n i e : ℕ) → e ≡ i + n → ((j : ℕ) → i ≤ j → j < e → p j ≡ q j) → weigh p n i ≡ weigh q n i
unfolding weigh
weigh_same p q zero i e h f = refl
weigh_same p q (suc n) i e h f = rw (f i (omega arith) (omega arith), weigh_same p q n (i + 1) e (omega arith) (λ j a b. f j (omega arith) b))

-- taking u takes the points behind it
pub weigh_take : (p q : ℕ → Bool) (n i e u : ℕ) → e ≡ i + n → i ≤ u → u < e → p u ≡ true → q u ≡ false
    → ((j : ℕ) → j < e → (j ≡ u → ⊥) → p j ≡ q j) → weigh p n i ≡ (e - (u + 1)) + weigh q n i
unfolding weigh
weigh_take p q zero i e u h a b t f g = absurd (omega arith)
weigh_take p q (suc n) i e u h a b t f g =
    split (eqb i u)
    (λ z. let w = eqb-true i u z in
    let m : (e - (u + 1)) ≡ n = omega arith in
    rw (w, t, f, m, weigh_same p q n (u + 1) e (omega arith) (λ j k l. g j l (omega arith))) (omega arith))
    (λ z. let w = eqb-false i u z in
    let r = weigh_take p q n (i + 1) e u (omega arith) (omega arith) b t f g in
    rw (g i (omega arith) w, r) (omega arith))

twice_tri : (n : ℕ) → tri n + tri n ≡ n * (n - 1)
unfolding tri
twice_tri zero = refl
twice_tri (suc zero) = refl
twice_tri (suc (suc m)) =
    let h : tri (suc m) + tri (suc m) ≡ suc m * (suc m - 1) = twice_tri (suc m) in
    let a : suc m - 1 ≡ m = omega arith in
    let b : suc (suc m) - 1 ≡ suc m = omega arith in
    let c : tri (suc m) + tri (suc m) ≡ m * m + m = h ∙ ap (λ (k : ℕ). suc m * k) a ∙ suc-mul m m in
    rw b (simp (suc-mul, mul-suc) (omega arith))

pub tri_pairs : (n : ℕ) → tri n ≡ all_pairs n
tri_pairs n = omega (arith, twice_tri n)

-- ---- a point i with the layer number l, where f layers are finished, and of the next the points before u are taken: whether it is still to be taken
pub pending : ℕ → ℕ → ℕ → ℕ → Bool
pending f u l i = if eqb l (f + 1) then leb u i else (eqb l 0 || ltb f l)

pub pending_unreached : (f u i : ℕ) → pending f u 0 i ≡ true
unfolding pending
pending_unreached f u i = rw (ne_eqb 0 (f + 1) (omega arith))

pub pending_deeper : (f u l i : ℕ) → f + 2 ≤ l → pending f u l i ≡ true
unfolding pending
pending_deeper f u l i h = rw (ne_eqb l (f + 1) (omega arith), ne_eqb l 0 (omega arith), lt-ltb f l (omega arith))

pub pending_now : (f u i : ℕ) → u ≤ i → pending f u (f + 1) i ≡ true
unfolding pending
pending_now f u i h = rw (eq-eqb (f + 1) (f + 1) refl, le-leb u i h)

pub taken_now : (f u i : ℕ) → i < u → pending f u (f + 1) i ≡ false
unfolding pending
taken_now f u i h = rw (eq-eqb (f + 1) (f + 1) refl, lt-leb u i h)

pub taken_before : (f u l i : ℕ) → 1 ≤ l → l ≤ f → pending f u l i ≡ false
unfolding pending
taken_before f u l i a b = rw (ne_eqb l (f + 1) (omega arith), ne_eqb l 0 (omega arith), le-ltb f l (omega arith))

-- u itself apart, nothing else is taken with it
pub pending_next : (f u l i : ℕ) → (i ≡ u → l ≡ f + 1 → ⊥) → pending f u l i ≡ pending f (u + 1) l i
unfolding pending
pending_next f u l i h =
    split (eqb l (f + 1))
    (λ e. let d : (i ≡ u → ⊥) = (λ z. h z (eqb-true l (f + 1) e)) in
    rw e (split (leb u i)
    (λ t. let a = leb-true u i t in rw (t, le-leb (u + 1) i (omega arith)))
    (λ t. let a = leb-false u i t in rw (t, lt-leb (u + 1) i (omega arith)))))
    (λ e. rw e)

-- where all points of the layer are taken it is finished
pub pending_finished : (f e l i : ℕ) → i < e → pending f e l i ≡ pending (f + 1) 0 l i
pending_finished f e l i h =
    split (eqb l 0)
    (λ z. rw (eqb-true l 0 z) (pending_unreached f e i ∙ sym (pending_unreached (f + 1) 0 i)))
    (λ z. let n = eqb-false l 0 z in
    split (leb l f)
    (λ a. let b = leb-true l f a in taken_before f e l i (omega arith) b ∙ sym (taken_before (f + 1) 0 l i (omega arith) (omega arith)))
    (λ a. let b = leb-false l f a in
    split (eqb l (f + 1))
    (λ y. rw (eqb-true l (f + 1) y) (taken_now f e i h ∙ sym (taken_before (f + 1) 0 (f + 1) i (omega arith) (omega arith))))
    (λ y. let c = eqb-false l (f + 1) y in
    pending_deeper f e l i (omega arith)
    ∙ split (eqb l (f + 1 + 1))
    (λ x. rw (eqb-true l (f + 1 + 1) x) (sym (pending_now (f + 1) 0 i (omega arith))))
    (λ x. let d = eqb-false l (f + 1 + 1) x in sym (pending_deeper (f + 1) 0 l i (omega arith))))))
