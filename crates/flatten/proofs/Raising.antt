-- What the second pass makes of the first one's Lines: each gets its height, and the last the command's own end. Assumes nothing.
use Prim.Native.Nat.{ℕ, suc, ◌+◌, ◌-◌, ◌*◌, ◌≤◌, ◌<◌}
use mathlib.Core.Path.{◌≡◌, refl, sym, ap, ◌∙◌, subst}
use mathlib.Core.List.{List, [], ◌∷◌, ◌++◌, map}
use native.Mathlib.Omega.{arith}
use borrow.Author.Tests.{eq-eqb, ne_eqb}
use lib.ListN.{length, set, length-set}
use lib.Seq.{sets, set-set}
use lib.Ieee.{Float}
use Rattle.floats.specs.Ops.{◌⊕◌, +0}
use Rattle.geo.specs.declared.types.Point.{Point}
use Rattle.geo.specs.declared.types.Point3D.{Point3D}
use Rattle.geo.specs.declared.types.Command.{Command}
use Rattle.geo.specs.declared.types.Command.TheVariants.{Line}
use Rattle.geo.specs.Lent.{triple, flat, kind_of, numbers_of}
use Rattle.geo.proofs.Stores.{sets_append, set_before}
use Rattle.geo.proofs.Wrote.{nine}
use Rattle.pieces.specs.Written.{FitPlaced}
use Rattle.flatten.specs.Parts.{ArcPart}
use Rattle.flatten.specs.Lines.{height_after, end_after, line_after, numbered, lines_of}
use Rattle.flatten.specs.Written.{low_line, low_lines, heightened}
use Rattle.flatten.proofs.Lines.{numbered_length}
use Rattle.flatten.proofs.Passes.{low_length}

-- ---- stores
module _ {A : Type 0} where
  -- a store over a run's first
  pub set_first : (v x : A) (vs l : List A) (i : ℕ) → set (sets l i (v ∷ vs)) i x ≡ sets l i (x ∷ vs)
  set_first v x vs l i = set_before vs (set l i v) (suc i) i x (omega arith) ∙ ap (λ (k : List A). sets k (suc i) vs) (set-set l i v x)

  -- over its second and third
  pub set_second : (u v x : A) (vs l : List A) (i : ℕ) → set (sets l i (u ∷ v ∷ vs)) (i + 1) x ≡ sets l i (u ∷ x ∷ vs)
  set_second u v x vs l i = let e : i + 1 ≡ suc i = omega arith in rw e (set_first v x vs (set l i u) (suc i))

  pub set_third : (t u v x : A) (vs l : List A) (i : ℕ) → set (sets l i (t ∷ u ∷ v ∷ vs)) (i + 2) x ≡ sets l i (t ∷ u ∷ x ∷ vs)
  set_third t u v x vs l i = let e : i + 2 ≡ suc (suc i) = omega arith in rw e (set_first v x vs (set (set l i t) (suc i) u) (suc (suc i)))

  -- over all three
  pub sets_three : (t u v x y z : A) (vs l : List A) (i : ℕ) → sets (sets l i (t ∷ u ∷ v ∷ vs)) i (x ∷ y ∷ z ∷ []) ≡ sets l i (x ∷ y ∷ z ∷ vs)
  sets_three t u v x y z vs l i =
      let e : i + 1 ≡ suc i = omega arith in
      let f : i + 2 ≡ suc (suc i) = omega arith in
      ap (λ (k : List A). set (set k (suc i) y) (suc (suc i)) z) (set_first t x (u ∷ v ∷ vs) l i)
      ∙ ap (λ (k : List A). set k (suc (suc i)) z) (subst (λ (j : ℕ). set (sets l i (x ∷ u ∷ v ∷ vs)) j y ≡ sets l i (x ∷ y ∷ v ∷ vs)) e (set_second x u y (v ∷ vs) l i))
      ∙ subst (λ (j : ℕ). set (sets l i (x ∷ y ∷ v ∷ vs)) j z ≡ sets l i (x ∷ y ∷ z ∷ vs)) f (set_third x y v z vs l i)

-- ---- the loop: the heights left, stored from here, give the whole
module _ (h : ℕ → Float) (k : ℕ) (l₀ : List Float) where
  pub record Raising (l : List Float) (i : ℕ) : Type 0 where
    pub long : length l ≡ length l₀
    pub rest : heightened h (k - i) i l ≡ heightened h k 0 l₀

  pub raising_step : (l l' : List Float) (i : ℕ) → Raising l i → i < k → l' ≡ set l (9 * i + 2) (h (i + 1)) → Raising l' (i + 1)
  unfolding heightened
  raising_step l l' i v g e =
      let d : k - i ≡ suc (k - (i + 1)) = omega arith in
      record {
        long = ap length e ∙ length-set l (9 * i + 2) (h (i + 1)) ∙ v.long;
        rest = ap (heightened h (k - (i + 1)) (i + 1)) e ∙ sym (ap (λ (j : ℕ). heightened h j i l) d) ∙ v.rest;
      }

  pub raising_done : (l : List Float) (i : ℕ) → Raising l i → k ≤ i → l ≡ heightened h k 0 l₀
  unfolding heightened
  raising_done l i v g = let d : k - i ≡ 0 = omega arith in sym (ap (λ (j : ℕ). heightened h j i l) d) ∙ v.rest

-- ---- the Lines of parts, heightened
-- the height of a Line stored over another
raise_one : (x y z t : Float) (rest l : List Float) (i : ℕ)
    → set (sets l i (numbers_of (Line (record { x = x; y = y; z = z })) ++ rest)) (i + 2) t ≡ sets l i (numbers_of (Line (record { x = x; y = y; z = t })) ++ rest)
unfolding numbers_of
raise_one x y z t rest l i = set_third x y z t (+0 ∷ +0 ∷ +0 ∷ +0 ∷ +0 ∷ +0 ∷ rest) l i

-- its whole end
move-one : (p q : Point3D) (l : List Float) (i : ℕ) → sets (sets l i (numbers_of (Line p) ++ [])) i (triple q) ≡ sets l i (numbers_of (Line q) ++ [])
unfolding numbers_of
move-one p q l i = sets_three p.x p.y p.z q.x q.y q.z (+0 ∷ +0 ∷ +0 ∷ +0 ∷ +0 ∷ +0 ∷ []) l i

module _ (m : Point) (a b : Point3D) (n : ℕ) where
  at_end : (i : ℕ) (p : ArcPart) → i ≡ n → line_after m a b n i p ≡ Line b
  unfolding line_after end_after
  at_end i p h = rw (eq-eqb i n h)

  before-end : (i : ℕ) (p : ArcPart) → i < n → line_after m a b n i p ≡ Line (record { x = m.x ⊕ p.to.x; y = m.y ⊕ p.to.y; z = height_after a b n i })
  unfolding line_after end_after
  before-end i p h = rw (ne_eqb i n (λ e. omega (arith, e)))

  -- from place i on, where the parts left are the last of n
  pub heightened-lines : (p : ArcPart) (ps : List ArcPart) (i : ℕ) (l : List Float) → i + suc (length ps) ≡ n
      → sets (heightened (height_after a b n) (length ps) i (sets l (9 * i) (flat numbers_of (low_lines m (p ∷ ps))))) (9 * (i + length ps)) (triple b)
      ≡ sets l (9 * i) (flat numbers_of (numbered (line_after m a b n) (i + 1) (p ∷ ps)))
  unfolding heightened low_lines low_line numbered flat
  heightened-lines p [] i l h =
      let e : i + 0 ≡ i = omega arith in
      rw (at_end (i + 1) p (omega arith), e) (move-one _ b l (9 * i))
  heightened-lines p (q ∷ qs) i l h =
      let c = Line (record { x = m.x ⊕ p.to.x; y = m.y ⊕ p.to.y; z = height_after a b n (i + 1) }) in
      let k = nine c in
      let e : 9 * i + length (numbers_of c) ≡ 9 * (i + 1) = omega arith in
      let d : i + suc (length qs) ≡ i + 1 + length qs = omega arith in
      let low = flat numbers_of (low_lines m (q ∷ qs)) in
      let high = flat numbers_of (numbered (line_after m a b n) (i + 1 + 1) (q ∷ qs)) in
      ap (λ (x : List Float). sets (heightened (height_after a b n) (length qs) (i + 1) x) (9 * (i + suc (length qs))) (triple b))
      (raise_one (m.x ⊕ p.to.x) (m.y ⊕ p.to.y) +0 (height_after a b n (i + 1)) low l (9 * i)
      ∙ sets_append (numbers_of c) low l (9 * i) ∙ ap (λ (j : ℕ). sets (sets l (9 * i) (numbers_of c)) j low) e)
      ∙ ap (λ (j : ℕ). sets (heightened (height_after a b n) (length qs) (i + 1) (sets (sets l (9 * i) (numbers_of c)) (9 * (i + 1)) low)) (9 * j) (triple b)) d
      ∙ heightened-lines q qs (i + 1) (sets l (9 * i) (numbers_of c)) (omega arith)
      ∙ sym (ap (λ (x : Command). sets l (9 * i) (numbers_of x ++ high)) (before-end (i + 1) p (omega arith))
      ∙ sets_append (numbers_of c) high l (9 * i) ∙ ap (λ (j : ℕ). sets (sets l (9 * i) (numbers_of c)) j high) e)

  -- all are Lines
  pub same-kinds : (i : ℕ) (ps : List ArcPart) → map kind_of (low_lines m ps) ≡ map kind_of (numbered (line_after m a b n) i ps)
  unfolding low_lines low_line numbered line_after kind_of
  same-kinds i [] = refl
  same-kinds i (p ∷ ps) = ap (λ (l : List ℕ). 1 ∷ l) (same-kinds (i + 1) ps)

-- what both passes leave together
pub passes-placed : (m : Point) (a b : Point3D) (ps : List ArcPart) (n : ℕ) (ks ks' : List ℕ) (ns ns₁ ns₂ ns₃ : List Float) → 1 ≤ length ps
    → FitPlaced (low_lines m ps) 0 n ks ks' ns ns₁ → ns₂ ≡ heightened (height_after a b n) (n - 1) 0 ns₁ → ns₃ ≡ sets ns₂ (9 * (n - 1)) (triple b)
    → FitPlaced (lines_of m a b ps) 0 n ks ks' ns ns₃
unfolding lines_of
passes-placed m a b [] n ks ks' ns ns₁ ns₂ ns₃ some f e g = absurd (omega arith)
passes-placed m a b (p ∷ ps) n ks ks' ns ns₁ ns₂ ns₃ some f e g =
    let all = p ∷ ps in
    let c : n ≡ length all = f.count ∙ low_length m all in
    let d : n - 1 ≡ 0 + length ps = omega arith in
    let d' : n - 1 ≡ length ps = omega arith in
    let s : 0 + suc (length ps) ≡ n = omega arith in
    record {
      count = c ∙ sym (numbered_length (line_after m a b (length all)) 1 all);
      kinds = f.kinds ∙ ap (sets ks 0) (same-kinds m a b (length all) 1 all);
      numbers =
          g ∙ ap (λ (x : List Float). sets x (9 * (n - 1)) (triple b)) e
          ∙ ap (λ (j : ℕ). sets (heightened (height_after a b n) (n - 1) 0 ns₁) (9 * j) (triple b)) d
          ∙ ap (λ (j : ℕ). sets (heightened (height_after a b n) j 0 ns₁) (9 * (0 + length ps)) (triple b)) d'
          ∙ ap (λ (x : List Float). sets (heightened (height_after a b n) (length ps) 0 x) (9 * (0 + length ps)) (triple b)) f.numbers
          ∙ heightened-lines m a b n p ps 0 ns s
          ∙ ap (λ (j : ℕ). sets ns 0 (flat numbers_of (numbered (line_after m a b j) 1 all))) c;
    }
