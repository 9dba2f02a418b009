-- The parts of one quarter: they follow one another, and each met the test or took all its halvings. Assumes nothing.
use Prim.Native.Nat.{ℕ, zero, suc}
use mathlib.Core.Path.{◌≡◌, refl, sym, ap, subst}
use mathlib.Core.Logic.{◌⊎◌, inl, inr, ⊎_elim}
use mathlib.Core.Bool.{true, false}
use mathlib.Core.List.{List, [], ◌∷◌, ◌++◌}
use native.Mathlib.Omega.{arith}
use lib.ListN.{length}
use lib.Ieee.{Float}
use Rattle.floats.specs.Ops.{◌≺◌}
use Rattle.floats.proofs.Order.{either}
use Rattle.geo.specs.declared.types.Point.{Point}
use Rattle.flatten.specs.Parts.{most_halvings, bulge, middle, ArcPart, halved}
use Rattle.flatten.proofs.Parts.{halved-some, quarter-few}
use Rattle.arc_lines.specs.Laws.{Chained, Half, first, second, Finished, AllFinished, QuarterDrawn}

-- ---- one run of parts behind another
pub chained-both : (u v w : Point) (ps qs : List ArcPart) → Chained u ps v → Chained v qs w → Chained u (ps ++ qs) w
chained-both u v w [] qs e h = subst (λ (t : Point). Chained t qs w) (sym e) h
chained-both u v w (p ∷ ps) qs e h = (e.0, chained-both p.to v w ps qs e.1 h)

module _ (r limit : Float) where
  finished-both : (most : ℕ) (u w : Point) (ps qs : List ArcPart) → AllFinished r limit most u w ps → AllFinished r limit most u w qs → AllFinished r limit most u w (ps ++ qs)
  finished-both most u w [] qs e h = h
  finished-both most u w (p ∷ ps) qs e h = (e.0, finished-both most u w ps qs e.1 h)

  -- a part of the first half, or of the second, is one of the whole
  module _ (n : ℕ) (u w : Point) (cut : (bulge r u w ≺ limit) ≡ false) where
    one_more : (hs : List Half) (p : ArcPart) → ((bulge r p.from p.to ≺ limit) ≡ true) ⊎ (length hs ≡ n)
        → ((bulge r p.from p.to ≺ limit) ≡ true) ⊎ (suc (length hs) ≡ suc n)
    one_more hs p d = ⊎_elim inl (λ e. inr (ap suc e)) d

    of_first : (p : ArcPart) → Finished r limit n u (middle r u w) p → Finished r limit (suc n) u w p
    of_first p f = record { halvings = first ∷ f.halvings; came = (cut, f.came); at_most = let l = f.at_most in omega arith; done = one_more f.halvings p f.done }

    of_second : (p : ArcPart) → Finished r limit n (middle r u w) w p → Finished r limit (suc n) u w p
    of_second p f = record { halvings = second ∷ f.halvings; came = (cut, f.came); at_most = let l = f.at_most in omega arith; done = one_more f.halvings p f.done }

    all_first : (ps : List ArcPart) → AllFinished r limit n u (middle r u w) ps → AllFinished r limit (suc n) u w ps
    all_first [] f = tt
    all_first (p ∷ ps) f = (of_first p f.0, all_first ps f.1)

    all-second : (ps : List ArcPart) → AllFinished r limit n (middle r u w) w ps → AllFinished r limit (suc n) u w ps
    all-second [] f = tt
    all-second (p ∷ ps) f = (of_second p f.0, all-second ps f.1)

  halved-chained : (n : ℕ) (u w : Point) → Chained u (halved r limit n u w) w
  unfolding halved
  halved-chained zero u w = (refl, refl)
  halved-chained (suc n) u w =
      ⊎_elim (λ h. rw h (refl, refl))
      (λ h. let m = middle r u w in rw h (chained-both u m w (halved r limit n u m) (halved r limit n m w) (halved-chained n u m) (halved-chained n m w)))
      (either (bulge r u w ≺ limit))

  halved-finished : (n : ℕ) (u w : Point) → AllFinished r limit n u w (halved r limit n u w)
  unfolding halved
  halved-finished zero u w = (record { halvings = []; came = refl; at_most = omega arith; done = inr refl }, tt)
  halved-finished (suc n) u w =
      ⊎_elim (λ h. rw h (record { halvings = []; came = refl; at_most = omega arith; done = inl h }, tt))
      (λ h.
      let m = middle r u w in
      rw h
      (finished-both (suc n) u w (halved r limit n u m) (halved r limit n m w) (all_first n u w h (halved r limit n u m) (halved-finished n u m))
      (all-second n u w h (halved r limit n m w) (halved-finished n m w))))
      (either (bulge r u w ≺ limit))

  -- Each quarter, and the rest of an arc, is drawn as the request says.
  pub quarter-drawn : (u w : Point) → QuarterDrawn r limit u w (halved r limit most_halvings u w)
  quarter-drawn u w =
      record {
        chained = halved-chained most_halvings u w;
        finished = halved-finished most_halvings u w;
        some = halved-some r limit most_halvings u w;
        few = quarter-few r limit u w;
      }
