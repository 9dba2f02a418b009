-- A fit that looks at one range after another, the ends of those behind waiting: what is left shrinks by what is written, and ends with nothing. Assumes nothing.
use Prim.Native.Nat.{ℕ, zero, suc, ◌+◌, ◌-◌, ◌*◌, ◌≤◌, ◌<◌}
use mathlib.Core.Path.{◌≡◌, refl, sym, ap, ◌∙◌, subst}
use mathlib.Core.Bool.{true}
use mathlib.Core.List.{List, [], ◌∷◌, ◌++◌, map, append_assoc, append-nil}
use native.Mathlib.Omega.{arith}
use lib.ListN.{length, get_or, set}
use lib.Seq.{get_or-set_same, get_or-set_other}
use lib.Ieee.{Float}
use Rattle.floats.specs.Ops.{◌≺◌, +0}
use Rattle.geo.specs.declared.types.Point3D.{Point3D}
use Rattle.geo.specs.declared.types.Command.{Command}
use Rattle.geo.specs.Domain.{most_points}
use Rattle.pieces.specs.declared.pieces.Rule.{Rule}
use Rattle.pieces.specs.Pieces.{Shape, Piece, Choice, whole, cut_at, choice, follow, pieces_by, pieces_in}
use Rattle.pieces.specs.Commands.{shaped, piece_command, worst_step, piece_worst}
use Rattle.pieces.specs.Written.{noted, note_by, piece_noted, noted_in, NotedPlaced}
use Rattle.pieces.proofs.Recursion.{Inside, inside, pieces-follow}
use Rattle.pieces.proofs.Writing.{none-noted, Progress, progress_start, progress_step}
use Rattle.ranges.specs.declared.ranges.Stand.{Stand}
use Rattle.ranges.specs.Ranges.{behind, left_in, step_noted, step_ends, next_from, step_stand, Ascend, Stands, Looked}

-- ---- an end that waits behind n others leaves those as they are
behind_set : (f : ℕ → ℕ → List Piece) (ends : List ℕ) (k v n hi : ℕ) → n ≤ k → behind f (set ends k v) n hi ≡ behind f ends n hi
behind_set f ends k v zero hi h = refl
behind_set f ends k v (suc n) hi h =
    let e : get_or (set ends k v) n 0 ≡ get_or ends n 0 = get_or-set_other ends k n v 0 (λ e. omega (arith, e)) in
    rw (e, behind_set f ends k v n (get_or ends n 0) (omega arith))

ascend_set : (ends : List ℕ) (k v n hi end : ℕ) → n ≤ k → Ascend ends n hi end → Ascend (set ends k v) n hi end
ascend_set ends k v zero hi end h a = a
ascend_set ends k v (suc n) hi end h a =
    let e : get_or (set ends k v) n 0 ≡ get_or ends n 0 = get_or-set_other ends k n v 0 (λ e. omega (arith, e)) in
    rw e (a.0, ascend_set ends k v n (get_or ends n 0) end (omega arith) a.1)

-- so many ends lie between the range and the end of all
ascend-few : (ends : List ℕ) (n hi end : ℕ) → Ascend ends n hi end → hi + n ≤ end
ascend-few ends zero hi end a = omega (arith, a)
ascend-few ends (suc n) hi end a = let r = ascend-few ends n (get_or ends n 0) end a.1 in omega (arith, a.0)

pub few_ahead : (start end at : ℕ) (ends : List ℕ) (w : Stand) → Stands start end at ends w → w.hi + w.waiting ≤ end
few_ahead start end at ends w h = ascend-few ends w.waiting w.hi end h.ascend

-- ---- one step
module _ (r : Rule) (pos : (+0 ≺ r.tolerance) ≡ true) (at : ℕ → Point3D) (start end place : ℕ) (ends : List ℕ) (w : Stand) where
  left-next : (n : ℕ) → n ≡ w.waiting → behind (pieces_in r at) ends w.waiting w.hi
      ≡ pieces_in r at (next_from ends w.hi (w.place + 1) n).lo (next_from ends w.hi (w.place + 1) n).hi
      ++ behind (pieces_in r at) ends (next_from ends w.hi (w.place + 1) n).waiting (next_from ends w.hi (w.place + 1) n).hi
  unfolding next_from pieces_by
  left-next zero e = let z : w.hi - w.hi ≡ 0 = omega arith in rw (← e, z)
  left-next (suc n) e = rw (← e)

  -- what is left before a step is what it writes, and what is left behind it
  step_left : (c : Choice) → choice r at w.lo w.hi ≡ c → w.lo < w.hi → w.waiting < length ends
      → left_in r at ends w ≡ step_noted r at w c ++ left_in r at (step_ends ends w c) (step_stand ends w c)
  unfolding left_in step_noted step_ends step_stand follow
  step_left (whole s) e h l =
      let f : pieces_in r at w.lo w.hi ≡ record { from = w.lo; to = w.hi; shape = s } ∷ [] = pieces-follow r pos at w.lo w.hi h ∙ rw e in
      rw (f, left-next w.waiting refl)
  step_left (cut_at k) e h l =
      let rest = behind (pieces_in r at) ends w.waiting w.hi in
      let f : pieces_in r at w.lo w.hi ≡ pieces_in r at w.lo k ++ pieces_in r at k w.hi = pieces-follow r pos at w.lo w.hi h ∙ rw e in
      let p : w.waiting + 1 ≡ suc w.waiting = omega arith in
      let g : get_or (set ends w.waiting w.hi) w.waiting 0 ≡ w.hi = get_or-set_same ends w.waiting w.hi 0 l in
      let q : behind (pieces_in r at) (set ends w.waiting w.hi) (w.waiting + 1) k ≡ pieces_in r at k w.hi ++ rest =
      rw (p, g, behind_set (pieces_in r at) ends w.waiting w.hi w.waiting w.hi (omega arith)) in
      ap (map (piece_noted r at))
      (ap (λ (ps : List Piece). ps ++ rest) f ∙ append_assoc (pieces_in r at w.lo k) (pieces_in r at k w.hi) rest ∙ ap (λ (ps : List Piece). pieces_in r at w.lo k ++ ps) (sym q))

  next-stands : (n : ℕ) → n ≡ w.waiting → Stands start end place ends w → w.lo < w.hi → Stands start end place ends (next_from ends w.hi (w.place + 1) n)
  unfolding next_from
  next-stands zero e h l =
      let a : w.hi ≡ end = subst (λ (n : ℕ). Ascend ends n w.hi end) (sym e) h.ascend in
      let f = h.from in
      let g = h.few in
      let p = h.placed in
      record { from = omega arith; some = λ z. absurd (omega arith); ordered = omega arith; ascend = a; placed = omega arith; few = omega arith }
  next-stands (suc n) e h l =
      let a = subst (λ (k : ℕ). Ascend ends k w.hi end) (sym e) h.ascend in
      let b = a.0 in
      let f = h.from in
      let g = h.few in
      let p = h.placed in
      record { from = omega arith; some = λ z. b; ordered = omega arith; ascend = a.1; placed = omega arith; few = omega arith }

  -- it stands as well behind a step
  step_stands : (c : Choice) → Inside r pos at w.lo w.hi c → Stands start end place ends w → w.lo < w.hi → w.waiting < length ends
      → Stands start end place (step_ends ends w c) (step_stand ends w c)
  unfolding step_ends step_stand
  step_stands (whole s) v h l q = next-stands w.waiting refl h l
  step_stands (cut_at k) v h l q =
      let p : w.waiting + 1 ≡ suc w.waiting = omega arith in
      let g : get_or (set ends w.waiting w.hi) w.waiting 0 ≡ w.hi = get_or-set_same ends w.waiting w.hi 0 q in
      let a = ascend_set ends w.waiting w.hi w.waiting w.hi end (omega arith) h.ascend in
      let lo = v.0 in
      record {
        from = h.from;
        some = λ z. v.0;
        ordered = omega arith;
        ascend = rw (p, g) (v.1, a);
        placed = h.placed;
        few = h.few;
      }

-- ---- where a fit begins, and where it has ended
module _ (r : Rule) (at : ℕ → Point3D) (start end place : ℕ) (ends : List ℕ) where
  pub stands-first : start < end → Stands start end place ends (record { lo = start; hi = end; waiting = 0; place = place })
  stands-first h = record { from = omega arith; some = λ z. h; ordered = omega arith; ascend = refl; placed = omega arith; few = omega arith }

  left-first : left_in r at ends (record { lo = start; hi = end; waiting = 0; place = place }) ≡ noted_in r at start end
  unfolding left_in noted_in
  left-first = ap (map (piece_noted r at)) (append-nil (pieces_in r at start end))

  pub progress_first : (ks : List ℕ) (ns : List Float) (ss : List ℕ)
      → Progress (noted_in r at start end) (left_in r at ends (record { lo = start; hi = end; waiting = 0; place = place })) place (place - place) ks ks ns ns ss ss
  progress_first ks ns ss = let z : place - place ≡ 0 = omega arith in rw z (progress_start (noted_in r at start end) _ place ks ns ss left-first)

  none-behind : (n hi : ℕ) → Ascend ends n hi end → end ≤ hi → behind (pieces_in r at) ends n hi ≡ []
  none-behind zero hi a h = refl
  none-behind (suc n) hi a h = absurd (let f = ascend-few ends (suc n) hi end a in omega arith)

  pub left-none : (w : Stand) → Stands start end place ends w → end ≤ w.lo → left_in r at ends w ≡ []
  unfolding left_in pieces_by
  left-none w h l =
      let f = ascend-few ends w.waiting w.hi end h.ascend in
      let o = h.ordered in
      let z : w.hi - w.lo ≡ 0 = omega arith in
      rw (z, none-behind w.waiting w.hi h.ascend (omega arith))

-- ---- the next range by the tests that the code makes
pub next-none : (ends : List ℕ) (hi place n : ℕ) → n ≡ 0 → record { lo = hi; hi = hi; waiting = 0; place = place } ≡ next_from ends hi place n
unfolding next_from
next-none ends hi place n e = rw e

pub next-some : (ends : List ℕ) (hi place n v : ℕ) → (n ≡ 0 → ⊥) → v ≡ get_or ends (n - 1) 0 → record { lo = hi; hi = v; waiting = n - 1; place = place } ≡ next_from ends hi place n
unfolding next_from
next-some ends hi place zero v h e = absurd (h refl)
next-some ends hi place (suc n) v h e = let z : suc n - 1 ≡ n = omega arith in rw (e, z)

-- ---- what was looked at, the choice being known
module _ (r : Rule) (at : ℕ → Point3D) (w w' : Stand) (ends ends' ks ks' : List ℕ) (ns ns' : List Float) (ss ss' : List ℕ) where
  pub looked_whole : (s : Shape) (c : Command) (n k : ℕ) → choice r at w.lo w.hi ≡ whole s → c ≡ shaped (at w.lo) (at w.hi) s
      → n ≡ note_by r.note (w.hi - w.lo) k → k ≡ worst_step at w.lo w.hi s → ends' ≡ ends
      → w' ≡ next_from ends w.hi (w.place + 1) w.waiting → NotedPlaced (noted c n ∷ []) w.place 1 ks ks' ns ns' ss ss'
      → Looked r at w w' ends ends' ks ks' ns ns' ss ss'
  unfolding step_stand step_ends step_noted piece_noted piece_command piece_worst
  looked_whole s c n k e q g v z f p = record { stands = rw e f; put = rw e z; wrote = rw (e, ← q, ← v, ← g) p }

  pub looked_cut : (k : ℕ) → choice r at w.lo w.hi ≡ cut_at k → ends' ≡ set ends w.waiting w.hi
      → w' ≡ record { lo = w.lo; hi = k; waiting = w.waiting + 1; place = w.place } → ks' ≡ ks → ns' ≡ ns → ss' ≡ ss
      → Looked r at w w' ends ends' ks ks' ns ns' ss ss'
  unfolding step_stand step_ends step_noted
  looked_cut k e z f a b c = record { stands = rw e f; put = rw e z; wrote = rw (e, a, b, c) (none-noted [] refl w.place ks ns ss) }

-- ---- a turn of the loop
module _ (r : Rule) (pos : (+0 ≺ r.tolerance) ≡ true) (at : ℕ → Point3D) (start end place : ℕ) (w w' : Stand) (ends ends' ks₀ ks ks' : List ℕ) (ns₀ ns ns' : List Float) (ss₀ ss ss' : List ℕ)
    (q : Looked r at w w' ends ends' ks ks' ns ns' ss ss') (h : Stands start end place ends w) (some : w.lo < end) (room : end - start ≤ length ends) (most : end < most_points) where
  few_wait : w.waiting < length ends
  few_wait = let f = ascend-few ends w.waiting w.hi end h.ascend in let l = h.some some in let g = h.from in omega arith

  pub turn_stands : Stands start end place ends' w'
  turn_stands =
      let c = choice r at w.lo w.hi in
      rw (q.stands, q.put) (step_stands r pos at start end place ends w c (inside r pos at w.lo w.hi) h (h.some some) few_wait)

  next_place : (m : ℕ) → (next_from ends w.hi (w.place + 1) m).place ≡ w.place + 1
  unfolding next_from
  next_place zero = refl
  next_place (suc m) = refl

  step_place : (c : Choice) → (step_stand ends w c).place ≡ w.place + length (step_noted r at w c)
  unfolding step_stand step_noted
  step_place (whole s) = next_place w.waiting
  step_place (cut_at k) = omega arith

  pub turn_progress : Progress (noted_in r at start end) (left_in r at ends w) place (w.place - place) ks₀ ks ns₀ ns ss₀ ss
      → Progress (noted_in r at start end) (left_in r at ends' w') place (w'.place - place) ks₀ ks' ns₀ ns' ss₀ ss'
  turn_progress p =
      let c = choice r at w.lo w.hi in
      let n = length (step_noted r at w c) in
      let e : left_in r at ends w ≡ step_noted r at w c ++ left_in r at ends' w' =
      step_left r pos at start end place ends w c refl (h.some some) few_wait ∙ rw (q.stands, q.put) in
      let a = h.placed in
      let b : w'.place ≡ w.place + n = ap (λ (v : Stand). v.place) q.stands ∙ step_place c in
      let z : w.place - place + n ≡ w'.place - place = omega arith in
      subst (λ (k : ℕ). Progress (noted_in r at start end) (left_in r at ends' w') place k ks₀ ks' ns₀ ns' ss₀ ss') z
      (progress_step (noted_in r at start end) (left_in r at ends w) place ks₀ ns₀ ss₀ (w.place - place) ks ns ss p (step_noted r at w c) (left_in r at ends' w') w.place n ks' ns' ss' e (omega arith) q.wrote)

  -- the range grows shorter, or what is left of all does
  next_less : (n : ℕ) → n ≡ w.waiting
      → (end - (next_from ends w.hi (w.place + 1) n).lo) * most_points + ((next_from ends w.hi (w.place + 1) n).hi - (next_from ends w.hi (w.place + 1) n).lo) < (end - w.lo) * most_points + (w.hi - w.lo)
  unfolding next_from
  next_less zero e = let l = h.some some in omega arith
  next_less (suc n) e =
      let l = h.some some in
      let a = subst (λ (k : ℕ). Ascend ends k w.hi end) (sym e) h.ascend in
      let b = ascend-few ends n (get_or ends n 0) end a.1 in omega (arith, a.0)

  step_less : (c : Choice) → Inside r pos at w.lo w.hi c
      → (end - (step_stand ends w c).lo) * most_points + ((step_stand ends w c).hi - (step_stand ends w c).lo) < (end - w.lo) * most_points + (w.hi - w.lo)
  unfolding step_stand
  step_less (whole s) v = next_less w.waiting refl
  step_less (cut_at k) v = omega (arith, v.0, v.1)

  pub turn_less : (end - w'.lo) * most_points + (w'.hi - w'.lo) < (end - w.lo) * most_points + (w.hi - w.lo)
  turn_less = subst (λ (v : Stand). (end - v.lo) * most_points + (v.hi - v.lo) < (end - w.lo) * most_points + (w.hi - w.lo)) (sym q.stands) (step_less (choice r at w.lo w.hi) (inside r pos at w.lo w.hi))
