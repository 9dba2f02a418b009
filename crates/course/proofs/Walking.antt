-- A walk along a course, a command at a time: what is written, and what is left to write, are the whole. Assumes nothing.
use Prim.Native.Nat.{ℕ, suc, ◌+◌, ◌-◌, ◌*◌, ◌/◌, ◌≤◌, ◌<◌}
use mathlib.Core.Path.{◌≡◌, refl, sym, ap, ◌∙◌, subst}
use mathlib.Core.List.{List, [], ◌∷◌, ◌++◌, append-nil}
use native.Mathlib.Omega.{arith}
use lib.ListN.{length}
use lib.Ieee.{Float}
use Rattle.geo.specs.declared.types.Point3D.{Point3D}
use Rattle.geo.specs.declared.types.Command.{Command}
use Rattle.geo.specs.Lent.{end_of, command_at, commands_from}
use Rattle.pieces.specs.Written.{Noted, NotedPlaced}
use Rattle.pieces.proofs.Writing.{placed-kinds, placed-numbers, Progress, progress_start, progress_step, progress_done}
use Rattle.chain.specs.declared.chain.Walk.{Walk}
use Rattle.chain.specs.Parts.{Part, Join, closed, carried, parts_from, most_of}
use Rattle.geo.specs.Domain.{most_commands}
use Rattle.chain.specs.Chains.{chain_numbers, noted_of, under_way, Room, Stepped}
use Rattle.chain.proofs.Parts.{most_append, noted_append, noted-few, noted-chain, parts_step, parts-end, chain-counts}

-- ---- many commands
module _ (join : Point3D → Command → Join) (fit : List Float → List Noted) (whole : List Noted) (most : ℕ) (ks₀ : List ℕ) (ns₀ : List Float) (ss₀ : List ℕ) where
  -- what is left to write of the commands cs
  abbrev rest : Walk → List Float → List Command → List Noted
  rest w s cs = noted_of fit (parts_from join w.last (under_way w s) cs)

  -- Where the walk stands: what is written, and what is left, are the whole; and it is within the most.
  pub record Going (w : Walk) (s : List Float) (ks : List ℕ) (ns : List Float) (ss : List ℕ) (cs : List Command) : Type 0 where
    pub some : 1 ≤ w.points
    pub inside : 3 * w.points ≤ length s
    pub buffer : length s ≡ chain_numbers
    pub progress : Progress whole (rest w s cs) 0 w.written ks₀ ks ns₀ ns ss₀ ss
    pub within : w.written + most_of (parts_from join w.last (under_way w s) cs) ≤ most

  pub going_start : (w : Walk) (s : List Float) (cs : List Command) → w.points ≡ 1 → w.written ≡ 0 → length s ≡ chain_numbers → rest w s cs ≡ whole
      → most_of (parts_from join w.last (under_way w s) cs) ≤ most → Going w s ks₀ ns₀ ss₀ cs
  going_start w s cs p z b e m =
      record {
        some = omega arith;
        inside = omega arith;
        buffer = b;
        progress = rw z (progress_start whole (rest w s cs) 0 ks₀ ns₀ ss₀ e);
        within = omega arith;
      }

  module _ (w : Walk) (s : List Float) (ks : List ℕ) (ns : List Float) (ss : List ℕ) where
    -- both outputs are as long as at the start
    pub going-kinds : (cs : List Command) → Going w s ks ns ss cs → length ks ≡ length ks₀
    going-kinds cs g = placed-kinds g.progress.done 0 w.written ks₀ ks ns₀ ns ss₀ ss g.progress.wrote

    pub going-numbers : (cs : List Command) → Going w s ks ns ss cs → length ns ≡ length ns₀
    going-numbers cs g = placed-numbers g.progress.done 0 w.written ks₀ ks ns₀ ns ss₀ ss g.progress.wrote

    pub going-room : (c : Command) (cs : List Command) → most ≤ most_commands → most ≤ length ks₀ → 9 * most ≤ length ns₀
        → Going w s ks ns ss (c ∷ cs) → Room (join w.last c) c w s (length ks) (length ns)
    going-room c cs h hk hn g =
        let j = join w.last c in
        let u = under_way w s in
        let a = subst (λ (ps : List Part). w.written + most_of ps ≤ most) (parts_step join w.last u c cs) g.within in
        let b = most_append (closed u c j) (parts_from join (end_of c) (carried u c j) cs) in
        let d = chain-counts join (end_of c) (carried u c j) cs in
        let lk = going-kinds (c ∷ cs) g in
        let ln = going-numbers (c ∷ cs) g in
        record { some = g.some; inside = g.inside; buffer = g.buffer; few = omega arith; chain = omega arith; for_kinds = omega arith; for_numbers = omega arith }

    pub going_step : ((s : List Float) → length (fit s) ≤ length s / 3 - 1) → (r : Walk) (s' : List Float) (ks' : List ℕ) (ns' : List Float) (ss' : List ℕ) (c : Command) (cs : List Command)
        → Going w s ks ns ss (c ∷ cs) → length s' ≡ length s → Stepped fit (join w.last c) c w r s s' ks ks' ns ns' ss ss' → Going r s' ks' ns' ss' cs
    going_step few r s' ks' ns' ss' c cs g long t =
        let j = join w.last c in
        let u = under_way w s in
        let now = noted_of fit (closed u c j) in
        let next = parts_from join (end_of c) (carried u c j) cs in
        let p : parts_from join r.last (under_way r s') cs ≡ next = rw (t.last, t.carries) in
        let o : rest w s (c ∷ cs) ≡ now ++ rest r s' cs =
        ap (noted_of fit) (parts_step join w.last u c cs) ∙ noted_append fit (closed u c j) next ∙ ap (λ (ps : List Part). now ++ noted_of fit ps) (sym p) in
        let v = t.written in
        let f = noted-few fit few (closed u c j) in
        let m = most_append (closed u c j) next in
        let a = subst (λ (ps : List Part). w.written + most_of ps ≤ most) (parts_step join w.last u c cs) g.within in
        let mp = ap most_of p in
        record {
          some = t.some;
          inside = t.inside;
          buffer = long ∙ g.buffer;
          progress =
              subst (λ (n : ℕ). Progress whole (rest r s' cs) 0 n ks₀ ks' ns₀ ns' ss₀ ss') (sym v)
              (progress_step whole (rest w s (c ∷ cs)) 0 ks₀ ns₀ ss₀ w.written ks ns ss g.progress now (rest r s' cs) w.written (length now) ks' ns' ss' o (omega arith) t.wrote);
          within = omega arith;
        }

    pub going_done : (ks' : List ℕ) (ns' : List Float) (ss' : List ℕ) (n : ℕ) → Going w s ks ns ss [] → NotedPlaced (fit (under_way w s)) w.written n ks ks' ns ns' ss ss'
        → NotedPlaced whole 0 (w.written + n) ks₀ ks' ns₀ ns' ss₀ ss'
    going_done ks' ns' ss' n g p =
        let q : rest w s [] ≡ fit (under_way w s) ++ [] =
        ap (noted_of fit) (parts-end join w.last (under_way w s)) ∙ noted-chain fit (under_way w s) ∙ sym (append-nil (fit (under_way w s))) in
        progress_done whole [] 0 ks₀ ns₀ ss₀ (w.written + n) ks' ns' ss'
        (progress_step whole (rest w s []) 0 ks₀ ns₀ ss₀ w.written ks ns ss g.progress (fit (under_way w s)) [] w.written n ks' ns' ss' q (omega arith) p) refl

-- ---- lent commands, one at a time
pub commands_step : (ks : List ℕ) (ns : List Float) (n i : ℕ) → i < n → commands_from ks ns (n - i) i ≡ command_at ks ns i ∷ commands_from ks ns (n - (i + 1)) (i + 1)
unfolding commands_from
commands_step ks ns n i h = let e : n - i ≡ suc (n - (i + 1)) = omega arith in rw e

pub commands-done : (ks : List ℕ) (ns : List Float) (n i : ℕ) → n ≤ i → commands_from ks ns (n - i) i ≡ []
unfolding commands_from
commands-done ks ns n i h = let e : n - i ≡ 0 = omega arith in rw e
