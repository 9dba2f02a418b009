-- The walk along lent commands. Assumes nothing.
use Prim.Native.Nat.{ℕ, ◌+◌, ◌-◌, ◌*◌, ◌≤◌, ◌<◌}
use mathlib.Core.Path.{◌≡◌, refl, sym, ap, ◌∙◌, subst}
use mathlib.Core.Bool.{true}
use mathlib.Core.List.{List, [], ◌∷◌}
use native.Mathlib.Omega.{arith}
use lib.ListN.{length, take}
use lib.Ieee.{Float}
use Rattle.floats.specs.Ops.{◌≺◌, +0}
use Rattle.geo.specs.declared.types.Point3D.{Point3D}
use Rattle.geo.specs.declared.types.Command.{Command}
use Rattle.geo.specs.Lent.{triple, command_at, commands_from}
use Rattle.pieces.specs.declared.pieces.Rule.{Rule}
use Rattle.pieces.specs.Written.{NotedPlaced}
use Rattle.chain.specs.declared.chain.Walk.{Walk}
use Rattle.chain.specs.declared.chain.Flush.{Flush}
use Rattle.chain.specs.Parts.{most_of}
use Rattle.course.specs.Course.{lent_course}
use Rattle.geo.specs.Domain.{most_commands}
use Rattle.chain.specs.Chains.{chain_points, chain_numbers, joined_by, flushed_by, under_way, Room, Stepped}
use Rattle.chain.proofs.Chains.{flushed_few}
use Rattle.chain.proofs.Stepping.{length_front}
use Rattle.chain.proofs.Parts.{chain-counts}
use Rattle.course.specs.Walks.{parts_by, fit_by}
use Rattle.course.proofs.Walking.{Going, going_start, going-kinds, going-numbers, going-room, going_step, going_done, commands_step, commands-done}

module _ (f : Flush) (rule : Rule) (p : Point3D) (ks : List ℕ) (ns : List Float) (oks : List ℕ) (ons : List Float) (oss : List ℕ) where
  -- where the walk stands before the commands cs,
  abbrev Before : Walk → List Float → List ℕ → List Float → List ℕ → List Command → Type 0
  Before w s ks' ns' ss' cs = Going (joined_by f rule.tolerance) (flushed_by f rule) (fit_by f rule p (lent_course ks ns)) (most_of (parts_by f rule.tolerance p (lent_course ks ns))) oks ons oss w s ks' ns' ss' cs

  -- and before the command at index i
  abbrev pub On : Walk → List Float → List ℕ → List Float → List ℕ → ℕ → Type 0
  On w s ks' ns' ss' i =
      Going (joined_by f rule.tolerance) (flushed_by f rule) (fit_by f rule p (lent_course ks ns)) (most_of (parts_by f rule.tolerance p (lent_course ks ns))) oks ons oss w s ks' ns' ss' (commands_from ks ns (length ks - i) i)

  pub on-start : (w : Walk) (s : List Float) → w ≡ record { points = 1; last = p; written = 0 } → take 3 s ≡ triple p → length s ≡ chain_numbers → On w s oks ons oss 0
  unfolding fit_by parts_by
  on-start w s e t l =
      let q : length ks - 0 ≡ length ks = omega arith in
      rw (q, e)
      (going_start (joined_by f rule.tolerance) (flushed_by f rule) (fit_by f rule p (lent_course ks ns)) (most_of (parts_by f rule.tolerance p (lent_course ks ns))) oks ons oss (record { points = 1; last = p; written = 0 }) s (lent_course ks ns)
      refl refl l (rw t) (rw t (omega arith)))

  module _ (w : Walk) (s : List Float) (ks' : List ℕ) (ns' : List Float) (ss' : List ℕ) (i : ℕ) (g : On w s ks' ns' ss' i) where
    -- one command further
    module _ (c : Command) (h : i < length ks) (e : c ≡ command_at ks ns i) where
      at_command : Before w s ks' ns' ss' (c ∷ commands_from ks ns (length ks - (i + 1)) (i + 1))
      at_command =
          subst (λ (cs : List Command). Before w s ks' ns' ss' cs)
          (commands_step ks ns (length ks) i h ∙ ap (λ (x : Command). x ∷ commands_from ks ns (length ks - (i + 1)) (i + 1)) (sym e)) g

      pub on_room : most_of (parts_by f rule.tolerance p (lent_course ks ns)) ≤ most_commands → most_of (parts_by f rule.tolerance p (lent_course ks ns)) ≤ length oks → 9 * most_of (parts_by f rule.tolerance p (lent_course ks ns)) ≤ length ons
          → Room (joined_by f rule.tolerance w.last c) c w s (length ks') (length ns')
      on_room a b d = going-room (joined_by f rule.tolerance) (flushed_by f rule) _ _ oks ons oss w s ks' ns' ss' c _ a b d at_command

      pub on_step : (+0 ≺ rule.tolerance) ≡ true → (r : Walk) (s' : List Float) (ks'' : List ℕ) (ns'' : List Float) (ss'' : List ℕ) → length s' ≡ length s
          → Stepped (flushed_by f rule) (joined_by f rule.tolerance w.last c) c w r s s' ks' ks'' ns' ns'' ss' ss'' → On r s' ks'' ns'' ss'' (i + 1)
      on_step pos r s' ks'' ns'' ss'' l t = going_step (joined_by f rule.tolerance) (flushed_by f rule) _ _ oks ons oss w s ks' ns' ss' (flushed_few f rule pos) r s' ks'' ns'' ss'' c _ at_command l t

    -- behind the last
    module _ (h : length ks ≤ i) where
      at_end : Before w s ks' ns' ss' []
      at_end = subst (λ (cs : List Command). Before w s ks' ns' ss' cs) (commands-done ks ns (length ks) i h) g

      pub last-room : most_of (parts_by f rule.tolerance p (lent_course ks ns)) ≤ most_commands → most_of (parts_by f rule.tolerance p (lent_course ks ns)) ≤ length oks → 9 * most_of (parts_by f rule.tolerance p (lent_course ks ns)) ≤ length ons
          → (length (under_way w s) ≡ 3 * w.points) × (w.points ≤ chain_points) × (w.written + (w.points - 1) ≤ most_commands) × (w.written + (w.points - 1) ≤ length ks') × (9 * (w.written + (w.points - 1)) ≤ length ns')
      last-room a b d =
          let v = at_end in
          let l = length_front (3 * w.points) s v.inside in
          let n = chain-counts (joined_by f rule.tolerance) w.last (under_way w s) [] in
          let m = v.within in
          let o = v.inside in
          let q = v.buffer in
          let u = going-kinds (joined_by f rule.tolerance) (flushed_by f rule) _ _ oks ons oss w s ks' ns' ss' [] v in
          let t = going-numbers (joined_by f rule.tolerance) (flushed_by f rule) _ _ oks ons oss w s ks' ns' ss' [] v in
          (l, omega arith, omega arith, omega arith, omega arith)

      pub on-done : (ks'' : List ℕ) (ns'' : List Float) (ss'' : List ℕ) (n : ℕ) → NotedPlaced (flushed_by f rule (under_way w s)) w.written n ks' ks'' ns' ns'' ss' ss''
          → NotedPlaced (fit_by f rule p (lent_course ks ns)) 0 (w.written + n) oks ks'' ons ns'' oss ss''
      on-done ks'' ns'' ss'' n done = going_done (joined_by f rule.tolerance) (flushed_by f rule) _ _ oks ons oss w s ks' ns' ss' ks'' ns'' ss'' n at_end done
