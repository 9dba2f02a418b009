-- Loops over commands: read from bytes to kinds and numbers, and written as bytes. Assumes nothing.
use Prim.Native.Nat.{ℕ, suc, ◌+◌, ◌-◌, ◌*◌, ◌≤◌, ◌<◌}
use mathlib.Core.Path.{◌≡◌, refl, sym, ap, ◌∙◌}
use mathlib.Core.List.{List, [], ◌∷◌, ◌++◌, map}
use native.Mathlib.Omega.{arith}
use lib.ListN.{length, set, take, drop, length-set}
use lib.Seq.{sets, length-sets}
use lib.Ieee.{Float}
use Rattle.geo.specs.declared.types.Command.{Command}
use Rattle.geo.specs.Lent.{flat, kind_of, numbers_of, command_at, commands_from}
use Rattle.geo.proofs.Wrote.{nine}
use Rattle.file.specs.Command.{decoded, enc, commands_at}
use Rattle.file.proofs.Stores.{behind, length_enc}

-- the commands of n times 73 bytes
abbrev pub read_from : List ℕ → ℕ → ℕ → List Command
read_from s at n = map decoded (commands_at s at n)

read_step : (s : List ℕ) (b n i : ℕ) → i < n → read_from s b (n - i) ≡ decoded (take 73 (drop b s)) ∷ read_from s (b + 73) (n - (i + 1))
unfolding commands_at
read_step s b n i h = let e : n - i ≡ suc (n - (i + 1)) = omega arith in rw e

read_none : (s : List ℕ) (b n i : ℕ) → n ≤ i → read_from s b (n - i) ≡ []
unfolding commands_at
read_none s b n i h = let e : n - i ≡ 0 = omega arith in rw e

-- where reading stands before command i: what is left, read from here, gives the whole
pub record Reading (s : List ℕ) (at n : ℕ) (ks₀ ks : List ℕ) (ns₀ ns : List Float) (i : ℕ) : Type 0 where
  pub inside : i ≤ n
  pub long_kinds : length ks ≡ length ks₀
  pub long_numbers : length ns ≡ length ns₀
  pub kinds : sets ks i (map kind_of (read_from s (at + 73 * i) (n - i))) ≡ sets ks₀ 0 (map kind_of (read_from s at n))
  pub numbers : sets ns (9 * i) (flat numbers_of (read_from s (at + 73 * i) (n - i))) ≡ sets ns₀ 0 (flat numbers_of (read_from s at n))

module _ (s : List ℕ) (at n : ℕ) (ks₀ : List ℕ) (ns₀ : List Float) where
  pub reading_start : Reading s at n ks₀ ks₀ ns₀ ns₀ 0
  reading_start = let e : n - 0 ≡ n = omega arith in let f : at + 73 * 0 ≡ at = omega arith in record { inside = omega arith; long_kinds = refl; long_numbers = refl; kinds = rw (e, f); numbers = rw (e, f) }

  -- command c is read
  pub reading_step : (ks ks' : List ℕ) (ns ns' : List Float) (i : ℕ) (c : Command) → Reading s at n ks₀ ks ns₀ ns i → i < n → c ≡ decoded (take 73 (drop (at + 73 * i) s))
      → ks' ≡ set ks i (kind_of c) → ns' ≡ sets ns (9 * i) (numbers_of c) → Reading s at n ks₀ ks' ns₀ ns' (i + 1)
  unfolding flat
  reading_step ks ks' ns ns' i c r h d k m =
      let b : ℕ = at + 73 * i in
      let w : at + 73 * (i + 1) ≡ b + 73 = omega arith in
      let z : read_from s b (n - i) ≡ c ∷ read_from s (b + 73) (n - (i + 1)) = read_step s b n i h ∙ rw d in
      let t : i + 1 ≡ suc i = omega arith in
      let q : 9 * (i + 1) ≡ 9 * i + 9 = omega arith in
      record {
        inside = omega arith;
        long_kinds = ap length k ∙ length-set ks i (kind_of c) ∙ r.long_kinds;
        long_numbers = ap length m ∙ length-sets ns (9 * i) (numbers_of c) ∙ r.long_numbers;
        kinds = rw w (ap (λ (l : List ℕ). sets l (i + 1) (map kind_of (read_from s (b + 73) (n - (i + 1))))) k ∙ rw t (sym (ap (λ (cs : List Command). sets ks i (map kind_of cs)) (rw t at z))) ∙ r.kinds);
        numbers =
            rw (w, q) (behind (numbers_of c) (flat numbers_of (read_from s (b + 73) (n - (i + 1)))) ns ns' _ (9 * i) 9 (nine c) m refl
            ∙ sym (ap (λ (cs : List Command). sets ns (9 * i) (flat numbers_of cs)) z) ∙ r.numbers);
      }

  pub reading_done : (ks : List ℕ) (ns : List Float) (i : ℕ) → Reading s at n ks₀ ks ns₀ ns i → n ≤ i
      → (ks ≡ sets ks₀ 0 (map kind_of (read_from s at n))) × (ns ≡ sets ns₀ 0 (flat numbers_of (read_from s at n)))
  unfolding flat
  reading_done ks ns i r h = (
    sym (ap (λ (cs : List Command). sets ks i (map kind_of cs)) (read_none s (at + 73 * i) n i h)) ∙ r.kinds,
    sym (ap (λ (cs : List Command). sets ns (9 * i) (flat numbers_of cs)) (read_none s (at + 73 * i) n i h)) ∙ r.numbers,
  )

-- ---- writing
-- where writing stands before command i
pub record Putting (ks : List ℕ) (ns : List Float) (n : ℕ) (out₀ out : List ℕ) (to i : ℕ) : Type 0 where
  pub inside : i ≤ n
  pub long : length out ≡ length out₀
  pub bytes : sets out (to + 73 * i) (flat enc (commands_from ks ns (n - i) i)) ≡ sets out₀ to (flat enc (commands_from ks ns n 0))

module _ (ks : List ℕ) (ns : List Float) (n : ℕ) (out₀ : List ℕ) (to : ℕ) where
  pub putting_start : Putting ks ns n out₀ out₀ to 0
  putting_start =
      let e : n - 0 ≡ n = omega arith in
      let f : to + 73 * 0 ≡ to = omega arith in
      record { inside = omega arith; long = refl; bytes = rw (e, f) }

  pub putting_step : (out out' : List ℕ) (i : ℕ) (c : Command) → Putting ks ns n out₀ out to i → i < n → c ≡ command_at ks ns i → out' ≡ sets out (to + 73 * i) (enc c)
      → Putting ks ns n out₀ out' to (i + 1)
  putting_step out out' i c p h e o =
      let t = to + 73 * i in
      let next : to + 73 * (i + 1) ≡ t + 73 = omega arith in
      let z : flat enc (commands_from ks ns (n - i) i) ≡ enc c ++ flat enc (commands_from ks ns (n - (i + 1)) (i + 1)) =
      unfold flat in unfold commands_from in let w : n - i ≡ suc (n - (i + 1)) = omega arith in rw (w, e) in
      let left = flat enc (commands_from ks ns (n - (i + 1)) (i + 1)) in
      record {
        inside = omega arith;
        long = ap length o ∙ length-sets out t (enc c) ∙ p.long;
        bytes = behind (enc c) left out out' _ t 73 (length_enc c) o (ap (λ (k : ℕ). sets out' k left) next) ∙ sym (ap (sets out t) z) ∙ p.bytes;
      }

  pub putting_done : (out : List ℕ) (i : ℕ) → Putting ks ns n out₀ out to i → n ≤ i → out ≡ sets out₀ to (flat enc (commands_from ks ns n 0))
  putting_done out i p h =
      let z : flat enc (commands_from ks ns (n - i) i) ≡ [] = unfold flat in unfold commands_from in let w : n - i ≡ 0 = omega arith in rw w in
      sym (ap (sets out (to + 73 * i)) z) ∙ p.bytes
