-- What a call of the live thinner came to, from its result and the state that it left. Assumes nothing.
use Prim.Native.Nat.{ℕ, ◌≤◌}
use mathlib.Core.Path.{◌≡◌, refl, sym, ap, ◌∙◌, subst}
use mathlib.Core.Logic.{⊎_elim}
use mathlib.Core.List.{List, [], ◌∷◌}
use native.Mathlib.Omega.{arith}
use lib.ListN.{length}
use lib.Seq.{sets}
use lib.Dec.{ltb}
use lib.Ieee.{Float}
use Rattle.std.specs.Prelude.{Option, Result, Ok, Err, option_to_list}
use Rattle.floats.proofs.Order.{either}
use Rattle.geo.specs.declared.types.Point3D.{Point3D}
use Rattle.geo.specs.declared.refusal.Refusal.{Refusal}
use Rattle.geo.specs.Lent.{flat, triple}
use Rattle.geo.specs.Outcome.{refusal, Outcome, refused, gives, unless, left}
use Rattle.geo.specs.Refusal.{number}
use Rattle.geo.specs.Wrote.{answer}
use Rattle.geo.proofs.Rows.{unless-given}
use Rattle.live.specs.declared.live.Live.{Live}
use Rattle.live.specs.Thinner.{Next, shut, started}
use Rattle.live.specs.Calls.{feed, close, start_rows, live_rows, next_of, live_call, end_for, end_given, ends_given, state_after, Fed, Tuned}
use Rattle.live.proofs.Counts.{push-most}
use Rattle.exports.specs.Plain.{number_of, laid_plain, told}
use Rattle.exports.specs.LiveState.{flag_of, start_call, end_numbers, end_count, Began, Kept, Retold, Ended, Shut}

-- ---- a start
module _ (t : Float) (t₀ : Float) (ps : List Float) (k f : ℕ) where
  pub begun : (s : Live) → gives s ≡ start_call t → Began (start_call t) t₀ s.tolerance ps s.points k s.count f 0 0
  unfolding start_call number_of told flag_of started
  begun s e =
      let q : s ≡ started t = given-is (refusal (start_rows t)) (started t) s (sym e) in
      rw (sym e) (record { says = refl; tolerance = refl; points = refl; count = refl; flag_is = rw q })
    where
      given-is : (n : ℕ) (a x : Live) → unless n a ≡ gives x → x ≡ a
      given-is n a x h = sym (unless-given n a x h).1

  pub not_begun : (n r : ℕ) → refused n ≡ start_call t → r ≡ n → Began (start_call t) t₀ t₀ ps ps k k f f r
  unfolding number_of told
  not_begun n r e h = rw (sym e) (record { says = h; tolerance = refl; points = refl; count = refl; flag_is = refl })

-- ---- an outcome that hands out at most one end, s' being the state afterwards
record Given (o : Outcome Next) (s' : Live) (ends : List Point3D) : Type 0 where
  next : Next
  is : o ≡ gives next
  state : s' ≡ next.state
  handed : next.ends ≡ ends

module _ (s s' : Live) (o : Outcome Next) (few : (n : Next) → o ≡ gives n → length n.ends ≤ 1) (a : s' ≡ state_after s o) where
  given : (e : Option Point3D) → gives e ≡ end_given o → Given o s' (option_to_list e)
  given e h = go o few a h
    where
      ends : (l : List Point3D) → length l ≤ 1 → e ≡ end_for l → l ≡ option_to_list e
      ends [] m q = unfold end_for in rw q
      ends (x ∷ []) m q = unfold end_for in rw q
      ends (x ∷ y ∷ l) m q = absurd (omega arith)

      go : (o : Outcome Next) → ((n : Next) → o ≡ gives n → length n.ends ≤ 1) → s' ≡ state_after s o → gives e ≡ end_given o → Given o s' (option_to_list e)
      go (refused k) f b q = absurd (unfold end_given in let z : ◌≡◌ {A = ℕ} 0 1 = cc in omega arith)
      go (gives n) f b q =
          record { next = n; is = refl; state = unfold state_after in b; handed = ends n.ends (f n refl) (unfold end_given in cc) }

end-refused : (o : Outcome Next) (k : ℕ) → refused k ≡ end_given o → o ≡ refused k
unfolding end_given
end-refused (refused m) k q = cc
end-refused (gives n) k q = absurd (let z : ◌≡◌ {A = ℕ} 0 1 = cc in omega arith)

-- ---- the promises
module _ (o : Outcome Next) (s' : Live) (ends : List Point3D) (g : Given o s' ends) where
  kept : (ps : List Float) (n : ℕ) → Kept o ps s'.points n s'.count 0
  unfolding number_of told
  kept ps n = rw (g.is, g.state) (record { says = refl; points = refl; count = refl })

  ended : (out out' : List Float) (h : ℕ) → out' ≡ sets out 0 (flat triple ends) → Ended o out out' h (length ends) 0
  unfolding number_of told laid_plain end_numbers end_count
  ended out out' h e = rw (g.is, g.handed) (record { says = refl; numbers = e; count = refl })

module _ (o : Outcome Next) (k r : ℕ) (e : o ≡ refused k) (i : r ≡ k) where
  not_kept : (ps : List Float) (n : ℕ) → Kept o ps ps n n r
  unfolding number_of told
  not_kept ps n = rw e (record { says = i; points = refl; count = refl })

  not_shut : (ps : List Float) (n f : ℕ) → Shut o ps n f f r
  unfolding number_of told
  not_shut ps n f = rw e (record { says = i; points = refl; count = refl; flag_is = refl })

  not_ended : (out : List Float) (h : ℕ) → Ended o out out h h r
  unfolding number_of told laid_plain
  not_ended out h = rw e (record { says = i; numbers = refl; count = refl })

-- ---- a point fed
pub at_point : (s s' : Live) (p q : Point3D) (r : Result (Option Point3D) Refusal) → Fed (live_call s (feed p)) s s' r → p ≡ q → Fed (live_call s (feed q)) s s' r
at_point s s' p q r a e = subst (λ (x : Point3D). Fed (live_call s (feed x)) s s' r) e a

module _ (s s' : Live) (p : Point3D) (r : Result (Option Point3D) Refusal) (a : Fed (live_call s (feed p)) s s' r) (ps : List Float) (n : ℕ) (out : List Float) (h : ℕ) where
  abbrev fed : Outcome Next
  fed = live_call s (feed p)

  one-fed : (m : Next) → fed ≡ gives m → length m.ends ≤ 1
  unfolding live_call next_of
  one-fed m e = rw (sym (unless-given (refusal (live_rows s (feed p))) _ m e).1) (push-most s p)

  pub was-fed : (e : Option Point3D) (out' : List Float) → r ≡ Ok e → out' ≡ sets out 0 (flat triple (option_to_list e))
      → Kept fed ps s'.points n s'.count 0 × Ended fed out out' h (length (option_to_list e)) 0
  was-fed e out' q w =
      let g = given s s' fed one-fed a.state e (sym (rw q) ∙ a.says) in
      (kept fed s' (option_to_list e) g ps n, ended fed s' (option_to_list e) g out out' h w)

  pub not_fed : (cause : Refusal) (k : ℕ) → r ≡ Err cause → k ≡ number cause → Kept fed ps ps n n k × Ended fed out out h h k
  not_fed cause k q i = let z = end-refused fed (number cause) (sym (rw q) ∙ a.says) in (not_kept fed (number cause) k z i ps n, not_ended fed (number cause) k z i out h)

-- ---- a close
module _ (s s' : Live) (r : Result (Option Point3D) Refusal) (a : Fed (live_call s close) s s' r) (f : ℕ) (out : List Float) (h : ℕ) where
  abbrev shutting : Outcome Next
  shutting = live_call s close

  is-shut : (m : Next) → shutting ≡ gives m → m ≡ shut s
  unfolding live_call next_of
  is-shut m e = sym (unless-given (refusal (live_rows s close)) (shut s) m e).1

  shut-most : length (shut s).ends ≤ 1
  unfolding shut
  shut-most = ⊎_elim (λ e. rw e (omega arith)) (λ e. rw e (omega arith)) (either (ltb s.count 2))

  one-shut : (m : Next) → shutting ≡ gives m → length m.ends ≤ 1
  one-shut m e = rw (is-shut m e) shut-most

  flagged : (ends : List Point3D) → Given shutting s' ends → Shut shutting s.points s.count f 1 0
  unfolding number_of told flag_of shut
  flagged ends g =
      let e = g.is ∙ ap gives (is-shut g.next g.is) in
      rw e (record { says = refl; points = refl; count = refl; flag_is = refl })

  pub was-shut : (e : Option Point3D) (out' : List Float) → r ≡ Ok e → out' ≡ sets out 0 (flat triple (option_to_list e))
      → Shut shutting s.points s.count f 1 0 × Ended shutting out out' h (length (option_to_list e)) 0
  was-shut e out' q w =
      let g = given s s' shutting one-shut a.state e (sym (rw q) ∙ a.says) in
      (flagged (option_to_list e) g, ended shutting s' (option_to_list e) g out out' h w)

  pub not-closed : (cause : Refusal) (k : ℕ) → r ≡ Err cause → k ≡ number cause → Shut shutting s.points s.count f f k × Ended shutting out out h h k
  not-closed cause k q i = let z = end-refused shutting (number cause) (sym (rw q) ∙ a.says) in (not_shut shutting (number cause) k z i s.points s.count f, not_ended shutting (number cause) k z i out h)

-- ---- a new tolerance
module _ (s s' : Live) (o : Outcome Next) (out out' : List Float) (r : Result ℕ Refusal) (w : Tuned o s s' out out' r) (t : Float) (ps : List Float) (n h : ℕ) where
  pub retold : (k : ℕ) → r ≡ Ok k → Kept o ps s'.points n s'.count 0 × Retold o t s'.tolerance out out' h k 0
  unfolding number_of told end_count ends_given answer state_after
  retold k e = go o (sym (rw e) ∙ w.wrote.says) w.wrote.leaves w.state
    where
      go : (o : Outcome Next) → gives k ≡ answer (ends_given o) → out' ≡ left (flat triple) out (ends_given o) → s' ≡ state_after s o
          → Kept o ps s'.points n s'.count 0 × Retold o t s'.tolerance out out' h k 0
      go (refused m) a l z = absurd (let y : ◌≡◌ {A = ℕ} 0 1 = cc in omega arith)
      go (gives m) a l z =
          let c : k ≡ length m.ends = cc in (
            record { says = refl; points = ap (λ (x : Live). x.points) z; count = ap (λ (x : Live). x.count) z },
            record { says = refl; tolerance = ap (λ (x : Live). x.tolerance) z; numbers = l; count = c },
          )

  pub not_retold : (cause : Refusal) (k : ℕ) → r ≡ Err cause → k ≡ number cause → Kept o ps ps n n k × Retold o t t out out' h h k
  unfolding number_of told ends_given answer
  not_retold cause k e i = go o (sym (rw e) ∙ w.wrote.says) w.wrote.leaves
    where
      go : (o : Outcome Next) → refused (number cause) ≡ answer (ends_given o) → out' ≡ left (flat triple) out (ends_given o) → Kept o ps ps n n k × Retold o t t out out' h h k
      go (refused m) a l =
          let c : number cause ≡ m = cc in
          (record { says = i ∙ c; points = refl; count = refl }, record { says = i ∙ c; tolerance = refl; numbers = l; count = refl })
      go (gives m) a l = absurd (let y : ◌≡◌ {A = ℕ} 0 1 = cc in omega arith)
