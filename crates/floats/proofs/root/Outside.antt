-- Numbers without a root: a NaN's is itself, and that of one below zero a NaN; neither is finite and without a sign. Assumes nothing.
use Rattle.std.proofs.Common.{◌≡◌, zero, suc, true, false, T, refl, sym, ◌∙◌, zero-mul}
use lib.IntN.{pos}
use lib.Ieee.{Float, nan, inf, fin, is_nan, lt, of_bits, up, down}
use Rattle.floats.specs.Ops.{◌≺◌, +0}
use Rattle.floats.specs.Root.{root_of, plain}
use Rattle.floats.proofs.Order.{clash}
use Rattle.floats.proofs.Unsigned.{unsigned_not_negative}

pub nan_root : (x : Float) → is_nan x ≡ true → x ≡ root_of x
unfolding is_nan root_of
nan_root nan h = refl
nan_root (inf s) h = clash h
nan_root (fin s m e) h = clash h

pub nan_not_plain : (x : Float) → is_nan x ≡ true → T (plain x) → ⊥
unfolding is_nan plain
nan_not_plain nan h p = absurd p
nan_not_plain (inf s) h p = clash h
nan_not_plain (fin s m e) h p = clash h

minus_zero_level : (e : _) → (fin true zero e ≺ +0) ≡ false
unfolding lt of_bits
minus_zero_level e = rw (zero-mul (up e), zero-mul (down (pos 0)), zero-mul (up (pos 0)), zero-mul (down e))

pub no_root : (x : Float) → (x ≺ +0) ≡ true → nan ≡ root_of x
unfolding root_of
no_root nan h = refl
no_root (inf true) h = refl
no_root (inf false) h = clash (sym (unsigned_not_negative (inf false) refl) ∙ h)
no_root (fin true zero e) h = clash (sym (minus_zero_level e) ∙ h)
no_root (fin true (suc m) e) h = refl
no_root (fin false m e) h = clash (sym (unsigned_not_negative (fin false m e) refl) ∙ h)

pub below_not_plain : (x : Float) → (x ≺ +0) ≡ true → T (plain x) → ⊥
unfolding plain
below_not_plain nan h p = absurd p
below_not_plain (inf s) h p = absurd p
below_not_plain (fin true m e) h p = absurd p
below_not_plain (fin false m e) h p = clash (sym (unsigned_not_negative (fin false m e) refl) ∙ h)
