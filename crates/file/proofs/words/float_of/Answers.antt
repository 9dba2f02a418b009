-- `file::words::float_of` meets its contract: a NaN's pattern is that of nan, and any other may be read. Assumes nothing.
use mathlib.Core.Path.{◌≡◌, refl, sym, ◌∙◌, subst}
use mathlib.Core.Bool.{Bool, true, not}
use lib.Dec.{T}
use lib.Ieee.{Float, nan, inf, fin, binary64, div, of_bits, is_nan}
use lib.Ieee.Bits.{nan_bits_is}
use Rattle.file.proofs.words.float_of.Goals as goal

nan_is : (x : Float) → is_nan x ≡ true → x ≡ nan
unfolding is_nan
nan_is nan h = refl
nan_is (inf s) h = absurd (subst T (sym h) tt)
nan_is (fin s m e) h = absurd (subst T (sym h) tt)

pub returns-then-is_nan : goal.returns-then-is_nan
returns-then-is_nan c =
    let z : div binary64 (of_bits binary64 0) (of_bits binary64 0) ≡ nan = unfold div of_bits in refl in
    z ∙ sym (nan_is (of_bits binary64 c.args.p) (sym (nan_bits_is binary64 c.args.p) ∙ sym c.is_nan.ensures ∙ c.if-is_nan.true))

pub float_from_bits-result : goal.float_from_bits-result
float_from_bits-result c = subst (λ (t : Bool). T (not t)) (sym c.if-is_nan.false ∙ c.is_nan.ensures) tt
