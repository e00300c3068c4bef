-- `octets::float_of` meets its contract: a pattern above that of infinity, sign apart, is a NaN, and no other is.
-- Assumes nothing.
use Prim.Native.Nat.{◌%◌}
use native.Mathlib.Omega.{arith}
use mathlib.Core.Path.{◌≡◌, refl, sym, ◌∙◌}
use mathlib.Core.Bool.{true}
use lib.Ieee.{Float, nan, inf, fin, is_nan, of_bits, binary32}
use lib.Ieee.Bits.{nan_bits_is, nan_bits_above}
use borrow.Author.Tests.{lt-ltb, le-ltb}
use Rattle.octets.proofs.float_of.Goals as goal

-- A float that is a NaN is the NaN.
only : (x : Float) → is_nan x ≡ true → x ≡ nan
unfolding is_nan
only nan e = refl
only (inf s) e = cc
only (fin s m k) e = cc

pub returns-then-bits-gt2139095040 : goal.returns-then-bits-gt2139095040
unfolding of_bits
returns-then-bits-gt2139095040 c = let bits = c.args.bits in
    sym (only _ (sym (nan_bits_is binary32 bits) ∙ nan_bits_above binary32 bits ∙ lt-ltb 2139095040 (bits % 2147483648) (omega arith)))

pub float_from_bits-result : goal.float_from_bits-result
float_from_bits-result c = let bits = c.args.bits in
    rw (nan_bits_above binary32 bits, le-ltb 2139095040 (bits % 2147483648) (omega arith)) tt
