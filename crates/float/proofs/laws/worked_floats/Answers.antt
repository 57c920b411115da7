use Rattle.std.proofs.Common.{refl}
use lib.Ieee.{sub, mul, div, lt, le, eq, is_nan, of_int, of_bits}
use Rattle.std.specs.Float.{float_is_infinite, float_with_sign}
use Rattle.float.proofs.laws.worked_floats.Goals as goal

pub returns : goal.returns
unfolding sub mul div lt le eq is_nan float_is_infinite float_with_sign of_int of_bits
returns c = (refl, refl, refl, refl, refl, refl, refl, refl)
