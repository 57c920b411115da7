-- The five operations on floats: IEEE 754's, each rounded once, and Rust's exact remainder. Assumes nothing.
use Rattle.std.specs.Prelude.{Float}
use Rattle.std.specs.Float.{binary64}
use Rattle.std.specs.Float.Ieee.{add, sub, mul, div, rem}
use Rattle.float.specs.declared.arithmetic.FloatArithmetic.{FloatArithmetic}
use Rattle.float.specs.declared.arithmetic.FloatArithmetic.TheVariants.{Add, Subtract, Multiply, Divide, Modulo}

abbrev pub computed_float : FloatArithmetic → Float → Float → Float
computed_float Add x y = add binary64 x y
computed_float Subtract x y = sub binary64 x y
computed_float Multiply x y = mul binary64 x y
computed_float Divide x y = div binary64 x y
computed_float Modulo x y = rem binary64 x y
