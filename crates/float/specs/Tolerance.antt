-- The order of floats with a tolerance. Beside a NaN they are unordered, beside an infinity IEEE's order stands. Any other
-- two are equal where |x - y| / m is at most 2 ^ -52, each operation rounded; m is the larger magnitude, or 1 where the
-- product of the two is rounded to zero. Else IEEE's order stands. Assumes nothing.
use Rattle.std.specs.Prelude.{Bool, false, cond, ◌||◌, negsuc, is_nan, Float}
use Rattle.std.specs.Float.Ieee.{sub, mul, div, lt, le, eq}
use Rattle.std.specs.Float.{float_is_infinite, float_with_sign, float_zero, float_one, float_max, fin, binary64}
use Rattle.order.specs.declared.traits.Order.{Order}
use Rattle.order.specs.declared.traits.Order.TheVariants.{Equal, Unordered}
use Rattle.order.specs.Orders.{ranked}

-- 2 ^ -52
abbrev pub epsilon : Float
epsilon = fin false 1 (negsuc 51)

-- |x|
abbrev pub size : Float → Float
size x = float_with_sign false x

-- IEEE's order of two that are no NaN
abbrev pub by_ieee : Float → Float → Order
by_ieee x y = ranked (lt x y) (lt y x)

-- the divisor is 1
abbrev pub unscaled : Float → Float → Bool
unscaled x y = eq (mul binary64 x y) float_zero

abbrev pub divisor : Float → Float → Float
divisor x y = cond (unscaled x y) float_one (float_max (size x) (size y))

-- |x - y|, rounded
abbrev pub difference : Float → Float → Float
difference x y = size (sub binary64 x y)

abbrev pub close : Float → Float → Bool
close x y = le (div binary64 (difference x y) (divisor x y)) epsilon

abbrev pub by_float : Float → Float → Order
by_float x y = cond (is_nan x || is_nan y) Unordered (cond (float_is_infinite x || float_is_infinite y) (by_ieee x y) (cond (close x y) Equal (by_ieee x y)))
