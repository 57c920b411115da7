-- Worked examples, with ε for 2 ^ -52: 0.0 == ε and so 0.0 >= ε; 0.0 < 2ε; 1.0 == 1 + ε; 1.0 < 1 + 2ε; 1e-200 == 2e-200;
-- Infinity == itself; and the int 9007199254740993 becomes 9007199254740992.0.
use Rattle.std.specs.Prelude.{◌≡◌, true, false, pos, negsuc, from_bits, Float}
use Rattle.std.specs.Float.Ieee.{of_int}
use Rattle.std.specs.Float.{float_zero, float_one, inf, fin, binary64}
use Rattle.order.specs.Orders.{satisfies}
use Rattle.order.specs.declared.comparison.Comparison.TheVariants.{Equals, Less, GreaterOrEqual}
use Rattle.float.specs.Tolerance.{by_float, epsilon}

-- 2ε, 1 + ε and 1 + 2ε
abbrev pub two_epsilon : Float
two_epsilon = fin false 1 (negsuc 50)

abbrev pub one_epsilon : Float
one_epsilon = fin false 0x10000000000001 (negsuc 51)

abbrev pub one_two_epsilon : Float
one_two_epsilon = fin false 0x8000000000001 (negsuc 50)

-- 1e-200 and 2e-200, by their bits
abbrev pub tiny : Float
tiny = from_bits binary64 0x16687E92154EF7AC

abbrev pub twice_tiny : Float
twice_tiny = from_bits binary64 0x16787E92154EF7AC

abbrev pub Worked : Type 0
Worked =
    (satisfies Equals (by_float float_zero epsilon) ≡ true)
    × (satisfies GreaterOrEqual (by_float float_zero epsilon) ≡ true)
    × (satisfies Less (by_float float_zero two_epsilon) ≡ true)
    × (satisfies Equals (by_float float_one one_epsilon) ≡ true)
    × (satisfies Less (by_float float_one one_two_epsilon) ≡ true)
    × (satisfies Equals (by_float tiny twice_tiny) ≡ true)
    × (satisfies Equals (by_float (inf false) (inf false)) ≡ true)
    × (of_int binary64 (pos 9007199254740993) ≡ fin false 1 (pos 53))
