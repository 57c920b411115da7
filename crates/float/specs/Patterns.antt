-- The bit pattern of a finite float without its sign is a significand and the power of two that it counts: the magnitude is their
-- product, in units of 2 ^ -1074. Assumes nothing.
use Rattle.std.specs.Prelude.{ℕ, ◌-◌, ◌*◌, ◌/◌, ◌^◌}

-- patterns of 0 and 1 in the exponent's field count the same power
abbrev pub exponent_in : ℕ → ℕ
exponent_in b = b / 4503599627370496 - 1

abbrev pub significand_in : ℕ → ℕ
significand_in b = b - exponent_in b * 4503599627370496

abbrev pub count_in : ℕ → ℕ
count_in b = significand_in b * 2 ^ exponent_in b
