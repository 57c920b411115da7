-- Worked examples: -1 >> 64 is -1, 1 << 64 and 1 << -1 are 0, (-2) ** 63 is the least int, and 2 ** 63 is refused with 6.
use Rattle.std.specs.Prelude.{◌≡◌, pos, negsuc, Ok, Err}
use Rattle.fault.specs.Refusals.{number}
use Rattle.fault.specs.declared.Fault.TheVariants.{Overflow}
use Rattle.whole.specs.Whole.{shifted_left, shifted_right, power_of}

abbrev pub Worked : Type 0
Worked =
    (shifted_right (negsuc 0) (pos 64) ≡ negsuc 0)
    × (shifted_left (pos 1) (pos 64) ≡ pos 0)
    × (shifted_left (pos 1) (negsuc 0) ≡ pos 0)
    × (power_of (negsuc 1) (pos 63) ≡ Ok (negsuc 9223372036854775807))
    × (power_of (pos 2) (pos 63) ≡ Err Overflow)
    × (number Overflow ≡ 6)
