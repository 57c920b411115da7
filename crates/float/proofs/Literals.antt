-- The floats that the code writes, by their bits.
use lib.Ieee.{of_bits, binary64, fin}
use Rattle.std.proofs.Common.{◌≡◌, false, pos, negsuc, refl}

pub zero_bits : of_bits binary64 0 ≡ fin false 0 (pos 0)
unfolding of_bits
zero_bits = refl

pub one_bits : of_bits binary64 4607182418800017408 ≡ fin false 1 (pos 0)
unfolding of_bits
one_bits = refl

pub epsilon_bits : of_bits binary64 4372995238176751616 ≡ fin false 1 (negsuc 51)
unfolding of_bits
epsilon_bits = refl
