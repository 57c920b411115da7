-- The whole-number operations from arithmetic: exact or refused, shifts by any count, bits in two's complement.
-- Assumes nothing.
use Rattle.std.specs.Prelude.{ℕ, suc, ◌-◌, ◌^◌, min, Bool, cond, ℤ, pos, negsuc, ◌+ℤ◌, ◌-ℤ◌, ◌*ℤ◌, Ok, Err, Result, ◌==◌, bit_and, bit_or, bit_xor, int_div, int_rem, nat_lt, unsigned_abs}
use Rattle.std.specs.Int.Signed.{mag, shr_z}
use Rattle.std.proofs.Common.{to_z, of_z}
use Rattle.std.specs.Int.{int_pow, int_wrap, w64}
use Rattle.fault.specs.Refusals.{unless}
use Rattle.fault.specs.declared.Fault.{Fault}
use Rattle.fault.specs.declared.Fault.TheVariants.{Overflow, ZeroDivisor, Remainder, NegativeExponent}
use Rattle.whole.specs.declared.operation.Arithmetic.{Arithmetic}
use Rattle.whole.specs.declared.operation.Arithmetic.TheVariants.{Add, Subtract, Multiply, Divide, Modulo, Power, ShiftLeft, ShiftRight, And, Or, Xor}

-- z is an int: from -2 ^ 63 to 2 ^ 63 - 1
abbrev pub is_int : ℤ → Bool
is_int z = nat_lt (mag z) (2 ^ 63)

abbrev pub is_zero : ℤ → Bool
is_zero z = unsigned_abs z == 0

-- z if it is an int, else the refusal
abbrev pub exactly : ℤ → Fault → Result ℤ Fault
exactly z f = unless (is_int z) f z

abbrev pub sum_of : ℤ → ℤ → Result ℤ Fault
sum_of x y = exactly (x +ℤ y) Overflow

abbrev pub difference_of : ℤ → ℤ → Result ℤ Fault
difference_of x y = exactly (x -ℤ y) Overflow

abbrev pub product_of : ℤ → ℤ → Result ℤ Fault
product_of x y = exactly (x *ℤ y) Overflow

-- toward zero; only the least int by -1 gives no int
abbrev pub quotient_of : ℤ → ℤ → Result ℤ Fault
quotient_of x y = cond (is_zero y) (Err ZeroDivisor) (exactly (int_div x y) Overflow)

-- with the dividend's sign, where there is a quotient
abbrev pub remainder_of : ℤ → ℤ → Result ℤ Fault
remainder_of x y = cond (is_zero y) (Err Remainder) (unless (is_int (int_div x y)) Remainder (int_rem x y))

abbrev pub power_of : ℤ → ℤ → Result ℤ Fault
power_of x (pos n) = cond (nat_lt 4294967295 n) (Err Overflow) (exactly (int_pow x n) Overflow)
power_of x (negsuc n) = Err NegativeExponent

-- the magnitude of the negative count -(n + 1), the least int counting as the greatest
abbrev pub turned : ℕ → ℕ
turned n = min (suc n) (2 ^ 63 - 1)

-- x times 2 ^ y, reduced to 64 bits with sign
abbrev pub shifted_left : ℤ → ℤ → ℤ
shifted_left x (pos n) = int_wrap w64 (x *ℤ pos (2 ^ n))
shifted_left x (negsuc n) = shr_z x (2 ^ turned n)

-- x by 2 ^ y, rounded down
abbrev pub shifted_right : ℤ → ℤ → ℤ
shifted_right x (pos n) = shr_z x (2 ^ n)
shifted_right x (negsuc n) = int_wrap w64 (x *ℤ pos (2 ^ turned n))

-- a function of the 64 bits of each
abbrev pub bits_by : (ℕ → ℕ → ℕ) → ℤ → ℤ → ℤ
bits_by f x y = to_z w64 (f (of_z w64 x) (of_z w64 y))

abbrev pub computed : Arithmetic → ℤ → ℤ → Result ℤ Fault
computed Add x y = sum_of x y
computed Subtract x y = difference_of x y
computed Multiply x y = product_of x y
computed Divide x y = quotient_of x y
computed Modulo x y = remainder_of x y
computed Power x y = power_of x y
computed ShiftLeft x y = Ok (shifted_left x y)
computed ShiftRight x y = Ok (shifted_right x y)
computed And x y = Ok (bits_by bit_and x y)
computed Or x y = Ok (bits_by bit_or x y)
computed Xor x y = Ok (bits_by bit_xor x y)
