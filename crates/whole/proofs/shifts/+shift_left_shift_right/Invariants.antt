use Rattle.std.proofs.Common.{ℕ, ℤ, pos, negsuc}
use Rattle.whole.proofs.shifts.+shift_left_shift_right.Given as goal

-- what falls where one shift calls the other: 1 for a negative count, else 0
abbrev sign : ℤ → ℕ
sign (pos n) = 0
sign (negsuc n) = 1

abbrev pub decreases-shift_left : goal.decreases-shift_left
decreases-shift_left l = sign l.y

abbrev pub decreases-shift_right : goal.decreases-shift_right
decreases-shift_right l = sign l.y
