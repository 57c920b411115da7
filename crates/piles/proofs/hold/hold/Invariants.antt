-- The work buffer stays as long as it is.
use Rattle.std.proofs.Common.{◌≡◌, length}
use Rattle.piles.proofs.hold.hold.Given as goal

abbrev pub invariant-loop-call : goal.invariant-loop-call
invariant-loop-call g l = length l.work ≡ 64
