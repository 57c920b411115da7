use Rattle.std.proofs.Common.{◌≡◌, ◌*◌, length, take, drop}
use Rattle.format.specs.Written.{pairs}
use Rattle.format.proofs.hexadecimal.read_pairs.Given as goal

abbrev pub invariant-loop-i : goal.invariant-loop-i
invariant-loop-i l = (pairs (take l.i l.out) ≡ take (2 * l.i) l.bytes) × (drop (length l.digits) l.out ≡ drop (length l.digits) l.initial.out)
