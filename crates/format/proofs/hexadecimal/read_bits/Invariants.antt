use Rattle.std.proofs.Common.{◌≡◌, ◌^◌, ◌<◌, take}
use Rattle.format.specs.Written.{figures}
use Rattle.format.proofs.hexadecimal.read_bits.Given as goal

abbrev pub invariant-loop-b : goal.invariant-loop-b
invariant-loop-b l = (figures l.b-index l.n ≡ take l.b-index l.bytes) × (l.n < 16 ^ l.b-index)
