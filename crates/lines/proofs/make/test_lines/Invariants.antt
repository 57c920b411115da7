use Rattle.std.proofs.Common.{◌≡◌, ◌+◌, length, Result}
use Rattle.fault.specs.declared.Refusal.{Refusal}
use Rattle.lines.specs.Spelled.{lines}
use Rattle.lines.specs.Tested.{TestedFrom}
use Rattle.lines.proofs.make.test_lines.Given as goal

abbrev pub invariant-loop-front : goal.invariant-loop-front
invariant-loop-front l = record {
  count : l.place + length (lines l.rest) ≡ length (lines l.bytes);
  tested : (r : Result Unit Refusal) → TestedFrom l.place (lines l.rest) r → TestedFrom 0 (lines l.bytes) r;
}

abbrev pub decreases-loop-front : goal.decreases-loop-front
decreases-loop-front l = length (lines l.rest)
