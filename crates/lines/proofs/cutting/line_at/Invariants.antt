use Rattle.std.proofs.Common.{◌≡◌, ◌+◌, ℕ}
use Rattle.std.specs.List.{slice_get}
use Rattle.lines.specs.Spelled.{lines}
use Rattle.lines.proofs.cutting.line_at.Given as goal

abbrev pub invariant-loop : goal.invariant-loop
invariant-loop l = (k : ℕ) → slice_get (lines l.rest) k ≡ slice_get (lines l.bytes) (k + l.counter)
