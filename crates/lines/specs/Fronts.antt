-- The lines of bytes by the first of them and what stands behind it. Assumes nothing.
use Rattle.std.specs.Prelude.{ℕ, List, [], ◌∷◌, Some, None, Option}
use Rattle.lines.specs.Spelled.{lines}
use Rattle.lines.specs.declared.cutting.Front.{Front}

abbrev pub lines_of : Option Front → List (List ℕ)
lines_of None = []
lines_of (Some f) = f.line.now ∷ lines f.behind.now
