-- The lines of some bytes, and what a line spells: a line feed ends each line, and the last may lack it; on a line stand a kind's
-- name, a tab, and a value of that kind as it is written. Assumes nothing.
use Rattle.std.specs.Prelude.{◌≡◌, ℕ, cond, List, [], ◌∷◌, ◌++◌, length, ◌==◌}
use Rattle.value.specs.Values.{Meaning, kind_in}
use Rattle.format.specs.Fields.{fields}
use Rattle.format.specs.Names.{kind_name}
use Rattle.format.specs.Reading.{ReadableIn}
use Rattle.format.specs.Written.{written}

-- what stands behind the last line feed is a line only where it is not empty
abbrev pub but_empty_last : List (List ℕ) → List (List ℕ)
but_empty_last [] = []
but_empty_last (f ∷ []) = cond (length f == 0) [] (f ∷ [])
but_empty_last (f ∷ g ∷ fs) = f ∷ but_empty_last (g ∷ fs)

abbrev pub lines : List ℕ → List (List ℕ)
lines bytes = but_empty_last (fields 10 bytes)

-- the line of a value
abbrev pub spelled : Meaning → List ℕ
spelled m = kind_name (kind_in m) ++ (9 ∷ written m)

-- the line spells the value, which can be kept: no NaN, and no text over 65,536 bytes
abbrev pub Spells : List ℕ → Meaning → Type 0
Spells line m = ReadableIn 65536 m × (spelled m ≡ line)

-- the line spells a value
abbrev pub Valued : List ℕ → Type 0
Valued line = (m : Meaning) × Spells line m
