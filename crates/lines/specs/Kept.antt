-- What is written is kept: lines that are written of some values are a shelf of those values. Assumes nothing.
use Rattle.std.specs.Prelude.{◌≡◌, ◌⊎◌, ℕ, ◌≤◌, List, [], ◌∷◌, ◌++◌, length, map}
use Rattle.std.specs.List.{AllByRecursion}
use Rattle.value.specs.Values.{Meaning}
use Rattle.format.specs.Reading.{ReadableIn}
use Rattle.shelf.specs.Slots.{Slot}
use Rattle.lines.specs.Spelled.{spelled}
use Rattle.lines.specs.Slots.{sealed_slot}

-- the lines of values, each with its line feed
abbrev pub written_lines : List Meaning → List ℕ
written_lines [] = []
written_lines (m ∷ ms) = spelled m ++ (10 ∷ written_lines ms)

-- the bytes are these lines, the last with its line feed or without
abbrev pub WrittenOf : List Meaning → List ℕ → Type 0
WrittenOf ms bytes = (written_lines ms ≡ bytes) ⊎ (written_lines ms ≡ bytes ++ (10 ∷ []))

-- the law: whichever values the bytes are written of, 1 to 4,096 that can be kept, the slots are those of these values
abbrev pub KeepsWritten : List ℕ → List Slot → Type 0
KeepsWritten bytes slots = (ms : List Meaning) → 1 ≤ length ms → length ms ≤ 4096 → AllByRecursion (ReadableIn 65536) ms → WrittenOf ms bytes → slots ≡ map sealed_slot ms
