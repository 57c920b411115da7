-- The slots of lines: each is sealed, has the value that its line spells, and as much room as that value's own text takes.
-- Assumes nothing.
use Rattle.std.specs.Prelude.{ℕ, List, [], ◌∷◌}
use Rattle.std.specs.List.{AllByRecursion}
use Rattle.value.specs.Values.{Meaning, text_of, size}
use Rattle.shelf.specs.Slots.{Slot, slot}
use Rattle.shelf.specs.declared.mark.Mark.TheVariants.{Sealed}
use Rattle.lines.specs.Spelled.{Valued}

abbrev pub sealed_slot : Meaning → Slot
sealed_slot m = slot m (size (text_of m)) Sealed

abbrev pub slots_of : (ls : List (List ℕ)) → AllByRecursion Valued ls → List Slot
slots_of [] h = []
slots_of (l ∷ ls) h = sealed_slot h.0.0 ∷ slots_of ls h.1
