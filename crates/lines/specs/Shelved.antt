-- The slots of the shelf. Assumes nothing.
use Rattle.std.specs.Prelude.{List}
use Rattle.shelf.specs.Slots.{Slot}
use Rattle.lines.specs.Spelled.{lines}
use Rattle.lines.specs.Slots.{slots_of}
use Rattle.lines.specs.declared.lines.Lines.{Lines}

abbrev pub lines_slots : Lines → List Slot
lines_slots s = slots_of (lines s.text.now) s.values
