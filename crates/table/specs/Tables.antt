-- The same of a table whole.
use Rattle.std.specs.Prelude.{List}
use Rattle.shelf.specs.Slots.{Slot}
use Rattle.table.specs.Rows.{rows}
use Rattle.table.specs.declared.table.Table.{Table}

abbrev pub table_slots : Table → List Slot
table_slots t = rows t.records.now t.texts.now t.capacity
