-- The slots of a shelf made of others. Sealed: those below, each sealed, its value and capacity kept. Joined: those of the second
-- behind those of the first, and of these the first 65,536. Assumes nothing.
use Rattle.std.specs.Prelude.{List, ◌++◌, map, take}
use Rattle.shelf.specs.Slots.{Slot, slot}
use Rattle.shelf.specs.declared.mark.Mark.TheVariants.{Sealed}

abbrev pub seal : Slot → Slot
seal s = slot s.holds s.capacity Sealed

abbrev pub sealed : List Slot → List Slot
sealed xs = map seal xs

abbrev pub joined : List Slot → List Slot → List Slot
joined xs ys = take 65536 (xs ++ ys)
