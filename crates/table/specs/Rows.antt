-- The slots of a table by its records and its bytes: each slot has the next part of the bytes, of its capacity, and its text
-- stands at the front of that part. Assumes nothing.
use Rattle.std.specs.Prelude.{ℕ, ◌*◌, Bool, true, cond, ◌&&◌, ◌||◌, List, [], ◌∷◌, length, take, drop, replicate, is_ok, Some, None, Ok, Err, Option, Result, nat_le, nat_lt}
use Rattle.fault.specs.declared.Fault.{Fault}
use Rattle.fault.specs.declared.Fault.TheVariants.{BadLine, OverCapacity, BufferShort}
use Rattle.value.specs.Values.{Meaning, unit, meaning, well_formed, text_in}
use Rattle.value.specs.declared.value.Value.{Value}
use Rattle.value.specs.declared.value.Value.TheVariants.{Unit as Nothing}
use Rattle.shelf.specs.Slots.{Slot, slot}
use Rattle.shelf.specs.declared.mark.Mark.TheVariants.{Open}
use Rattle.table.specs.declared.record.Record.{Record}

-- what a record means whose text stands at the front of `part`
abbrev pub meant_by : List ℕ → Value ℕ → Meaning
meant_by part v = meaning (λ n. take n part) v

abbrev pub blank : Record
blank = record { value = Nothing }

abbrev pub row : Record → List ℕ → ℕ → Slot
row r bytes capacity = slot (meant_by (take capacity bytes) r.value) capacity Open

abbrev pub rows : List Record → List ℕ → ℕ → List Slot
rows [] bytes capacity = []
rows (r ∷ rs) bytes capacity = row r bytes capacity ∷ rows rs (drop capacity bytes) capacity

-- a text is within its part
abbrev pub short : ℕ → Option ℕ → Bool
short capacity None = true
short capacity (Some n) = nat_le n capacity

-- each record has its part, its text within it, and a value that is well formed
abbrev pub whole : List Record → List ℕ → ℕ → Bool
whole [] bytes capacity = true
whole (r ∷ rs) bytes capacity =
    nat_le capacity (length bytes)
    && (short capacity (text_in r.value) && well_formed (meant_by (take capacity bytes) r.value))
    && whole rs (drop capacity bytes) capacity

-- the test before building: the count of slots, their capacity, and then the bytes
abbrev pub tested : ℕ → ℕ → ℕ → Result Unit Fault
tested count capacity bytes =
    cond (nat_lt count 1 || nat_lt 4096 count) (Err BadLine) (
    cond (nat_lt 4096 capacity) (Err OverCapacity) (
    cond (nat_lt bytes (count * capacity)) (Err BufferShort) (Ok tt)))

-- what is built: all slots unit and open, or no slots where the test refuses
abbrev pub built : ℕ → ℕ → ℕ → List Slot
built count capacity bytes = cond (is_ok (tested count capacity bytes)) (replicate count (slot unit capacity Open)) []
