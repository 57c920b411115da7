-- What the parts of a line say of its value. Assumes nothing.
use Rattle.std.specs.Prelude.{◌≡◌, ◌≢◌, ℕ, List, ◌∷◌, ◌++◌, Some, None, Option, Ok, Err, Result, slice_get}
use Rattle.fault.specs.declared.Fault.{Fault}
use Rattle.fault.specs.declared.Fault.TheVariants.{Absent}
use Rattle.text.specs.Buffers.{stored}
use Rattle.text.specs.declared.span.Span.{Span}
use Rattle.value.specs.Values.{Meaning, kind_in, told_at}
use Rattle.value.specs.declared.kind.Kind.{Kind}
use Rattle.value.specs.declared.value.Value.{Value}
use Rattle.format.specs.Names.{kind_name}
use Rattle.format.specs.Reading.{Bytes, ReadableIn}
use Rattle.format.specs.Written.{pairs, written}
use Rattle.shelf.specs.Slots.{Slot}
use Rattle.lines.specs.Slots.{sealed_slot}
use Rattle.lines.specs.declared.line.Line.{Line}

-- the line is a kind's name, a tab and more, or there is no such kind
abbrev pub Parts : List ℕ → Option Line → Type 0
Parts line None = (k : Kind) (w : List ℕ) → kind_name k ++ (9 ∷ w) ≢ line
Parts line (Some l) = kind_name l.kind ++ (9 ∷ l.written.now) ≡ line

-- the value is what the parts spell
pub record WrittenOn (l : Line) (m : Meaning) : Type 0 where
  pub kind : kind_in m ≡ l.kind
  pub readable : ReadableIn 65536 m
  pub spells : written m ≡ l.written.now

-- the line of a slot, or there is none
abbrev pub OnLine : List Slot → ℕ → Result Line Fault → Type 0
OnLine slots i (Ok l) = (m : Meaning) × (slice_get slots i ≡ Some (sealed_slot m)) × WrittenOn l m
OnLine slots i (Err f) = (slice_get slots i ≡ None) × (f ≡ Absent)

-- the text that is spelled comes to the place, and nothing else changes
abbrev pub TellsText : List ℕ → List ℕ → ℕ → Result Span Fault → List ℕ → Type 0
TellsText bs buffer place r after = (t : List ℕ) → Bytes t → pairs t ≡ bs → (r ≡ (stored buffer place t).answer) × (after ≡ (stored buffer place t).bytes)

-- the same of a value
abbrev pub Tells : Line → List ℕ → ℕ → Result (Value Span) Fault → List ℕ → Type 0
Tells l buffer place r after = (m : Meaning) → WrittenOn l m → (r ≡ (told_at buffer place m).answer) × (after ≡ (told_at buffer place m).bytes)
