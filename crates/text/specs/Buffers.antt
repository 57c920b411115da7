-- Texts in a buffer: a part of it, and what writing a text at a place leaves of every byte. Assumes nothing.
use Rattle.std.specs.Prelude.{ℕ, ◌+◌, ◌≤◌, Bool, cond, List, ◌++◌, length, take, drop, Ok, Err, Result, nat_le}
use Rattle.fault.specs.declared.Fault.{Fault}
use Rattle.fault.specs.declared.Fault.TheVariants.{BufferShort}
use Rattle.text.specs.declared.span.Span.{Span}

abbrev pub span : ℕ → ℕ → Span
span start len = record { start = start; len = len }

-- the bytes of a part
abbrev pub span_text : List ℕ → Span → List ℕ
span_text buffer s = take s.len (drop s.start buffer)

-- the part ends at `end` or before
abbrev pub within : Span → ℕ → Type 0
within s end = s.start + s.len ≤ end

-- the text x from `place` on; every other byte stays
abbrev pub laid : List ℕ → ℕ → List ℕ → List ℕ
laid buffer place x = take place buffer ++ (x ++ drop (place + length x) buffer)

-- the text x has room from `place` on
abbrev pub has_room : List ℕ → ℕ → List ℕ → Bool
has_room buffer place x = nat_le (place + length x) (length buffer)

pub record Stored : Type 0 where
  pub answer : Result Span Fault
  pub bytes : List ℕ

-- writing x at `place`: done, or refused where it would pass the buffer's end
abbrev pub stored : List ℕ → ℕ → List ℕ → Stored
stored buffer place x =
    cond (has_room buffer place x)
    (record { answer = Ok (span place (length x)); bytes = laid buffer place x })
    (record { answer = Err BufferShort; bytes = buffer })
