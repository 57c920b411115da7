-- An operator in a run: the texts stand one behind another in the work buffer, and a new one goes behind them, or is refused
-- where it would pass the buffer's end. An operand given back is not copied. Assumes nothing.
use Rattle.std.specs.Prelude.{◌≡◌, ℕ, ◌+◌, ◌≤◌, cond, List, length, take, Some, None, Ok, Err, Option, Result}
use Rattle.fault.specs.Outcomes.{Outcome, beside}
use Rattle.fault.specs.Refusals.{bind}
use Rattle.fault.specs.declared.Fault.{Fault}
use Rattle.fault.specs.declared.Fault.TheVariants.{BufferShort}
use Rattle.text.specs.declared.span.Span.{Span}
use Rattle.value.specs.Values.{Meaning, text_of, meant, fits, written}
use Rattle.value.specs.declared.kind.Kind.{Kind}
use Rattle.value.specs.declared.op.Op.{Op}
use Rattle.value.specs.declared.value.Value.{Value}
use Rattle.rows.specs.Rows.{row_of, assign_row_of}
use Rattle.routines.specs.Calls.{Given, left, right, fresh, called, assigned}
use Rattle.routines.specs.declared.made.Limits.{Limits}
use Rattle.operators.specs.Applied.{applied_by, Held}

-- a work buffer, of which the first `used` bytes have texts
pub record Room : Type 0 where
  pub used : ℕ
  pub bytes : List ℕ

abbrev pub room : ℕ → List ℕ → Room
room n bs = record { used = n; bytes = bs }

-- the end of a text, if there is one, that begins at n
abbrev pub past : ℕ → Option (List ℕ) → ℕ
past n None = n
past n (Some bs) = n + length bs

-- a value comes in, its text, if it has one, behind the others
abbrev pub brought : Meaning → Room → Outcome Room Meaning Fault
brought m r =
    cond (fits r.bytes r.used (text_of m))
    (Ok (m, room (past r.used (text_of m)) (written r.bytes r.used (text_of m))))
    (Err (BufferShort, r))

-- the value that an operator gives for a and b
abbrev pub taken : Meaning → Meaning → Room → Result Given Fault → Outcome Room Meaning Fault
taken a b r (Err f) = Err (f, r)
taken a b r (Ok left) = Ok (a, r)
taken a b r (Ok right) = Ok (b, r)
taken a b r (Ok (fresh m)) = brought m r

abbrev pub in_room : {R : Type 0} → (Op → Kind → Kind → Option R) → (Limits → R → Meaning → Meaning → Result Given Fault) → Limits → Op → Room → Meaning → Meaning → Outcome Room Meaning Fault
in_room finds does l op r a b = taken a b r (applied_by finds does l op a b)

-- of the binary and of the assigning form
abbrev pub applied_in : Limits → Op → Room → Meaning → Meaning → Outcome Room Meaning Fault
applied_in l op r a b = in_room row_of called l op r a b

abbrev pub assigned_in : Limits → Op → Room → Meaning → Meaning → Outcome Room Meaning Fault
assigned_in l op r a b = in_room assign_row_of assigned l op r a b

-- ---- what a call in a run leaves, on values whose texts lie in the work buffer

-- the used bytes stay
pub record Grown (work : List ℕ) (fill : ℕ) (work' : List ℕ) (fill' : ℕ) : Type 0 where
  pub size : length work' ≡ length work
  pub stays : take fill work' ≡ take fill work
  pub more : fill ≤ fill'
  pub inside : fill' ≤ length work

-- the call comes to o: it gives v, or refuses, and leaves the work buffer so
pub record Gives (work : List ℕ) (fill : ℕ) (o : Outcome Room Meaning Fault) (v : Result (Value Span) Fault) (work' : List ℕ) (fill' : ℕ) : Type 0 where
  pub outcome : o ≡ beside (room fill' work') (bind v (λ x. Ok (meant work' x)))
  pub held : (x : Value Span) → v ≡ Ok x → Held work' fill' x
  pub grown : Grown work fill work' fill'
