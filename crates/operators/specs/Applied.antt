-- The operators: the routine of the row, or a refusal where there is no row. What one answers in a run, and what APPLY and its
-- assigning form answer on any values, with every byte that they leave. Assumes nothing.
use Rattle.std.specs.Prelude.{◌≡◌, ℕ, true, cond, ◌&&◌, List, ◌++◌, length, take, drop, Some, None, Ok, Err, Option, Result}
use Rattle.fault.specs.Refusals.{bind}
use Rattle.fault.specs.declared.Fault.{Fault}
use Rattle.fault.specs.declared.Fault.TheVariants.{NoRow, Malformed}
use Rattle.text.specs.declared.span.Span.{Span}
use Rattle.value.specs.Values.{Meaning, kind_in, meant, well_formed, text_in, Inside}
use Rattle.value.specs.declared.kind.Kind.{Kind}
use Rattle.value.specs.declared.value.Value.{Value}
use Rattle.value.specs.declared.op.Op.{Op}
use Rattle.rows.specs.Rows.{row_of, assign_row_of}
use Rattle.routines.specs.Calls.{Given, called, assigned}
use Rattle.routines.specs.Outcomes.{Outcome, settled}
pub use Rattle.routines.specs.Outcomes.{behind, filled}
use Rattle.routines.specs.declared.made.Limits.{Limits}
use Rattle.routines.specs.declared.made.Made.{Made}
use Rattle.routines.specs.declared.made.Made.TheVariants.{Left, Right, New}

abbrev pub in_row : {F A : Type 0} → Option F → (F → Result A Fault) → Result A Fault
in_row None call = Err NoRow
in_row (Some f) call = call f

-- by the routines that a form of operators finds and what these do
abbrev pub applied_by : {R : Type 0} → (Op → Kind → Kind → Option R) → (Limits → R → Meaning → Meaning → Result Given Fault) → Limits → Op → Meaning → Meaning → Result Given Fault
applied_by finds does l op a b = in_row (finds op (kind_in a) (kind_in b)) (λ f. does l f a b)

-- of the binary and of the assigning form
abbrev pub applied : Limits → Op → Meaning → Meaning → Result Given Fault
applied l op a b = applied_by row_of called l op a b

abbrev pub applied_assign : Limits → Op → Meaning → Meaning → Result Given Fault
applied_assign l op a b = applied_by assign_row_of assigned l op a b

-- ---- in a run, on values whose texts are in the work buffer below `fill`

pub record Held (work : List ℕ) (fill : ℕ) (v : Value Span) : Type 0 where
  pub below : Inside fill (text_in v)
  pub formed : well_formed (meant work v) ≡ true

abbrev pub picked : Value Span → Value Span → Made → Value Span
picked a b Left = a
picked a b Right = b
picked a b (New v) = v

abbrev pub given : Value Span → Value Span → Result Made Fault → Result (Value Span) Fault
given a b o = bind o (λ made. Ok (picked a b made))

-- ---- APPLY and its assigning form, on any values: the operands are tested first, and the first 65,536 bytes of the buffer
-- are for the new text

abbrev pub tried : Meaning → Meaning → Result Given Fault → Result Given Fault
tried a b given = cond (well_formed a && well_formed b) given (Err Malformed)

abbrev pub alone : List ℕ → Result Given Fault → Outcome
alone buffer given =
    let o = settled (take 65536 buffer) 0 given in
    record { answer = o.answer; bytes = o.bytes ++ drop 65536 buffer }

-- an operator alone that comes to `given` answers r and leaves these bytes
pub record Alone (buffer : List ℕ) (given : Result Given Fault) (r : Result Made Fault) (after : List ℕ) : Type 0 where
  pub answer : r ≡ (alone buffer given).answer
  pub bytes : after ≡ (alone buffer given).bytes

-- a new value's text lies in the buffer
abbrev pub NewWithin : Result Made Fault → List ℕ → Type 0
NewWithin r after = (v : Value Span) → r ≡ Ok (New v) → Inside (length after) (text_in v)

-- a new value, read in the buffer, is well formed: a str is UTF-8, and a text has at most 65,536 bytes
abbrev pub NewFormed : Result Made Fault → List ℕ → Type 0
NewFormed r after = (v : Value Span) → r ≡ Ok (New v) → well_formed (meant after v) ≡ true
