-- What a case is answered: the value of the operator in its form, or `no` and the number of the refusal, with a line feed behind.
-- The parts are read in this order: the operator, both kinds, both limits, both operands; the first that nothing is written as is
-- refused, with 1 for an operator or a kind, else with 2. The operator has a buffer of 65,536 bytes. Assumes nothing.
use Rattle.std.specs.Prelude.{◌≡◌, ℕ, ◌^◌, ◌<◌, cond, List, [], ◌∷◌, ◌++◌, Some, None, Ok, Err, codes, decimal, Option, Result, nat_le, from_bits}
use Rattle.std.specs.Float.{binary64}
use Rattle.std.specs.Option.{option_map, option_or, option_and_then}
use Rattle.fault.specs.Refusals.{number, bind}
use Rattle.fault.specs.declared.Fault.{Fault}
use Rattle.fault.specs.declared.Fault.TheVariants.{Unknown, Malformed, BadLine, BufferShort}
use Rattle.value.specs.Values.{Meaning, float, meaning, text_of, size}
use Rattle.value.specs.Ops.{op_number}
use Rattle.value.specs.declared.kind.Kind.{Kind}
use Rattle.value.specs.declared.kind.Kind.TheVariants as kind
use Rattle.value.specs.declared.op.Op.{Op}
use Rattle.format.specs.Fields.{fields}
use Rattle.format.specs.Names.{kind_named, op_named, assign_named}
use Rattle.format.specs.Reading.{ReadsAs, ReadsKind}
use Rattle.format.specs.Written.{figures}
use Rattle.rows.specs.Rows.{row_of, assign_row_of}
use Rattle.routines.specs.Calls.{Given, left, right, fresh, called, assigned}
use Rattle.routines.specs.declared.made.Limits.{Limits}
use Rattle.operators.specs.Applied.{tried, applied_by}
use Rattle.show.specs.Shown.{shown_value}
use Rattle.show.specs.declared.values.Shown.{Shown}
use Rattle.cases.specs.Cases.{Spelled, case_of}
use Rattle.cases.specs.declared.case.Form.{Form}
use Rattle.cases.specs.declared.case.Form.TheVariants.{Apply, Assign}

-- an operator that does not assign: the first eleven do
abbrev pub plain_named : List ℕ → Option Op
plain_named bs = option_and_then (λ o. cond (nat_le 11 (op_number o)) (Some o) None) (op_named bs)

-- where a form assigns, an operator that does is written with = behind; one that does not is read too, and has no row there
abbrev pub operator_named : Form → List ℕ → Option Op
operator_named Apply bs = op_named bs
operator_named Assign bs = option_or (assign_named bs) (plain_named bs)

-- a limit is an int that is not negative
abbrev pub ReadsLimit : List ℕ → Option ℕ → Type 0
ReadsLimit bs o = ReadsAs (λ n. n < 2 ^ 63) decimal bs o

-- a float by its bits, here a NaN too
abbrev pub ReadsBits : List ℕ → Option Meaning → Type 0
ReadsBits bs o =
    (bits : Option ℕ) × ReadsAs (λ n. n < 2 ^ 64) (figures 16) bs bits × (o ≡ option_map (λ n. float (from_bits binary64 n)) bits)

abbrev pub ReadsOperand : Kind → List ℕ → Option Meaning → Type 0
ReadsOperand kind.Float bs o = ReadsBits bs o
ReadsOperand kind.Unit bs o = ReadsKind 65536 kind.Unit bs o
ReadsOperand kind.Bool bs o = ReadsKind 65536 kind.Bool bs o
ReadsOperand kind.Int bs o = ReadsKind 65536 kind.Int bs o
ReadsOperand kind.Char bs o = ReadsKind 65536 kind.Char bs o
ReadsOperand kind.Str bs o = ReadsKind 65536 kind.Str bs o
ReadsOperand kind.Blob bs o = ReadsKind 65536 kind.Blob bs o
ReadsOperand kind.Excl bs o = ReadsKind 65536 kind.Excl bs o
ReadsOperand kind.Incl bs o = ReadsKind 65536 kind.Incl bs o

-- the value that is given; a new text that is longer than the buffer is refused
abbrev pub given_value : Meaning → Meaning → Result Given Fault → Result Meaning Fault
given_value a b (Err f) = Err f
given_value a b (Ok left) = Ok a
given_value a b (Ok right) = Ok b
given_value a b (Ok (fresh m)) = cond (nat_le (size (text_of m)) 65536) (Ok m) (Err BufferShort)

-- by the routines that a form of operators finds and what these do
abbrev pub operated_by : {R : Type 0} → (Op → Kind → Kind → Option R) → (Limits → R → Meaning → Meaning → Result Given Fault)
    → Limits → Op → Meaning → Meaning → Result Meaning Fault
operated_by finds does l op a b = given_value a b (tried a b (applied_by finds does l op a b))

abbrev pub operated : Form → Limits → Op → Meaning → Meaning → Result Meaning Fault
operated Apply l op a b = operated_by row_of called l op a b
operated Assign l op a b = operated_by assign_row_of assigned l op a b

abbrev pub limits : ℕ → ℕ → Limits
limits s b = record { string = s; blob = b }

-- after a part that is found goes what `more` says of it, and the fault f where there is none
abbrev pub Then : {V A : Type 0} → Option V → Fault → (V → Result A Fault → Type 0) → Result A Fault → Type 0
Then None f more r = r ≡ Err f
Then (Some v) f more r = more v r

abbrev pub Read : {V A : Type 0} → (Option V → Type 0) → Fault → (V → Result A Fault → Type 0) → Result A Fault → Type 0
Read {V = V} reads f more r = (found : Option V) × reads found × Then found f more r

abbrev pub Judged : Spelled → Result Meaning Fault → Type 0
Judged c r =
    Then (operator_named c.form c.op) Unknown (λ op.
    Then (kind_named c.left_kind) Unknown (λ j.
    Then (kind_named c.right_kind) Unknown (λ k.
    Read (ReadsLimit c.string) Malformed (λ s.
    Read (ReadsLimit c.blob) Malformed (λ t.
    Read (ReadsOperand j c.left_value) Malformed (λ a.
    Read (ReadsOperand k c.right_value) Malformed (λ b r. r ≡ operated c.form (limits s t) op a b))))))) r

-- a line that is no case is refused 11
abbrev pub JudgedLine : Option Spelled → Result Meaning Fault → Type 0
JudgedLine None r = r ≡ Err BadLine
JudgedLine (Some c) r = Judged c r

abbrev pub shown_case : Result Meaning Fault → List ℕ
shown_case (Ok m) = shown_value m
shown_case (Err f) = codes "no\t" ++ decimal (number f)

-- what a line is answered; one that is too long to be kept is refused 11
abbrev pub AnswersCase : Option (List ℕ) → List ℕ → Type 0
AnswersCase None bytes = bytes ≡ shown_case (Err BadLine) ++ (10 ∷ [])
AnswersCase (Some line) bytes =
    (r : Result Meaning Fault) × JudgedLine (case_of (fields 9 line)) r × (bytes ≡ shown_case r ++ (10 ∷ []))

-- what is shown by its meaning
abbrev pub shown_meaning : Result Shown Fault → Result Meaning Fault
shown_meaning r = bind r (λ v. Ok (meaning (λ x. x.now) v.0))
