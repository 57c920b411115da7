-- SELECT speaks for APPLY: where it refuses, the operator refuses alike; where it gives a set of kinds, the operator's value is
-- of one of them, or it is refused with a number from 6 to 10. The value is spelled as a value has to be: a char is a
-- scalar, a str is UTF-8. And where the list of rows says what two kinds answer, the operator answers that. Assumes nothing.
use Rattle.std.specs.Prelude.{◌≡◌, ◌≤◌, Bool, true, Ok, Err, Option, Result}
use Rattle.std.proofs.Math.Utf8.{scalar}
use Rattle.fault.specs.Refusals.{number}
use Rattle.fault.specs.declared.Fault.{Fault}
use Rattle.text.specs.Scalars.{utf8}
use Rattle.value.specs.Kinds.{has}
use Rattle.value.specs.Values.{Meaning, unit, bool, int, float, char, str, blob, excl, incl, kind_in, well_formed}
use Rattle.value.specs.declared.kind.Kind.{Kind}
use Rattle.value.specs.declared.op.Op.{Op}
use Rattle.value.specs.declared.set.KindSet.{KindSet}
use Rattle.rows.specs.Rows.{selected_by, selected, assign_selected}
use Rattle.rows.specs.Routines.{Answer, varies, says, gives_left, gives_right}
use Rattle.rows.specs.Table.{told, binary_groups}
use Rattle.routines.specs.Calls.{Given, left, right, fresh, truth}
use Rattle.routines.specs.declared.made.Limits.{Limits}
use Rattle.operators.specs.Applied.{applied_by, applied, applied_assign}

-- the value that is given
abbrev pub value_of : Meaning → Meaning → Given → Meaning
value_of a b left = a
value_of a b right = b
value_of a b (fresh m) = m

abbrev pub spelled : Meaning → Bool
spelled unit = true
spelled (bool b) = true
spelled (int n) = true
spelled (float x) = true
spelled (char c) = scalar c
spelled (str bs) = utf8 bs
spelled (blob bs) = true
spelled (excl a b) = true
spelled (incl a b) = true

-- what comes of a row that lists the kinds s
abbrev pub InRow : KindSet → Meaning → Meaning → Result Given Fault → Type 0
InRow s a b (Ok g) = (has s (kind_in (value_of a b g)) ≡ true) × (well_formed a ≡ true → well_formed b ≡ true → spelled (value_of a b g) ≡ true)
InRow s a b (Err f) = (6 ≤ number f) × (number f ≤ 10)

abbrev pub Listed : Result KindSet Fault → Meaning → Meaning → Result Given Fault → Type 0
Listed (Ok s) a b given = InRow s a b given
Listed (Err f) a b given = given ≡ Err f

-- of a form of operators: by the routines that it finds, the kinds that they give and what they do
abbrev pub SpeaksFor : {R : Type 0} → (Op → Kind → Kind → Option R) → (R → KindSet) → (Limits → R → Meaning → Meaning → Result Given Fault) → Type 0
SpeaksFor finds gives does = (l : Limits) (op : Op) (a b : Meaning) → Listed (selected_by finds gives op (kind_in a) (kind_in b)) a b (applied_by finds does l op a b)

abbrev pub ApplyAsSelected : Type 0
ApplyAsSelected = (l : Limits) (op : Op) (a b : Meaning)
    → Listed (selected op (kind_in a) (kind_in b)) a b (applied l op a b)
    × Listed (assign_selected op (kind_in a) (kind_in b)) a b (applied_assign l op a b)

-- an operator that comes to `given` answers as listed
abbrev pub Answers : Answer → Result Given Fault → Type 0
Answers varies given = Unit {0}
Answers (says t) given = given ≡ truth t
Answers gives_left given = given ≡ Ok left
Answers gives_right given = given ≡ Ok right

abbrev pub AnswersAsListed : Type 0
AnswersAsListed = (l : Limits) (op : Op) (a b : Meaning) → Answers (told binary_groups op (kind_in a) (kind_in b)) (applied l op a b)
