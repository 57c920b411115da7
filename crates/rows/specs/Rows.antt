-- The rows: which routine an operator has for two kinds, and so which kinds it can give. Assumes nothing.
use Rattle.std.specs.Prelude.{ℕ, ◌-◌, Bool, true, false, cond, not, ◌&&◌, ◌||◌, List, [], ◌∷◌, None, Option, Result, nat_lt}
use Rattle.std.specs.Option.{option_map, option_or, ok_or}
use Rattle.std.specs.List.{slice_get}
use Rattle.fault.specs.declared.Fault.{Fault}
use Rattle.fault.specs.declared.Fault.TheVariants.{NoRow}
use Rattle.order.specs.declared.comparison.Comparison.{Comparison}
use Rattle.order.specs.declared.comparison.Comparison.TheVariants as comparison
use Rattle.whole.specs.declared.operation.Arithmetic.{Arithmetic}
use Rattle.whole.specs.declared.operation.Arithmetic.TheVariants as whole
use Rattle.float.specs.declared.arithmetic.FloatArithmetic.{FloatArithmetic}
use Rattle.float.specs.declared.arithmetic.FloatArithmetic.TheVariants as float
use Rattle.value.specs.Kinds.{is_kind}
use Rattle.value.specs.Ops.{op_number}
use Rattle.value.specs.declared.kind.Kind.{Kind}
use Rattle.value.specs.declared.kind.Kind.TheVariants as kind
use Rattle.value.specs.declared.set.KindSet.{KindSet}
use Rattle.value.specs.declared.op.Op.{Op}
use Rattle.rows.specs.declared.routine.Logic.{Logic}
use Rattle.rows.specs.declared.routine.Logic.TheVariants as logic
use Rattle.rows.specs.declared.routine.RangeKind.{RangeKind}
use Rattle.rows.specs.declared.routine.RangeKind.TheVariants.{Exclusive, Inclusive}
use Rattle.rows.specs.declared.routine.FnBuiltin.{FnBuiltin}
use Rattle.rows.specs.declared.routine.FnBuiltin.TheVariants.{Int, Float, Bool as Truth, CompareInts, CompareFloats, CompareBools, CompareTexts, EqualBlobs, EqualRanges, Constant, Range, Concat, ConcatBlobs, AppendChar, First, Second}
use Rattle.rows.specs.declared.routine.FnAssign.{FnAssign}
use Rattle.rows.specs.declared.routine.FnAssign.TheVariants as assign
use Rattle.rows.specs.Routines.{results, assign_results}

-- ---- what an operator stands for, of each sort

-- the operators from the number `first` on stand for these, in their order
abbrev pub standing : {A : Type 0} → ℕ → List A → Op → Option A
standing first xs op = cond (nat_lt (op_number op) first) None (slice_get xs (op_number op - first))

abbrev pub arithmetic_of : Op → Option Arithmetic
arithmetic_of = standing 0 (whole.Add ∷ whole.Subtract ∷ whole.Multiply ∷ whole.Divide ∷ whole.Modulo ∷ whole.Power ∷ whole.ShiftLeft ∷ whole.ShiftRight ∷ whole.And ∷ whole.Or ∷ whole.Xor ∷ [])

abbrev pub float_of : Op → Option FloatArithmetic
float_of = standing 0 (float.Add ∷ float.Subtract ∷ float.Multiply ∷ float.Divide ∷ float.Modulo ∷ [])

-- & | ^
abbrev pub logic_of : Op → Option Logic
logic_of = standing 8 (logic.And ∷ logic.Or ∷ logic.Xor ∷ [])

-- == != < <= > >=
abbrev pub comparison_of : Op → Option Comparison
comparison_of = standing 11 (comparison.Equals ∷ comparison.Differs ∷ comparison.Less ∷ comparison.LessOrEqual ∷ comparison.Greater ∷ comparison.GreaterOrEqual ∷ [])

-- == !=
abbrev pub equality_of : Op → Option Bool
equality_of = standing 11 (true ∷ false ∷ [])

-- .. ..=
abbrev pub range_of : Op → Option RangeKind
range_of = standing 17 (Exclusive ∷ Inclusive ∷ [])

-- only +
abbrev pub plus : {A : Type 0} → A → Op → Option A
plus x = standing 0 (x ∷ [])

abbrev pub is_equals : Comparison → Bool
is_equals comparison.Equals = true
is_equals comparison.Differs = false
is_equals comparison.Less = false
is_equals comparison.LessOrEqual = false
is_equals comparison.Greater = false
is_equals comparison.GreaterOrEqual = false

abbrev pub is_differs : Comparison → Bool
is_differs comparison.Equals = false
is_differs comparison.Differs = true
is_differs comparison.Less = false
is_differs comparison.LessOrEqual = false
is_differs comparison.Greater = false
is_differs comparison.GreaterOrEqual = false

-- ---- the rows of two kinds

abbrev pub int_row : Op → Option FnBuiltin
int_row op = option_or (option_map Int (arithmetic_of op)) (option_or (option_map CompareInts (comparison_of op)) (option_map Range (range_of op)))

abbrev pub float_row : Op → Option FnBuiltin
float_row op = option_or (option_map Float (float_of op)) (option_map CompareFloats (comparison_of op))

abbrev pub bool_row : Op → Option FnBuiltin
bool_row op = option_or (option_map Truth (logic_of op)) (option_map CompareBools (comparison_of op))

abbrev pub text_row : Op → Option FnBuiltin
text_row op = option_or (plus Concat op) (option_map CompareTexts (comparison_of op))

abbrev pub blob_row : Op → Option FnBuiltin
blob_row op = option_or (plus ConcatBlobs op) (option_map EqualBlobs (equality_of op))

-- only == is true
abbrev pub unit_row : Op → Option FnBuiltin
unit_row op = option_map (λ c. Constant (is_equals c)) (comparison_of op)

abbrev pub range_row : Op → Option FnBuiltin
range_row op = option_map EqualRanges (equality_of op)

-- ranges of unequal kinds: == is false, != is true
abbrev pub unlike_row : Op → Option FnBuiltin
unlike_row op = option_map (λ asked. Constant (not asked)) (equality_of op)

-- unequal kinds: only != is true
abbrev pub differing_row : Op → Option FnBuiltin
differing_row op = option_map (λ c. Constant (is_differs c)) (comparison_of op)

-- ---- the table

abbrev pub both : Kind → Kind → Kind → Bool
both k a b = is_kind a k && is_kind b k

abbrev pub pair : Kind → Kind → Kind → Kind → Bool
pair j k a b = is_kind a j && is_kind b k

abbrev pub either_way : Kind → Kind → Kind → Kind → Bool
either_way j k a b = pair j k a b || pair k j a b

abbrev pub is_number : Kind → Bool
is_number k = is_kind k kind.Int || is_kind k kind.Float

-- str or char
abbrev pub is_letters : Kind → Bool
is_letters k = is_kind k kind.Str || is_kind k kind.Char

abbrev pub row_of : Op → Kind → Kind → Option FnBuiltin
row_of op a b =
    cond (both kind.Int a b) (int_row op) (
    cond (both kind.Bool a b) (bool_row op) (
    cond (both kind.Blob a b) (blob_row op) (
    cond (both kind.Unit a b) (unit_row op) (
    cond (is_letters a && is_letters b) (text_row op) (
    cond (is_number a && is_number b) (float_row op) (
    cond (either_way kind.Int kind.Unit a b) (option_or (option_map Range (range_of op)) (differing_row op)) (
    cond (pair kind.Unit kind.Str a b) (option_or (plus Second op) (differing_row op)) (
    cond (pair kind.Str kind.Unit a b) (option_or (plus First op) (differing_row op)) (
    cond (pair kind.Blob kind.Char a b) (plus AppendChar op) (
    cond (both kind.Excl a b || both kind.Incl a b) (range_row op) (
    cond (either_way kind.Excl kind.Incl a b) (unlike_row op) (
    differing_row op))))))))))))

abbrev pub assign_row_of : Op → Kind → Kind → Option FnAssign
assign_row_of op a b =
    cond (both kind.Int a b) (option_map assign.Int (arithmetic_of op)) (
    cond (both kind.Bool a b) (option_map assign.Bool (logic_of op)) (
    cond (is_kind a kind.Float && is_number b) (option_map assign.Float (float_of op)) (
    cond (both kind.Str a b) (plus assign.StrByStr op) (
    cond (pair kind.Str kind.Char a b) (plus assign.StrByChar op) (
    cond (both kind.Char a b) (plus assign.CharByChar op) (
    cond (pair kind.Char kind.Str a b) (plus assign.CharByStr op) (
    cond (both kind.Blob a b) (plus assign.BlobByBlob op) (
    cond (is_kind a kind.Blob && (is_kind b kind.Int || is_letters b)) (plus assign.BlobByOther op) None))))))))

-- SELECT, by the routines that a form of operators finds and the kinds that these can give
abbrev pub selected_by : {R : Type 0} → (Op → Kind → Kind → Option R) → (R → KindSet) → Op → Kind → Kind → Result KindSet Fault
selected_by finds gives op a b = ok_or (option_map gives (finds op a b)) NoRow

-- of the binary and of the assigning form
abbrev pub selected : Op → Kind → Kind → Result KindSet Fault
selected op a b = selected_by row_of results op a b

abbrev pub assign_selected : Op → Kind → Kind → Result KindSet Fault
assign_selected op a b = selected_by assign_row_of assign_results op a b
