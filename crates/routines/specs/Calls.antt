-- What each routine does, on values by their meaning: the operators of rhai, in its order. A routine that meets a kind it is
-- not for refuses as one without a row does; the rows never lead there. Assumes nothing.
use Rattle.std.specs.Prelude.{ℕ, ◌-◌, ◌%◌, ◌^◌, Bool, cond, not, ◌&&◌, ◌||◌, List, [], ◌∷◌, ◌++◌, length, ℤ, pos, Ok, Err, Result, ◌==◌, nat_le, Float}
use Rattle.std.specs.Bool.{beq}
use Rattle.std.specs.Float.{binary64}
use Rattle.std.specs.Float.Ieee.{of_int}
use Rattle.std.proofs.Math.Utf8.{encode}
use Rattle.std.specs.Int.{w64}
use Rattle.std.proofs.Common.{of_z}
use Rattle.std.specs.Str.{chars, bytes_eq}
use Rattle.fault.specs.Refusals.{bind, unless}
use Rattle.fault.specs.declared.Fault.{Fault}
use Rattle.fault.specs.declared.Fault.TheVariants.{NoRow, OverLimit}
use Rattle.order.specs.Orders.{satisfies, is_equal, by_int, by_bool}
use Rattle.whole.specs.Whole.{computed}
use Rattle.float.specs.Operations.{computed_float}
use Rattle.float.specs.Tolerance.{by_float}
use Rattle.text.specs.Scalars.{by_scalars}
use Rattle.value.specs.Values.{Meaning, unit, bool, int, float, char, str, blob, excl, incl}
use Rattle.rows.specs.declared.routine.Logic.{Logic}
use Rattle.rows.specs.declared.routine.Logic.TheVariants.{And, Or, Xor}
use Rattle.rows.specs.declared.routine.RangeKind.{RangeKind}
use Rattle.rows.specs.declared.routine.RangeKind.TheVariants.{Exclusive, Inclusive}
use Rattle.rows.specs.declared.routine.FnBuiltin.{FnBuiltin}
use Rattle.rows.specs.declared.routine.FnBuiltin.TheVariants as builtin
use Rattle.rows.specs.declared.routine.FnAssign.{FnAssign}
use Rattle.rows.specs.declared.routine.FnAssign.TheVariants as assign
use Rattle.routines.specs.declared.made.Limits.{Limits}
use Rattle.routines.specs.declared.made.TextKind.{TextKind}
use Rattle.routines.specs.declared.made.TextKind.TheVariants.{Str as StrText, Blob as BlobText}
use Rattle.routines.specs.declared.made.TextRule.{TextRule}
use Rattle.routines.specs.declared.made.TextRule.TheVariants as rule
use Rattle.routines.specs.declared.made.Choice.{Choice}
use Rattle.routines.specs.declared.made.Choice.TheVariants.{Left, Right, Join}

-- an operand is given back, or there is a new value
pub data Given : Type 0 where
  left : Given
  right : Given
  fresh : Meaning → Given

-- ---- what a routine reads of an operand

abbrev pub as_int : Meaning → Result ℤ Fault
as_int unit = Err NoRow
as_int (bool b) = Err NoRow
as_int (int n) = Ok n
as_int (float x) = Err NoRow
as_int (char c) = Err NoRow
as_int (str bs) = Err NoRow
as_int (blob bs) = Err NoRow
as_int (excl a b) = Err NoRow
as_int (incl a b) = Err NoRow

-- an int beside a float is the nearest float
abbrev pub as_float : Meaning → Result Float Fault
as_float unit = Err NoRow
as_float (bool b) = Err NoRow
as_float (int n) = Ok (of_int binary64 n)
as_float (float x) = Ok x
as_float (char c) = Err NoRow
as_float (str bs) = Err NoRow
as_float (blob bs) = Err NoRow
as_float (excl a b) = Err NoRow
as_float (incl a b) = Err NoRow

abbrev pub as_bool : Meaning → Result Bool Fault
as_bool unit = Err NoRow
as_bool (bool b) = Ok b
as_bool (int n) = Err NoRow
as_bool (float x) = Err NoRow
as_bool (char c) = Err NoRow
as_bool (str bs) = Err NoRow
as_bool (blob bs) = Err NoRow
as_bool (excl a b) = Err NoRow
as_bool (incl a b) = Err NoRow

abbrev pub as_blob : Meaning → Result (List ℕ) Fault
as_blob unit = Err NoRow
as_blob (bool b) = Err NoRow
as_blob (int n) = Err NoRow
as_blob (float x) = Err NoRow
as_blob (char c) = Err NoRow
as_blob (str bs) = Err NoRow
as_blob (blob bs) = Ok bs
as_blob (excl a b) = Err NoRow
as_blob (incl a b) = Err NoRow

-- both ends of a range
abbrev pub as_range : Meaning → Result (ℤ × ℤ) Fault
as_range unit = Err NoRow
as_range (bool b) = Err NoRow
as_range (int n) = Err NoRow
as_range (float x) = Err NoRow
as_range (char c) = Err NoRow
as_range (str bs) = Err NoRow
as_range (blob bs) = Err NoRow
as_range (excl a b) = Ok (a, b)
as_range (incl a b) = Ok (a, b)

-- an end of a new range: the int, or for unit the end that goes without saying
abbrev pub as_end : ℤ → Meaning → Result ℤ Fault
as_end implied unit = Ok implied
as_end implied (bool b) = Err NoRow
as_end implied (int n) = Ok n
as_end implied (float x) = Err NoRow
as_end implied (char c) = Err NoRow
as_end implied (str bs) = Err NoRow
as_end implied (blob bs) = Err NoRow
as_end implied (excl a b) = Err NoRow
as_end implied (incl a b) = Err NoRow

-- the Unicode scalars of a char or a str
abbrev pub as_scalars : Meaning → Result (List ℕ) Fault
as_scalars unit = Err NoRow
as_scalars (bool b) = Err NoRow
as_scalars (int n) = Err NoRow
as_scalars (float x) = Err NoRow
as_scalars (char c) = Ok (c ∷ [])
as_scalars (str bs) = Ok (chars bs)
as_scalars (blob bs) = Err NoRow
as_scalars (excl a b) = Err NoRow
as_scalars (incl a b) = Err NoRow

-- the bytes that an operand brings to a text: of a char its UTF-8, of an int the low eight bits
abbrev pub as_bytes : Meaning → Result (List ℕ) Fault
as_bytes unit = Err NoRow
as_bytes (bool b) = Err NoRow
as_bytes (int n) = Ok (of_z w64 n % 256 ∷ [])
as_bytes (float x) = Err NoRow
as_bytes (char c) = Ok (encode c)
as_bytes (str bs) = Ok bs
as_bytes (blob bs) = Ok bs
as_bytes (excl a b) = Err NoRow
as_bytes (incl a b) = Err NoRow

-- both operands read alike
abbrev pub of : {A B : Type 0} → (Meaning → Result A Fault) → Meaning → Meaning → (A → A → Result B Fault) → Result B Fault
of read a b f = bind (read a) (λ x. bind (read b) (λ y. f x y))

-- ---- what a routine gives

abbrev pub truth : Bool → Result Given Fault
truth b = Ok (fresh (bool b))

abbrev pub logical : Logic → Bool → Bool → Bool
logical And x y = x && y
logical Or x y = x || y
logical Xor x y = not (beq x y)

abbrev pub ranged : RangeKind → ℤ → ℤ → Meaning
ranged Exclusive a b = excl a b
ranged Inclusive a b = incl a b

abbrev pub greatest : ℤ
greatest = pos (2 ^ 63 - 1)

abbrev pub same_int : ℤ → ℤ → Bool
same_int x y = is_equal (by_int x y)

-- a size within a limit, 0 being none
abbrev pub allowed : ℕ → ℕ → Bool
allowed limit n = limit == 0 || nat_le n limit

abbrev pub typed : TextKind → List ℕ → Meaning
typed StrText bs = str bs
typed BlobText bs = blob bs

abbrev pub limit_for : TextKind → Limits → ℕ
limit_for StrText l = l.string
limit_for BlobText l = l.blob

-- a new text, unless it is over the limit
abbrev pub grown : ℕ → TextKind → List ℕ → Result Given Fault
grown limit k bs = unless (allowed limit (length bs)) OverLimit (fresh (typed k bs))

-- what becomes of two texts of m and n bytes
abbrev pub choice : Limits → TextRule → ℕ → ℕ → Result Choice Fault
choice l (rule.Both k) m n = Ok (Join k (limit_for k l))
choice l (rule.Append k) m n = Ok (cond (n == 0) Left (Join k (limit_for k l)))
choice l rule.JoinBlobs m n = Ok (cond (n == 0) Left (cond (m == 0) Right (Join BlobText l.blob)))
choice l rule.ExtendStr m n = Ok (cond (n == 0) Left (Join StrText (cond (m == 0) 0 l.string)))
choice l rule.ExtendBlob m n = cond (n == 0) (unless (allowed l.blob m) OverLimit Left) (Ok (Join BlobText l.blob))

abbrev pub chosen : List ℕ → Choice → Result Given Fault
chosen bs Left = Ok left
chosen bs Right = Ok right
chosen bs (Join k limit) = grown limit k bs

abbrev pub joined_by : Limits → TextRule → List ℕ → List ℕ → Result Given Fault
joined_by l r x y = bind (choice l r (length x) (length y)) (chosen (x ++ y))

abbrev pub called : Limits → FnBuiltin → Meaning → Meaning → Result Given Fault
called l (builtin.Int f) a b = of as_int a b (λ x y. bind (computed f x y) (λ z. Ok (fresh (int z))))
called l (builtin.Float f) a b = of as_float a b (λ x y. Ok (fresh (float (computed_float f x y))))
called l (builtin.Bool f) a b = of as_bool a b (λ x y. truth (logical f x y))
called l (builtin.CompareInts c) a b = of as_int a b (λ x y. truth (satisfies c (by_int x y)))
called l (builtin.CompareFloats c) a b = of as_float a b (λ x y. truth (satisfies c (by_float x y)))
called l (builtin.CompareBools c) a b = of as_bool a b (λ x y. truth (satisfies c (by_bool x y)))
called l (builtin.CompareTexts c) a b = of as_scalars a b (λ x y. truth (satisfies c (by_scalars x y)))
called l (builtin.EqualBlobs asked) a b = of as_blob a b (λ x y. truth (beq asked (bytes_eq x y)))
called l (builtin.EqualRanges asked) a b = of as_range a b (λ x y. truth (beq asked (same_int x.0 y.0 && same_int x.1 y.1)))
called l (builtin.Constant t) a b = truth t
called l (builtin.Range r) a b = bind (as_end (pos 0) a) (λ x. bind (as_end greatest b) (λ y. Ok (fresh (ranged r x y))))
called l builtin.Concat a b = of as_bytes a b (joined_by l (rule.Both StrText))
called l builtin.ConcatBlobs a b = of as_bytes a b (joined_by l rule.JoinBlobs)
called l builtin.AppendChar a b = of as_bytes a b (joined_by l (rule.Both BlobText))
called l builtin.First a b = Ok left
called l builtin.Second a b = Ok right

abbrev pub assigned : Limits → FnAssign → Meaning → Meaning → Result Given Fault
assigned l (assign.Int f) a b = called l (builtin.Int f) a b
assigned l (assign.Float f) a b = called l (builtin.Float f) a b
assigned l (assign.Bool f) a b = called l (builtin.Bool f) a b
assigned l assign.StrByStr a b = of as_bytes a b (joined_by l rule.ExtendStr)
assigned l assign.StrByChar a b = of as_bytes a b (joined_by l (rule.Both StrText))
assigned l assign.CharByChar a b = of as_bytes a b (joined_by l (rule.Both StrText))
assigned l assign.CharByStr a b = of as_bytes a b (joined_by l (rule.Append StrText))
assigned l assign.BlobByBlob a b = of as_bytes a b (joined_by l rule.ExtendBlob)
assigned l assign.BlobByOther a b = of as_bytes a b (joined_by l (rule.Append BlobText))
