-- Which kinds each routine is for, and that it reads operands of these kinds, for that proof. Assumes nothing.
use Rattle.std.proofs.Common.{◌≡◌, Bool, true, ◌&&◌, ◌||◌, ℤ, is_ok, Some, None, Option, refl}
use Rattle.value.specs.Kinds.{is_kind}
use Rattle.value.specs.Values.{Meaning, unit, bool, int, float, char, str, blob, excl, incl, kind_in}
use Rattle.value.specs.declared.kind.Kind.{Kind}
use Rattle.value.specs.declared.kind.Kind.TheVariants as kind
use Rattle.value.specs.declared.op.Op.{Op}
use Rattle.value.proofs.Laws.{every, every_kind, every_op}
use Rattle.value.specs.Kinds.{kinds}
use Rattle.value.specs.Ops.{ops}
use Rattle.rows.specs.Rows.{both, pair, is_number, is_letters, row_of, assign_row_of}
use Rattle.rows.specs.declared.routine.FnBuiltin.{FnBuiltin}
use Rattle.rows.specs.declared.routine.FnBuiltin.TheVariants as builtin
use Rattle.rows.specs.declared.routine.FnAssign.{FnAssign}
use Rattle.rows.specs.declared.routine.FnAssign.TheVariants as assign
use Rattle.routines.specs.Calls.{as_int, as_float, as_bool, as_blob, as_range, as_end, as_scalars, as_bytes}

abbrev pub is_range : Kind → Bool
is_range k = is_kind k kind.Excl || is_kind k kind.Incl

abbrev pub is_end : Kind → Bool
is_end k = is_kind k kind.Int || is_kind k kind.Unit

-- int, str, char or blob
abbrev pub is_bytes : Kind → Bool
is_bytes k = is_letters k || is_kind k kind.Int || is_kind k kind.Blob

abbrev pub serves : FnBuiltin → Kind → Kind → Bool
serves (builtin.Int f) a b = both kind.Int a b
serves (builtin.Float f) a b = is_number a && is_number b
serves (builtin.Bool f) a b = both kind.Bool a b
serves (builtin.CompareInts c) a b = both kind.Int a b
serves (builtin.CompareFloats c) a b = is_number a && is_number b
serves (builtin.CompareBools c) a b = both kind.Bool a b
serves (builtin.CompareTexts c) a b = is_letters a && is_letters b
serves (builtin.EqualBlobs q) a b = both kind.Blob a b
serves (builtin.EqualRanges q) a b = is_range a && is_range b
serves (builtin.Constant t) a b = true
serves (builtin.Range r) a b = is_end a && is_end b
serves builtin.Concat a b = is_letters a && is_letters b
serves builtin.ConcatBlobs a b = both kind.Blob a b
serves builtin.AppendChar a b = pair kind.Blob kind.Char a b
serves builtin.First a b = is_kind a kind.Str
serves builtin.Second a b = is_kind b kind.Str

abbrev pub serves_assign : FnAssign → Kind → Kind → Bool
serves_assign (assign.Int f) a b = both kind.Int a b
serves_assign (assign.Float f) a b = is_number a && is_number b
serves_assign (assign.Bool f) a b = both kind.Bool a b
serves_assign assign.StrByStr a b = both kind.Str a b
serves_assign assign.StrByChar a b = is_letters a && is_letters b
serves_assign assign.CharByChar a b = is_letters a && is_letters b
serves_assign assign.CharByStr a b = pair kind.Char kind.Str a b
serves_assign assign.BlobByBlob a b = both kind.Blob a b
serves_assign assign.BlobByOther a b = is_kind a kind.Blob && (is_kind b kind.Int || is_letters b)

abbrev pub of_some : {A : Type 0} → (A → Bool) → Option A → Bool
of_some p None = true
of_some p (Some x) = p x

-- the rows lead to routines for their kinds, by a test of them all
abbrev everywhere : (Op → Kind → Kind → Bool) → Bool
everywhere p = every (λ op. every (λ a. every (λ b. p op a b) kinds) kinds) ops

every_pair : (p : Op → Kind → Kind → Bool) → everywhere p ≡ true → (op : Op) (a b : Kind) → p op a b ≡ true
every_pair p h op a b = every_kind (p op a) (every_kind (λ a. every (p op a) kinds) (every_op (λ op. every (λ a. every (p op a) kinds) kinds) h op) a) b

pub row_serves : (op : Op) (a b : Kind) → of_some (λ f. serves f a b) (row_of op a b) ≡ true
row_serves = every_pair (λ op a b. of_some (λ f. serves f a b) (row_of op a b)) refl

pub assign_row_serves : (op : Op) (a b : Kind) → of_some (λ f. serves_assign f a b) (assign_row_of op a b) ≡ true
assign_row_serves = every_pair (λ op a b. of_some (λ f. serves_assign f a b) (assign_row_of op a b)) refl

-- ---- each reading is for its kinds

pub int_read : (m : Meaning) → is_ok (as_int m) ≡ is_kind (kind_in m) kind.Int
int_read unit = refl
int_read (bool b) = refl
int_read (int n) = refl
int_read (float x) = refl
int_read (char c) = refl
int_read (str bs) = refl
int_read (blob bs) = refl
int_read (excl a b) = refl
int_read (incl a b) = refl

pub float_read : (m : Meaning) → is_ok (as_float m) ≡ is_number (kind_in m)
float_read unit = refl
float_read (bool b) = refl
float_read (int n) = refl
float_read (float x) = refl
float_read (char c) = refl
float_read (str bs) = refl
float_read (blob bs) = refl
float_read (excl a b) = refl
float_read (incl a b) = refl

pub bool_read : (m : Meaning) → is_ok (as_bool m) ≡ is_kind (kind_in m) kind.Bool
bool_read unit = refl
bool_read (bool b) = refl
bool_read (int n) = refl
bool_read (float x) = refl
bool_read (char c) = refl
bool_read (str bs) = refl
bool_read (blob bs) = refl
bool_read (excl a b) = refl
bool_read (incl a b) = refl

pub blob_read : (m : Meaning) → is_ok (as_blob m) ≡ is_kind (kind_in m) kind.Blob
blob_read unit = refl
blob_read (bool b) = refl
blob_read (int n) = refl
blob_read (float x) = refl
blob_read (char c) = refl
blob_read (str bs) = refl
blob_read (blob bs) = refl
blob_read (excl a b) = refl
blob_read (incl a b) = refl

pub range_read : (m : Meaning) → is_ok (as_range m) ≡ is_range (kind_in m)
range_read unit = refl
range_read (bool b) = refl
range_read (int n) = refl
range_read (float x) = refl
range_read (char c) = refl
range_read (str bs) = refl
range_read (blob bs) = refl
range_read (excl a b) = refl
range_read (incl a b) = refl

pub end_read : (implied : ℤ) (m : Meaning) → is_ok (as_end implied m) ≡ is_end (kind_in m)
end_read implied unit = refl
end_read implied (bool b) = refl
end_read implied (int n) = refl
end_read implied (float x) = refl
end_read implied (char c) = refl
end_read implied (str bs) = refl
end_read implied (blob bs) = refl
end_read implied (excl a b) = refl
end_read implied (incl a b) = refl

pub scalars_read : (m : Meaning) → is_ok (as_scalars m) ≡ is_letters (kind_in m)
scalars_read unit = refl
scalars_read (bool b) = refl
scalars_read (int n) = refl
scalars_read (float x) = refl
scalars_read (char c) = refl
scalars_read (str bs) = refl
scalars_read (blob bs) = refl
scalars_read (excl a b) = refl
scalars_read (incl a b) = refl

pub bytes_read : (m : Meaning) → is_ok (as_bytes m) ≡ is_bytes (kind_in m)
bytes_read unit = refl
bytes_read (bool b) = refl
bytes_read (int n) = refl
bytes_read (float x) = refl
bytes_read (char c) = refl
bytes_read (str bs) = refl
bytes_read (blob bs) = refl
bytes_read (excl a b) = refl
bytes_read (incl a b) = refl
