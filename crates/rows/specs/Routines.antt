-- Which kinds a routine can give, and what it answers where the kinds alone settle that. Assumes nothing.
use Rattle.std.specs.Prelude.{Bool}
use Rattle.rows.specs.declared.routine.RangeKind.{RangeKind}
use Rattle.rows.specs.declared.routine.RangeKind.TheVariants.{Exclusive, Inclusive}
use Rattle.rows.specs.declared.routine.FnBuiltin.{FnBuiltin}
use Rattle.rows.specs.declared.routine.FnBuiltin.TheVariants as builtin
use Rattle.rows.specs.declared.routine.FnAssign.{FnAssign}
use Rattle.rows.specs.declared.routine.FnAssign.TheVariants as assign
use Rattle.value.specs.Kinds.{single, united}
use Rattle.value.specs.declared.kind.Kind.{Kind}
use Rattle.value.specs.declared.kind.Kind.TheVariants as kind
use Rattle.value.specs.declared.set.KindSet.{KindSet}

abbrev pub range_kind : RangeKind → Kind
range_kind Exclusive = kind.Excl
range_kind Inclusive = kind.Incl

abbrev pub results : FnBuiltin → KindSet
results (builtin.Int f) = single kind.Int
results (builtin.Float f) = single kind.Float
results (builtin.Bool f) = single kind.Bool
results (builtin.CompareInts c) = single kind.Bool
results (builtin.CompareFloats c) = single kind.Bool
results (builtin.CompareBools c) = single kind.Bool
results (builtin.CompareTexts c) = single kind.Bool
results (builtin.EqualBlobs b) = single kind.Bool
results (builtin.EqualRanges b) = single kind.Bool
results (builtin.Constant b) = single kind.Bool
results (builtin.Range r) = single (range_kind r)
results builtin.Concat = single kind.Str
results builtin.ConcatBlobs = single kind.Blob
results builtin.AppendChar = single kind.Blob
results builtin.First = single kind.Str
results builtin.Second = single kind.Str

-- a char by a str becomes a str, or stays where the str is empty
abbrev pub assign_results : FnAssign → KindSet
assign_results (assign.Int f) = single kind.Int
assign_results (assign.Float f) = single kind.Float
assign_results (assign.Bool f) = single kind.Bool
assign_results assign.StrByStr = single kind.Str
assign_results assign.StrByChar = single kind.Str
assign_results assign.CharByChar = single kind.Str
assign_results assign.CharByStr = united (single kind.Char) (single kind.Str)
assign_results assign.BlobByBlob = single kind.Blob
assign_results assign.BlobByOther = single kind.Blob

-- what an operator answers: it turns on the values, or is the same for all
pub data Answer : Type 0 where
  varies : Answer
  says : Bool → Answer
  gives_left : Answer
  gives_right : Answer

abbrev pub answers : FnBuiltin → Answer
answers (builtin.Int f) = varies
answers (builtin.Float f) = varies
answers (builtin.Bool f) = varies
answers (builtin.CompareInts c) = varies
answers (builtin.CompareFloats c) = varies
answers (builtin.CompareBools c) = varies
answers (builtin.CompareTexts c) = varies
answers (builtin.EqualBlobs b) = varies
answers (builtin.EqualRanges b) = varies
answers (builtin.Constant b) = says b
answers (builtin.Range r) = varies
answers builtin.Concat = varies
answers builtin.ConcatBlobs = varies
answers builtin.AppendChar = varies
answers builtin.First = gives_left
answers builtin.Second = gives_right
