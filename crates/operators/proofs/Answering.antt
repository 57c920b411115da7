-- What an operator answers where the list of rows says it for two kinds.
use Rattle.std.proofs.Common.{Some, None, Option, refl, subst}
use Rattle.value.specs.Values.{Meaning, kind_in}
use Rattle.rows.specs.Rows.{row_of}
use Rattle.rows.specs.Table.{in_row as row_answers}
use Rattle.rows.proofs.Listed.{rows_as_listed}
use Rattle.rows.specs.declared.routine.FnBuiltin.{FnBuiltin}
use Rattle.rows.specs.declared.routine.FnBuiltin.TheVariants as builtin
use Rattle.routines.specs.Calls.{called}
use Rattle.routines.specs.declared.made.Limits.{Limits}
use Rattle.operators.specs.Applied.{in_row, applied}
use Rattle.operators.specs.Listed.{Answers, AnswersAsListed}

module _ (l : Limits) (a b : Meaning) where
  answering : (o : Option FnBuiltin) → Answers (row_answers o) (in_row o (λ f. called l f a b))
  answering None = tt
  answering (Some (builtin.Int f)) = tt
  answering (Some (builtin.Float f)) = tt
  answering (Some (builtin.Bool f)) = tt
  answering (Some (builtin.CompareInts c)) = tt
  answering (Some (builtin.CompareFloats c)) = tt
  answering (Some (builtin.CompareBools c)) = tt
  answering (Some (builtin.CompareTexts c)) = tt
  answering (Some (builtin.EqualBlobs q)) = tt
  answering (Some (builtin.EqualRanges q)) = tt
  answering (Some (builtin.Constant t)) = refl
  answering (Some (builtin.Range r)) = tt
  answering (Some builtin.Concat) = tt
  answering (Some builtin.ConcatBlobs) = tt
  answering (Some builtin.AppendChar) = tt
  answering (Some builtin.First) = refl
  answering (Some builtin.Second) = refl

pub answers_as_listed : AnswersAsListed
answers_as_listed l op a b = subst (λ n. Answers n (applied l op a b)) (rows_as_listed op (kind_in a) (kind_in b)).2 (answering l a b (row_of op (kind_in a) (kind_in b)))
