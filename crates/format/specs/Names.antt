-- The names of kinds and operators, and what bytes name. Assumes nothing.
use Rattle.std.specs.Prelude.{ℕ, cond, List, [], ◌∷◌, ◌++◌, take, Some, None, codes, Option}
use Rattle.std.specs.Str.{bytes_eq}
use Rattle.value.specs.Kinds.{kinds}
use Rattle.value.specs.Ops.{ops}
use Rattle.value.specs.declared.kind.Kind.{Kind}
use Rattle.value.specs.declared.kind.Kind.TheVariants as kind
use Rattle.value.specs.declared.op.Op.{Op}
use Rattle.value.specs.declared.op.Op.TheVariants as op

abbrev pub kind_name : Kind → List ℕ
kind_name kind.Unit = codes "unit"
kind_name kind.Bool = codes "bool"
kind_name kind.Int = codes "int"
kind_name kind.Float = codes "float"
kind_name kind.Char = codes "char"
kind_name kind.Str = codes "str"
kind_name kind.Blob = codes "blob"
kind_name kind.Excl = codes "excl"
kind_name kind.Incl = codes "incl"

abbrev pub op_name : Op → List ℕ
op_name op.Plus = codes "+"
op_name op.Minus = codes "-"
op_name op.Multiply = codes "*"
op_name op.Divide = codes "/"
op_name op.Modulo = codes "%"
op_name op.PowerOf = codes "**"
op_name op.LeftShift = codes "<<"
op_name op.RightShift = codes ">>"
op_name op.Ampersand = codes "&"
op_name op.Pipe = codes "|"
op_name op.XOr = codes "^"
op_name op.EqualsTo = codes "=="
op_name op.NotEqualsTo = codes "!="
op_name op.LessThan = codes "<"
op_name op.LessThanEqualsTo = codes "<="
op_name op.GreaterThan = codes ">"
op_name op.GreaterThanEqualsTo = codes ">="
op_name op.ExclusiveRange = codes ".."
op_name op.InclusiveRange = codes "..="

-- an assigning operator is written with = behind
abbrev pub assign_name : Op → List ℕ
assign_name o = op_name o ++ codes "="

-- the first of these that the bytes name
abbrev pub named : {A : Type 0} → (A → List ℕ) → List A → List ℕ → Option A
named name [] bs = None
named name (x ∷ xs) bs = cond (bytes_eq bs (name x)) (Some x) (named name xs bs)

abbrev pub kind_named : List ℕ → Option Kind
kind_named bs = named kind_name kinds bs

abbrev pub op_named : List ℕ → Option Op
op_named bs = named op_name ops bs

-- the first eleven assign
abbrev pub assign_named : List ℕ → Option Op
assign_named bs = named assign_name (take 11 ops) bs
