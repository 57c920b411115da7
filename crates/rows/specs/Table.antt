-- The rows a second time, as a user lists them: groups of operators and kinds with what they give, and with what they answer
-- where the kinds alone settle that. The first group that an operator and two kinds belong to decides, and what belongs to none
-- has no row. `RowsAsListed` says that these are the rows of `specs/Rows.antt`. Assumes nothing.
use Rattle.std.specs.Prelude.{◌≡◌, Bool, false, cond, not, ◌&&◌, ◌||◌, List, [], ◌∷◌, Some, None, Option, ◌==◌}
use Rattle.std.specs.Option.{ok_or}
use Rattle.fault.specs.declared.Fault.TheVariants.{NoRow}
use Rattle.value.specs.Kinds.{is_kind, single, united}
use Rattle.value.specs.Ops.{op_number}
use Rattle.value.specs.declared.kind.Kind.{Kind}
use Rattle.value.specs.declared.kind.Kind.TheVariants as kind
use Rattle.value.specs.declared.set.KindSet.{KindSet}
use Rattle.value.specs.declared.op.Op.{Op}
use Rattle.value.specs.declared.op.Op.TheVariants.{Plus, Minus, Multiply, Divide, Modulo, PowerOf, LeftShift, RightShift, Ampersand, Pipe, XOr, EqualsTo, NotEqualsTo, LessThan, LessThanEqualsTo, GreaterThan, GreaterThanEqualsTo, ExclusiveRange, InclusiveRange}
use Rattle.rows.specs.declared.routine.FnBuiltin.{FnBuiltin}
use Rattle.rows.specs.Routines.{Answer, varies, says, gives_left, gives_right, answers}
use Rattle.rows.specs.Rows.{row_of, selected, assign_selected}

abbrev pub is_op : List Op → Op → Bool
is_op [] op = false
is_op (o ∷ os) op = op_number o == op_number op || is_op os op

abbrev pub is_one_of : List Kind → Kind → Bool
is_one_of [] k = false
is_one_of (j ∷ js) k = is_kind j k || is_one_of js k

pub record Group : Type 0 where
  pub ops : List Op
  pub kinds : Kind → Kind → Bool
  pub gives : Option KindSet
  pub fixed : Op → Answer

-- the values decide
abbrev pub group : List Op → (Kind → Kind → Bool) → Kind → Group
group os who k = record { ops = os; kinds = who; gives = Some (single k); fixed = λ _. varies }

-- comparisons, of which only one is true
abbrev pub only : Op → List Op → (Kind → Kind → Bool) → Group
only true_one os who = record { ops = os; kinds = who; gives = Some (single kind.Bool); fixed = λ op. says (op_number true_one == op_number op) }

-- + that gives back an operand
abbrev pub back : Answer → (Kind → Kind → Bool) → Kind → Group
back which who k = record { ops = Plus ∷ []; kinds = who; gives = Some (single k); fixed = λ _. which }

-- no row
abbrev pub none : List Op → (Kind → Kind → Bool) → Group
none os who = record { ops = os; kinds = who; gives = None; fixed = λ _. varies }

abbrev pub found : List Group → Op → Kind → Kind → Option KindSet
found [] op a b = None
found (g ∷ gs) op a b = cond (is_op g.ops op && g.kinds a b) g.gives (found gs op a b)

-- what the group says that decides
abbrev pub told : List Group → Op → Kind → Kind → Answer
told [] op a b = varies
told (g ∷ gs) op a b = cond (is_op g.ops op && g.kinds a b) (g.fixed op) (told gs op a b)

-- what a row answers; where there is none, nothing is said
abbrev pub in_row : Option FnBuiltin → Answer
in_row None = varies
in_row (Some f) = answers f

-- ---- operators and kinds by groups

abbrev pub six : List Op
six = EqualsTo ∷ NotEqualsTo ∷ LessThan ∷ LessThanEqualsTo ∷ GreaterThan ∷ GreaterThanEqualsTo ∷ []

abbrev pub five : List Op
five = Plus ∷ Minus ∷ Multiply ∷ Divide ∷ Modulo ∷ []

abbrev pub eleven : List Op
eleven = Plus ∷ Minus ∷ Multiply ∷ Divide ∷ Modulo ∷ PowerOf ∷ LeftShift ∷ RightShift ∷ Ampersand ∷ Pipe ∷ XOr ∷ []

abbrev pub bits : List Op
bits = Ampersand ∷ Pipe ∷ XOr ∷ []

abbrev pub same : List Op
same = EqualsTo ∷ NotEqualsTo ∷ []

abbrev pub between : List Kind → List Kind → Kind → Kind → Bool
between js ks a b = is_one_of js a && is_one_of ks b

abbrev pub either_side : Kind → List Kind → Kind → Kind → Bool
either_side j ks a b = between (j ∷ []) ks a b || between ks (j ∷ []) a b

abbrev pub two : Kind → Kind → Kind → Bool
two k a b = is_kind k a && is_kind k b

abbrev pub one_one : Kind → Kind → Kind → Kind → Bool
one_one j k a b = is_kind j a && is_kind k b

abbrev pub unequal : Kind → Kind → Bool
unequal a b = not (is_kind a b)

-- ---- the rows

abbrev pub binary_groups : List Group
binary_groups =
    group eleven (two kind.Int) kind.Int
    ∷ group six (two kind.Int) kind.Bool
    ∷ group (ExclusiveRange ∷ []) (two kind.Int) kind.Excl
    ∷ group (InclusiveRange ∷ []) (two kind.Int) kind.Incl
    ∷ group five (either_side kind.Float (kind.Float ∷ kind.Int ∷ [])) kind.Float
    ∷ group six (either_side kind.Float (kind.Float ∷ kind.Int ∷ [])) kind.Bool
    ∷ group bits (two kind.Bool) kind.Bool
    ∷ group six (two kind.Bool) kind.Bool
    ∷ group (Plus ∷ []) (between (kind.Str ∷ kind.Char ∷ []) (kind.Str ∷ kind.Char ∷ [])) kind.Str
    ∷ group six (between (kind.Str ∷ kind.Char ∷ []) (kind.Str ∷ kind.Char ∷ [])) kind.Bool
    ∷ group (Plus ∷ []) (between (kind.Blob ∷ []) (kind.Blob ∷ kind.Char ∷ [])) kind.Blob
    ∷ group same (two kind.Blob) kind.Bool
    ∷ none six (one_one kind.Blob kind.Char)
    ∷ only EqualsTo six (two kind.Unit)
    ∷ group (ExclusiveRange ∷ []) (either_side kind.Unit (kind.Int ∷ [])) kind.Excl
    ∷ group (InclusiveRange ∷ []) (either_side kind.Unit (kind.Int ∷ [])) kind.Incl
    ∷ back gives_right (one_one kind.Unit kind.Str) kind.Str
    ∷ back gives_left (one_one kind.Str kind.Unit) kind.Str
    ∷ group same (two kind.Excl) kind.Bool
    ∷ group same (two kind.Incl) kind.Bool
    ∷ only NotEqualsTo same (either_side kind.Excl (kind.Incl ∷ []))
    ∷ none six (between (kind.Excl ∷ kind.Incl ∷ []) (kind.Excl ∷ kind.Incl ∷ []))
    ∷ only NotEqualsTo six unequal
    ∷ []

abbrev pub assign_groups : List Group
assign_groups =
    group eleven (two kind.Int) kind.Int
    ∷ group bits (two kind.Bool) kind.Bool
    ∷ group five (between (kind.Float ∷ []) (kind.Float ∷ kind.Int ∷ [])) kind.Float
    ∷ group (Plus ∷ []) (between (kind.Str ∷ []) (kind.Str ∷ kind.Char ∷ [])) kind.Str
    ∷ group (Plus ∷ []) (two kind.Char) kind.Str
    ∷ record { ops = Plus ∷ []; kinds = one_one kind.Char kind.Str; gives = Some (united (single kind.Char) (single kind.Str)); fixed = λ _. varies }
    ∷ group (Plus ∷ []) (between (kind.Blob ∷ []) (kind.Blob ∷ kind.Int ∷ kind.Char ∷ kind.Str ∷ [])) kind.Blob
    ∷ []

-- the kinds that a row gives are the listed ones, in both forms; and so is what the binary one answers. An assigning one never
-- answers by the kinds alone.
abbrev pub RowsAsListed : Type 0
RowsAsListed = (op : Op) (a b : Kind)
    → (selected op a b ≡ ok_or (found binary_groups op a b) NoRow)
    × (assign_selected op a b ≡ ok_or (found assign_groups op a b) NoRow)
    × (in_row (row_of op a b) ≡ told binary_groups op a b)
