-- The operators with their numbers. Assumes nothing.
use Rattle.std.specs.Prelude.{ℕ, List, [], ◌∷◌}
use Rattle.value.specs.declared.op.Op.{Op}
use Rattle.value.specs.declared.op.Op.TheVariants.{Plus, Minus, Multiply, Divide, Modulo, PowerOf, LeftShift, RightShift, Ampersand, Pipe, XOr, EqualsTo, NotEqualsTo, LessThan, LessThanEqualsTo, GreaterThan, GreaterThanEqualsTo, ExclusiveRange, InclusiveRange}

abbrev pub op_number : Op → ℕ
op_number Plus = 0
op_number Minus = 1
op_number Multiply = 2
op_number Divide = 3
op_number Modulo = 4
op_number PowerOf = 5
op_number LeftShift = 6
op_number RightShift = 7
op_number Ampersand = 8
op_number Pipe = 9
op_number XOr = 10
op_number EqualsTo = 11
op_number NotEqualsTo = 12
op_number LessThan = 13
op_number LessThanEqualsTo = 14
op_number GreaterThan = 15
op_number GreaterThanEqualsTo = 16
op_number ExclusiveRange = 17
op_number InclusiveRange = 18

-- all of them, by their numbers
abbrev pub ops : List Op
ops = Plus ∷ Minus ∷ Multiply ∷ Divide ∷ Modulo ∷ PowerOf ∷ LeftShift ∷ RightShift ∷ Ampersand ∷ Pipe ∷ XOr ∷ EqualsTo ∷ NotEqualsTo ∷ LessThan ∷ LessThanEqualsTo ∷ GreaterThan ∷ GreaterThanEqualsTo ∷ ExclusiveRange ∷ InclusiveRange ∷ []
