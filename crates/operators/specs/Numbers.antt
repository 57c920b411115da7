-- What an operator answers of two numbers, ints or floats on either side, under any limits: where == answers true, >= and <= do
-- too; exactly one of <, == and > answers true, unless a NaN is among the two; and beside a NaN only != does. Assumes nothing.
use Rattle.std.specs.Prelude.{◌≡◌, Bool, true, false, ◌||◌, ◌⊎◌, Result, is_nan}
use Rattle.fault.specs.declared.Fault.{Fault}
use Rattle.value.specs.Values.{Meaning, unit, bool, int, float, char, str, blob, excl, incl, kind_in}
use Rattle.value.specs.declared.op.Op.{Op}
use Rattle.value.specs.declared.op.Op.TheVariants.{EqualsTo, NotEqualsTo, LessThan, LessThanEqualsTo, GreaterThan, GreaterThanEqualsTo}
use Rattle.rows.specs.Rows.{is_number}
use Rattle.routines.specs.Calls.{Given, truth}
use Rattle.routines.specs.declared.made.Limits.{Limits}
use Rattle.operators.specs.Applied.{applied}

abbrev pub is_no_number : Meaning → Bool
is_no_number unit = false
is_no_number (bool b) = false
is_no_number (int n) = false
is_no_number (float x) = is_nan x
is_no_number (char c) = false
is_no_number (str bs) = false
is_no_number (blob bs) = false
is_no_number (excl a b) = false
is_no_number (incl a b) = false

-- of three operators the first answers true, and the others answer false
abbrev pub Only : (Op → Result Given Fault) → Op → Op → Op → Type 0
Only answer a b c = (answer a ≡ truth true) × (answer b ≡ truth false) × (answer c ≡ truth false)

-- the answers of the six for two numbers, a NaN among them or not
pub record Agree (no_number : Bool) (answer : Op → Result Given Fault) : Type 0 where
  pub upward : answer EqualsTo ≡ truth true → answer GreaterThanEqualsTo ≡ truth true
  pub downward : answer EqualsTo ≡ truth true → answer LessThanEqualsTo ≡ truth true
  pub one : no_number ≡ false → Only answer LessThan EqualsTo GreaterThan ⊎ (Only answer EqualsTo LessThan GreaterThan ⊎ Only answer GreaterThan LessThan EqualsTo)
  pub apart : no_number ≡ true → (answer NotEqualsTo ≡ truth true) × (answer EqualsTo ≡ truth false) × (answer LessThan ≡ truth false) × (answer LessThanEqualsTo ≡ truth false) × (answer GreaterThan ≡ truth false) × (answer GreaterThanEqualsTo ≡ truth false)

abbrev pub NumbersAgree : Type 0
NumbersAgree = (l : Limits) (a b : Meaning) → is_number (kind_in a) ≡ true → is_number (kind_in b) ≡ true → Agree (is_no_number a || is_no_number b) (λ op. applied l op a b)
