use Rattle.std.proofs.Common.{Some, ap, arith}
use Rattle.std.proofs.lemmas.Float.{not_nan_f64_bits}
use Rattle.value.specs.Values.{float}
use Rattle.cases.proofs.Given.{same_nan}
use Rattle.cases.proofs.judge.read_any_float.Goals as goal

pub returns-then-bits-gt9218868437227405312 : goal.returns-then-bits-gt9218868437227405312
returns-then-bits-gt9218868437227405312 c = (Some c.in_ok-bits.bits, c.in_ok-bits.ensures.exact, ap (λ x. Some (float x)) (same_nan c.in_ok-bits.bits (omega arith)))

pub float_from_bits-result : goal.float_from_bits-result
float_from_bits-result c = not_nan_f64_bits c.in_ok-bits.bits (omega arith)
