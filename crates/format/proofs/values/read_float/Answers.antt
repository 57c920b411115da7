use Rattle.std.proofs.Common.{arith}
use Rattle.format.proofs.Decimal.{reads_as}
use Rattle.format.proofs.Floats.{no_number, float_ok, bits_lt, bits_are_number, is_number}
use Rattle.format.proofs.values.read_float.Goals as goal

pub returns-in_err-bits-clause-exact : goal.returns-in_err-bits-clause-exact
returns-in_err-bits-clause-exact c = rw c.from_residual.ensures (λ v f e. c.in_err-bits.ensures.exact _ (bits_lt v f) e)

pub returns-then-bits-gt9218868437227405312-clause-exact : goal.returns-then-bits-gt9218868437227405312-clause-exact
returns-then-bits-gt9218868437227405312-clause-exact c = λ v f e. no_number _ c.in_ok-bits.bits v (omega arith) c.in_ok-bits.ensures.exact.1 (omega arith) f e

pub float_from_bits-result : goal.float_from_bits-result
float_from_bits-result c = bits_are_number c.in_ok-bits.bits (omega arith)

pub returns-clause-exact : goal.returns-clause-exact
returns-clause-exact c = (is_number c.in_ok-bits.bits (omega arith), float_ok _ c.in_ok-bits.bits (omega arith) c.in_ok-bits.ensures.exact.1 (omega arith))

pub returns-in_err-bits-clause-reads : goal.returns-in_err-bits-clause-reads
returns-in_err-bits-clause-reads c = reads_as _ _ _ c.from_residual.result (returns-in_err-bits-clause-exact c)

pub returns-then-bits-gt9218868437227405312-clause-reads : goal.returns-then-bits-gt9218868437227405312-clause-reads
returns-then-bits-gt9218868437227405312-clause-reads c = returns-then-bits-gt9218868437227405312-clause-exact c

pub returns-clause-reads : goal.returns-clause-reads
returns-clause-reads c = (returns-clause-exact c).1
