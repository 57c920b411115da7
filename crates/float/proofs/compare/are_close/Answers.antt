use Rattle.std.proofs.Common.{refl}
use Rattle.float.proofs.Literals.{epsilon_bits}
use Rattle.float.proofs.compare.are_close.Goals as goal

pub returns : goal.returns
returns c = rw (epsilon_bits, c.abs.ensures.value, c.find_divisor.ensures) refl
