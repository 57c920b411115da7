use Rattle.std.proofs.Common.{refl}
use Rattle.std.specs.Int.{int_wrap}
use Rattle.whole.proofs.worked.worked_pairs.Goals as goal

pub returns : goal.returns
unfolding int_wrap
returns c = (refl, refl, refl, refl, refl, refl)
