use Rattle.std.proofs.Common.{refl}
use Rattle.std.specs.Str.{chars}
use Rattle.text.proofs.TextOrder.{byte_order, two_suffice}
use Rattle.text.proofs.letters.letters_stand.Goals as goal

pub returns : goal.returns
unfolding chars
returns c = record { bytes = byte_order; pairs = two_suffice; worked = (refl, refl) }
