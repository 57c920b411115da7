use Rattle.std.proofs.Common.{rules}
use Rattle.text.proofs.TextOrder.{two_chars}
use Rattle.text.proofs.letters.first_two.Goals as goal

pub returns : goal.returns
returns c = search (rules, two_chars)
