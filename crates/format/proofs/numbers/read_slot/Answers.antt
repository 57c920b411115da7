use Rattle.std.proofs.Common.{lit≤}
use Rattle.std.specs.Str.Parse.{ParsesUnsigned, ExplainsUnsignedError, HasUnsignedDigitsIfOk}
use Rattle.format.proofs.Decimal.{read_unsigned, reads_as}
use Rattle.format.proofs.numbers.read_slot.Goals as goal

pub returns-clause-exact : goal.returns-clause-exact
returns-clause-exact c = read_unsigned 32 (lit≤ tt) _ (λ bs r (p : ParsesUnsigned 32 10 bs r × ExplainsUnsignedError 10 bs r × HasUnsignedDigitsIfOk bs r). p.0) c.args.bytes.now c.read.result c.read.ensures

pub returns-clause-reads : goal.returns-clause-reads
returns-clause-reads c = reads_as _ _ c.args.bytes.now c.read.result (returns-clause-exact c)
