use Rattle.std.proofs.Common.{lit≤, rules}
use Rattle.std.specs.Str.Parse.{ParsesUnsigned, ExplainsUnsignedError, HasUnsignedDigitsIfOk}
use Rattle.format.proofs.Decimal.{read_unsigned, read_below, reads_as}
use Rattle.format.proofs.numbers.read_local.Goals as goal

pub returns-clause-exact : goal.returns-clause-exact
returns-clause-exact c = read_below c.args.bytes.now c.read.result c.filter.result (read_unsigned 8 (lit≤ tt) _ (λ bs r (p : ParsesUnsigned 8 10 bs r × ExplainsUnsignedError 10 bs r × HasUnsignedDigitsIfOk bs r). p.0) c.args.bytes.now c.read.result c.read.ensures) (search rules)

pub returns-clause-reads : goal.returns-clause-reads
returns-clause-reads c = reads_as _ _ c.args.bytes.now c.filter.result (returns-clause-exact c)
