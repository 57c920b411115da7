use Rattle.std.proofs.Common.{w64}
use Rattle.std.specs.Str.Parse.{ParsesSigned, ExplainsSignedError, HasSignedDigitsIfOk}
use Rattle.format.proofs.Decimal.{read_signed, reads_as}
use Rattle.format.proofs.numbers.read_int.Goals as goal

pub returns-clause-exact : goal.returns-clause-exact
returns-clause-exact c = read_signed _ (λ bs r (p : ParsesSigned w64 10 bs r × ExplainsSignedError 10 bs r × HasSignedDigitsIfOk bs r). p.0) c.args.bytes.now c.read.result c.read.ensures

pub returns-clause-reads : goal.returns-clause-reads
returns-clause-reads c = reads_as _ _ c.args.bytes.now c.read.result (returns-clause-exact c)
