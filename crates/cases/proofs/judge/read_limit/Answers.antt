use Rattle.std.proofs.Common.{None}
use Rattle.cases.proofs.Given.{reads_limit, limit_read}
use Rattle.cases.proofs.judge.read_limit.Goals as goal

pub returns-in_err-n : goal.returns-in_err-n
returns-in_err-n c = rw c.from_residual.ensures (reads_limit c.args.bytes.now None c.in_err-n.ensures.exact)

pub returns : goal.returns
returns c = limit_read c.args.bytes.now c.in_ok-n.n c.try_from.result c.ok.result c.in_ok-n.ensures.exact.0 c.in_ok-n.ensures.exact.1 c.try_from.ensures c.ok.ensures.value
