use Rattle.std.proofs.Common.{length, ap, arith}
use Rattle.lines.proofs.Ended.{length_lines}
use Rattle.lines.proofs.cutting.count_lines.Goals as goal

pub overflow_add-count : goal.overflow_add-count
overflow_add-count c = omega (arith, c.loop-front.invariant, ap length c.in-Some.ensures, length_lines c.args.bytes.now)
