use Rattle.std.proofs.Common.{◌^◌, ◌<◌, ap, ◌∙◌, arith}
use Rattle.format.specs.Written.{figure}
use Rattle.format.proofs.Decimal.{reads_as}
use Rattle.format.proofs.Hex.{bits_more, bits_fit, bits_below, bits_none, bits_all, bits_whole}
use Rattle.format.proofs.hexadecimal.read_bits.Goals as goal

pub overflow_mul-n : goal.overflow_mul-n
overflow_mul-n c =
    let h : c.loop-b.n < 16 ^ 15 = bits_below c.loop-b.b-index c.loop-b.n (omega arith) c.loop-b.invariant.1 in omega arith

pub returns-in_err-hex_digit-clause-exact : goal.returns-in_err-hex_digit-clause-exact
returns-in_err-hex_digit-clause-exact c = rw c.from_residual.ensures (λ v f e. bits_none c.args.bytes.now c.loop-b.b-index v (omega arith) e c.in_err-hex_digit.ensures)

pub returns-in_err-hex_digit-clause-reads : goal.returns-in_err-hex_digit-clause-reads
returns-in_err-hex_digit-clause-reads c = reads_as _ _ _ c.from_residual.result (returns-in_err-hex_digit-clause-exact c)

pub overflow_add-n : goal.overflow_add-n
overflow_add-n c =
    let h : c.loop-b.n < 16 ^ 15 = bits_below c.loop-b.b-index c.loop-b.n (omega arith) c.loop-b.invariant.1 in
    let d = c.in_ok-hex_digit.ensures.0 in omega arith

pub loop-b-preserved : goal.loop-b-preserved
loop-b-preserved c =
    let d : c.from.result < 16 = omega (arith, c.in_ok-hex_digit.ensures.0) in (
      bits_more c.args.bytes.now c.loop-b.b-index c.loop-b.n c.from.result (omega arith) c.loop-b.invariant.0 d (ap figure c.from.ensures ∙ c.in_ok-hex_digit.ensures.1),
      bits_fit c.loop-b.b-index c.loop-b.n c.from.result c.loop-b.invariant.1 d,
    )

pub returns-clause-exact : goal.returns-clause-exact
returns-clause-exact c =
    let h : c.loop-b.n < 2 ^ 64 = omega (arith, bits_whole c.loop-b.b-index c.loop-b.n (omega arith) c.loop-b.invariant.1) in
    (h, bits_all c.args.bytes.now c.loop-b.b-index c.loop-b.n (omega arith) (omega arith) c.loop-b.invariant.0)

pub returns-clause-reads : goal.returns-clause-reads
returns-clause-reads c = (returns-clause-exact c).1
