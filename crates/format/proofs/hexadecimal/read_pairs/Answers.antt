use Rattle.std.proofs.Common.{◌+◌, ◌*◌, length, sym, ap, ◌∙◌, arith}
use Rattle.std.proofs.lemmas.List.{drop-set-lt}
use Rattle.format.proofs.Hex.{pairs_more, pairs_none, length_pairs, pairs_all, two_in}
use Rattle.format.proofs.hexadecimal.read_pairs.Goals as goal

pub returns-in_default : goal.returns-in_default
returns-in_default c = λ vs small room e. omega (arith, length_pairs vs, ap length e)

pub returns-then-digits-out : goal.returns-then-digits-out
returns-then-digits-out c = λ vs small room e. omega (arith, length_pairs vs, ap length e)

pub returns-in_err-hex_digit : goal.returns-in_err-hex_digit
returns-in_err-hex_digit c =
    let two = two_in c.as_chunks.result.0.now c.args.bytes.now c.loop-i.i c.as_chunks.ensures.front (omega arith) in
    rw c.from_residual.ensures (λ vs small room e. pairs_none c.args.bytes.now vs (2 * c.loop-i.i) small e (omega arith) (λ d lt f. c.in_err-hex_digit.ensures d lt (f ∙ sym two.0)))

pub returns-in_err-out : goal.returns-in_err-out
returns-in_err-out c =
    let two = two_in c.as_chunks.result.0.now c.args.bytes.now c.loop-i.i c.as_chunks.ensures.front (omega arith) in
    rw c.from_residual-in_err-out.ensures (λ vs small room e. pairs_none c.args.bytes.now vs (2 * c.loop-i.i + 1) small e (omega arith) (λ d lt f. c.in_err-out.ensures d lt (f ∙ sym two.1)))

pub loop-i-preserved : goal.loop-i-preserved
loop-i-preserved c =
    let hi = c.in_ok-hex_digit.ensures in
    let lo = c.in_ok-out.ensures in
    let two = two_in c.as_chunks.result.0.now c.args.bytes.now c.loop-i.i c.as_chunks.ensures.front (omega arith) in (
      pairs_more c.args.bytes.now c.loop-i.out c.loop-i.i c.in_ok-hex_digit.field-0 c.in_ok-out.field-0 (omega arith) (omega arith) c.loop-i.invariant.0 hi.0 lo.0 (hi.1 ∙ two.0) (lo.1 ∙ two.1),
      drop-set-lt _ c.loop-i.out c.loop-i.i _ (omega arith) ∙ c.loop-i.invariant.1,
    )

pub returns : goal.returns
returns c = (omega arith, pairs_all c.args.bytes.now c.loop-i.out c.loop-i.i _ (omega arith) (omega arith) c.loop-i.invariant.0, c.loop-i.invariant.1)
