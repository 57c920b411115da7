use Rattle.std.proofs.Common.{◌-◌, suc, sym, ap, ◌∙◌, arith}
use Rattle.std.specs.List.{slice_get}
use Rattle.lines.specs.Spelled.{lines}
use Rattle.lines.proofs.cutting.line_at.Goals as goal

pub returns-in_err-rest : goal.returns-in_err-rest
returns-in_err-rest c =
    let k = c.args.number - c.loop.counter in
    rw c.from_residual.ensures (sym (ap (λ ls. slice_get ls k) c.in_err-rest.ensures) ∙ c.loop.invariant k ∙ ap (slice_get (lines c.args.bytes.now)) (omega arith))

pub loop-preserved : goal.loop-preserved
loop-preserved c = λ k.
    sym (ap (λ ls. slice_get ls (suc k)) c.in_ok-rest.ensures) ∙ c.loop.invariant (suc k) ∙ ap (slice_get (lines c.args.bytes.now)) (omega arith)

pub returns-in_err-cut_line : goal.returns-in_err-cut_line
returns-in_err-cut_line c = rw c.from_residual-in_err-cut_line.ensures (sym (ap (λ ls. slice_get ls 0) c.in_err-cut_line.ensures) ∙ c.loop.invariant 0 ∙ ap (slice_get (lines c.args.bytes.now)) (omega arith))

pub returns : goal.returns
returns c = sym (ap (λ ls. slice_get ls 0) c.in_ok-cut_line.ensures) ∙ c.loop.invariant 0 ∙ ap (slice_get (lines c.args.bytes.now)) (omega arith)
