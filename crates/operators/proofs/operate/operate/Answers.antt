use Rattle.std.proofs.Common.{Err, ap, ◌∙◌}
use Rattle.std.proofs.lemmas.Result.{err_from_is_err_and}
use Rattle.routines.specs.Outcomes.{operand}
use Rattle.routines.proofs.Laws.{settles_as, settles_err}
use Rattle.operators.proofs.Rowed.{row_ok, row_err}
use Rattle.operators.proofs.operate.operate.Goals as goal

pub returns-clause-settles : goal.returns-clause-settles
returns-clause-settles g c =
    let w = c.args.work.now.bytes.now in
    settles_as (row_ok (g.R.Routine.finds c.args.op) w c.args.a c.args.b _ _ c.kind.ensures c.kind-2.ensures (λ f. g.R.Call.does c.args.work.now.limits f (operand w c.args.a) (operand w c.args.b)) _ _ _ c.find.ensures c.ok_or.ensures.value c.in_ok-ok_or.was) c.call.ensures.settles

pub returns-in_err-ok_or-clause-settles : goal.returns-in_err-ok_or-clause-settles
returns-in_err-ok_or-clause-settles g c =
    let w = c.args.work.now.bytes.now in
    let p = err_from_is_err_and c.from_residual.result c.from_residual.ensures.1 in
    settles_err _ _ _ _ _ (row_err (g.R.Routine.finds c.args.op) w c.args.a c.args.b _ _ c.kind.ensures c.kind-2.ensures (λ f. g.R.Call.does c.args.work.now.limits f (operand w c.args.a) (operand w c.args.b)) _ _ _ c.find.ensures c.ok_or.ensures.value c.in_err-ok_or.was) (p.1 ∙ ap Err p.2)
