use Rattle.std.proofs.Common.{ap}
use Rattle.routines.specs.Calls.{assigned}
use Rattle.routines.specs.Outcomes.{operand}
use Rattle.routines.proofs.Laws.{settles_as}
use Rattle.routines.proofs.calls.FnAssignCall.call.Goals as goal

pub returns-in-Int-clause-settles : goal.returns-in-Int-clause-settles
returns-in-Int-clause-settles c =
    let w = c.args.work.now in
    settles_as (ap (λ f. assigned w.limits f (operand w.bytes.now c.args.a) (operand w.bytes.now c.args.b)) c.in-Int.is) (c.call_ints.ensures w.bytes.now w.limits w.fill)

pub returns-in-Float-clause-settles : goal.returns-in-Float-clause-settles
returns-in-Float-clause-settles c =
    let w = c.args.work.now in
    settles_as (ap (λ f. assigned w.limits f (operand w.bytes.now c.args.a) (operand w.bytes.now c.args.b)) c.in-Float.is) (c.call_floats.ensures w.bytes.now w.limits w.fill)

pub returns-in-Bool-clause-settles : goal.returns-in-Bool-clause-settles
returns-in-Bool-clause-settles c =
    let w = c.args.work.now in
    settles_as (ap (λ f. assigned w.limits f (operand w.bytes.now c.args.a) (operand w.bytes.now c.args.b)) c.in-Bool.is) (c.call_bools.ensures w.bytes.now w.limits w.fill)
