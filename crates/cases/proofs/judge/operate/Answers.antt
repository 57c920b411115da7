use Rattle.std.proofs.Common.{Ok, Err, sym, ap, ◌∙◌}
use Rattle.std.proofs.lemmas.Result.{err_from_is_err_and}
use Rattle.value.specs.Values.{meaning}
use Rattle.operators.specs.Applied.{tried, applied_by}
use Rattle.cases.specs.Judged.{shown_meaning}
use Rattle.cases.proofs.Given.{made_value, alone_as}
use Rattle.cases.proofs.judge.operate.Goals as goal

pub returns-in_err-apply : goal.returns-in_err-apply
returns-in_err-apply g c =
    let a = meaning (λ x. x.now) c.args.a in
    let b = meaning (λ x. x.now) c.args.b in
    let p = err_from_is_err_and c.from_residual.result c.from_residual.ensures.1 in
    let given = tried a b (applied_by g.R.Routine.finds g.R.Call.does c.args.limits c.args.op a b) in
    let same = alone_as a b c.args.work.now c.told-work given c.apply.result c.apply.new.buffer c.apply.ensures.alone in
    ap shown_meaning p.1 ∙ ap Err p.2 ∙ sym (ap (made_value a b c.apply.new.buffer) c.in_err-apply.was) ∙ same

pub returns-in-Left : goal.returns-in-Left
returns-in-Left g c =
    let a = meaning (λ x. x.now) c.args.a in
    let b = meaning (λ x. x.now) c.args.b in
    let given = tried a b (applied_by g.R.Routine.finds g.R.Call.does c.args.limits c.args.op a b) in
    let same = alone_as a b c.args.work.now c.told-work given c.apply.result c.apply.new.buffer c.apply.ensures.alone in
    sym (ap (made_value a b c.apply.new.buffer) (c.in_ok-apply.was ∙ ap Ok c.in-Left.is)) ∙ same

pub returns-in-Right : goal.returns-in-Right
returns-in-Right g c =
    let a = meaning (λ x. x.now) c.args.a in
    let b = meaning (λ x. x.now) c.args.b in
    let given = tried a b (applied_by g.R.Routine.finds g.R.Call.does c.args.limits c.args.op a b) in
    let same = alone_as a b c.args.work.now c.told-work given c.apply.result c.apply.new.buffer c.apply.ensures.alone in
    sym (ap (made_value a b c.apply.new.buffer) (c.in_ok-apply.was ∙ ap Ok c.in-Right.is)) ∙ same

pub returns-in-New : goal.returns-in-New
returns-in-New g c =
    let a = meaning (λ x. x.now) c.args.a in
    let b = meaning (λ x. x.now) c.args.b in
    let given = tried a b (applied_by g.R.Routine.finds g.R.Call.does c.args.limits c.args.op a b) in
    let same = alone_as a b c.args.work.now c.told-work given c.apply.result c.apply.new.buffer c.apply.ensures.alone in
    ap Ok c.lend.ensures ∙ sym (ap (made_value a b c.apply.new.buffer) (c.in_ok-apply.was ∙ ap Ok c.in-New.is)) ∙ same
