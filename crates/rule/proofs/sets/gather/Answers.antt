use Rattle.std.proofs.Common.{◌+◌, drop, Err, sym, ap, ◌∙◌}
use Rattle.std.proofs.lemmas.Result.{err_from_is_err_and}
use Rattle.value.specs.Kinds.{kinds}
use Rattle.rule.specs.Sets.{gather}
use Rattle.rule.proofs.Gathers.{gather_in, gather_not, gather_stops, gather_done}
use Rattle.rule.proofs.sets.gather.Goals as goal
use Rattle.rule.proofs.sets.gather.Goals.{then-has+in_ok-f, else-has}

pub loop-kind-preserved : goal.loop-kind-preserved
loop-kind-preserved g c = λ gives agrees.
    let t = c.args.of in
    let i = c.loop-kind.kind-index in
    elim c.if-has.branch [
      | then-has+in_ok-f w ↦ ap (λ all. gather gives t all (drop (i + 1) kinds)) (w.all-is ∙ w.union-all.ensures) ∙ sym (gather_in gives t c.loop-kind.all kinds i _ c.loop-kind-test.true _ (sym w.if-has.ensures) (sym (agrees _ _ w.f.ensures) ∙ w.in_ok-f.was)) ∙ c.loop-kind.invariant gives agrees
      | else-has w ↦ ap (λ all. gather gives t all (drop (i + 1) kinds)) w.all-is ∙ sym (gather_not gives t c.loop-kind.all kinds i _ c.loop-kind-test.true (sym w.if-has.ensures)) ∙ c.loop-kind.invariant gives agrees
    ]

pub returns : goal.returns
returns g c = λ gives agrees. sym (gather_done gives c.args.of c.loop-kind.all kinds _ c.loop-kind-test.false) ∙ c.loop-kind.invariant gives agrees

pub returns-in_err-f : goal.returns-in_err-f
returns-in_err-f g c = λ gives agrees.
    let p = err_from_is_err_and c.from_residual.result c.from_residual.ensures.1 in
    p.1 ∙ ap Err p.2 ∙ sym (gather_stops gives c.args.of c.loop-kind.all kinds _ _ c.loop-kind-test.true _ (sym c.if-has.ensures) (sym (agrees _ _ c.f.ensures) ∙ c.in_err-f.was)) ∙ c.loop-kind.invariant gives agrees
