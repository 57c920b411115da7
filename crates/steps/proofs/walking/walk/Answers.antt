use Rattle.std.proofs.Common.{sym, Err, ap, ◌∙◌, subst}
use Rattle.std.proofs.lemmas.Result.{err_from_is_err_and}
use Rattle.steps.specs.Frames.{held}
use Rattle.steps.specs.Machines.{Comes}
use Rattle.steps.specs.Walk.{walk}
use Rattle.steps.specs.declared.step.Step.TheVariants.{Put}
use Rattle.value.specs.declared.value.Value.TheVariants as value
use Rattle.steps.proofs.Laws.{taken_at}
use Rattle.steps.proofs.Looping.{far_none, far_more, walk_stops, walk_done}
use Rattle.steps.proofs.walking.walk.Goals as goal

pub loop-place-init : goal.loop-place-init
loop-place-init g c =
    let k = g.M.Machine in
    let a = c.args.machine.now in
    record {
      far = far_none (k.does a) c.args.steps.list.now (k.world a) (k.means a) (k.holds a) c.put.result (held c.new-frame.result) c.put.ensures.means c.put.ensures.held c.new-frame.ensures;
      later = g.met.M.Machine.at_once a;
    }

pub advance-requires : goal.advance-requires
advance-requires g c = (c.requires, (taken_at c.args.steps.list.now c.loop-place.place _ c.args.steps.taken c.loop-place-test.true, c.loop-place.invariant.far.held))

pub loop-place-preserved : goal.loop-place-preserved
loop-place-preserved g c =
    let k = g.M.Machine in
    let a = c.args.machine.now in
    record {
      far = far_more (k.does a) c.args.steps.list.now (k.world a) _ _ _ _ _ _ c.loop-place.place (held c.loop-place.frame) (held c.advance.new.frame) (Put value.Unit) c.advance.result c.loop-place-test.true c.loop-place.invariant.far (k.does c.loop-place.machine) (g.met.M.Machine.keeps a c.loop-place.machine c.loop-place.invariant.later).machine c.advance.ensures.advances (sym c.placed.ensures ∙ c.in_ok-placed.was);
      later = g.met.M.Machine.leads_on a c.loop-place.machine c.advance.new.machine c.loop-place.invariant.later c.advance.ensures.later;
    }

pub returns-clause-comes : goal.returns-clause-comes
returns-clause-comes g c =
    let k = g.M.Machine in
    let a = c.args.machine.now in
    walk_done (k.does a) c.args.steps.list.now (k.world a) _ _ _ c.loop-place.place (held c.loop-place.frame) c.only.result c.loop-place-test.false c.loop-place.invariant.far c.only.ensures

pub returns-in_err-placed-clause-comes : goal.returns-in_err-placed-clause-comes
returns-in_err-placed-clause-comes g c =
    let k = g.M.Machine in
    let a = c.args.machine.now in
    let b = c.advance.new.machine in
    let p = err_from_is_err_and c.from_residual.result c.from_residual.ensures.1 in
    subst (Comes (k.means b) (k.holds b) (k.world b) (walk (k.does a) c.args.steps.list.now (k.world a))) (sym (p.1 ∙ ap Err p.2))
    (walk_stops (k.does a) c.args.steps.list.now (k.world a) _ _ _ _ _ _ c.loop-place.place (held c.loop-place.frame) (held c.advance.new.frame) (Put value.Unit) c.advance.result c.loop-place-test.true c.loop-place.invariant.far (k.does c.loop-place.machine) (g.met.M.Machine.keeps a c.loop-place.machine c.loop-place.invariant.later).machine c.advance.ensures.advances _ (sym c.placed.ensures ∙ c.in_err-placed.was))
