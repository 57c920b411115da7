use Rattle.std.proofs.Common.{◌<◌, length, get_or, map, sym, ap, ◌∙◌, arith}
use Rattle.fault.specs.Outcomes.{beside}
use Rattle.value.specs.Values.{unit}
use Rattle.steps.specs.Frames.{held}
use Rattle.steps.specs.Machines.{meanings}
use Rattle.steps.specs.Steps.{takes}
use Rattle.steps.specs.Walk.{pushed, step}
use Rattle.steps.proofs.Advancing.{put_advances, keep_advances, comes_in, assign_advances}
use Rattle.steps.proofs.Framed.{pop_means, pop_held, local_means, local_held}
use Rattle.steps.proofs.Laws.{local_below, popped_locals, load_step, keep_step, apply_step, assign_step}
use Rattle.steps.proofs.walking.advance.Goals as goal

pub apply-requires-clause-left : goal.apply-requires-clause-left
apply-requires-clause-left g c =
    let holds = g.M.Machine.holds c.args.machine.now in
    let off = pop_held holds (held c.args.frame.now) _ (held c.pop-in-Apply.new.self) c.requires.held c.in_ok-right-in-Apply.ensures.answer in
    (pop_held holds (held c.pop-in-Apply.new.self) _ (held c.pop-in-Apply-2.new.self) off.rest c.in_ok-left-in-Apply.ensures.answer).top

pub apply-requires-clause-right : goal.apply-requires-clause-right
apply-requires-clause-right g c = (pop_held (g.M.Machine.holds c.args.machine.now) (held c.args.frame.now) _ (held c.pop-in-Apply.new.self) c.requires.held c.in_ok-right-in-Apply.ensures.answer).top

pub assign-requires-clause-right : goal.assign-requires-clause-right
assign-requires-clause-right g c = (pop_held (g.M.Machine.holds c.args.machine.now) (held c.args.frame.now) _ (held c.pop-in-Assign.new.self) c.requires.held c.in_ok-right-in-Assign.ensures.answer).top

pub returns-in-Put-clause-advances : goal.returns-in-Put-clause-advances
returns-in-Put-clause-advances g c =
    let k = g.M.Machine in
    let a = c.args.machine.now in
    let e = held c.args.frame.now in
    let d = meanings (k.means a) e in
    put_advances (k.means a) (k.holds a) (k.world a) _ e c.requires.held c.put.result c.push.result (held c.push.new.self)
    (ap (λ x. step (k.does a) x d (k.world a)) c.in-Put.is ∙ ap (λ t. beside (k.world a) (pushed t d)) (sym c.put.ensures.means))
    c.put.ensures.held
    c.push.ensures.answer

pub returns-in_ok-load-in-Slot-clause-advances : goal.returns-in_ok-load-in-Slot-clause-advances
returns-in_ok-load-in-Slot-clause-advances g c =
    let k = g.M.Machine in
    let a = c.args.machine.now in
    let b = c.load.new.self in
    let e = held c.args.frame.now in
    comes_in (k.does a) (k.does b) (k.means a) (k.means b) (k.holds a) (k.holds b) (g.met.M.Machine.keeps a b c.load.ensures.later) (k.world b) _ e c.requires.held ((k.does a).load c.in-Slot.slot (k.world a)) c.in_ok-load-in-Slot.field-0 c.push-in-Slot.result (held c.push-in-Slot.new.self)
    (ap (λ x. step (k.does a) x (meanings (k.means a) e) (k.world a)) c.in-Slot.is)
    c.in_ok-load-in-Slot.ensures.comes
    c.push-in-Slot.ensures.answer

pub returns-in-Local-clause-advances : goal.returns-in-Local-clause-advances
returns-in-Local-clause-advances g c =
    let k = g.M.Machine in
    let a = c.args.machine.now in
    let f = c.args.frame.now in
    let d = meanings (k.means a) (held f) in
    let i = c.in-Local.local in
    let lt : i < length f.locals = omega (arith, f.eight, local_below i (sym (ap takes c.in-Local.is) ∙ c.requires.taken)) in
    let x = get_or f.locals i c.index-frame-local.result in
    put_advances (k.means a) (k.holds a) (k.world a) _ (held f) c.requires.held x c.push-in-Local.result (held c.push-in-Local.new.self)
    (ap (λ y. step (k.does a) y d (k.world a)) c.in-Local.is ∙ load_step (k.does a) d (k.world a) i (k.means a x) (local_means (k.means a) i ((k.does a).put unit) c.index-frame-local.result f.locals lt))
    (local_held (k.holds a) i c.index-frame-local.result (held f) lt c.requires.held)
    c.push-in-Local.ensures.answer

pub returns-in_ok-frame-in-Keep-clause-advances : goal.returns-in_ok-frame-in-Keep-clause-advances
returns-in_ok-frame-in-Keep-clause-advances g c =
    let k = g.M.Machine in
    let a = c.args.machine.now in
    let e = held c.args.frame.now in
    let e₁ = held c.pop.new.self in
    let x = c.in_ok-frame-in-Keep.field-0 in
    let i = c.in-Keep.local in
    let off = c.in_ok-frame-in-Keep.ensures.answer in
    keep_advances (k.means a) (k.holds a) (k.world a) _ e c.requires.held x i e₁
    (ap (λ y. step (k.does a) y (meanings (k.means a) e) (k.world a)) c.in-Keep.is ∙ keep_step (k.does a) (meanings (k.means a) e) (k.world a) i (k.means a x) (meanings (k.means a) e₁) (pop_means (k.means a) e x e₁ off))
    off

pub returns-in_ok-apply-in-Apply-clause-advances : goal.returns-in_ok-apply-in-Apply-clause-advances
returns-in_ok-apply-in-Apply-clause-advances g c =
    let k = g.M.Machine in
    let a = c.args.machine.now in
    let b = c.apply.new.self in
    let e = held c.args.frame.now in
    let e₁ = held c.pop-in-Apply.new.self in
    let e₂ = held c.pop-in-Apply-2.new.self in
    let op = c.in-Apply.op in
    let right = c.in_ok-right-in-Apply.right in
    let left = c.in_ok-left-in-Apply.left in
    let off = c.in_ok-right-in-Apply.ensures.answer in
    let off₂ = c.in_ok-left-in-Apply.ensures.answer in
    let rest = (pop_held (k.holds a) e₁ left e₂ (pop_held (k.holds a) e right e₁ c.requires.held off).rest off₂).rest in
    let d = meanings (k.means a) in
    comes_in (k.does a) (k.does b) (k.means a) (k.means b) (k.holds a) (k.holds b) (g.met.M.Machine.keeps a b c.apply.ensures.later) (k.world b) _ e₂ rest ((k.does a).apply op (k.means a left) (k.means a right) (k.world a)) c.in_ok-apply-in-Apply.field-0 c.push-in-Apply.result (held c.push-in-Apply.new.self)
    (ap (λ y. step (k.does a) y (d e) (k.world a)) c.in-Apply.is ∙ apply_step (k.does a) (d e) (k.world a) op (k.means a left) (k.means a right) (d e₁) (d e₂) (pop_means (k.means a) e right e₁ off) (pop_means (k.means a) e₁ left e₂ off₂))
    c.in_ok-apply-in-Apply.ensures.comes
    c.push-in-Apply.ensures.answer

pub returns-in_ok-right-in-Assign-clause-advances : goal.returns-in_ok-right-in-Assign-clause-advances
returns-in_ok-right-in-Assign-clause-advances g c =
    let k = g.M.Machine in
    let a = c.args.machine.now in
    let b = c.assign.new.self in
    let f = c.args.frame.now in
    let f₁ = c.pop-in-Assign.new.self in
    let e = held f in
    let e₁ = held f₁ in
    let op = c.in-Assign.op in
    let i = c.in-Assign.local in
    let lt : i < length f₁.locals = omega (arith, f₁.eight, local_below i (sym (ap takes c.in-Assign.is) ∙ c.requires.taken)) in
    let right = c.in_ok-right-in-Assign.right in
    let left = get_or f₁.locals i c.index-frame-local-in-Assign.result in
    let off = c.in_ok-right-in-Assign.ensures.answer in
    let d = meanings (k.means a) in
    let u = (k.does a).put unit in
    let here = ap (λ ls. get_or (map (k.means a) ls) i u) (popped_locals e right e₁ off) ∙ local_means (k.means a) i u c.index-frame-local-in-Assign.result f₁.locals lt in
    assign_advances (k.does a) (k.does b) (k.means a) (k.means b) (k.holds a) (k.holds b) (g.met.M.Machine.keeps a b c.assign.ensures.later) (k.world b) _ e₁ (pop_held (k.holds a) e right e₁ c.requires.held off).rest ((k.does a).assign op (k.means a left) (k.means a right) (k.world a)) _ c.assign.result i
    (ap (λ y. step (k.does a) y (d e) (k.world a)) c.in-Assign.is ∙ assign_step (k.does a) (d e) (k.world a) op i (k.means a left) (k.means a right) (d e₁) (pop_means (k.means a) e right e₁ off) here)
    c.assign.ensures.comes
