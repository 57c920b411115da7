use Rattle.std.proofs.Common.{take, sym}
use Rattle.std.proofs.lemmas.Bool.{and_parts}
use Rattle.value.specs.Values.{meaning, well_formed}
use Rattle.routines.proofs.Laws.{settles_as}
use Rattle.operators.specs.Applied.{applied_by}
use Rattle.operators.proofs.Selecting.{apply_as_selected}
use Rattle.operators.proofs.FirstBytes.{malformed, settled_alone, settled_within, settled_formed}
use Rattle.operators.proofs.Answering.{answers_as_listed}
use Rattle.operators.proofs.Numbers.{numbers_agree}
use Rattle.operators.proofs.alone.apply.Goals as goal

pub returns-then-not-are_well_formed-clause-alone : goal.returns-then-not-are_well_formed-clause-alone
returns-then-not-are_well_formed-clause-alone g c = malformed c.args.buffer.now (meaning (λ x. x.now) c.args.left) (meaning (λ x. x.now) c.args.right) _ c.if-not-are_well_formed.ensures

pub returns-then-not-are_well_formed-clause-listed : goal.returns-then-not-are_well_formed-clause-listed
returns-then-not-are_well_formed-clause-listed g c = apply_as_selected

pub returns-then-not-are_well_formed-clause-answers : goal.returns-then-not-are_well_formed-clause-answers
returns-then-not-are_well_formed-clause-answers g c = answers_as_listed

pub returns-then-not-are_well_formed-clause-numbers : goal.returns-then-not-are_well_formed-clause-numbers
returns-then-not-are_well_formed-clause-numbers g c = numbers_agree

pub operate_in-requires-clause-left : goal.operate_in-requires-clause-left
operate_in-requires-clause-left g c =
    let p = and_parts (well_formed (meaning (λ x. x.now) c.args.left)) (well_formed (meaning (λ x. x.now) c.args.right)) (sym c.if-not-are_well_formed.ensures) in
    c.as_operand.ensures.ready p.0 _ _

pub operate_in-requires-clause-right : goal.operate_in-requires-clause-right
operate_in-requires-clause-right g c =
    let p = and_parts (well_formed (meaning (λ x. x.now) c.args.left)) (well_formed (meaning (λ x. x.now) c.args.right)) (sym c.if-not-are_well_formed.ensures) in
    c.as_operand-2.ensures.ready p.1 _ _

pub returns : goal.returns
returns g c =
    let d = c.args.buffer.now in
    let n = c.min-room.result in
    let a = c.as_operand.ensures.same (take n d) in
    let b = c.as_operand-2.ensures.same (take n d) in
    let s = settles_as (sym (λ i. applied_by g.R.Routine.finds g.R.Call.does c.args.limits c.args.op (a i) (b i))) c.operate_in.ensures in
    record {
      listed = apply_as_selected;
      answers = answers_as_listed;
      numbers = numbers_agree;
      alone = settled_alone d (meaning (λ x. x.now) c.args.left) (meaning (λ x. x.now) c.args.right) _ n _ _ _ c.min-room.ensures c.if-not-are_well_formed.ensures s;
      within = settled_within d _ n _ _ _ s;
      formed = settled_formed d (meaning (λ x. x.now) c.args.left) (meaning (λ x. x.now) c.args.right) _ _ n _ _ _ (g.met.R.Selectable.speaks c.args.limits c.args.op (meaning (λ x. x.now) c.args.left) (meaning (λ x. x.now) c.args.right)) c.min-room.ensures c.if-not-are_well_formed.ensures s;
    }
