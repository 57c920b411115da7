use Rattle.std.proofs.Common.{◌+◌, ◌<◌, take, set, sym, ap, ◌∙◌, arith}
use Rattle.std.proofs.lemmas.List.{length-set}
use Rattle.rule.specs.Rules.{kept_by, sheet, adds, added}
use Rattle.rule.proofs.Adding.{taken_more, add_ok, added_ok}
use Rattle.rule.proofs.rule.Rule.add.Goals as goal

pub invariant_of-self : goal.invariant_of-self
invariant_of-self c =
    let r = c.args.self.now in
    let lt : r.count < 128 = omega (arith, c.if-self-ge128.false) in
    let t = sym c.test.ensures ∙ c.in_ok-test.was in
    record {
      few = omega arith;
      size = length-set r.steps r.count c.args.step ∙ r.size;
      taken = taken_more r.steps r.count c.args.step r.size lt t r.taken;
    }

pub returns-else-self-ge128 : goal.returns-else-self-ge128
returns-else-self-ge128 c =
    let r = c.args.self.now in
    let n = r.count in
    let lt : n < 128 = omega (arith, c.if-self-ge128.false) in
    let t = sym c.test.ensures ∙ c.in_ok-test.was in
    let none = ap (λ s. sheet (take n r.steps) (kept_by n s)) c.in-Open.is in
    record {
      answer = sym (ap (λ s. adds s c.args.step) none ∙ add_ok r.steps n c.args.step r.size lt t);
      after = ap (λ s. sheet (take (n + 1) (set r.steps n c.args.step)) (kept_by (n + 1) s)) c.in-Open.is ∙ added_ok r.steps n c.args.step r.size lt t ∙ ap (λ s. added s c.args.step) (sym none);
    }
