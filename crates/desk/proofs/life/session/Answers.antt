use Rattle.std.proofs.Common.{◌≡◌, ◌<◌, [], length, take, drop, sym, ap, ◌∙◌, subst, arith}
use Rattle.std.proofs.lemmas.List.{length-take, take-take}
use Rattle.desk.specs.Book.{fed, book}
use Rattle.desk.specs.Desks.{events, AllLawful}
use Rattle.desk.proofs.Lives.{along_none, along_more}
use Rattle.desk.proofs.life.session.Goals as goal

pub loop-i-init : goal.loop-i-init
unfolding fed
loop-i-init g c =
    let d = c.new-desk.result in
    let s = g.S.Shelf.slots d.shelf in
    let e = c.new-desk.ensures in
    along_none s (take c.min-count.result c.args.calls.now) c.args.work.now c.args.answers.now s d.rule (e ∙ ap (λ f. book f []) (sym (ap (λ b. b.slots) e)))

pub loop-i-preserved : goal.loop-i-preserved
loop-i-preserved g c =
    let slots = g.S.Shelf.slots in
    let n = c.min-count.result in
    let lt : c.loop-i.i < length c.args.answers.now = omega (arith, c.min-count.ensures, length-take n c.args.calls.now, c.loop-i-test.true) in
    along_more (slots c.new-desk.result.shelf) (take n c.args.calls.now) c.args.work.now c.args.answers.now c.loop-i.i _ c.loop-i.work c.serve.new.work c.loop-i.answers c.serve.result (slots c.loop-i.desk.shelf) (slots c.serve.new.self.shelf) c.loop-i.desk.rule c.serve.new.self.rule c.loop-i-test.true lt c.loop-i.invariant c.serve.ensures.served

pub returns : goal.returns
unfolding fed
returns g c =
    let slots = g.S.Shelf.slots in
    let calls = c.args.calls.now in
    let n = c.min-count.result in
    let along = c.loop-i.invariant in
    let end : c.loop-i.i ≡ n = omega (arith, c.min-count.ensures, length-take n calls, c.loop-i-test.false, c.loop-i.auto.i-end) in
    let first : slots c.new-desk.result.shelf ≡ slots c.args.shelf = ap (λ b. b.slots) c.new-desk.ensures in
    let cut : take n (take n calls) ≡ take n calls = take-take n n calls (omega arith) in
    record {
      count = c.min-count.ensures;
      lawful = subst (λ cs. AllLawful (slots c.args.shelf) [] (events cs) (take n c.loop-i.answers) c.args.work.now c.loop-i.work) cut
          (subst (λ m. AllLawful (slots c.args.shelf) [] (events (take m (take n calls))) (take m c.loop-i.answers) c.args.work.now c.loop-i.work) end
          (subst (λ f. AllLawful f [] (events (take c.loop-i.i (take n calls))) (take c.loop-i.i c.loop-i.answers) c.args.work.now c.loop-i.work) first along.lawful));
      rest = subst (λ m. drop m c.loop-i.answers ≡ drop m c.args.answers.now) end along.rest;
    }
