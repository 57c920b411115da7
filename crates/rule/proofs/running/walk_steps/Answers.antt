use Rattle.std.proofs.Common.{rules}
use Rattle.shelf.specs.Slots.{holding}
use Rattle.rule.proofs.Parts.{comes_walks}
use Rattle.rule.proofs.running.walk_steps.Goals as goal

pub returns-clause-walks : goal.returns-clause-walks
returns-clause-walks g c =
    let w = c.walk_behind.new.work in
    comes_walks c.args.limits (holding (g.S.Shelf.slots c.args.shelf.now)) c.args.steps.list.now c.args.bytes.now c.walk_behind.result w.bytes.now w.fill _ (search rules) c.walk_behind.ensures.comes c.walk_behind.ensures.later.grown
