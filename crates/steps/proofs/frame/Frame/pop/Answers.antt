use Rattle.std.proofs.Common.{rules}
use Rattle.steps.proofs.Stacks.{pop_off}
use Rattle.steps.proofs.frame.Frame.pop.Goals as goal

pub returns-clause-answer : goal.returns-clause-answer
returns-clause-answer g c =
    let f = c.args.self.now in
    pop_off f.stack f.count f.locals _ f.sixteen f.few (search rules)
