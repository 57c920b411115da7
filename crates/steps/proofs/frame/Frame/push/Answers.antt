use Rattle.std.proofs.Common.{rules}
use Rattle.steps.proofs.Stacks.{push_on}
use Rattle.steps.proofs.frame.Frame.push.Goals as goal

pub returns-clause-answer : goal.returns-clause-answer
returns-clause-answer g c =
    let f = c.args.self.now in
    push_on f.stack f.count f.locals c.args.x f.sixteen (search rules)
