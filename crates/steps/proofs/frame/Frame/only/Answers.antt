use Rattle.std.proofs.Common.{sym}
use Rattle.steps.proofs.Stacks.{not_only}
use Rattle.steps.proofs.frame.Frame.only.Goals as goal

pub returns-else-self-eq1 : goal.returns-else-self-eq1
returns-else-self-eq1 g c =
    let f = c.args.self.now in
    sym (not_only f.stack f.count f.locals c.args.place f.sixteen f.few c.if-self-eq1.false)
