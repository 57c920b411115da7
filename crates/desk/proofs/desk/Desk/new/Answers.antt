use Rattle.std.proofs.Common.{ap}
use Rattle.desk.specs.Book.{writing, fed}
use Rattle.desk.proofs.desk.Desk.new.Goals as goal

pub returns : goal.returns
unfolding fed
returns g c = ap (writing (g.S.Shelf.slots c.args.shelf)) c.new.ensures
