use Rattle.std.proofs.Common.{arith}
use Rattle.layers.proofs.Layered.{length_joined}
use Rattle.layers.proofs.joined.JoinedShelf.count.Goals as goal

pub returns : goal.returns
returns g c =
    let s = c.args.self.now in
    omega (arith, length_joined (g.P.Shelf.slots s.first) (g.Q.Shelf.slots s.second))
