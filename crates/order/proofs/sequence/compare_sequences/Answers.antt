use Rattle.std.proofs.Common.{ap, ◌∙◌}
use Rattle.std.specs.Slice.Iter.{iter_rest}
use Rattle.std.specs.Iterator.Adapters.{zip_first, zip_second}
use Rattle.std.proofs.lemmas.Slice.Zip.{either_empty_from_Zip}
use Rattle.order.specs.Orders.{ordered}
use Rattle.order.proofs.Ends.{lengths_decide}
use Rattle.order.proofs.sequence.compare_sequences.Goals as goal

pub returns : goal.returns
returns g c =
    let s = c.loop-x.x-iterator in
    c.into.ensures ∙ ap ordered c.cmp.ensures
    ∙ lengths_decide g.T.TotalOrder.total c.args.a.now c.args.b.now (iter_rest (zip_first s)) (iter_rest (zip_second s)) c.loop-x.invariant.0 c.loop-x.invariant.1
    (either_empty_from_Zip s c.next.new.self c.next.result c.in-None.is c.next.ensures.steps)
