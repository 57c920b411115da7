use Rattle.std.proofs.Common.{◌≡◌, ◌+◌, length}
use Rattle.std.specs.Slice.Iter.{iter_rest}
use Rattle.std.specs.Iterator.Adapters.{zip_first, zip_second}
use Rattle.order.specs.Orders.{by_sequence}
use Rattle.order.proofs.sequence.compare_sequences.Given as goal

-- what both iterators have left gives the whole, and as much is gone of each
abbrev pub invariant-loop-x : goal.invariant-loop-x
invariant-loop-x g l =
    (by_sequence g.T.TotalOrder.total l.a l.b ≡ by_sequence g.T.TotalOrder.total (iter_rest (zip_first l.x-iterator)) (iter_rest (zip_second l.x-iterator)))
    × (length l.a + length (iter_rest (zip_second l.x-iterator)) ≡ length l.b + length (iter_rest (zip_first l.x-iterator)))
