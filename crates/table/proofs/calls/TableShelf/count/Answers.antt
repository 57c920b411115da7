use Rattle.std.proofs.Common.{rules}
use Rattle.table.proofs.Rowed.{length_rows}
use Rattle.table.proofs.calls.TableShelf.count.Goals as goal

pub returns : goal.returns
returns c = search (rules, length_rows)
