use Rattle.rows.proofs.Listed.{rows_as_listed}
use Rattle.rows.proofs.selection.rows_stand.Goals as goal

pub returns : goal.returns
returns c = rows_as_listed
