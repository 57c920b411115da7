use Rattle.std.proofs.Common.{sym, ◌∙◌}
use Rattle.lines.specs.Spelled.{lines}
use Rattle.lines.proofs.Placed.{length_slots}
use Rattle.lines.proofs.calls.LinesShelf.count.Goals as goal

pub returns : goal.returns
returns c = c.count_lines.ensures ∙ sym (length_slots (lines c.args.self.now.text.now) c.args.self.now.values)
