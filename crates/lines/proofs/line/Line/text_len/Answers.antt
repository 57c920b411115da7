use Rattle.lines.proofs.Told.{half}
use Rattle.lines.proofs.line.Line.text_len.Goals as goal

pub returns-in-Str : goal.returns-in-Str
returns-in-Str c = λ m w. half c.args.self c.in-Str.is m w
