use Rattle.std.proofs.Common.{subst}
use Rattle.format.specs.Reading.{ReadsValueAs}
use Rattle.lines.proofs.Told.{plain}
use Rattle.lines.proofs.line.Line.tell.Goals as goal

pub returns-in_default : goal.returns-in_default
returns-in_default c = λ m w.
    let l = c.args.self in
    let four = c.read_value.new.buffer in
    let h = subst (ReadsValueAs l.kind l.written.now four) c.unwrap.ensures c.read_value.ensures.exact in
    plain l c.in_default.not-Str c.in_default.not-Blob m w four c.unwrap.result c.args.buffer.now c.args.place c.read_value.auto.buffer h.reads
