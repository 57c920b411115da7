use Rattle.std.proofs.Common.{arith}
use Rattle.lines.proofs.Told.{long, short, fits}
use Rattle.lines.proofs.line.tell_text.Goals.{then-place-buffer-via-then-place-buffer, then-place-buffer-via-else-place-buffer+then-len-buffer}
use Rattle.lines.proofs.line.tell_text.Goals as goal

pub returns-then-place-buffer : goal.returns-then-place-buffer
returns-then-place-buffer c = λ t b e.
    let n = long c.args.buffer.now c.args.place t c.args.written.now e in
    short c.args.buffer.now c.args.place t c.args.written.now e (elim c.then-place-buffer.branch [
      | then-place-buffer-via-then-place-buffer w ↦ omega arith
      | then-place-buffer-via-else-place-buffer+then-len-buffer w ↦ omega arith
    ])

pub returns : goal.returns
returns c = λ t b e.
    let n = long c.args.buffer.now c.args.place t c.args.written.now e in
    fits c.args.buffer.now c.args.place t c.args.written.now e _ (omega arith) (omega arith) c.read_pairs.new.out c.read_pairs.auto.out b (λ i. omega (arith, c.type_inv.buffer i)) c.read_pairs.result c.read_pairs.ensures
