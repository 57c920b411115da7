use Rattle.std.proofs.Common.{◌≡◌, ℕ, List, length}
use Rattle.std.specs.Io.KnownBytes.{Appends, Consumes}
use Rattle.input.specs.Lines.{begun}
use Rattle.input.proofs.Parts.{Gone}
use Rattle.input.proofs.reading.serve.Given as goal

abbrev pub invariant-loop : goal.invariant-loop
invariant-loop g l = record {
  room : length l.line.buffer.now ≡ length l.fn.buffer;
  read : List ℕ;
  written : List ℕ;
  consumes : Consumes (g.R.Read.remaining l.fn.input) (g.R.Read.remaining l.input) read;
  appends : Appends (g.W.Write.contents l.fn.out) (g.W.Write.contents l.out) written;
  gone : Gone g.A.Answerer.answers (length l.fn.buffer) l.fn.answerer read l.answerer (begun l.line.buffer.now l.line.len) written;
}
