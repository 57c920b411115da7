use Rattle.std.proofs.Common.{◌≡◌, ℕ, List, ◌∷◌, length}
use Rattle.std.specs.Io.KnownBytes.{Appends}
use Rattle.format.specs.Fields.{fields, fields_of}
use Rattle.input.specs.Lines.{begun}
use Rattle.input.proofs.Feeding.{Leaves, behind_cut}
use Rattle.input.proofs.begun.Line.feed.Given as goal

abbrev pub invariant-loop-cut : goal.invariant-loop-cut
invariant-loop-cut g l = record {
  room : length l.self.buffer.now ≡ length l.fn.self.buffer.now;
  written : List ℕ;
  appends : Appends (g.W.Write.contents l.fn.out) (g.W.Write.contents l.out) written;
  left : Leaves g.A.Answerer.answers (length l.fn.self.buffer.now) written l.answerer (begun l.self.buffer.now l.self.len) (l.cut.first.now ∷ fields_of 10 l.cut.rest) l.fn.answerer (begun l.fn.self.buffer.now l.fn.self.len) (fields 10 l.chunk);
}

abbrev pub decreases-loop-cut : goal.decreases-loop-cut
decreases-loop-cut g l = behind_cut l.cut.rest
