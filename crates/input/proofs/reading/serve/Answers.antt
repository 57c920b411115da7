use Rattle.std.proofs.Common.{[], ◌++◌, sym, ◌∙◌, take}
use Rattle.input.specs.Lines.{begun}
use Rattle.input.proofs.Known.{Appends-nil, Appends-then, Appends-kept, Consumes-nil, Consumes-none, Consumes-then, on_ok}
use Rattle.input.proofs.Parts.{nothing_gone, fed_more, has_begun, none_begun, last_answered, none_answered}
use Rattle.input.proofs.reading.serve.Goals.{then-ne+in_ok-end, else-ne}
use Rattle.input.proofs.reading.serve.Goals as goal

pub loop-init : goal.loop-init
loop-init g c = record {
  room = c.new-line.ensures.room;
  read = [];
  written = [];
  consumes = Consumes-nil _;
  appends = Appends-nil _;
  gone = nothing_gone g.A.Answerer.answers _ _ _ c.new-line.ensures.begun;
}

pub returns-then-n-eq0-clause-served : goal.returns-then-n-eq0-clause-served
returns-then-n-eq0-clause-served g c =
    let inv = c.loop.invariant in
    let buffer = c.loop.line.buffer.now in
    let line = begun buffer c.loop.line.len in
    let got = Consumes-none _ _ _ inv.read c.read.new.buf c.in_ok-n.n c.if-n-eq0.true inv.consumes c.in_ok-n.ensures.bytes.0 in
    elim c.if-ne.branch [
      | then-ne+in_ok-end w ↦
          let one = w.in_ok-end.ensures.answers in
          let all = last_answered g.A.Answerer.answers _ _ inv.read _ _ line inv.written one.0 inv.gone (has_begun buffer c.loop.line.len c.loop.line.inside (sym w.if-ne.ensures)) one.1 in
          rw (w.answerer-is) (on_ok c.flush.result (inv.read, inv.written ++ one.0, got, all, Appends-kept _ _ _ _ (Appends-then _ _ _ inv.written one.0 inv.appends one.2) (rw w.out-is at c.flush.ensures.bytes)))
      | else-ne w ↦
          let all = none_answered g.A.Answerer.answers _ _ inv.read _ line inv.written inv.gone (none_begun buffer c.loop.line.len (sym w.if-ne.ensures)) in
          rw (w.answerer-is) (on_ok c.flush.result (inv.read, inv.written, got, all, Appends-kept _ _ _ _ inv.appends (rw w.out-is at c.flush.ensures.bytes)))
    ]

pub loop-preserved : goal.loop-preserved
loop-preserved g c =
    let inv = c.loop.invariant in
    let part = take c.in_ok-n.n c.read.new.buf in
    let fed = c.in_ok-feed.ensures.fed in
    record {
      room = c.feed.ensures.room ∙ inv.room;
      read = inv.read ++ part;
      written = inv.written ++ fed.0;
      consumes = Consumes-then _ _ _ inv.read part inv.consumes c.in_ok-n.ensures.bytes.0;
      appends = Appends-kept _ _ _ _ (Appends-then _ _ _ inv.written fed.0 inv.appends fed.2) c.in_ok-flush.ensures.bytes;
      gone = fed_more g.A.Answerer.answers _ _ inv.read part _ _ _ _ inv.written fed.0 inv.gone (rw (← inv.room) fed.1);
    }
