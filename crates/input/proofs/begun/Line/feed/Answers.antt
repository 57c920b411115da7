use Rattle.std.proofs.Common.{◌∷◌, ◌++◌, length, ap, ◌∙◌, subst}
use Rattle.format.specs.Fields.{fields, fields_of}
use Rattle.input.specs.Lines.{begun, longer}
use Rattle.input.proofs.Feeding.{Leaves, less_behind, one_less, none_left}
use Rattle.input.proofs.Known.{Appends-then}
use Rattle.input.proofs.begun.Line.feed.Goals as goal

pub loop-cut-smaller : goal.loop-cut-smaller
loop-cut-smaller g c =
    let less = less_behind c.in-Some.rest.now c.cut_at-cut-in-Some.result.first.now c.cut_at-cut-in-Some.result.rest c.cut_at-cut-in-Some.ensures in
    rw c.in-Some.is less

pub loop-cut-preserved : goal.loop-cut-preserved
loop-cut-preserved g c =
    let inv = c.loop-cut.invariant in
    let room = length c.args.self.now.buffer.now in
    let line = begun c.loop-cut.self.buffer.now c.loop-cut.self.len in
    let first = begun c.args.self.now.buffer.now c.args.self.now.len in
    let part = c.loop-cut.cut.first.now in
    let left = subst (λ o. Leaves g.A.Answerer.answers room inv.written c.loop-cut.answerer line (part ∷ fields_of 10 o) c.args.answerer.now first (fields 10 c.args.chunk.now)) c.in-Some.is inv.left in
    let went = c.in_ok-hand_on.ensures.answers in
    record {
      room = c.hand_on.ensures.room ∙ inv.room;
      written = inv.written ++ went.0;
      appends = Appends-then _ _ _ inv.written went.0 inv.appends went.2;
      left = rw (c.hand_on.ensures.next, ← c.cut_at-cut-in-Some.ensures)
          (one_less g.A.Answerer.answers room inv.written c.loop-cut.answerer line part c.args.answerer.now first _ _ went.0 c.in-Some.rest.now left (rw (← inv.room) went.1));
    }

pub returns-clause-fed : goal.returns-clause-fed
returns-clause-fed g c =
    let inv = c.loop-cut.invariant in
    let room = length c.args.self.now.buffer.now in
    let line = begun c.loop-cut.self.buffer.now c.loop-cut.self.len in
    let first = begun c.args.self.now.buffer.now c.args.self.now.len in
    let part = c.loop-cut.cut.first.now in
    let left = subst (λ o. Leaves g.A.Answerer.answers room inv.written c.loop-cut.answerer line (part ∷ fields_of 10 o) c.args.answerer.now first (fields 10 c.args.chunk.now)) c.in_default.is inv.left in
    (inv.written, none_left g.A.Answerer.answers room inv.written c.loop-cut.answerer line part c.args.answerer.now first c.args.chunk.now _ left (c.add.ensures.longer ∙ ap (λ n. longer n line part) inv.room), inv.appends)
