use Rattle.desk.proofs.Lives.{Along}
use Rattle.desk.proofs.life.session.Given as goal

abbrev pub invariant-loop-i : goal.invariant-loop-i
invariant-loop-i g l =
    let slots = g.S.Shelf.slots in
    Along (slots l.initial.desk.shelf) l.call-items l.initial.work l.initial.answers l.i l.work l.answers (slots l.desk.shelf) l.desk.rule
