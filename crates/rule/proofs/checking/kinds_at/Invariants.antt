use Rattle.std.proofs.Common.{◌≡◌, length, take}
use Rattle.shelf.specs.Slots.{holding}
use Rattle.rule.specs.Check.{kinds_at}
use Rattle.rule.proofs.checking.kinds_at.Given as goal

abbrev pub invariant-loop-i : goal.invariant-loop-i
invariant-loop-i g l = (length l.kinds ≡ 128) × (take l.i l.kinds ≡ kinds_at (holding (g.S.Shelf.slots l.shelf)) (take l.i l.steps))
