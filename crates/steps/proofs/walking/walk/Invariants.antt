use Rattle.steps.specs.Frames.{held}
use Rattle.steps.proofs.Looping.{Far}
use Rattle.steps.proofs.walking.walk.Given as goal

abbrev pub invariant-loop-place : goal.invariant-loop-place
invariant-loop-place g l =
    let k = g.M.Machine in
    record {
      far : Far (k.does l.initial.machine) l.steps.list.now (k.world l.initial.machine) (k.means l.machine) (k.holds l.machine) (k.world l.machine) l.place (held l.frame);
      later : k.later l.initial.machine l.machine;
    }
