use Rattle.std.proofs.Common.{◌-◌, ◌∙◌}
use native.Mathlib.Nat.{sub-zero}
use Rattle.shelf.specs.Slots.{holding}
use Rattle.rule.proofs.Parts.{walks_end}
use Rattle.rule.proofs.running.run_steps.Goals as goal

pub returns : goal.returns
returns g c = record {
  ends = walks_end c.args.limits (holding (g.S.Shelf.slots c.args.shelf.now)) c.args.steps.list.now c.args.work.now (c.min-room.result - 0) c.walk_steps.result _ (sub-zero c.min-room.result ∙ c.min-room.ensures) c.walk_steps.ensures.walks;
  same = c.walk_steps.ensures.same;
}
