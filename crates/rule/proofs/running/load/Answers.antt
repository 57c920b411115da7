use Rattle.std.proofs.Common.{sym, ap, ◌∙◌}
use Rattle.operators.specs.Applied.{behind}
use Rattle.rule.proofs.Loads.{load_gives}
use Rattle.rule.proofs.running.load.Goals as goal

pub returns-in-Some-clause-gives : goal.returns-in-Some-clause-gives
returns-in-Some-clause-gives g c =
    let s = c.args.shelf.now in
    let w = c.args.work.now in
    load_gives (g.S.Shelf.slots s) (g.S.Shelf.formed s) c.args.slot w.bytes.now w.fill w.inside c.requires _ _ _ (sym c.tell.ensures.answer ∙ c.in_ok-value.was) c.tell.ensures.bytes (ap (behind w.fill) (sym (sym c.text.ensures ∙ c.in-Some.is)))
