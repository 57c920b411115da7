use Rattle.std.proofs.Common.{rules, ◌∙◌}
use Rattle.shelf.specs.Slots.{Slot}
use Rattle.shelf.specs.declared.mark.Mark.TheVariants.{Open}
use Rattle.table.proofs.Asked.{mapped, asked_rows}
use Rattle.table.proofs.calls.TableShelf.mark.Goals as goal

pub returns : goal.returns
returns c =
    let t = c.args.self.now in
    mapped c.record.result c.map.result (λ _. Open) c.map.ensures.cases (λ x y p. search rules)
    ∙ asked_rows t.records.now t.texts.now t.capacity c.args.slot (λ (s : Slot). s.mark) c.record.result c.record.ensures
