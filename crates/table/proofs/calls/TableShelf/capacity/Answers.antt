use Rattle.std.proofs.Common.{Ok, Err, ap, ◌∙◌}
use Rattle.std.proofs.lemmas.Result.{err_from_is_err_and}
use Rattle.shelf.specs.Slots.{Slot}
use Rattle.table.proofs.Asked.{asked_rows}
use Rattle.table.proofs.calls.TableShelf.capacity.Goals as goal

pub returns-in_err-record : goal.returns-in_err-record
returns-in_err-record c =
    let t = c.args.self.now in
    let p = err_from_is_err_and c.from_residual.result c.from_residual.ensures.1 in
    p.1 ∙ ap Err p.2 ∙ asked_rows t.records.now t.texts.now t.capacity c.args.slot (λ (s : Slot). s.capacity) (Err c.in_err-record.field-0.0) c.in_err-record.ensures

pub returns : goal.returns
returns c =
    let t = c.args.self.now in
    asked_rows t.records.now t.texts.now t.capacity c.args.slot (λ (s : Slot). s.capacity) (Ok c.in_ok-record.field-0) c.in_ok-record.ensures
