use Rattle.std.proofs.Common.{◌≡◌, rules, sym, ◌∙◌, ◌*◌, take, drop}
use Rattle.value.specs.Values.{kind_in, kind_of}
use Rattle.value.proofs.Laws.{kind_meaning}
use Rattle.shelf.specs.Slots.{Slot}
use Rattle.table.proofs.Asked.{mapped, asked_rows}
use Rattle.table.specs.Rows.{meant_by}
use Rattle.table.proofs.calls.TableShelf.kind.Goals as goal

pub returns : goal.returns
returns c =
    let t = c.args.self.now in
    let part = take t.capacity (drop (c.args.slot * t.capacity) t.texts.now) in
    mapped c.record.result c.map.result (λ r. kind_in (meant_by part r.now.value)) c.map.ensures.cases (λ x y p. let e : y ≡ kind_of x.now.value = search rules in e ∙ sym (kind_meaning (λ n. take n part) x.now.value))
    ∙ asked_rows t.records.now t.texts.now t.capacity c.args.slot (λ (s : Slot). kind_in s.holds) c.record.result c.record.ensures
