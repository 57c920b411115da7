use Rattle.std.proofs.Common.{◌*◌, Ok, Err, refl, ap, ◌∙◌, rules, arith}
use Rattle.std.proofs.lemmas.Result.{err_from_is_err_and}
use Rattle.std.specs.List.{slice_get}
use Rattle.fault.specs.Refusals.{bind}
use Rattle.fault.specs.declared.Fault.TheVariants.{Absent}
use Rattle.value.specs.Values.{meaning, text_in}
use Rattle.shelf.specs.Slots.{Slot}
use Rattle.table.proofs.Asked.{found, asked_rows}
use Rattle.table.proofs.Rowed.{whole_at}
use Rattle.table.proofs.Lent.{inside, means}
use Rattle.table.proofs.table.Table.value_at.Goals as goal

pub returns-in_err-value : goal.returns-in_err-value
returns-in_err-value c =
    let t = c.args.self.now in
    let p = err_from_is_err_and c.from_residual.result c.from_residual.ensures.1 in
    ap (λ r. bind r (λ v. Ok (meaning (λ x. x.now) v))) p.1 ∙ ap Err p.2
    ∙ asked_rows t.records.now t.texts.now t.capacity c.args.slot (λ (s : Slot). s.holds) (Err c.in_err-value.field-0.0) c.in_err-value.ensures

pub overflow_mul-start : goal.overflow_mul-start
overflow_mul-start c =
    let t = c.args.self.now in
    let r = c.in_ok-value.field-0.now in
    let f = found Absent (slice_get t.records.now c.args.slot) r c.in_ok-value.ensures in
    omega (arith, (whole_at t.records.now t.texts.now t.capacity c.args.slot r f t.whole).within)

pub lend-requires : goal.lend-requires
lend-requires c =
    let t = c.args.self.now in
    let r = c.in_ok-value.field-0.now in
    let f = found Absent (slice_get t.records.now c.args.slot) r c.in_ok-value.ensures in
    let a = whole_at t.records.now t.texts.now t.capacity c.args.slot r f t.whole in
    inside r t.texts.now t.capacity (c.args.slot * t.capacity) a _ (λ n s p. search rules) c.map.result c.map.ensures (text_in c.map.result) refl

pub returns : goal.returns
returns c =
    let t = c.args.self.now in
    let r = c.in_ok-value.field-0.now in
    let f = found Absent (slice_get t.records.now c.args.slot) r c.in_ok-value.ensures in
    let a = whole_at t.records.now t.texts.now t.capacity c.args.slot r f t.whole in
    ap Ok (c.lend.ensures ∙ means r t.texts.now t.capacity (c.args.slot * t.capacity) a _ (λ n s p. search rules) c.map.result c.map.ensures)
    ∙ asked_rows t.records.now t.texts.now t.capacity c.args.slot (λ (s : Slot). s.holds) (Ok c.in_ok-value.field-0) c.in_ok-value.ensures
