use Rattle.std.proofs.Common.{◌≡◌, length, sym, ap, ◌∙◌, subst, arith}
use Rattle.std.specs.Option.{option_map, ok_or}
use Rattle.std.proofs.lemmas.Result.{err_from_is_err_and}
use Rattle.fault.specs.declared.Fault.TheVariants.{Malformed}
use Rattle.value.specs.Values.{meant}
use Rattle.format.specs.Reading.{ReadsKind}
use Rattle.line.specs.Asked.{ReadsSlot}
use Rattle.line.proofs.Asking.{posts, no_value}
use Rattle.line.proofs.commands.read_post.Goals as goal

pub returns-in_err-value-clause-asks : goal.returns-in_err-value-clause-asks
returns-in_err-value-clause-asks c =
    let buffer = c.read_value.new.buffer in
    let p = err_from_is_err_and c.from_residual-in_err-value.result c.from_residual-in_err-value.ensures.1 in
    let fault : c.in_err-value.field-0.0 ≡ Malformed = (let e = c.in_err-value.ensures.value ∙ ap (λ o. ok_or o Malformed) c.in_err-value.ensures.ok_part in cc) in
    let none = subst (λ r. ReadsKind (length buffer) c.in_ok-kind.kind c.args.value.bytes.now (option_map (meant buffer) r)) c.in_err-value.ensures.ok_part c.read_value.ensures.exact.reads in
    rw (p.1, p.2, fault) (no_value c.in_ok-kind.kind _ (sym c.in_ok-kind.ensures.ok_part ∙ c.kind_named.ensures) c.args.value.bytes.now buffer c.args.value.short c.args.slot.now (omega arith) none)

pub returns-clause-asks : goal.returns-clause-asks
returns-clause-asks c =
    let buffer = c.read_value.new.buffer in
    posts c.in_ok-kind.kind _ (sym c.in_ok-kind.ensures.ok_part ∙ c.kind_named.ensures) c.args.value.bytes.now buffer c.args.value.short c.args.slot.now _ _
    (subst (ReadsSlot c.args.slot.now) c.in_ok-slot.ensures.ok_part c.read_slot.ensures.exact)
    (subst (λ r. ReadsKind (length buffer) c.in_ok-kind.kind c.args.value.bytes.now (option_map (meant buffer) r)) c.in_ok-value.ensures.ok_part c.read_value.ensures.exact.reads)
