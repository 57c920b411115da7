use Rattle.std.proofs.Common.{◌∷◌, sym, ap, ◌∙◌, arith}
use Rattle.format.specs.Fields.{fields_of}
use Rattle.format.proofs.Laws.{first_within}
use Rattle.format.proofs.Ranges.{shorter}
use Rattle.line.proofs.Shaped.{five}
use Rattle.line.proofs.forms.read_form.Goals as goal

pub returns-then-is_some : goal.returns-then-is_some
returns-then-is_some c =
    five c.args.line.now _ _ _ _ c.in-Some.rest.now c.in_ok-first.field-0.now c.in-Some-rest.rest.now c.cut_at-third.result.rest
    (sym c.if-is_some.ensures)
    (c.cut_at-verb.ensures ∙ ap (λ o. c.cut_at-verb.result.first.now ∷ fields_of 9 o) c.in-Some.is)
    (c.cut_at-first.ensures ∙ ap (λ o. c.cut_at-first.result.first.now ∷ fields_of 9 o) c.in_ok-first.was)
    (c.cut_at-second.ensures ∙ ap (λ o. c.cut_at-second.result.first.now ∷ fields_of 9 o) c.in-Some-rest.is)
    c.cut_at-third.ensures

pub invariant_of-third : goal.invariant_of-third
invariant_of-third c =
    let first = shorter 9 c.args.line.now _ c.in-Some.rest.now (c.cut_at-verb.ensures ∙ ap (λ o. c.cut_at-verb.result.first.now ∷ fields_of 9 o) c.in-Some.is) in
    let second = shorter 9 c.in-Some.rest.now _ c.in_ok-first.field-0.now (c.cut_at-first.ensures ∙ ap (λ o. c.cut_at-first.result.first.now ∷ fields_of 9 o) c.in_ok-first.was) in
    let third = shorter 9 c.in_ok-first.field-0.now _ c.in-Some-rest.rest.now (c.cut_at-second.ensures ∙ ap (λ o. c.cut_at-second.result.first.now ∷ fields_of 9 o) c.in-Some-rest.is) in
    let last = first_within 9 c.in-Some-rest.rest.now c.cut_at-third.result.first.now _ c.cut_at-third.ensures in
    record { short = omega arith }
