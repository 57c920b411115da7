use Rattle.std.proofs.Common.{◌∷◌, ap, ◌∙◌}
use Rattle.format.specs.Fields.{fields_of}
use Rattle.cases.proofs.Nine.{nine}
use Rattle.cases.proofs.case.read_case.Goals as goal

pub returns-then-is_some : goal.returns-then-is_some
returns-then-is_some c =
    nine c.args.line.now _ _ _ _ _ _ _ _
    c.in_ok-name.field-0.now c.in_ok-op.field-0.now c.in_ok-left_kind.field-0.now c.in_ok-left_value.field-0.now c.in_ok-right_kind.field-0.now c.in_ok-right_value.field-0.now c.in_ok-string.field-0.now
    c.cut_at-blob.result.rest
    c.if-is_some.ensures
    (c.cut_at-name.ensures ∙ ap (λ o. c.cut_at-name.result.first.now ∷ fields_of 9 o) c.in_ok-name.was)
    (c.cut_at-op.ensures ∙ ap (λ o. c.cut_at-op.result.first.now ∷ fields_of 9 o) c.in_ok-op.was)
    (c.cut_at-left_kind.ensures ∙ ap (λ o. c.cut_at-left_kind.result.first.now ∷ fields_of 9 o) c.in_ok-left_kind.was)
    (c.cut_at-left_value.ensures ∙ ap (λ o. c.cut_at-left_value.result.first.now ∷ fields_of 9 o) c.in_ok-left_value.was)
    (c.cut_at-right_kind.ensures ∙ ap (λ o. c.cut_at-right_kind.result.first.now ∷ fields_of 9 o) c.in_ok-right_kind.was)
    (c.cut_at-right_value.ensures ∙ ap (λ o. c.cut_at-right_value.result.first.now ∷ fields_of 9 o) c.in_ok-right_value.was)
    (c.cut_at-string.ensures ∙ ap (λ o. c.cut_at-string.result.first.now ∷ fields_of 9 o) c.in_ok-string.was)
    c.cut_at-blob.ensures
