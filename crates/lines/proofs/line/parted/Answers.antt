use Rattle.std.proofs.Common.{◌∷◌, ◌++◌, sym, ap, ◌∙◌}
use Rattle.format.specs.Fields.{fields_of}
use Rattle.format.proofs.Ranges.{two_parts}
use Rattle.format.proofs.Same.{kind_named_is}
use Rattle.lines.proofs.Spelling.{no_tab}
use Rattle.lines.proofs.line.parted.Goals as goal

pub returns-in_err-written : goal.returns-in_err-written
returns-in_err-written c = rw c.from_residual.ensures (no_tab c.args.line.now c.cut_at-cut.result.first.now (c.cut_at-cut.ensures ∙ ap (λ r. c.cut_at-cut.result.first.now ∷ fields_of 9 r) c.in_err-written.was))

pub returns : goal.returns
returns c =
    let parts = two_parts 9 c.args.line.now c.cut_at-cut.result.first.now c.in_ok-written.written.now (c.cut_at-cut.ensures ∙ ap (λ r. c.cut_at-cut.result.first.now ∷ fields_of 9 r) c.in_ok-written.was) in
    let name = kind_named_is c.cut_at-cut.result.first.now c.in_ok-kind.kind (sym c.in_ok-kind.ensures) in
    ap (λ n. n ++ (9 ∷ c.in_ok-written.written.now)) (sym name) ∙ sym parts
