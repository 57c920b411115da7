use Rattle.std.proofs.Common.{Err, option_map, sym, ap, ◌∙◌, subst}
use Rattle.std.proofs.lemmas.Result.{err_from_is_err_and}
use Rattle.lines.specs.Spelled.{lines}
use Rattle.lines.specs.Parts.{Parts, OnLine}
use Rattle.lines.specs.Shelved.{lines_slots}
use Rattle.lines.proofs.Placed.{absent, parts, on_line, none_absent, none_or}
use Rattle.lines.proofs.lines.Lines.line.Goals as goal

pub returns-in_err-line : goal.returns-in_err-line
returns-in_err-line c =
    let s = c.args.self.now in
    let p = err_from_is_err_and c.from_residual.result c.from_residual.ensures.1 in
    let a = none_absent c.line_at.result c.in_err-line.field-0.0 c.in_err-line.ensures.value in
    subst (OnLine (lines_slots s) c.args.slot) (sym (p.1 ∙ ap Err (p.2 ∙ a.1))) (absent (lines s.text.now) s.values c.args.slot (ap (option_map (λ l. l.now)) (sym a.0) ∙ c.line_at.ensures))

pub unwrap-requires : goal.unwrap-requires
unwrap-requires c =
    let s = c.args.self.now in
    let at = ap (option_map (λ l. l.now)) (none_or c.line_at.result c.in_ok-line.line c.in_ok-line.ensures.value) ∙ c.line_at.ensures in
    parts (lines s.text.now) s.values c.args.slot c.in_ok-line.line.now c.parted.result at c.parted.ensures

pub returns : goal.returns
returns c =
    let s = c.args.self.now in
    let at = ap (option_map (λ l. l.now)) (none_or c.line_at.result c.in_ok-line.line c.in_ok-line.ensures.value) ∙ c.line_at.ensures in
    on_line (lines s.text.now) s.values c.args.slot c.in_ok-line.line.now c.unwrap.result at (subst (Parts c.in_ok-line.line.now) c.unwrap.ensures c.parted.ensures)
