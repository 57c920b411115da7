use Rattle.std.proofs.Common.{◌≡◌, rules}
use Rattle.lines.proofs.Ended.{cut_lines, rest_of}
use Rattle.lines.proofs.cutting.cut_line.Goals as goal

pub returns : goal.returns
returns c =
    let rest : c.unwrap_or.result.now ≡ rest_of c.cut_at-cut.result.rest = search rules in
    cut_lines c.args.bytes.now c.cut_at-cut.result.first.now c.unwrap_or.result.now c.cut_at-cut.result.rest (λ z. search (rules, z)) c.cut_at-cut.ensures rest
