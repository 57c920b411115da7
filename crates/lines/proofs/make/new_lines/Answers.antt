use Rattle.lines.specs.Once.{spells_once}
use Rattle.lines.specs.Spelled.{lines}
use Rattle.lines.proofs.Judged.{tested_valued}
use Rattle.lines.proofs.Keeping.{keeps, refused, taken}
use Rattle.lines.proofs.make.new_lines.Goals as goal

pub returns-then-is_err-clause-once : goal.returns-then-is_err-clause-once
returns-then-is_err-clause-once c = spells_once

pub returns-then-is_err-clause-built : goal.returns-then-is_err-clause-built
returns-then-is_err-clause-built c = (c.test_lines.result, c.test_lines.ensures, refused c.test_lines.result (lines c.args.bytes.now) c.if-is_err.ensures.negation)

pub invariant_of-result-2 : goal.invariant_of-result-2
invariant_of-result-2 c = record { values = tested_valued c.args.bytes.now c.test_lines.result c.test_lines.ensures c.if-is_err.ensures.negation }

pub returns-clause-built : goal.returns-clause-built
returns-clause-built c = (c.test_lines.result, c.test_lines.ensures, taken c.test_lines.result (lines c.args.bytes.now) _ c.if-is_err.ensures.negation)

pub returns-clause-once : goal.returns-clause-once
returns-clause-once c = spells_once

pub returns-then-is_err-clause-kept : goal.returns-then-is_err-clause-kept
returns-then-is_err-clause-kept c = keeps _ _ (returns-then-is_err-clause-built c)

pub returns-clause-kept : goal.returns-clause-kept
returns-clause-kept c = keeps _ _ (returns-clause-built c)
