use Rattle.std.proofs.Common.{codes, sym, ap, rules, arith}
use Rattle.std.proofs.lemmas.Slice.Eq.{text_from_reads}
use Rattle.cases.specs.Cases.{form_named}
use Rattle.cases.proofs.case.form_named.Goals as goal

pub returns-in-assign : goal.returns-in-assign
returns-in-assign c = sym (ap form_named (text_from_reads c.args.name.now (codes "assign") (omega arith) (search rules)))
