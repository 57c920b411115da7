use Rattle.std.proofs.Common.{length, sym, ap, ◌∙◌, arith, rules}
use Rattle.format.proofs.Chars.{text_of_char, char_read, char_some, no_text, the_text}
use Rattle.format.proofs.Decimal.{reads_as}
use Rattle.format.proofs.values.read_char.Goals as goal

pub returns-in_err-ok-clause-exact : goal.returns-in_err-ok-clause-exact
returns-in_err-ok-clause-exact c = rw c.from_residual.ensures (λ v f e. no_text _ _ c.from_utf8.result c.from_utf8.ensures.cases c.in_err-ok.ensures.value (text_of_char _ v f e))

pub returns-in_err-c-clause-exact : goal.returns-in_err-c-clause-exact
returns-in_err-c-clause-exact c =
    let same = ap length (the_text _ _ c.from_utf8.result c.in_ok-ok.field-0 c.from_utf8.ensures.cases c.in_ok-ok.ensures.value ∙ sym c.chars.ensures.rest) in
    rw c.from_residual-in_err-c.ensures (λ v f e. omega (arith, c.in_err-c.ensures.steps.0.0, same, ap length e, char_some v))

pub returns-clause-exact : goal.returns-clause-exact
returns-clause-exact c =
    let same = the_text _ _ c.from_utf8.result c.in_ok-ok.field-0 c.from_utf8.ensures.cases c.in_ok-ok.ensures.value ∙ sym c.chars.ensures.rest in
    char_read c.args.bytes.now _ c.in_ok-c.c c.len_utf8.result c.then_some.result (search rules) (same ∙ c.in_ok-c.ensures.steps.0) c.len_utf8.ensures.len c.then_some.ensures

pub returns-in_err-ok-clause-reads : goal.returns-in_err-ok-clause-reads
returns-in_err-ok-clause-reads c = reads_as _ _ _ c.from_residual.result (returns-in_err-ok-clause-exact c)

pub returns-in_err-c-clause-reads : goal.returns-in_err-c-clause-reads
returns-in_err-c-clause-reads c = reads_as _ _ _ c.from_residual-in_err-c.result (returns-in_err-c-clause-exact c)

pub returns-clause-reads : goal.returns-clause-reads
returns-clause-reads c = reads_as _ _ _ c.then_some.result (returns-clause-exact c)
