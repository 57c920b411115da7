use Rattle.std.proofs.Common.{length, is_ok, sym, ap, ◌∙◌}
use Rattle.std.proofs.lemmas.Bool.{cond-true}
use Rattle.table.specs.Rows.{rows, whole, tested}
use Rattle.table.proofs.Blank.{whole_blank, rows_blank, tested_room}
use Rattle.table.proofs.make.new_table.Goals as goal

pub invariant_of-result-2 : goal.invariant_of-result-2
invariant_of-result-2 c =
    let n = length c.args.records.now in
    let cap = c.args.capacity in
    let bs = c.args.texts.now in
    let o = sym (ap is_ok c.test_table.ensures) ∙ c.if-is_err.ensures.negation in
    record { whole = ap (λ rs. whole rs bs cap) (c.fill.ensures.after (λ y p. p)) ∙ whole_blank n bs cap (tested_room n cap (length bs) o) }

pub returns : goal.returns
returns c =
    let n = length c.args.records.now in
    let cap = c.args.capacity in
    let bs = c.args.texts.now in
    let o = sym (ap is_ok c.test_table.ensures) ∙ c.if-is_err.ensures.negation in
    ap (λ rs. rows rs bs cap) (c.fill.ensures.after (λ y p. p)) ∙ rows_blank n bs cap ∙ sym (cond-true (is_ok (tested n cap (length bs))) _ _ o)
