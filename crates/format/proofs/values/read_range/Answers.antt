use Rattle.std.proofs.Common.{◌∷◌, ◌++◌, sym, ap, ◌∙◌, to_z-of_z, w64, SFits, rules}
use Rattle.format.specs.Fields.{fields_of}
use Rattle.format.proofs.Decimal.{reads_as}
use Rattle.format.proofs.Ranges.{no_rest, first_is, rest_is, two_parts}
use Rattle.format.proofs.values.read_range.Goals as goal

pub returns-in_err-rest-clause-exact : goal.returns-in_err-rest-clause-exact
returns-in_err-rest-clause-exact c = rw c.from_residual.ensures (λ v f e. no_rest c.args.bytes.now c.cut_at-ends.result.first.now v.from v.to f.0 f.1 e (c.cut_at-ends.ensures ∙ ap (λ r. c.cut_at-ends.result.first.now ∷ fields_of 44 r) c.in_err-rest.was))

pub returns-in_err-from-clause-exact : goal.returns-in_err-from-clause-exact
returns-in_err-from-clause-exact c = rw c.from_residual-in_err-from.ensures (λ v f e. c.in_err-from.ensures.exact v.from f.0 (first_is c.args.bytes.now c.cut_at-ends.result.first.now v.from v.to f.0 f.1 e _ c.cut_at-ends.ensures))

pub returns-in_err-to-clause-exact : goal.returns-in_err-to-clause-exact
returns-in_err-to-clause-exact c = rw c.from_residual-in_err-to.ensures (λ v f e. c.in_err-to.ensures.exact v.to f.1 (rest_is c.args.bytes.now c.cut_at-ends.result.first.now v.from v.to f.0 f.1 e c.in_ok-rest.rest.now (c.cut_at-ends.ensures ∙ ap (λ r. c.cut_at-ends.result.first.now ∷ fields_of 44 r) c.in_ok-rest.was)))

pub returns-clause-exact : goal.returns-clause-exact
returns-clause-exact c =
    let f : SFits w64 c.in_ok-from.from = search rules in
    let g : SFits w64 c.in_ok-to.to = search rules in
    let whole = two_parts 44 c.args.bytes.now c.cut_at-ends.result.first.now c.in_ok-rest.rest.now (c.cut_at-ends.ensures ∙ ap (λ r. c.cut_at-ends.result.first.now ∷ fields_of 44 r) c.in_ok-rest.was) in
    simp to_z-of_z ((f, g), (λ i. c.in_ok-from.ensures.exact.1 i ++ (44 ∷ c.in_ok-to.ensures.exact.1 i)) ∙ sym whole)

pub returns-in_err-rest-clause-reads : goal.returns-in_err-rest-clause-reads
returns-in_err-rest-clause-reads c = reads_as _ _ _ c.from_residual.result (returns-in_err-rest-clause-exact c)

pub returns-in_err-from-clause-reads : goal.returns-in_err-from-clause-reads
returns-in_err-from-clause-reads c = reads_as _ _ _ c.from_residual-in_err-from.result (returns-in_err-from-clause-exact c)

pub returns-in_err-to-clause-reads : goal.returns-in_err-to-clause-reads
returns-in_err-to-clause-reads c = reads_as _ _ _ c.from_residual-in_err-to.result (returns-in_err-to-clause-exact c)

pub returns-clause-reads : goal.returns-clause-reads
returns-clause-reads c = (returns-clause-exact c).1
