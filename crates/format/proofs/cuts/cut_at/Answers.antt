use Rattle.std.proofs.Common.{eq-eqb, arith}
use Rattle.std.proofs.lemmas.Bool.{eqb-true}
use Rattle.format.proofs.Cutting.{fields_none, fields_parts}
use Rattle.format.proofs.cuts.cut_at.Goals as goal

pub returns-in-Some : goal.returns-in-Some
returns-in-Some c =
    let p = c.in-Some.ensures in
    fields_parts c.args.separator c.args.bytes.now c.split_at.result.0.now c.split_at.result.1.now c.in-Some.end c.split_at.ensures.front c.split_at.ensures.back p.0.high (λ k lt e. p.0.before k (omega arith) lt (eq-eqb _ _ e)) (eqb-true _ _ p.1)

pub returns-in-None : goal.returns-in-None
returns-in-None c = fields_none c.args.separator c.args.bytes.now (λ k lt e. c.in-None.ensures k (omega arith) lt (eq-eqb _ _ e))
