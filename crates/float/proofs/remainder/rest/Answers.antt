use Rattle.std.proofs.Common.{◌≡◌, ◌*◌, ◌-◌, ◌%◌, ◌^◌, ap, ◌∙◌, arith}
use Rattle.float.specs.Patterns.{exponent_in, significand_in}
use Rattle.float.proofs.Patterned.{none_taken, taken_away}
use Rattle.float.proofs.remainder.rest.Goals as goal

pub returns-then-j-k-clause-count : goal.returns-then-j-k-clause-count
returns-then-j-k-clause-count c = none_taken c.args.a c.args.b (omega (arith, c.exponent-j.ensures, c.exponent-k.ensures))

pub returns-clause-count : goal.returns-clause-count
returns-clause-count c =
    let j = c.exponent-j.ensures in
    let k = c.exponent-k.ensures in
    let made : c.reduce.result * 2 ^ c.exponent-k.result ≡ (significand_in c.args.a * 2 ^ (exponent_in c.args.a - exponent_in c.args.b) % significand_in c.args.b) * 2 ^ exponent_in c.args.b =
    ap (λ z. z * 2 ^ c.exponent-k.result) (c.reduce.ensures ∙ (λ i. c.significand.ensures i * 2 ^ (j i - k i) % c.significand-2.ensures i))
    ∙ ap (λ z. (significand_in c.args.a * 2 ^ (exponent_in c.args.a - exponent_in c.args.b) % significand_in c.args.b) * 2 ^ z) k in
    c.pattern_of.ensures.count ∙ made ∙ taken_away c.args.a c.args.b c.requires.positive (omega (arith, j, k, c.if-j-k.false))
