use Rattle.std.proofs.Common.{◌+◌, ◌-◌, ◌*◌, ◌^◌, ap, ◌∙◌, arith}
use Rattle.float.specs.Patterns.{count_in}
use Rattle.float.proofs.Patterned.{zeros, lifted, made_count}
use Rattle.float.proofs.remainder.pattern_of.Goals as goal

pub overflow_sub-m : goal.overflow_sub-m
overflow_sub-m c = zeros c.args.m (omega arith) c.requires.short

pub overflow_add-result : goal.overflow_add-result
overflow_add-result c = let l = lifted c.args.m c.args.k c.min-up.result (omega arith) c.requires.short (cc) in omega (arith, l.short, l.whole, l.part)

pub returns-clause-count : goal.returns-clause-count
returns-clause-count c =
    let m = c.args.m in
    let up = c.min-up.result in
    let l = lifted m c.args.k up (omega arith) c.requires.short (cc) in
    ap (λ z. count_in ((c.args.k - up) * 4503599627370496 + z)) l.whole ∙ made_count (m * 2 ^ up) (c.args.k - up) l.short l.leads ∙ l.count

pub returns-clause-finite : goal.returns-clause-finite
returns-clause-finite c = let l = lifted c.args.m c.args.k c.min-up.result (omega arith) c.requires.short (cc) in omega (arith, l.short, l.whole, l.part)
