use Rattle.std.proofs.Common.{◌∙◌, ap, cond, T, rules}
use lib.Ieee.{fits, binary64}
use Rattle.std.specs.Float.{float_one, float_max}
use Rattle.float.specs.Tolerance.{size}
use Rattle.float.proofs.Magnitudes.{larger}
use Rattle.float.proofs.compare.find_divisor.Goals as goal

pub returns-else-is_unscaled : goal.returns-else-is_unscaled
returns-else-is_unscaled c =
    let x = c.args.x in
    let y = c.args.y in
    let a = c.abs.ensures.value in
    let b = c.abs-else-is_unscaled.ensures.value in
    let f : T (fits binary64 c.abs.result) = search rules in
    let g : T (fits binary64 c.abs-else-is_unscaled.result) = search rules in
    larger x y c.abs.result c.abs-else-is_unscaled.result c.max.result a b f g c.max.ensures.value c.max.ensures.unequal
    ∙ ap (λ t. cond t float_one (float_max (size x) (size y))) c.if-is_unscaled.ensures
