use Rattle.std.proofs.Common.{T, sym, ap, ◌∙◌, rules, arith}
use lib.Ieee.{binary64, fits, eq, to_bits}
use lib.Ieee.Bits.{to_bits-lt}
use Rattle.float.proofs.Literals.{zero_bits}
use Rattle.float.proofs.Remaining.{low_pattern, positive_pattern, remaining, no_nan, of_nan_left, of_infinite, of_nan_right, of_zero, kept}
use Rattle.float.proofs.remainder.remainder.Goals as goal
use Rattle.float.proofs.remainder.remainder.Goals.{then-is_nan-via-then-is_nan, then-is_nan-via-else-is_nan+then-is_nan-2, then-is_nan-via-else-is_nan+else-is_nan-2+then-is_infinite, then-is_nan-via-else-is_nan+else-is_nan-2+else-is_infinite+then-y}

pub returns-then-is_nan : goal.returns-then-is_nan
returns-then-is_nan c =
    let x = c.args.x in
    let y = c.args.y in
    elim c.then-is_nan.branch [
      | then-is_nan-via-then-is_nan w ↦ of_nan_left x y w.if-is_nan.ensures.value
      | then-is_nan-via-else-is_nan+then-is_nan-2 w ↦ of_nan_right x y w.if-is_nan-2.ensures.value
      | then-is_nan-via-else-is_nan+else-is_nan-2+then-is_infinite w ↦ of_infinite x y w.if-is_infinite.ensures.value
      | then-is_nan-via-else-is_nan+else-is_nan-2+else-is_infinite+then-y w ↦ of_zero x y w.if-is_infinite.ensures.value (ap (eq y) (sym zero_bits) ∙ w.if-y.true)
    ]

pub returns-then-is_infinite-2 : goal.returns-then-is_infinite-2
returns-then-is_infinite-2 c = kept c.args.x c.args.y c.if-is_nan.ensures.value c.if-is_infinite.ensures.value c.if-is_infinite-2.ensures.value

pub rest-requires-clause-first : goal.rest-requires-clause-first
rest-requires-clause-first c =
    let f : T (fits binary64 c.args.x) = search rules in
    low_pattern c.args.x f c.if-is_nan.ensures.value c.if-is_infinite.ensures.value

pub rest-requires-clause-second : goal.rest-requires-clause-second
rest-requires-clause-second c =
    let g : T (fits binary64 c.args.y) = search rules in
    low_pattern c.args.y g c.if-is_nan-2.ensures.value c.if-is_infinite-2.ensures.value

pub rest-requires-clause-positive : goal.rest-requires-clause-positive
rest-requires-clause-positive c =
    let g : T (fits binary64 c.args.y) = search rules in
    positive_pattern c.args.y g c.if-is_nan-2.ensures.value c.if-is_infinite-2.ensures.value (ap (eq c.args.y) (sym zero_bits) ∙ c.if-y.false)

pub overflow_add-result : goal.overflow_add-result
overflow_add-result c =
    let f : T (fits binary64 c.args.x) = search rules in
    omega (arith, to_bits-lt binary64 c.args.x f, c.rest.ensures.finite)

pub float_from_bits-result : goal.float_from_bits-result
float_from_bits-result c =
    let f : T (fits binary64 c.args.x) = search rules in
    no_nan (to_bits binary64 c.args.x) c.rest.result (to_bits-lt binary64 c.args.x f) c.rest.ensures.finite

pub returns : goal.returns
returns c =
    let f : T (fits binary64 c.args.x) = search rules in
    let g : T (fits binary64 c.args.y) = search rules in
    remaining c.args.x c.args.y f g c.if-is_nan.ensures.value c.if-is_infinite.ensures.value c.if-is_nan-2.ensures.value c.if-is_infinite-2.ensures.value (ap (eq c.args.y) (sym zero_bits) ∙ c.if-y.false)
    c.rest.result c.rest.ensures.finite c.rest.ensures.count
