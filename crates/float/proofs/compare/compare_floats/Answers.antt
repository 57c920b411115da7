use Rattle.std.proofs.Common.{T, sym, subst, rules}
use lib.Ieee.{fits, binary64}
use Rattle.float.specs.Exactly.{Exact}
use Rattle.float.specs.Agreement.{Agrees}
use Rattle.float.proofs.Exact.{exact}
use Rattle.float.proofs.Divided.{divided}
use Rattle.float.proofs.Agree.{float_agrees}
use Rattle.float.proofs.compare.compare_floats.Goals as goal

pub returns : goal.returns
returns c =
    let x = c.args.x in
    let y = c.args.y in
    let v = c.order_floats.ensures in
    let f : T (fits binary64 x) = search rules in
    let g : T (fits binary64 y) = search rules in
    record { value = v; exact = subst (Exact x y) (sym v) (exact x y f g); divided = divided x y f g; agrees = subst (Agrees x y) (sym v) (float_agrees x y) }
