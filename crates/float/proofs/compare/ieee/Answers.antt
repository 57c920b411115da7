use Rattle.std.proofs.Common.{◌≡◌, Bool, true, false, cond, subst, Some, None, refl}
use Rattle.std.specs.Option.{MatchOption}
use Rattle.std.specs.declared.cmp.Ordering.TheVariants as ordering
use Rattle.std.proofs.lemmas.Bool.{true≢false}
use Rattle.std.proofs.lemmas.Float.{eq_flip, eq-not_lt, T_from_true}
use lib.Ieee.{Float, lt, eq}
use Rattle.order.specs.declared.traits.Order.{Order}
use Rattle.order.specs.declared.traits.Order.TheVariants.{Equal}
use Rattle.order.specs.Orders.{ranked, ordered}
use Rattle.float.proofs.compare.ieee.Goals as goal

ranks : (a e b : Bool) (r : Order) → (e ≡ true → b ≡ false) → MatchOption (cond a (Some ordering.Less) (cond e (Some ordering.Equal) (cond b (Some ordering.Greater) None))) (r ≡ Equal) (λ o. r ≡ ordered o) → r ≡ ranked a b
ranks true e b r n m = m
ranks false true true r n m = absurd (true≢false (n refl))
ranks false true false r n m = m
ranks false false true r n m = m
ranks false false false r n m = m

not_above : (x y : Float) (b : Bool) → lt y x ≡ b → eq x y ≡ true → b ≡ false
not_above x y true l e = absurd (eq-not_lt y x (eq_flip x y (T_from_true (eq x y) e)) (T_from_true (lt y x) l))
not_above x y false l e = refl

pub returns : goal.returns
returns c =
    let x = c.args.x in
    let y = c.args.y in
    ranks (lt x y) (eq x y) (lt y x) c.map_or.result (not_above x y (lt y x) refl)
    (subst (λ o. MatchOption o (c.map_or.result ≡ Equal) (λ o. c.map_or.result ≡ ordered o)) c.partial_cmp.ensures c.map_or.ensures)
