-- What the six comparisons of two floats are to each other.
use Rattle.std.proofs.Common.{◌≡◌, Bool, true, false, cond, ◌||◌, sym, refl, ap, ◌∙◌, inl, inr, arith}
use lib.Ieee.{Float, is_nan, lt}
use Rattle.std.specs.Float.{float_is_infinite}
use Rattle.std.proofs.lemmas.Bool.{false≢true}
use Rattle.order.specs.Orders.{ranked, order_number}
use Rattle.order.specs.declared.traits.Order.{Order}
use Rattle.order.specs.declared.traits.Order.TheVariants.{Less, Equal, Greater, Unordered}
use Rattle.float.specs.Tolerance.{by_float, by_ieee, close}
use Rattle.float.specs.Agreement.{Agrees}

-- an answer that is unordered exactly beside a NaN
agrees : (x y : Float) (r : Order) → ((is_nan x || is_nan y) ≡ true → r ≡ Unordered) → ((is_nan x || is_nan y) ≡ false → r ≡ Unordered → ⊥) → Agrees x y r
agrees x y Less u d = record { upward = λ e. absurd (false≢true e); downward = λ e. absurd (false≢true e); one = λ _. inl (refl, refl, refl); apart = λ e. absurd (omega (arith, ap order_number (u e))) }
agrees x y Equal u d = record { upward = λ _. refl; downward = λ _. refl; one = λ _. inr (inl (refl, refl, refl)); apart = λ e. absurd (omega (arith, ap order_number (u e))) }
agrees x y Greater u d = record { upward = λ e. absurd (false≢true e); downward = λ e. absurd (false≢true e); one = λ _. inr (inr (refl, refl, refl)); apart = λ e. absurd (omega (arith, ap order_number (u e))) }
agrees x y Unordered u d = record { upward = λ e. absurd (false≢true e); downward = λ e. absurd (false≢true e); one = λ e. absurd (d e refl); apart = λ _. (refl, refl, refl, refl, refl, refl) }

pub ranks : (a b : Bool) → ranked a b ≡ Unordered → ⊥
ranks true b e = omega (arith, ap order_number e)
ranks false true e = omega (arith, ap order_number e)
ranks false false e = omega (arith, ap order_number e)

decides : (i c : Bool) (o : Order) → (o ≡ Unordered → ⊥) → cond i o (cond c Equal o) ≡ Unordered → ⊥
decides true c o h e = h e
decides false true o h e = omega (arith, ap order_number e)
decides false false o h e = h e

module _ (x y : Float) where
  beside : (v : Bool) → (is_nan x || is_nan y) ≡ v → by_float x y ≡ cond v Unordered (cond (float_is_infinite x || float_is_infinite y) (by_ieee x y) (cond (close x y) Equal (by_ieee x y)))
  beside v e = ap (λ b. cond b Unordered (cond (float_is_infinite x || float_is_infinite y) (by_ieee x y) (cond (close x y) Equal (by_ieee x y)))) e

  pub unordered : (is_nan x || is_nan y) ≡ true → by_float x y ≡ Unordered
  unordered e = beside true e

  pub ordered : (is_nan x || is_nan y) ≡ false → by_float x y ≡ Unordered → ⊥
  ordered e u = decides (float_is_infinite x || float_is_infinite y) (close x y) (by_ieee x y) (ranks (lt x y) (lt y x)) (sym (beside false e) ∙ u)

  pub float_agrees : Agrees x y (by_float x y)
  float_agrees = agrees x y (by_float x y) unordered ordered
