-- The tolerance over whole numbers. A finite float is a count of units of 2 ^ -1074, and two finite floats are equal exactly
-- where the rounded difference, times 2 ^ 52, is at most the divisor. The divisor counts what 1 does where the product of the
-- two counts at most half a unit, and else the larger of the two counts. Assumes nothing.
use Rattle.std.specs.Prelude.{◌≡◌, ℕ, suc, ◌+◌, ◌-◌, ◌*◌, ◌^◌, ◌≤◌, max, true, cond, pos, negsuc, nat_le, Float}
use Rattle.std.specs.Float.{float_is_finite, nan, inf, fin}
use Rattle.order.specs.declared.traits.Order.{Order}
use Rattle.order.specs.declared.traits.Order.TheVariants.{Equal}
use Rattle.float.specs.Tolerance.{by_ieee, unscaled, divisor, difference}

-- how many units of 2 ^ -1074 the magnitude of a finite float has
abbrev pub count : Float → ℕ
count nan = 0
count (inf s) = 0
count (fin s m (pos k)) = m * 2 ^ (k + 1074)
count (fin s m (negsuc k)) = m * 2 ^ (1074 - suc k)

-- the rounded difference is a number, and 2 ^ 52 of it are at most the divisor
abbrev pub Within : Float → Float → Type 0
Within x y = (float_is_finite (difference x y) ≡ true) × (count (difference x y) * 2 ^ 52 ≤ count (divisor x y))

-- equal within the tolerance and only there; else IEEE's order stands
abbrev pub Exact : Float → Float → Order → Type 0
Exact x y r =
    float_is_finite x ≡ true → float_is_finite y ≡ true
    → (Within x y → r ≡ Equal) × ((Within x y → ⊥) → r ≡ by_ieee x y) × (r ≡ Equal → Within x y)

-- The product of two floats counts the product of their counts, over 2 ^ 1074. It is rounded to zero where that is at most a
-- half, since zero is even; and then the divisor is 1.
pub record Divides (x y : Float) : Type 0 where
  pub vanishes : unscaled x y ≡ nat_le (count x * count y * 2) (2 ^ 1074)
  pub counts : count (divisor x y) ≡ cond (unscaled x y) (2 ^ 1074) (max (count x) (count y))

abbrev pub Divided : Float → Float → Type 0
Divided x y = float_is_finite x ≡ true → float_is_finite y ≡ true → Divides x y
