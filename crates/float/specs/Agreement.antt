-- What the six comparisons of two floats are to each other: wherever == says yes, so do >= and <=; of two that are no NaN
-- exactly one of <, == and > holds; and beside a NaN only != does. Assumes nothing.
use Rattle.std.specs.Prelude.{◌≡◌, true, false, ◌||◌, ◌⊎◌, is_nan, Float}
use Rattle.order.specs.Orders.{satisfies}
use Rattle.order.specs.declared.traits.Order.{Order}
use Rattle.order.specs.declared.comparison.Comparison.{Comparison}
use Rattle.order.specs.declared.comparison.Comparison.TheVariants.{Equals, Differs, Less, LessOrEqual, Greater, GreaterOrEqual}

-- of the three, the first holds and the others do not
abbrev pub Only : Order → Comparison → Comparison → Comparison → Type 0
Only r a b c = (satisfies a r ≡ true) × (satisfies b r ≡ false) × (satisfies c r ≡ false)

pub record Agrees (x y : Float) (r : Order) : Type 0 where
  pub upward : satisfies Equals r ≡ true → satisfies GreaterOrEqual r ≡ true
  pub downward : satisfies Equals r ≡ true → satisfies LessOrEqual r ≡ true
  pub one : (is_nan x || is_nan y) ≡ false → Only r Less Equals Greater ⊎ (Only r Equals Less Greater ⊎ Only r Greater Less Equals)
  pub apart : (is_nan x || is_nan y) ≡ true → (satisfies Differs r ≡ true) × (satisfies Equals r ≡ false) × (satisfies Less r ≡ false) × (satisfies LessOrEqual r ≡ false) × (satisfies Greater r ≡ false) × (satisfies GreaterOrEqual r ≡ false)
