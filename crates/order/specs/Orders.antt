-- What comparing means: the four answers, the six comparisons on an answer, and the orders of numbers, truth values,
-- optional values and sequences. Assumes nothing.
use Rattle.std.specs.Prelude.{ℕ, Bool, true, false, not, ◌||◌, List, [], ◌∷◌, ℤ, Some, None, Option, int_lt, nat_lt}
use Rattle.std.specs.declared.cmp.Ordering.{Ordering}
use Rattle.std.specs.declared.cmp.Ordering.TheVariants as ordering
use Rattle.order.specs.declared.traits.Order.{Order}
use Rattle.order.specs.declared.traits.Order.TheVariants.{Less, Equal, Greater, Unordered}
use Rattle.order.specs.declared.comparison.Comparison.{Comparison}
use Rattle.order.specs.declared.comparison.Comparison.TheVariants as comparison

-- the number of each answer
abbrev pub order_number : Order → ℕ
order_number Less = 0
order_number Equal = 1
order_number Greater = 2
order_number Unordered = 3

-- the answer of a total comparison
abbrev pub ordered : Ordering → Order
ordered ordering.Less = Less
ordered ordering.Equal = Equal
ordered ordering.Greater = Greater

-- the answer for the exchanged pair
abbrev pub exchanged : Order → Order
exchanged Less = Greater
exchanged Equal = Equal
exchanged Greater = Less
exchanged Unordered = Unordered

abbrev pub is_less : Order → Bool
is_less Less = true
is_less Equal = false
is_less Greater = false
is_less Unordered = false

abbrev pub is_equal : Order → Bool
is_equal Less = false
is_equal Equal = true
is_equal Greater = false
is_equal Unordered = false

-- which answers a comparison takes
abbrev pub satisfies : Comparison → Order → Bool
satisfies comparison.Equals o = is_equal o
satisfies comparison.Differs o = not (is_equal o)
satisfies comparison.Less o = is_less o
satisfies comparison.LessOrEqual o = is_less o || is_equal o
satisfies comparison.Greater o = is_less (exchanged o)
satisfies comparison.GreaterOrEqual o = is_less (exchanged o) || is_equal o

-- the answer from the two tests x < y and y < x
abbrev pub ranked : Bool → Bool → Order
ranked true _ = Less
ranked false true = Greater
ranked false false = Equal

abbrev pub by_nat : ℕ → ℕ → Order
by_nat x y = ranked (nat_lt x y) (nat_lt y x)

abbrev pub by_int : ℤ → ℤ → Order
by_int x y = ranked (int_lt x y) (int_lt y x)

abbrev pub by_bool : Bool → Bool → Order
by_bool true true = Equal
by_bool true false = Greater
by_bool false true = Less
by_bool false false = Equal

-- absent before present
abbrev pub by_option : {A : Type 0} → (A → A → Order) → Option A → Option A → Order
by_option f None None = Equal
by_option f None (Some y) = Less
by_option f (Some x) None = Greater
by_option f (Some x) (Some y) = f x y

-- the first answer, or the second where the first is Equal
abbrev pub or_else : Order → Order → Order
or_else Less o = Less
or_else Equal o = o
or_else Greater o = Greater
or_else Unordered o = Unordered

-- the first difference decides, and a proper beginning comes first
abbrev pub by_sequence : {A : Type 0} → (A → A → Order) → List A → List A → Order
by_sequence f [] [] = Equal
by_sequence f [] (y ∷ ys) = Less
by_sequence f (x ∷ xs) [] = Greater
by_sequence f (x ∷ xs) (y ∷ ys) = or_else (f x y) (by_sequence f xs ys)
