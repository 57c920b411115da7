-- Texts as Unicode scalars: which bytes are UTF-8, the order of texts by their scalars, and the laws that let code compare
-- bytes, or two scalars beside a char. Assumes nothing.
use Rattle.std.specs.Prelude.{◌≡◌, ℕ, Bool, true, ◌&&◌, List, [], ◌∷◌, Some, None, Option}
use Rattle.std.proofs.Math.Utf8.{scalars, encodes}
use Rattle.std.specs.Str.{chars, bytes_eq}
use Rattle.order.specs.declared.traits.Order.{Order}
use Rattle.order.specs.declared.traits.Order.TheVariants.{Less}
use Rattle.order.specs.Orders.{by_nat, by_option, by_sequence}

-- bytes are UTF-8 where they decode to scalars that encode to them again
abbrev pub utf8 : List ℕ → Bool
utf8 bs = scalars (chars bs) && bytes_eq (encodes (chars bs)) bs

-- the order of two texts, by their scalars
abbrev pub by_scalars : List ℕ → List ℕ → Order
by_scalars cs ds = by_sequence by_nat cs ds

-- the first two of a list, absent ones as None
abbrev pub first_two : List ℕ → List (Option ℕ)
first_two [] = None ∷ None ∷ []
first_two (x ∷ []) = Some x ∷ None ∷ []
first_two (x ∷ (y ∷ ys)) = Some x ∷ Some y ∷ []

-- the byte order of two texts is the order of their scalars
abbrev pub BytesOrderAsScalars : Type 0
BytesOrderAsScalars = (xs ys : List ℕ) → utf8 xs ≡ true → utf8 ys ≡ true → by_sequence by_nat xs ys ≡ by_scalars (chars xs) (chars ys)

-- beside a char the first two scalars of a text decide
abbrev pub TwoScalarsSuffice : Type 0
TwoScalarsSuffice = (c : ℕ) (ds : List ℕ)
    → (by_sequence (by_option by_nat) (first_two (c ∷ [])) (first_two ds) ≡ by_scalars (c ∷ []) ds)
    × (by_sequence (by_option by_nat) (first_two ds) (first_two (c ∷ [])) ≡ by_scalars ds (c ∷ []))

-- 'a' < "ab", and "" < 'a'
abbrev pub WorkedLetters : Type 0
WorkedLetters = (by_scalars (97 ∷ []) (chars (97 ∷ 98 ∷ [])) ≡ Less) × (by_scalars (chars []) (97 ∷ []) ≡ Less)
