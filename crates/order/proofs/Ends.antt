-- What the order of two sequences is once one of them has run out: their lengths decide.
use Rattle.std.proofs.Common.{◌≡◌, ℕ, ◌+◌, ◌⊎◌, List, [], ◌∷◌, length, sym, ap, ◌∙◌, inl, inr, arith}
use Rattle.std.specs.Ordering.{nat_cmp}
use Rattle.std.specs.Cmp.{nat_cmp_is}
use Rattle.std.specs.declared.cmp.Ordering.TheVariants as ordering
use Rattle.order.specs.declared.traits.Order.{Order}
use Rattle.order.specs.Orders.{by_sequence, ordered}

module _ {A : Type 0} (f : A → A → Order) where
  ends : (p q : List A) (m n : ℕ) → (p ≡ []) ⊎ (q ≡ []) → m + length q ≡ n + length p → ordered (nat_cmp m n) ≡ by_sequence f p q
  ends [] [] m n e h = ap ordered (sym (nat_cmp_is m n ordering.Equal (omega arith)))
  ends [] (y ∷ q) m n e h = ap ordered (sym (nat_cmp_is m n ordering.Less (omega arith)))
  ends (x ∷ p) [] m n e h = ap ordered (sym (nat_cmp_is m n ordering.Greater (omega arith)))
  ends (x ∷ p) (y ∷ q) m n (inl e) h = absurd (omega (arith, ap length e))
  ends (x ∷ p) (y ∷ q) m n (inr e) h = absurd (omega (arith, ap length e))

  -- xs and ys stand to each other as what is left of them, of which one is empty
  pub lengths_decide : (xs ys p q : List A) → by_sequence f xs ys ≡ by_sequence f p q → length xs + length q ≡ length ys + length p → (p ≡ []) ⊎ (q ≡ [])
      → ordered (nat_cmp (length xs) (length ys)) ≡ by_sequence f xs ys
  lengths_decide xs ys p q left gone out = ends p q (length xs) (length ys) out gone ∙ sym left
