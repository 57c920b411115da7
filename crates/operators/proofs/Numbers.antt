-- The six comparisons of two numbers, as an operator answers them.
use Rattle.std.proofs.Common.{◌≡◌, ℕ, Bool, true, false, cond, ◌||◌, ℤ, pos, negsuc, zero, suc, Result, sym, refl, ap, ◌∙◌, inl, inr, arith}
use lib.Ieee.{Float, inf, binary64, Format, prec, low, is_nan, round, units, odd, of_int}
use Rattle.std.proofs.lemmas.Bool.{false≢true}
use Rattle.fault.specs.declared.Fault.{Fault}
use Rattle.order.specs.Orders.{satisfies, by_int, order_number}
use Rattle.order.specs.declared.traits.Order.{Order}
use Rattle.order.specs.declared.traits.Order.TheVariants.{Less, Equal, Greater, Unordered}
use Rattle.order.specs.declared.comparison.Comparison.TheVariants as comparison
use Rattle.float.specs.Tolerance.{by_float}
use Rattle.float.proofs.Agree.{ranks, unordered, ordered}
use Rattle.value.specs.Values.{Meaning, unit, bool, int, float, char, str, blob, excl, incl, kind_in}
use Rattle.value.specs.declared.op.Op.{Op}
use Rattle.value.specs.declared.op.Op.TheVariants.{EqualsTo, NotEqualsTo, LessThan, LessThanEqualsTo, GreaterThan, GreaterThanEqualsTo}
use Rattle.rows.specs.Rows.{is_number}
use Rattle.routines.specs.Calls.{Given, truth}
use Rattle.routines.specs.declared.made.Limits.{Limits}
use Rattle.operators.specs.Applied.{applied}
use Rattle.operators.specs.Numbers.{is_no_number, Agree, NumbersAgree}

-- ---- the six answers of an order

-- the answer false is not true
apart : {A : Type 0} → truth false ≡ truth true → A
apart e = absurd (let z : false ≡ true = cc in false≢true z)

module _ (answer : Op → Result Given Fault) (v : Bool) where
  -- the operators answer by the order r, which is unordered exactly beside a NaN
  agree : (r : Order) → (v ≡ true → r ≡ Unordered) → (v ≡ false → r ≡ Unordered → ⊥)
      → answer EqualsTo ≡ truth (satisfies comparison.Equals r) → answer NotEqualsTo ≡ truth (satisfies comparison.Differs r)
      → answer LessThan ≡ truth (satisfies comparison.Less r) → answer LessThanEqualsTo ≡ truth (satisfies comparison.LessOrEqual r)
      → answer GreaterThan ≡ truth (satisfies comparison.Greater r) → answer GreaterThanEqualsTo ≡ truth (satisfies comparison.GreaterOrEqual r)
      → Agree v answer
  agree Less u d e n l m g k = record { upward = λ q. apart (sym e ∙ q); downward = λ q. apart (sym e ∙ q); one = λ _. inl (l, e, g); apart = λ q. absurd (omega (arith, ap order_number (u q))) }
  agree Equal u d e n l m g k = record { upward = λ _. k; downward = λ _. m; one = λ _. inr (inl (e, l, g)); apart = λ q. absurd (omega (arith, ap order_number (u q))) }
  agree Greater u d e n l m g k = record { upward = λ q. apart (sym e ∙ q); downward = λ q. apart (sym e ∙ q); one = λ _. inr (inr (g, l, e)); apart = λ q. absurd (omega (arith, ap order_number (u q))) }
  agree Unordered u d e n l m g k = record { upward = λ q. apart (sym e ∙ q); downward = λ q. apart (sym e ∙ q); one = λ q. absurd (d q refl); apart = λ _. (n, e, l, m, g, k) }

-- ---- an int beside a float is a number
cond_number : (b : Bool) (x y : Float) → is_nan x ≡ false → is_nan y ≡ false → is_nan (cond b x y) ≡ false
cond_number true x y p q = p
cond_number false x y p q = q

odd_number : (d : ℕ) (s : Bool) (q k l : ℕ) → is_nan (odd d s q k l) ≡ false
unfolding odd is_nan
odd_number d s zero k l = refl
odd_number d s (suc q) k l = refl

inf_number : (s : Bool) → is_nan (inf s) ≡ false
unfolding is_nan
inf_number s = refl

units_number : (f : Format) (s : Bool) (q k : ℕ) → is_nan (units f s q k) ≡ false
unfolding units
units_number f s q k = cond_number _ _ (inf s) (odd_number (suc (prec f)) s q k (low f)) (inf_number s)

round_number : (f : Format) (s : Bool) (a c : ℕ) → is_nan (round f s a c) ≡ false
unfolding round
round_number f s a c = units_number f s _ _

int_number : (n : ℤ) → is_nan (of_int binary64 n) ≡ false
unfolding of_int
int_number (pos n) = round_number binary64 false n 1
int_number (negsuc n) = round_number binary64 true (suc n) 1

-- ---- the answers of two numbers
module _ (l : Limits) where
  ints : (x y : ℤ) → Agree false (λ op. applied l op (int x) (int y))
  ints x y = agree _ false (by_int x y) (λ e. absurd (false≢true e)) (λ _. ranks _ _) refl refl refl refl refl refl

  floats : (a b : Meaning) (x y : Float) (v : Bool) → v ≡ (is_nan x || is_nan y) → (r : Order) → r ≡ by_float x y
      → applied l EqualsTo a b ≡ truth (satisfies comparison.Equals r) → applied l NotEqualsTo a b ≡ truth (satisfies comparison.Differs r)
      → applied l LessThan a b ≡ truth (satisfies comparison.Less r) → applied l LessThanEqualsTo a b ≡ truth (satisfies comparison.LessOrEqual r)
      → applied l GreaterThan a b ≡ truth (satisfies comparison.Greater r) → applied l GreaterThanEqualsTo a b ≡ truth (satisfies comparison.GreaterOrEqual r)
      → Agree v (λ op. applied l op a b)
  floats a b x y v e r h = agree _ v r (λ q. h ∙ unordered x y (sym e ∙ q)) (λ q u. ordered x y (sym e ∙ q) (sym h ∙ u))

  alike : (a b : Meaning) → is_number (kind_in a) ≡ true → is_number (kind_in b) ≡ true → Agree (is_no_number a || is_no_number b) (λ op. applied l op a b)
  alike (int x) (int y) p q = ints x y
  alike (int x) (float y) p q = floats (int x) (float y) (of_int binary64 x) y (is_nan y) (sym (ap (λ v. v || is_nan y) (int_number x))) _ refl refl refl refl refl refl refl
  alike (float x) (int y) p q = floats (float x) (int y) x (of_int binary64 y) (is_nan x || false) (sym (ap (λ v. is_nan x || v) (int_number y))) _ refl refl refl refl refl refl refl
  alike (float x) (float y) p q = floats (float x) (float y) x y (is_nan x || is_nan y) refl _ refl refl refl refl refl refl refl
  alike unit b p q = absurd (false≢true p)
  alike (bool x) b p q = absurd (false≢true p)
  alike (int x) unit p q = absurd (false≢true q)
  alike (int x) (bool y) p q = absurd (false≢true q)
  alike (int x) (char y) p q = absurd (false≢true q)
  alike (int x) (str y) p q = absurd (false≢true q)
  alike (int x) (blob y) p q = absurd (false≢true q)
  alike (int x) (excl y y') p q = absurd (false≢true q)
  alike (int x) (incl y y') p q = absurd (false≢true q)
  alike (float x) unit p q = absurd (false≢true q)
  alike (float x) (bool y) p q = absurd (false≢true q)
  alike (float x) (char y) p q = absurd (false≢true q)
  alike (float x) (str y) p q = absurd (false≢true q)
  alike (float x) (blob y) p q = absurd (false≢true q)
  alike (float x) (excl y y') p q = absurd (false≢true q)
  alike (float x) (incl y y') p q = absurd (false≢true q)
  alike (char x) b p q = absurd (false≢true p)
  alike (str x) b p q = absurd (false≢true p)
  alike (blob x) b p q = absurd (false≢true p)
  alike (excl x x') b p q = absurd (false≢true p)
  alike (incl x x') b p q = absurd (false≢true p)

pub numbers_agree : NumbersAgree
numbers_agree l a b p q = alike l a b p q
