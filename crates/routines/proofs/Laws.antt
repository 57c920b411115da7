-- A call that comes to the same as another settles alike.
use Rattle.std.proofs.Common.{◌≡◌, ℕ, List, Ok, Err, Result, sym, refl, ap, ◌∙◌, subst}
use Rattle.fault.specs.Refusals.{bind}
use Rattle.fault.specs.declared.Fault.{Fault}
use Rattle.order.specs.Orders.{satisfies}
use Rattle.order.specs.declared.traits.Order.{Order}
use Rattle.order.specs.declared.comparison.Comparison.{Comparison}
use Rattle.text.specs.declared.piece.Text.{Text}
use Rattle.value.specs.declared.value.Value.{Value}
use Rattle.rows.specs.declared.routine.FnBuiltin.{FnBuiltin}
use Rattle.routines.specs.declared.made.Made.{Made}
use Rattle.routines.specs.declared.made.Limits.{Limits}
use Rattle.routines.specs.Calls.{Given, called, truth}
use Rattle.routines.specs.Outcomes.{operand, filled, compared, Settles, Reads}

pub settles_as : {work : List ℕ} {fill : ℕ} {o p : Result Given Fault} {r : Result Made Fault} {after : List ℕ} {fill' : ℕ} → o ≡ p → Settles work fill p r after fill' → Settles work fill o r after fill'
settles_as {work} {fill} {o} {p} {r} {after} {fill'} e s = subst (λ q. Settles work fill q r after fill') (sym e) s

-- a refusal that writes nothing
pub settles_err : (work : List ℕ) (fill : ℕ) (o : Result Given Fault) (f : Fault) (r : Result Made Fault) → o ≡ Err f → r ≡ Err f → Settles work fill o r work fill
settles_err work fill o f r e q = settles_as e (record { answer = q; bytes = λ _. work; next = sym (ap (filled fill) q) })

-- a routine by another name for it
pub settles_read : (work : List ℕ) (fill : ℕ) (l : Limits) (f g : FnBuiltin) (a b : Value Text) (r : Result Made Fault) → g ≡ f → Reads work f a b r → Settles work fill (called l g (operand work a) (operand work b)) r work fill
settles_read work fill l f g a b r e h = settles_as (ap (λ f. called l f (operand work a) (operand work b)) e) (h l fill)

-- ---- two readings, compared as g of them

-- a reading that is compared as it is
pub plain : {A : Type 0} (u : Result A Fault) → u ≡ bind u (λ x. Ok x)
plain (Ok x) = refl
plain (Err f) = refl

module _ {A B : Type 0} (g : A → B) (work : List ℕ) (fill : ℕ) (order : B → B → Order) (c : Comparison) where
  told : (u v : Result A Fault) (r : Result Made Fault) → r ≡ compared order c (bind u (λ x. Ok (g x))) (bind v (λ y. Ok (g y))) → Settles work fill (bind u (λ x. bind v (λ y. truth (satisfies c (order (g x) (g y)))))) r work fill
  told (Ok x) (Ok y) r e = record { answer = e; bytes = refl; next = sym (ap (filled fill) e) }
  told (Ok x) (Err f) r e = record { answer = e; bytes = refl; next = sym (ap (filled fill) e) }
  told (Err f) v r e = record { answer = e; bytes = refl; next = sym (ap (filled fill) e) }

  pub settles_compared : (x y : Result B Fault) (u v p q : Result A Fault) (r : Result Made Fault) → x ≡ bind u (λ x. Ok (g x)) → y ≡ bind v (λ y. Ok (g y)) → u ≡ p → v ≡ q → r ≡ compared order c x y → Settles work fill (bind p (λ x. bind q (λ y. truth (satisfies c (order (g x) (g y)))))) r work fill
  settles_compared x y u v p q r a b d e h =
      settles_as (sym (λ i. bind (d i) (λ x. bind (e i) (λ y. truth (satisfies c (order (g x) (g y)))))))
      (told u v r (h ∙ (λ i. compared order c (a i) (b i))))
