use Rattle.std.proofs.Common.{◌≡◌, ℕ, List, Ok, Err, Result, sym, ap, ◌∙◌, subst}
use Rattle.std.proofs.lemmas.Result.{err_from_is_err_and}
use Rattle.fault.specs.Refusals.{bind}
use Rattle.fault.specs.declared.Fault.{Fault}
use Rattle.routines.specs.Calls.{Given, as_bytes}
use Rattle.routines.specs.Outcomes.{operand, Pieced}
use Rattle.routines.proofs.texts.as_pieces.Goals as goal

-- both read, or one refused
module _ (k : List ℕ → List ℕ → Result Given Fault) where
  both : (o p : Result (List ℕ) Fault) (x y : List ℕ) → Ok x ≡ o → Ok y ≡ p → bind o (λ x. bind p (λ y. k x y)) ≡ k x y
  both o p x y e f = sym (λ i. bind (e i) (λ x. bind (f i) (λ y. k x y)))

  first : (o p : Result (List ℕ) Fault) (f : Fault) → Err f ≡ o → bind o (λ x. bind p (λ y. k x y)) ≡ Err f
  first o p f e = sym (ap (λ o. bind o (λ x. bind p (λ y. k x y))) e)

  second : (o p : Result (List ℕ) Fault) (x : List ℕ) (f : Fault) → Ok x ≡ o → Err f ≡ p → bind o (λ x. bind p (λ y. k x y)) ≡ Err f
  second o p x f e g = sym (λ i. bind (e i) (λ x. bind (g i) (λ y. k x y)))

pub returns : goal.returns
returns c = λ work fill p q.
    let u = c.in_ok-as_piece.ensures in
    let v = c.in_ok-as_piece-2.ensures in
    (λ k. both k (as_bytes (operand work c.args.a)) (as_bytes (operand work c.args.b)) _ _ (u.bytes work) (v.bytes work), u.below fill p.below, v.below fill q.below)

pub returns-in_err-as_piece : goal.returns-in_err-as_piece
returns-in_err-as_piece c = λ work fill p q.
    let e = err_from_is_err_and c.from_residual.result c.from_residual.ensures.1 in
    subst (Pieced work fill c.args.a c.args.b) (sym (e.1 ∙ ap Err e.2))
    (λ k. first k (as_bytes (operand work c.args.a)) (as_bytes (operand work c.args.b)) _ (c.in_err-as_piece.ensures.bytes work))

pub returns-in_err-as_piece-2 : goal.returns-in_err-as_piece-2
returns-in_err-as_piece-2 c = λ work fill p q.
    let e = err_from_is_err_and c.from_residual-in_err-as_piece-2.result c.from_residual-in_err-as_piece-2.ensures.1 in
    subst (Pieced work fill c.args.a c.args.b) (sym (e.1 ∙ ap Err e.2))
    (λ k. second k (as_bytes (operand work c.args.a)) (as_bytes (operand work c.args.b)) _ _ (c.in_ok-as_piece.ensures.bytes work) (c.in_err-as_piece-2.ensures.bytes work))
