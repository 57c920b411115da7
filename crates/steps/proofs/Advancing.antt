-- Each step of a walk, once the calls that it makes are known.
use Rattle.std.proofs.Common.{◌≡◌, ℕ, Ok, Err, Result, sym, ap, ◌∙◌}
use Rattle.fault.specs.Outcomes.{Outcome, beside}
use Rattle.fault.specs.Refusals.{bind}
use Rattle.fault.specs.declared.Fault.{Fault}
use Rattle.steps.specs.Frames.{done}
use Rattle.steps.specs.Machines.{meanings, AllHeld, Comes, Keeps, Advances}
use Rattle.steps.specs.Walk.{Entries, Machine, pushed, popped, kept}
use Rattle.steps.proofs.Framed.{push_means, push_held, pop_held, keep_means, keep_held, meanings_still, held_still}

-- an entry of this state: put on, or kept in a local
module _ {W T E : Type 0} (means : E → T) (holds : E → Type 0) (w : W) (o : Outcome W (Entries T) Fault) (e : Entries E) (a : AllHeld holds e) (x : E) where
  pub put_advances : (r : Result Unit Fault) (e₁ : Entries E) → o ≡ beside w (pushed (means x) (meanings means e)) → holds x → pushed x e ≡ done r e₁ → Advances means holds w o r e₁
  put_advances r e₁ s h q = record { outcome = s ∙ ap (beside w) (push_means means r x e e₁ q); held = push_held holds r x e e₁ h a q }

  pub keep_advances : (i : ℕ) (e₁ : Entries E) → o ≡ Ok (kept i (means x) (meanings means e₁), w) → popped e ≡ Ok (x, e₁) → Advances means holds w o (Ok tt) (kept i x e₁)
  keep_advances i e₁ s q =
      let off = pop_held holds e x e₁ a q in
      record { outcome = s ∙ ap (λ y. Ok (y, w)) (keep_means means i x e₁); held = λ _. keep_held holds i x e₁ off.top off.rest }

-- an entry that a call gives, beside the entries e of before
module _ {W T E : Type 0} (m m' : Machine W T) (means means' : E → T) (holds holds' : E → Type 0) (k : Keeps m m' means means' holds holds') (w : W) (o : Outcome W (Entries T) Fault) (e : Entries E) (a : AllHeld holds e) (c : Outcome W T Fault) (x : E) (r : Result Unit Fault) where
  pub comes_in : (e₁ : Entries E) → o ≡ bind c (λ p. beside p.1 (pushed p.0 (meanings means e))) → Comes means' holds' w c (Ok x) → pushed x e ≡ done r e₁ → Advances means' holds' w o r e₁
  comes_in e₁ s g q = record {
    outcome = s
        ∙ ap (λ c. bind c (λ p. beside p.1 (pushed p.0 (meanings means e)))) g.outcome
        ∙ ap (λ y. beside w (pushed (means' x) y)) (sym (meanings_still m m' means means' holds holds' k e a))
        ∙ ap (beside w) (push_means means' r x e e₁ q);
    held = push_held holds' r x e e₁ (g.held x (λ _. Ok x)) (held_still m m' means means' holds holds' k e a) q;
  }

  -- in a local that is changed in place
  assigned : (i : ℕ) (r : Result Unit Fault) → Comes means' holds' w c (bind r (λ _. Ok x)) → bind c (λ p. Ok (kept i p.0 (meanings means e), p.1)) ≡ beside w (done r (meanings means' (kept i x e)))
  assigned i (Ok u) g =
      ap (λ c. bind c (λ p. Ok (kept i p.0 (meanings means e), p.1))) g.outcome
      ∙ ap (λ y. Ok (kept i (means' x) y, w)) (sym (meanings_still m m' means means' holds holds' k e a))
      ∙ ap (λ y. Ok (y, w)) (keep_means means' i x e)
  assigned i (Err f) g = ap (λ c. bind c (λ p. Ok (kept i p.0 (meanings means e), p.1))) g.outcome

  pub assign_advances : (i : ℕ) → o ≡ bind c (λ p. Ok (kept i p.0 (meanings means e), p.1)) → Comes means' holds' w c (bind r (λ _. Ok x)) → Advances means' holds' w o r (kept i x e)
  assign_advances i s g = record {
    outcome = s ∙ assigned i r g;
    held = λ ok. keep_held holds' i x e (g.held x (ap (λ r. bind r (λ _. Ok x)) ok)) (held_still m m' means means' holds holds' k e a);
  }
