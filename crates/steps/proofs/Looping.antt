-- The loop of a walk: what is left of the walk gives the whole.
use Rattle.std.proofs.Common.{◌≡◌, ℕ, ◌+◌, ◌<◌, ◌≤◌, List, [], ◌∷◌, map, length, get_or, drop, replicate, Ok, Err, Result, sym, refl, ap, ◌∙◌, subst}
use Rattle.std.specs.List.{All}
use Rattle.std.proofs.lemmas.List.Elements.{All-nil, All-head, All-replicate}
use Rattle.fault.specs.Outcomes.{beside}
use Rattle.fault.specs.Refusals.{bind, placed_at}
use Rattle.fault.specs.declared.Refusal.{Refusal}
use Rattle.fault.specs.declared.Fault.{Fault}
use Rattle.value.specs.Values.{unit}
use Rattle.steps.specs.Frames.{done}
use Rattle.steps.specs.Machines.{meanings, AllHeld, Comes, Advances}
use Rattle.steps.specs.Walk.{Entries, entries, Machine, start, step, after, finish, walk}
use Rattle.steps.specs.declared.step.Step.{Step}
use Rattle.steps.proofs.Laws.{turn, turn_stops, after_done}

placed_ok : (i : ℕ) (r : Result Unit Fault) → placed_at i r ≡ Ok tt → r ≡ Ok tt
placed_ok i (Ok u) q = refl
placed_ok i (Err f) q = absurd (cc)

module _ {T E : Type 0} (means : E → T) where
  finish_means : (n : ℕ) (st : List E) → finish n (map means st) ≡ bind (finish n st) (λ x. Ok (means x))
  finish_means n [] = refl
  finish_means n (x ∷ []) = refl
  finish_means n (x ∷ y ∷ st) = refl

finish_held : {E : Type 0} (holds : E → Type 0) (n : ℕ) (st : List E) (x : E) → All holds st → finish n st ≡ Ok x → holds x
finish_held holds n [] x a q = absurd (cc)
finish_held holds n (y ∷ []) x a q = subst holds (let p : y ≡ x = cc in p) (All-head holds y [] a)
finish_held holds n (y ∷ z ∷ st) x a q = absurd (cc)

module _ {W T E : Type 0} (m : Machine W T) (xs : List Step) (w₀ : W) where
  -- the walk has come to place i, with the entries e
  pub record Far (means : E → T) (holds : E → Type 0) (w : W) (i : ℕ) (e : Entries E) : Type 0 where
    pub left : after m i (drop i xs) (meanings means e) w ≡ after m 0 xs (start m) w₀
    pub held : AllHeld holds e

  pub far_none : (means : E → T) (holds : E → Type 0) (x : E) (e : Entries E) → means x ≡ m.put unit → holds x → e ≡ entries [] (replicate 8 x) → Far means holds w₀ 0 e
  far_none means holds x e q h f =
      subst (Far means holds w₀ 0) (sym f) (record {
        left = ap (λ t. after m 0 xs (entries [] (replicate 8 t)) w₀) q;
        held = record { stack = All-nil holds; locals = All-replicate holds 8 x h };
      })

  -- a step by the machine that the walk has come to, which is the same
  module _ (means means' : E → T) (holds holds' : E → Type 0) (w w' : W) (i : ℕ) (e e' : Entries E) (x : Step) (r : Result Unit Fault) (h : i < length xs) (f : Far means holds w i e) (m' : Machine W T) (same : m' ≡ m) (s : Advances means' holds' w' (step m' (get_or xs i x) (meanings means e) w) r e') where
    did : step m (get_or xs i x) (meanings means e) w ≡ beside w' (done r (meanings means' e'))
    did = ap (λ m. step m (get_or xs i x) (meanings means e) w) (sym same) ∙ s.outcome

    pub far_more : placed_at i r ≡ Ok tt → Far means' holds' w' (i + 1) e'
    far_more q = record {
      left = sym (turn m xs i x (meanings means e) (meanings means' e') w w' r h did tt q) ∙ f.left;
      held = s.held (placed_ok i r q);
    }

    pub walk_stops : (y : Refusal) → placed_at i r ≡ Err y → Comes means' holds' w' (walk m xs w₀) (Err y)
    walk_stops y q = record {
      outcome = ap (λ o. bind o (λ p. beside p.1 (finish (length xs) p.0.stack))) (sym f.left ∙ turn_stops m xs i x (meanings means e) (meanings means' e') w w' r h did y q);
      held = λ v o. absurd (cc);
    }

  pub walk_done : (means : E → T) (holds : E → Type 0) (w : W) (i : ℕ) (e : Entries E) (r : Result E Refusal) → length xs ≤ i → Far means holds w i e → r ≡ finish (length xs) e.stack → Comes means holds w (walk m xs w₀) r
  walk_done means holds w i e r h f q =
      let n = length xs in
      record {
        outcome = ap (λ o. bind o (λ p. beside p.1 (finish n p.0.stack))) (sym f.left ∙ after_done m xs i (meanings means e) w h)
            ∙ ap (beside w) (finish_means means n e.stack ∙ ap (λ o. bind o (λ x. Ok (means x))) (sym q));
        held = λ x o. finish_held holds n e.stack x f.held.stack (sym q ∙ o);
      }
