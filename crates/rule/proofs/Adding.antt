-- A step that is added stands behind the others.
use Rattle.std.proofs.Common.{◌≡◌, ℕ, ◌+◌, ◌<◌, true, List, [], ◌∷◌, ◌++◌, length, take, set, is_ok, None, Ok, sym, refl, ap, ◌∙◌, arith}
use Rattle.std.proofs.lemmas.List.{take_more_set, length-take-le}
use Rattle.std.proofs.lemmas.Bool.{and_parts, and_from, lt-ltb}
use Rattle.fault.specs.Refusals.{bind}
use Rattle.steps.specs.Steps.{takes, all_taken}
use Rattle.steps.specs.declared.step.Step.{Step}
use Rattle.rule.specs.Rules.{has_place, adds, added, sheet, once_ok}

taken_push : (xs : List Step) (x : Step) → all_taken xs ≡ true → takes x ≡ Ok tt → all_taken (xs ++ x ∷ []) ≡ true
taken_push [] x h t = and_from _ _ (ap is_ok t) refl
taken_push (y ∷ xs) x h t =
    let p = and_parts (is_ok (takes y)) (all_taken xs) h in
    and_from _ _ p.0 (taken_push xs x p.1 t)

module _ (xs : List Step) (n : ℕ) (x : Step) (l : length xs ≡ 128) (h : n < 128) (t : takes x ≡ Ok tt) where
  pub taken_more : all_taken (take n xs) ≡ true → all_taken (take (n + 1) (set xs n x)) ≡ true
  taken_more a = ap all_taken (take_more_set xs n x (omega arith)) ∙ taken_push (take n xs) x a t

  pub add_ok : adds (sheet (take n xs) None) x ≡ Ok tt
  add_ok =
      let few : length (take n xs) < 128 = omega (arith, length-take-le n xs (omega arith)) in
      ap (λ r. bind r (λ _. has_place (take n xs) None)) t ∙ rw (lt-ltb (length (take n xs)) 128 few) refl

  pub added_ok : sheet (take (n + 1) (set xs n x)) None ≡ added (sheet (take n xs) None) x
  added_ok =
      ap (λ l. sheet l None) (take_more_set xs n x (omega arith))
      ∙ sym (ap (λ r. once_ok r (λ _. sheet (take n xs ++ x ∷ []) None) (sheet (take n xs) None)) add_ok)
