-- A stack in an array: its entries are the first `n`, the top last.
use Rattle.std.proofs.Common.{◌≡◌, ℕ, ◌+◌, ◌-◌, ◌<◌, ◌≤◌, List, [], ◌∷◌, reverse, length, get_or, take, set, Ok, Err, sym, refl, ap, ◌∙◌, arith, lt-ltb}
use Rattle.std.proofs.lemmas.List.{take_more, take_more_set, reverse-append, length-reverse, length-take-le}
use Rattle.fault.specs.Refusals.{refusal}
use Rattle.fault.specs.declared.Fault.TheVariants.{Stack}
use Rattle.steps.specs.Walk.{Entries, entries, pushed, popped, finish, off_top}

abbrev stacked : {T : Type 0} → List T → ℕ → List T → Entries T
stacked xs n ls = entries (reverse (take n xs)) ls

module _ {T : Type 0} (xs : List T) (n : ℕ) (ls : List T) where
  long : n ≤ length xs → length (reverse (take n xs)) ≡ n
  long h = length-reverse (take n xs) ∙ length-take-le n xs h

  pub push_on : (x : T) → length xs ≡ 16 → n < 16 → pushed x (stacked xs n ls) ≡ Ok (stacked (set xs n x) (n + 1) ls)
  push_on x l h =
      let lt : n < length xs = omega arith in
      let few : length (reverse (take n xs)) < 16 = omega (arith, long (omega arith)) in
      let on : reverse (take (n + 1) (set xs n x)) ≡ x ∷ reverse (take n xs) = ap reverse (take_more_set xs n x lt) ∙ reverse-append (take n xs) (x ∷ []) in
      rw (lt-ltb (length (reverse (take n xs))) 16 few) (ap (λ st. Ok (entries st ls)) (sym on))

  pub pop_off : (d : T) → length xs ≡ 16 → n ≤ 16 → 0 < n → popped (stacked xs n ls) ≡ Ok (get_or xs (n - 1) d, stacked xs (n - 1) ls)
  pop_off d l f h =
      let back : n ≡ n - 1 + 1 = omega arith in
      ap (λ st. off_top st ls) (ap (λ m. reverse (take m xs)) back ∙ ap reverse (take_more xs (n - 1) d (omega arith)) ∙ reverse-append (take (n - 1) xs) (get_or xs (n - 1) d ∷ []))

  pub not_only : (place : ℕ) → length xs ≡ 16 → n ≤ 16 → (n ≡ 1 → ⊥) → finish place (reverse (take n xs)) ≡ Err (refusal Stack place)
  not_only place l f h = other (reverse (take n xs)) (λ e. h (sym (long (omega arith)) ∙ e))
    where
      other : (st : List T) → (length st ≡ 1 → ⊥) → finish place st ≡ Err (refusal Stack place)
      other [] h = refl
      other (x ∷ []) h = absurd (h refl)
      other (x ∷ y ∷ st) h = refl
