-- A frame of a machine's entries, by what they mean: what putting on, taking off, keeping and reading a local do to both, and
-- that a machine's entries stay its entries.
use Rattle.std.proofs.Common.{◌≡◌, ℕ, ◌<◌, Bool, true, false, cond, ltb, List, [], ◌∷◌, map, length, get_or, Ok, Err, Result, sym, refl, ap, ◌∙◌, subst}
use Rattle.std.specs.List.{All}
use Rattle.std.proofs.lemmas.List.{length-map, map-set, get_or-map}
use Rattle.std.proofs.lemmas.List.Elements.{All-cons, All-head, All-tail, All-get_or, All-set, All-weaker}
use Rattle.fault.specs.Refusals.{bind}
use Rattle.fault.specs.declared.Fault.{Fault}
use Rattle.fault.specs.declared.Fault.TheVariants.{Stack}
use Rattle.steps.specs.Frames.{done}
use Rattle.steps.specs.Machines.{meanings, AllHeld, Keeps}
use Rattle.steps.specs.Walk.{Entries, entries, Machine, pushed, popped, off_top, kept}

-- ---- what entries mean
module _ {T E : Type 0} (means : E → T) where
  done_means : {A : Type 0} (r : Result A Fault) (e : Entries E) → bind (done r e) (λ e. Ok (meanings means e)) ≡ done r (meanings means e)
  done_means (Ok a) e = refl
  done_means (Err f) e = refl

  push_by : (b : Bool) (x : E) (e : Entries E) → cond b (Ok (meanings means (entries (x ∷ e.stack) e.locals))) (Err Stack) ≡ bind (cond b (Ok (entries (x ∷ e.stack) e.locals)) (Err Stack)) (λ e. Ok (meanings means e))
  push_by true x e = refl
  push_by false x e = refl

  pub push_means : {A : Type 0} (r : Result A Fault) (x : E) (e e₁ : Entries E) → pushed x e ≡ done r e₁ → pushed (means x) (meanings means e) ≡ done r (meanings means e₁)
  push_means r x e e₁ q =
      ap (λ n. cond (ltb n 16) (Ok (meanings means (entries (x ∷ e.stack) e.locals))) (Err Stack)) (length-map e.stack means)
      ∙ push_by (ltb (length e.stack) 16) x e
      ∙ ap (λ o. bind o (λ e. Ok (meanings means e))) q
      ∙ done_means r e₁

  off_means : (st ls : List E) (x : E) (e₁ : Entries E) → off_top st ls ≡ Ok (x, e₁) → off_top (map means st) (map means ls) ≡ Ok (means x, meanings means e₁)
  off_means [] ls x e₁ q = absurd (cc)
  off_means (y ∷ st) ls x e₁ q = let p : ◌≡◌ {A = E × Entries E} (y, entries st ls) (x, e₁) = cc in ap (λ o. Ok (means o.0, meanings means o.1)) p

  pub pop_means : (e : Entries E) (x : E) (e₁ : Entries E) → popped e ≡ Ok (x, e₁) → popped (meanings means e) ≡ Ok (means x, meanings means e₁)
  pop_means e x e₁ q = off_means e.stack e.locals x e₁ q

  pub keep_means : (i : ℕ) (x : E) (e : Entries E) → kept i (means x) (meanings means e) ≡ meanings means (kept i x e)
  keep_means i x e = ap (entries (map means e.stack)) (sym (map-set means e.locals i x))

  pub local_means : (i : ℕ) (t : T) (d : E) (ls : List E) → i < length ls → get_or (map means ls) i t ≡ means (get_or ls i d)
  local_means i t d ls h = get_or-map means ls i d t h

-- ---- whose entries they are
module _ {E : Type 0} (holds : E → Type 0) where
  push_held_by : (b : Bool) (x : E) (e e₁ : Entries E) → holds x → AllHeld holds e → cond b (Ok (entries (x ∷ e.stack) e.locals)) (Err Stack) ≡ Ok e₁ → AllHeld holds e₁
  push_held_by true x e e₁ h a q = let p : entries (x ∷ e.stack) e.locals ≡ e₁ = cc in subst (AllHeld holds) p (record { stack = All-cons holds x e.stack h a.stack; locals = a.locals })
  push_held_by false x e e₁ h a q = absurd (cc)

  pub push_held : (r : Result Unit Fault) (x : E) (e e₁ : Entries E) → holds x → AllHeld holds e → pushed x e ≡ done r e₁ → r ≡ Ok tt → AllHeld holds e₁
  push_held r x e e₁ h a q o = push_held_by (ltb (length e.stack) 16) x e e₁ h a (q ∙ ap (λ r. done r e₁) o)

  pub record Off (x : E) (e : Entries E) : Type 0 where
    pub top : holds x
    pub rest : AllHeld holds e

  off_held : (st ls : List E) (x : E) (e₁ : Entries E) → All holds st → All holds ls → off_top st ls ≡ Ok (x, e₁) → Off x e₁
  off_held [] ls x e₁ a b q = absurd (cc)
  off_held (y ∷ st) ls x e₁ a b q =
      let p : ◌≡◌ {A = E × Entries E} (y, entries st ls) (x, e₁) = cc in
      subst (λ o. Off o.0 o.1) p (record { top = All-head holds y st a; rest = record { stack = All-tail holds y st a; locals = b } })

  pub pop_held : (e : Entries E) (x : E) (e₁ : Entries E) → AllHeld holds e → popped e ≡ Ok (x, e₁) → Off x e₁
  pop_held e x e₁ a q = off_held e.stack e.locals x e₁ a.stack a.locals q

  pub keep_held : (i : ℕ) (x : E) (e : Entries E) → holds x → AllHeld holds e → AllHeld holds (kept i x e)
  keep_held i x e h a = record { stack = a.stack; locals = All-set holds e.locals i x h a.locals }

  pub local_held : (i : ℕ) (d : E) (e : Entries E) → i < length e.locals → AllHeld holds e → holds (get_or e.locals i d)
  local_held i d e h a = All-get_or holds e.locals i d h a.locals

-- ---- what a later state keeps
module _ {W T E : Type 0} (m m' : Machine W T) (means means' : E → T) (holds holds' : E → Type 0) (k : Keeps m m' means means' holds holds') where
  map_still : (xs : List E) → All holds xs → map means' xs ≡ map means xs
  map_still [] a = refl
  map_still (x ∷ xs) a = λ i. k.meant x (All-head holds x xs a) i ∷ map_still xs (All-tail holds x xs a) i

  pub meanings_still : (e : Entries E) → AllHeld holds e → meanings means' e ≡ meanings means e
  meanings_still e a = λ i. entries (map_still e.stack a.stack i) (map_still e.locals a.locals i)

  pub held_still : (e : Entries E) → AllHeld holds e → AllHeld holds' e
  held_still e a = record { stack = All-weaker holds holds' k.held e.stack a.stack; locals = All-weaker holds holds' k.held e.locals a.locals }
