-- The laws of a walk: what a step comes to once its operands are off the stack, and one turn of a loop over the steps.
use Rattle.std.proofs.Common.{◌≡◌, ℕ, zero, suc, ◌+◌, ◌<◌, ◌≤◌, Bool, true, false, ltb, List, [], ◌∷◌, length, get_or, drop, is_ok, Ok, Err, Result, refl, ap, ◌∙◌, arith, ltb-true}
use Rattle.std.proofs.lemmas.List.{drop_more, drop_all}
use Rattle.std.proofs.lemmas.Bool.{and_parts}
use Rattle.fault.specs.Refusals.{refusal, placed_at, bind, unless}
use Rattle.fault.specs.declared.Fault.{Fault}
use Rattle.fault.specs.declared.Fault.TheVariants.{Unknown}
use Rattle.fault.specs.declared.Refusal.{Refusal}
use Rattle.value.specs.declared.op.Op.{Op}
use Rattle.steps.specs.Steps.{takes_local, takes, all_taken}
use Rattle.steps.specs.Frames.{done}
use Rattle.fault.specs.Outcomes.{Outcome, beside, at}
use Rattle.steps.specs.Walk.{Entries, entries, off_top, pushed, popped, kept, Machine, local, step, after}
use Rattle.steps.specs.declared.step.Step.{Step}
use Rattle.steps.specs.declared.step.Step.TheVariants.{Local, Keep, Apply, Assign}

took : (r : Result Unit Fault) → is_ok r ≡ true → r ≡ Ok tt
took (Ok u) e = refl
took (Err f) e = absurd (let z : ◌≡◌ {A = ℕ} 0 1 = cc in omega arith)

local_under : (i : ℕ) (b : Bool) → ltb i 8 ≡ b → unless b Unknown (tt {0}) ≡ Ok tt → i < 8
local_under i true e h = ltb-true i 8 e
local_under i false e h = absurd (let z : ◌≡◌ {A = ℕ} 0 1 = cc in omega arith)

-- a local that a rule takes is one of the eight
pub local_below : (i : ℕ) → takes_local i ≡ Ok tt → i < 8
local_below i h = local_under i (ltb i 8) refl h

off_locals : {T : Type 0} (st ls : List T) (x : T) (e : Entries T) → off_top st ls ≡ Ok (x, e) → ls ≡ e.locals
off_locals [] ls x e h = absurd (let z : ◌≡◌ {A = ℕ} 0 1 = cc in omega arith)
off_locals {T} (y ∷ st) ls x e h = let q : ◌≡◌ {A = T × Entries T} (y, entries st ls) (x, e) = cc in ap (λ p. p.1.locals) q

-- taking the top off leaves the locals
pub popped_locals : {T : Type 0} (e : Entries T) (x : T) (e₁ : Entries T) → popped e ≡ Ok (x, e₁) → e.locals ≡ e₁.locals
popped_locals e x e₁ h = off_locals e.stack e.locals x e₁ h

module _ {W T : Type 0} (m : Machine W T) (e : Entries T) (w : W) where
  pub load_step : (i : ℕ) (x : T) → local m i e ≡ x → step m (Local i) e w ≡ beside w (pushed x e)
  load_step i x q = ap (λ y. beside w (pushed y e)) q

  pub keep_step : (i : ℕ) (x : T) (e₁ : Entries T) → popped e ≡ Ok (x, e₁) → step m (Keep i) e w ≡ Ok (kept i x e₁, w)
  keep_step i x e₁ p = ap (λ o. beside w (bind o (λ p. Ok (kept i p.0 p.1)))) p

  pub apply_step : (op : Op) (a b : T) (e₁ e₂ : Entries T) → popped e ≡ Ok (b, e₁) → popped e₁ ≡ Ok (a, e₂) → step m (Apply op) e w ≡ bind (m.apply op a b w) (λ r. beside r.1 (pushed r.0 e₂))
  apply_step op a b e₁ e₂ p q = rw (p, q) refl

  pub assign_step : (op : Op) (i : ℕ) (a b : T) (e₁ : Entries T) → popped e ≡ Ok (b, e₁) → local m i e ≡ a → step m (Assign op i) e w ≡ bind (m.assign op a b w) (λ r. Ok (kept i r.0 e₁, r.1))
  assign_step op i a b e₁ p q = rw (p, q) refl

-- ---- a loop over the steps, at step i

-- the two ways of a turn, for any answer r of the step
turn_ok : {A B W E : Type 0} (i : ℕ) (r : Result A Fault) (e : E) (w : W) (a : A) (k : E × W → Outcome W B Refusal) → placed_at i r ≡ Ok a → bind (at i (beside w (done r e))) k ≡ k (e, w)
turn_ok i (Ok b) e w a k q = refl
turn_ok i (Err f) e w a k q = absurd (let z : ◌≡◌ {A = ℕ} 0 1 = cc in omega arith)

turn_err : {A B W E : Type 0} (i : ℕ) (r : Result A Fault) (e : E) (w : W) (x : Refusal) (k : E × W → Outcome W B Refusal) → placed_at i r ≡ Err x → bind (at i (beside w (done r e))) k ≡ Err (x, w)
turn_err i (Ok b) e w x k q = absurd (let z : ◌≡◌ {A = ℕ} 0 1 = cc in omega arith)
turn_err i (Err f) e w x k q = let p : refusal f i ≡ x = cc in ap (λ y. Err (y, w)) p

module _ {A W T : Type 0} (m : Machine W T) (xs : List Step) (i : ℕ) (x : Step) (e e₁ : Entries T) (w w₁ : W) (r : Result A Fault) (h : i < length xs) (did : step m (get_or xs i x) e w ≡ beside w₁ (done r e₁)) where
  turns : after m i (drop i xs) e w ≡ bind (at i (beside w₁ (done r e₁))) (λ p. after m (i + 1) (drop (i + 1) xs) p.0 p.1)
  unfolding after
  turns = ap (λ l. after m i l e w) (drop_more xs i x h) ∙ ap (λ o. bind (at i o) (λ p. after m (i + 1) (drop (i + 1) xs) p.0 p.1)) did

  pub turn : (a : A) → placed_at i r ≡ Ok a → after m i (drop i xs) e w ≡ after m (i + 1) (drop (i + 1) xs) e₁ w₁
  turn a q = turns ∙ turn_ok i r e₁ w₁ a _ q

  pub turn_stops : (y : Refusal) → placed_at i r ≡ Err y → after m i (drop i xs) e w ≡ Err (y, w₁)
  turn_stops y q = turns ∙ turn_err i r e₁ w₁ y _ q

pub after_done : {W T : Type 0} (m : Machine W T) (xs : List Step) (i : ℕ) (e : Entries T) (w : W) → length xs ≤ i → after m i (drop i xs) e w ≡ Ok (e, w)
unfolding after
after_done m xs i e w h = ap (λ l. after m i l e w) (drop_all i xs h)

-- a step that a rule takes
pub taken_at : (xs : List Step) (i : ℕ) (x : Step) → all_taken xs ≡ true → i < length xs → takes (get_or xs i x) ≡ Ok tt
taken_at [] i x t h = absurd (omega arith)
taken_at (y ∷ xs) zero x t h = took (takes y) (and_parts _ (all_taken xs) t).0
taken_at (y ∷ xs) (suc i) x t h = taken_at xs i x (and_parts (is_ok (takes y)) _ t).1 (omega arith)
