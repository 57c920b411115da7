-- A walk over the steps of a rule, the same for CHECK and RUN: what its entries are, and what loading a slot and an operator
-- come to, is a machine's. A walk goes to its first refusal, which has the place of its step; then one entry has to be left.
-- The world is what a machine changes beside the entries, refused or not. Assumes nothing.
use Rattle.std.specs.Prelude.{ℕ, ◌+◌, cond, List, [], ◌∷◌, length, replicate, Ok, Err, Result, nat_lt, slice_index_or, slice_set}
use Rattle.fault.specs.Outcomes.{Outcome, beside, at}
use Rattle.fault.specs.Refusals.{refusal, bind}
use Rattle.fault.specs.declared.Fault.{Fault}
use Rattle.fault.specs.declared.Fault.TheVariants.{Stack}
use Rattle.fault.specs.declared.Refusal.{Refusal}
use Rattle.value.specs.Values.{Meaning, unit, meant}
use Rattle.value.specs.declared.op.Op.{Op}
use Rattle.steps.specs.declared.step.Step.{Step}
use Rattle.steps.specs.declared.step.Step.TheVariants.{Put, Slot, Local, Keep, Apply, Assign}

-- ---- entries: a stack, its top first, and eight locals

pub record Entries (T : Type 0) : Type 0 where
  pub stack : List T
  pub locals : List T

abbrev pub entries : {T : Type 0} → List T → List T → Entries T
entries st ls = record { stack = st; locals = ls }

abbrev pub pushed : {T : Type 0} → T → Entries T → Result (Entries T) Fault
pushed x e = cond (nat_lt (length e.stack) 16) (Ok (entries (x ∷ e.stack) e.locals)) (Err Stack)

abbrev pub off_top : {T : Type 0} → List T → List T → Result (T × Entries T) Fault
off_top [] ls = Err Stack
off_top (x ∷ st) ls = Ok (x, entries st ls)

abbrev pub popped : {T : Type 0} → Entries T → Result (T × Entries T) Fault
popped e = off_top e.stack e.locals

abbrev pub kept : {T : Type 0} → ℕ → T → Entries T → Entries T
kept i x e = entries e.stack (slice_set e.locals i x)

-- one entry is left at the end, which is at place n
abbrev pub finish : {T : Type 0} → ℕ → List T → Result T Refusal
finish n [] = Err (refusal Stack n)
finish n (x ∷ []) = Ok x
finish n (x ∷ y ∷ st) = Err (refusal Stack n)

-- ---- steps

pub record Machine (W T : Type 0) : Type 0 where
  pub put : Meaning → T
  pub load : ℕ → W → Outcome W T Fault
  pub apply : Op → T → T → W → Outcome W T Fault
  pub assign : Op → T → T → W → Outcome W T Fault

module _ {W T : Type 0} (m : Machine W T) where
  -- locals start as unit
  abbrev pub local : ℕ → Entries T → T
  local i e = slice_index_or e.locals i (m.put unit)

  abbrev pub start : Entries T
  start = entries [] (replicate 8 (m.put unit))

  abbrev pub step : Step → Entries T → W → Outcome W (Entries T) Fault
  step (Put v) e w = beside w (pushed (m.put (meant [] v)) e)
  step (Slot s) e w = bind (m.load s w) (λ r. beside r.1 (pushed r.0 e))
  step (Local i) e w = beside w (pushed (local i e) e)
  step (Keep i) e w = beside w (bind (popped e) (λ p. Ok (kept i p.0 p.1)))
  step (Apply op) e w =
      bind (beside w (popped e)) (λ b.
      bind (beside w (popped b.0.1)) (λ a.
      bind (m.apply op a.0.0 b.0.0 w) (λ r. beside r.1 (pushed r.0 a.0.1))))
  step (Assign op i) e w =
      bind (beside w (popped e)) (λ b.
      bind (m.assign op (local i e) b.0.0 w) (λ r. Ok (kept i r.0 b.0.1, r.1)))

  -- the steps from place n on
  unfoldable pub after : ℕ → List Step → Entries T → W → Outcome W (Entries T) Refusal
  after n [] e w = Ok (e, w)
  after n (x ∷ xs) e w = bind (at n (step x e w)) (λ r. after (n + 1) xs r.0 r.1)

  abbrev pub walk : List Step → W → Outcome W T Refusal
  walk xs w = bind (after 0 xs start w) (λ r. beside r.1 (finish (length xs) r.0.stack))
