-- RUN's walk: each step on values, up to the first refusal. A slot's text goes behind the others in the work buffer, as a new one
-- does, and no other byte is written. Assumes nothing.
use Rattle.std.specs.Prelude.{◌≡◌, ℕ, true, List, ◌++◌, length, take, drop, Some, None, Ok, Err, Option, Result}
use Rattle.fault.specs.Outcomes.{Outcome, beside}
use Rattle.fault.specs.Refusals.{bind}
use Rattle.fault.specs.declared.Fault.{Fault}
use Rattle.fault.specs.declared.Fault.TheVariants.{Absent}
use Rattle.fault.specs.declared.Refusal.{Refusal}
use Rattle.text.specs.declared.span.Span.{Span}
use Rattle.value.specs.Values.{Meaning, meant, well_formed, text_in, Inside}
use Rattle.value.specs.declared.value.Value.{Value}
use Rattle.routines.specs.declared.made.Limits.{Limits}
use Rattle.operators.specs.Rooms.{Room, room, brought, applied_in, assigned_in}
use Rattle.steps.specs.Walk.{Machine, walk}
use Rattle.steps.specs.declared.step.Step.{Step}
use Rattle.rule.specs.Check.{Env}

abbrev pub loaded : Option Meaning → Room → Outcome Room Meaning Fault
loaded None r = Err (Absent, r)
loaded (Some m) r = brought m r

abbrev pub values : Limits → Env → Machine Room Meaning
values l env = record {
  put = λ m. m;
  load = λ s r. loaded (env s) r;
  apply = λ op a b r. applied_in l op r a b;
  assign = λ op a b r. assigned_in l op r a b;
}

-- the first 65,536 bytes of the work buffer are for texts, the rest stays
abbrev pub with_rest : {A : Type 0} → List ℕ → Outcome Room A Refusal → Outcome (List ℕ) A Refusal
with_rest rest (Ok r) = Ok (r.0, r.1.bytes ++ rest)
with_rest rest (Err r) = Err (r.0, r.1.bytes ++ rest)

abbrev pub walked : Limits → Env → List Step → List ℕ → Outcome (List ℕ) Meaning Refusal
walked l env xs work = with_rest (drop 65536 work) (walk (values l env) xs (room 0 (take 65536 work)))

-- ---- the code

-- the code's walk in a work buffer of which nothing is left out: it answers r, whatever stands behind the buffer
pub record Walks (l : Limits) (env : Env) (xs : List Step) (work : List ℕ) (r : Result (Value Span) Refusal) (work' : List ℕ) : Type 0 where
  pub outcome : (rest : List ℕ) → with_rest rest (walk (values l env) xs (room 0 work)) ≡ beside (work' ++ rest) (bind r (λ v. Ok (meant work' v)))
  pub inside : (v : Value Span) → r ≡ Ok v → Inside (length work') (text_in v)
  pub formed : (v : Value Span) → r ≡ Ok v → well_formed (meant work' v) ≡ true
  pub size : length work' ≡ length work

-- a call that comes to o answers r, and leaves the work buffer so; a value's text lies in it, and read there the value is well
-- formed: a str is UTF-8, a char is a scalar, and a text has at most 65,536 bytes
pub record Ends (o : Outcome (List ℕ) Meaning Refusal) (r : Result (Value Span) Refusal) (work' : List ℕ) : Type 0 where
  pub outcome : o ≡ beside work' (bind r (λ v. Ok (meant work' v)))
  pub inside : (v : Value Span) → r ≡ Ok v → Inside (length work') (text_in v)
  pub formed : (v : Value Span) → r ≡ Ok v → well_formed (meant work' v) ≡ true
