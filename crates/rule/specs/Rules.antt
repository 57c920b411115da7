-- The four calls on a rule, by its steps and by what it keeps once it is passed: CLEAR, ADD, CHECK and RUN. Assumes nothing.
use Rattle.std.specs.Prelude.{ℕ, cond, List, [], ◌∷◌, ◌++◌, length, take, Some, None, Ok, Err, Option, Result, nat_lt}
use Rattle.fault.specs.Outcomes.{Outcome}
use Rattle.fault.specs.Refusals.{refusal, bind, unless}
use Rattle.fault.specs.declared.Fault.{Fault}
use Rattle.fault.specs.declared.Fault.TheVariants.{RuleFull, RulePassed, NotPassed, Outdated}
use Rattle.fault.specs.declared.Refusal.{Refusal}
use Rattle.value.specs.Values.{Meaning}
use Rattle.value.specs.declared.kind.Kind.{Kind}
use Rattle.value.specs.declared.set.KindSet.{KindSet}
use Rattle.routines.specs.declared.made.Limits.{Limits}
use Rattle.steps.specs.Steps.{takes}
use Rattle.steps.specs.declared.step.Step.{Step}
use Rattle.rule.specs.Check.{Env, checked, kinds_at, fresh}
use Rattle.rule.specs.Run.{walked}
use Rattle.rule.specs.declared.rule.Rule.{Rule}
use Rattle.rule.specs.declared.rule.State.{State}
use Rattle.rule.specs.declared.rule.State.TheVariants.{Open, Passed}

-- what a passed rule keeps: the kinds at its loads, and the kinds of its answer
pub record Kept : Type 0 where
  pub kinds : List (Option Kind)
  pub answer : KindSet

abbrev pub keeping : List (Option Kind) → KindSet → Kept
keeping ks a = record { kinds = ks; answer = a }

-- a rule by what it means: nothing is kept of an open one
pub record Sheet : Type 0 where
  pub steps : List Step
  pub kept : Option Kept

abbrev pub sheet : List Step → Option Kept → Sheet
sheet xs k = record { steps = xs; kept = k }

-- as made, and as cleared
abbrev pub blank : Sheet
blank = sheet [] None

-- ADD: the step's own refusal, then that the rule is passed, then that it is full
abbrev pub has_place : List Step → Option Kept → Result Unit Fault
has_place xs (Some k) = Err RulePassed
has_place xs None = unless (nat_lt (length xs) 128) RuleFull tt

abbrev pub adds : Sheet → Step → Result Unit Fault
adds s x = bind (takes x) (λ _. has_place s.steps s.kept)

-- the sheet after an accepted call; a refused one leaves it
abbrev pub once_ok : {A E X : Type 0} → Result A E → (A → X) → X → X
once_ok (Ok a) new old = new a
once_ok (Err e) new old = old

abbrev pub added : Sheet → Step → Sheet
added s x = once_ok (adds s x) (λ _. sheet (s.steps ++ x ∷ []) s.kept) s

-- CHECK, of any rule
abbrev pub checks : Env → Sheet → Result KindSet Refusal
checks env s = checked env s.steps

abbrev pub passed : Env → Sheet → Sheet
passed env s = once_ok (checks env s) (λ a. sheet s.steps (Some (keeping (kinds_at env s.steps) a))) s

-- RUN: refused where the rule is not passed, then where a load finds another kind than the check did, and else the walk
abbrev pub ran : Limits → Env → List Step → Option Kept → List ℕ → Outcome (List ℕ) Meaning Refusal
ran l env xs None work = Err (refusal NotPassed 0, work)
ran l env xs (Some k) work = cond (fresh env xs k.kinds) (walked l env xs work) (Err (refusal Outdated 0, work))

-- ---- the code's rule

abbrev pub kept_by : ℕ → State → Option Kept
kept_by n Open = None
kept_by n (Passed ks a) = Some (keeping (take n ks) a)

abbrev pub rule_of : Rule → Sheet
rule_of r = sheet (take r.count r.steps) (kept_by r.count r.state)
