-- CHECK: the walk over a rule's steps with sets of kinds. A slot has the kind of its value now, and an operator needs a row for
-- every pair of kinds. Beside it, the kinds that a passed rule keeps, of the slots that it loads. Assumes nothing.
use Rattle.std.specs.Prelude.{ℕ, Bool, true, false, ◌&&◌, List, [], ◌∷◌, map, Some, None, Ok, Err, Option, Result}
use Rattle.std.specs.Option.{option_map, ok_or}
use Rattle.fault.specs.declared.Fault.TheVariants.{Absent}
use Rattle.fault.specs.declared.Refusal.{Refusal}
use Rattle.value.specs.Kinds.{is_kind, single}
use Rattle.value.specs.Values.{Meaning, kind_in}
use Rattle.value.specs.declared.kind.Kind.{Kind}
use Rattle.value.specs.declared.set.KindSet.{KindSet}
use Rattle.fault.specs.Outcomes.{Outcome, beside}
use Rattle.steps.specs.Walk.{Machine, walk}
use Rattle.steps.specs.declared.step.Step.{Step}
use Rattle.steps.specs.declared.step.Step.TheVariants.{Put, Slot, Local, Keep, Apply, Assign}
use Rattle.rows.specs.Rows.{selected, assign_selected}
use Rattle.rule.specs.Sets.{rows_over}

-- the value of each slot by its number, where there is the slot
abbrev pub Env : Type 0
Env = ℕ → Option Meaning

abbrev pub kind_now : Env → ℕ → Option Kind
kind_now env s = option_map kind_in (env s)

abbrev pub sets : Env → Machine Unit KindSet
sets env = record {
  put = λ m. single (kind_in m);
  load = λ s w. beside w (ok_or (option_map single (kind_now env s)) Absent);
  apply = λ op a b w. beside w (rows_over (selected op) a b);
  assign = λ op a b w. beside w (rows_over (assign_selected op) a b);
}

-- without the world, which is empty
abbrev pub bare : {A E : Type 0} → Outcome Unit A E → Result A E
bare (Ok r) = Ok r.0
bare (Err r) = Err r.0

-- the set of kinds of the answer, or the refusal
abbrev pub checked : Env → List Step → Result KindSet Refusal
checked env xs = bare (walk (sets env) xs tt)

-- ---- the kinds at the loads

abbrev pub kind_at : Env → Step → Option Kind
kind_at env (Put v) = None
kind_at env (Slot s) = kind_now env s
kind_at env (Local i) = None
kind_at env (Keep i) = None
kind_at env (Apply op) = None
kind_at env (Assign op i) = None

abbrev pub kinds_at : Env → List Step → List (Option Kind)
kinds_at env xs = map (kind_at env) xs

abbrev pub same_kind : Option Kind → Option Kind → Bool
same_kind None None = true
same_kind None (Some k) = false
same_kind (Some j) None = false
same_kind (Some j) (Some k) = is_kind j k

-- every load finds the kind that was kept of it
unfoldable pub fresh : Env → List Step → List (Option Kind) → Bool
fresh env [] ks = true
fresh env (x ∷ xs) [] = false
fresh env (x ∷ xs) (k ∷ ks) = same_kind (kind_at env x) k && fresh env xs ks
