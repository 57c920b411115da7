-- Which steps a rule takes: a local is below 8, and a literal is a unit, bool, int, float or char. Assumes nothing.
use Rattle.std.specs.Prelude.{ℕ, Bool, true, ◌&&◌, List, [], ◌∷◌, is_ok, Ok, Result, nat_lt}
use Rattle.fault.specs.Refusals.{unless}
use Rattle.fault.specs.declared.Fault.{Fault}
use Rattle.fault.specs.declared.Fault.TheVariants.{Unknown, Malformed}
use Rattle.value.specs.Kinds.{kind_number}
use Rattle.value.specs.Values.{kind_of}
use Rattle.value.specs.declared.kind.Kind.{Kind}
use Rattle.steps.specs.declared.step.Step.{Step}
use Rattle.steps.specs.declared.step.Step.TheVariants.{Put, Slot, Local, Keep, Apply, Assign}

abbrev pub takes_local : ℕ → Result Unit Fault
takes_local i = unless (nat_lt i 8) Unknown tt

-- unit, bool, int, float and char are the first five
abbrev pub takes_literal : Kind → Result Unit Fault
takes_literal k = unless (nat_lt (kind_number k) 5) Malformed tt

abbrev pub takes : Step → Result Unit Fault
takes (Put v) = takes_literal (kind_of v)
takes (Slot s) = Ok tt
takes (Local i) = takes_local i
takes (Keep i) = takes_local i
takes (Apply op) = Ok tt
takes (Assign op i) = takes_local i

abbrev pub all_taken : List Step → Bool
all_taken [] = true
all_taken (x ∷ xs) = is_ok (takes x) && all_taken xs
