-- The entries of a frame, and what a call on it answers and leaves. Assumes nothing.
use Rattle.std.specs.Prelude.{reverse, take, Ok, Err, Result}
use Rattle.fault.specs.declared.Fault.{Fault}
use Rattle.steps.specs.declared.frame.Frame.{Frame}
use Rattle.steps.specs.Walk.{Entries, entries}

abbrev pub held : {T : Type 0} → Frame T → Entries T
held f = entries (reverse (take f.count f.stack)) f.locals

-- an answer with what is left after it; a refusal alone
abbrev pub leaving : {A B : Type 0} → Result A Fault → B → Result (A × B) Fault
leaving (Ok a) b = Ok (a, b)
leaving (Err f) b = Err f

-- what is left after an answer that says no more than that it is one
abbrev pub done : {A B : Type 0} → Result A Fault → B → Result B Fault
done (Ok a) b = Ok b
done (Err f) b = Err f
