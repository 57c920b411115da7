-- What a refusal is: a reason, by its number, and a place. Every promise of the crates above cites these. Assumes nothing.
use Rattle.std.specs.Prelude.{ℕ, Bool, cond, Ok, Err, Result}
use Rattle.fault.specs.declared.Fault.{Fault}
use Rattle.fault.specs.declared.Fault.TheVariants as fault
use Rattle.fault.specs.declared.Refusal.{Refusal}

abbrev pub number : Fault → ℕ
-- from the input
number fault.Unknown = 1
number fault.Malformed = 2
number fault.Absent = 3
number fault.OverCapacity = 4
number fault.NoRow = 5
number fault.Overflow = 6
number fault.ZeroDivisor = 7
number fault.Remainder = 8
number fault.NegativeExponent = 9
number fault.OverLimit = 10
number fault.BadLine = 11
number fault.Stack = 12
-- from the state
number fault.Sealed = 20
number fault.RuleFull = 21
number fault.RulePassed = 22
number fault.NotPassed = 23
number fault.Outdated = 24
number fault.BufferShort = 25

abbrev pub refusal : Fault → ℕ → Refusal
refusal f n = record { fault = f; place = n }

-- an answer whose fault has the place n
abbrev pub placed_at : {A : Type 0} → ℕ → Result A Fault → Result A Refusal
placed_at n (Ok a) = Ok a
placed_at n (Err f) = Err (refusal f n)

-- go on with the value, or stop at the refusal
abbrev pub bind : {A B E : Type 0} → Result A E → (A → Result B E) → Result B E
bind (Ok a) f = f a
bind (Err e) f = Err e

-- the value where the test holds, else the fault
abbrev pub unless : {A : Type 0} → Bool → Fault → A → Result A Fault
unless b f a = cond b (Ok a) (Err f)
