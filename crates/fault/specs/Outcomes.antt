-- An answer together with the world after it, refused or not: what a call changes beside its answer. Assumes nothing.
use Rattle.std.specs.Prelude.{ℕ, Ok, Err, Result}
use Rattle.fault.specs.declared.Fault.{Fault}
use Rattle.fault.specs.declared.Refusal.{Refusal}
use Rattle.fault.specs.Refusals.{refusal}

abbrev pub Outcome : Type 0 → Type 0 → Type 0 → Type 0
Outcome W A E = Result (A × W) (E × W)

-- an answer that leaves the world w
abbrev pub beside : {W A E : Type 0} → W → Result A E → Outcome W A E
beside w (Ok a) = Ok (a, w)
beside w (Err f) = Err (f, w)

-- the same, a fault with the place n
abbrev pub at : {W A : Type 0} → ℕ → Outcome W A Fault → Outcome W A Refusal
at n (Ok r) = Ok r
at n (Err r) = Err (refusal r.0 n, r.1)
