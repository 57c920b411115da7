-- A machine of the code, by the machine of the definitions that it is: what its entries mean there, and which are its own. What
-- a call on it comes to, and what it keeps of the entries that were there. Assumes nothing.
use Rattle.std.specs.Prelude.{◌≡◌, map, Ok, Result}
use Rattle.std.specs.List.{All}
use Rattle.fault.specs.Outcomes.{Outcome, beside}
use Rattle.fault.specs.Refusals.{bind}
use Rattle.fault.specs.declared.Fault.{Fault}
use Rattle.steps.specs.Frames.{done}
use Rattle.steps.specs.Walk.{Entries, entries, Machine}

-- what the entries mean, and that they are the machine's
abbrev pub meanings : {T E : Type 0} → (E → T) → Entries E → Entries T
meanings means e = entries (map means e.stack) (map means e.locals)

pub record AllHeld {E : Type 0} (holds : E → Type 0) (e : Entries E) : Type 0 where
  pub stack : All holds e.stack
  pub locals : All holds e.locals

-- a call that comes to o: it answers r and leaves the world w, in which an answer is an entry of the machine and means so
pub record Comes {W T E F : Type 0} (means : E → T) (holds : E → Type 0) (w : W) (o : Outcome W T F) (r : Result E F) : Type 0 where
  pub outcome : o ≡ beside w (bind r (λ x. Ok (means x)))
  pub held : (x : E) → r ≡ Ok x → holds x

-- a later state of a machine: it is the same one, and an entry goes on meaning what it did
pub record Keeps {W T E : Type 0} (m m' : Machine W T) (means means' : E → T) (holds holds' : E → Type 0) : Type 0 where
  pub machine : m' ≡ m
  pub meant : (x : E) → holds x → means' x ≡ means x
  pub held : (x : E) → holds x → holds' x

-- one step of the code, which answers r and leaves the entries e'
pub record Advances {W T E : Type 0} (means' : E → T) (holds' : E → Type 0) (w' : W) (o : Outcome W (Entries T) Fault) (r : Result Unit Fault) (e' : Entries E) : Type 0 where
  pub outcome : o ≡ beside w' (done r (meanings means' e'))
  pub held : r ≡ Ok tt → AllHeld holds' e'
