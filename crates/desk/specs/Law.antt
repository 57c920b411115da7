-- The law of runs, in words of the calls that were made: which limits are in force, which check passed the rule, and what a run of
-- a passed rule is bound to. It holds after every list of calls, refused ones among them, over every make of shelf.
-- Assumes nothing.
use Rattle.std.specs.Prelude.{◌≡◌, ℕ, ◌≤◌, Bool, true, false, ◌⊎◌, List, [], ◌∷◌, ◌++◌, take, is_ok, Some, None, Ok, Err, Option, Result, ◌≢◌}
use Rattle.fault.specs.Outcomes.{beside}
use Rattle.fault.specs.Refusals.{number, refusal}
use Rattle.fault.specs.declared.Fault.{Fault}
use Rattle.fault.specs.declared.Fault.TheVariants.{NotPassed, Outdated}
use Rattle.fault.specs.declared.Refusal.{Refusal}
use Rattle.value.specs.Kinds.{has}
use Rattle.value.specs.Values.{Meaning, kind_in, well_formed}
use Rattle.value.specs.declared.op.Op.{Op}
use Rattle.value.specs.declared.set.KindSet.{KindSet}
use Rattle.rows.specs.Rows.{selected, assign_selected}
use Rattle.routines.specs.declared.made.Limits.{Limits}
use Rattle.operators.specs.Rooms.{Room, room}
use Rattle.shelf.specs.Slots.{Slot, holding}
use Rattle.shelf.specs.Calls.{posted}
use Rattle.steps.specs.Walk.{entries, start, after, local}
use Rattle.steps.specs.declared.step.Step.{Step}
use Rattle.steps.specs.declared.step.Step.TheVariants.{Slot as Load, Apply, Assign}
use Rattle.rule.specs.Check.{Env}
use Rattle.rule.specs.Run.{values, walked}
use Rattle.rule.specs.Rules.{adds, checks}
use Rattle.desk.specs.Book.{Event, post, tell, count, kind, capacity, mark, clear, add, check, run, Book, limits, book, Said, value, valued, answered}

-- ---- accepted calls

-- a call that is accepted and may change the book; questions and runs change nothing
abbrev pub heeds : Book → Event → Bool
heeds b (post s m) = is_ok (posted b.slots s m).answer
heeds b (tell s p) = false
heeds b count = false
heeds b (kind s) = false
heeds b (capacity s) = false
heeds b (mark s) = false
heeds b clear = true
heeds b (add x) = is_ok (adds b.rule x)
heeds b check = is_ok (checks (limits b) b.rule)
heeds b (run l) = false

-- c is accepted after the calls `past`
abbrev pub Accepted : List Slot → List Event → Event → Type 0
Accepted first past c = heeds (book first past) c ≡ true

-- no call of the sort P among `more`, which come after `past`, is accepted
abbrev pub NoneOf : (Event → Type 0) → List Slot → List Event → List Event → Type 0
NoneOf P first past more = (before rest : List Event) (c : Event) → more ≡ before ++ c ∷ rest → P c → Accepted first (past ++ before) c → ⊥

abbrev pub PostTo : ℕ → Event → Type 0
PostTo s c = (m : Meaning) × (c ≡ post s m)

-- a check, or CLEAR
abbrev pub Settles : Event → Type 0
Settles c = (c ≡ check) ⊎ (c ≡ clear)

-- ---- the limits in force

-- m was posted to slot s, and accepted; no later posting to s was
pub record Posting (first : List Slot) (past : List Event) (s : ℕ) (m : Meaning) : Type 0 where
  pub before : List Event
  pub later : List Event
  pub split : past ≡ before ++ post s m ∷ later
  pub accepted : Accepted first before (post s m)
  pub last : NoneOf (PostTo s) first (before ++ post s m ∷ []) later

-- slot s has its first value, and no posting to s was accepted
pub record Untouched (first : List Slot) (past : List Event) (s : ℕ) (m : Meaning) : Type 0 where
  pub is : holding first s ≡ Some m
  pub last : NoneOf (PostTo s) first [] past

abbrev pub LastPosting : List Slot → List Event → ℕ → Meaning → Type 0
LastPosting first past s m = Posting first past s m ⊎ Untouched first past s m

-- each slot that there is has its last posting; which that is, is unique
pub record InForce (first : List Slot) (past : List Event) (env : Env) : Type 0 where
  pub each : (s : ℕ) (m : Meaning) → env s ≡ Some m → LastPosting first past s m
  pub only : (s : ℕ) (m : Meaning) → LastPosting first past s m → env s ≡ Some m
  pub absent : (s : ℕ) → env s ≡ None → holding first s ≡ None

-- ---- the check that passed the rule

-- the last accepted check was made after `before`, and answered the kinds u; the rule was not cleared since
pub record LastCheck (first : List Slot) (past before : List Event) (u : KindSet) : Type 0 where
  pub later : List Event
  pub split : past ≡ before ++ check ∷ later
  pub answer : checks (limits (book first before)) (book first before).rule ≡ Ok u
  pub last : NoneOf Settles first (before ++ check ∷ []) later

-- ---- a run of the steps xs, with the limits env, that were the limits `was` at the check

-- a loaded slot is missing, or of another kind than at the check
abbrev pub Changed : Option Meaning → Option Meaning → Type 0
Changed now was = (now ≡ None) ⊎ ((m : Meaning) × (n : Meaning) × (now ≡ Some m) × (was ≡ Some n) × (kind_in m ≢ kind_in n))

pub record Stale (env was : Env) (xs : List Step) : Type 0 where
  pub slot : ℕ
  pub before : List Step
  pub rest : List Step
  pub load : xs ≡ before ++ Load slot ∷ rest
  pub changed : Changed (env slot) (was slot)

-- every operator that the walk comes to has a row for its operands
pub record Rowed (l : Limits) (env : Env) (xs : List Step) (r : Room) : Type 0 where
  pub applied : (before rest : List Step) (op : Op) (a b : Meaning) (st ls : List Meaning) (r₁ : Room) → xs ≡ before ++ Apply op ∷ rest → after (values l env) 0 before (start (values l env)) r ≡ Ok (entries (b ∷ a ∷ st) ls, r₁) → (u : KindSet) × (selected op (kind_in a) (kind_in b) ≡ Ok u)
  pub assigned : (before rest : List Step) (op : Op) (i : ℕ) (b : Meaning) (st ls : List Meaning) (r₁ : Room) → xs ≡ before ++ Assign op i ∷ rest → after (values l env) 0 before (start (values l env)) r ≡ Ok (entries (b ∷ st) ls, r₁) → (u : KindSet) × (assign_selected op (kind_in (local (values l env) i (entries (b ∷ st) ls))) (kind_in b) ≡ Ok u)

-- a refusal for the values at hand: 6 to 10 of an operator, or 25 of a text that finds no room
abbrev pub FromValues : Fault → Type 0
FromValues f = ((6 ≤ number f) × (number f ≤ 10)) ⊎ (number f ≡ 25)

pub record PassedRun (l : Limits) (env was : Env) (xs : List Step) (u : KindSet) (work : List ℕ) (said : Result Said Refusal) (work' : List ℕ) : Type 0 where
  -- it is refused as outdated exactly when a loaded slot is missing or of another kind than at the check
  pub outdated : said ≡ Err (refusal Outdated 0) → Stale env was xs
  pub refuses : Stale env was xs → (said ≡ Err (refusal Outdated 0)) × (work' ≡ work)
  -- else it meets only operators with rows, and is refused, if at all, for the values at hand: not for an absent slot, a missing row
  -- or its stack
  pub rowed : (Stale env was xs → ⊥) → Rowed l env xs (room 0 (take 65536 work))
  pub never : (Stale env was xs → ⊥) → (e : Refusal) → said ≡ Err e → FromValues e.fault
  -- a value of it is of a kind that the check listed
  pub listed : (Stale env was xs → ⊥) → (m : Meaning) → said ≡ Ok (value m) → has u (kind_in m) ≡ true
  -- and value or refusal, and every byte, are those of the walk with these limits
  pub walks : (Stale env was xs → ⊥) → beside work' said ≡ valued (walked l env xs work)

-- a run after the calls `past`
pub record RunLaw (first : List Slot) (past : List Event) (l : Limits) (work : List ℕ) (said : Result Said Refusal) (work' : List ℕ) : Type 0 where
  pub force : InForce first past (limits (book first past))
  -- a rule that no check passed is refused
  pub unpassed : ((before : List Event) (u : KindSet) → LastCheck first past before u → ⊥) → (said ≡ Err (refusal NotPassed 0)) × (work' ≡ work)
  -- a passed one has the steps that were checked, and runs with the limits in force
  pub passed : (before : List Event) (u : KindSet) → LastCheck first past before u →
      InForce first before (limits (book first before))
      × ((book first before).rule.steps ≡ (book first past).rule.steps)
      × PassedRun l (limits (book first past)) (limits (book first before)) (book first past).rule.steps u work said work'

abbrev pub RunOf : List Slot → List Event → Event → List ℕ → Result Said Refusal → List ℕ → Type 0
RunOf first past (post s m) work said work' = Unit {0}
RunOf first past (tell s p) work said work' = Unit {0}
RunOf first past count work said work' = Unit {0}
RunOf first past (kind s) work said work' = Unit {0}
RunOf first past (capacity s) work said work' = Unit {0}
RunOf first past (mark s) work said work' = Unit {0}
RunOf first past clear work said work' = Unit {0}
RunOf first past (add x) work said work' = Unit {0}
RunOf first past check work said work' = Unit {0}
RunOf first past (run l) work said work' = RunLaw first past l work said work'

-- a value that is said is well formed: a str is UTF-8, and a text has at most 65,536 bytes
abbrev pub SaidFormed : Result Said Refusal → Type 0
SaidFormed said = (m : Meaning) → said ≡ Ok (value m) → well_formed m ≡ true

-- what a call says after the calls `past`, and every byte that it leaves: what the book answers, and by the law of runs
pub record Lawful (first : List Slot) (past : List Event) (c : Event) (work : List ℕ) (said : Result Said Refusal) (work' : List ℕ) : Type 0 where
  pub answer : answered (book first past) c work ≡ beside work' said
  pub run : RunOf first past c work said work'
  pub formed : SaidFormed said
