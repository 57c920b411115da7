-- The book: a plain machine that starts from a shelf and a rule as made and is fed with the calls' arguments alone. What the book
-- answers is what every desk answers, over every make of shelf. Assumes nothing.
use Rattle.std.specs.Prelude.{ℕ, cond, List, [], ◌∷◌, length, Some, None, Ok, Err, Option, Result}
use Rattle.fault.specs.Outcomes.{Outcome, beside}
use Rattle.fault.specs.Refusals.{refusal, placed_at, bind}
use Rattle.fault.specs.declared.Fault.{Fault}
use Rattle.fault.specs.declared.Fault.TheVariants.{Absent, BufferShort}
use Rattle.fault.specs.declared.Refusal.{Refusal}
use Rattle.value.specs.Values.{Meaning, meaning, meant, text_of, fits, written}
use Rattle.value.specs.declared.kind.Kind.{Kind}
use Rattle.value.specs.declared.set.KindSet.{KindSet}
use Rattle.routines.specs.declared.made.Limits.{Limits}
use Rattle.shelf.specs.Slots.{Slot, holding}
use Rattle.shelf.specs.Calls.{asked_kind, asked_capacity, asked_mark, posted}
use Rattle.shelf.specs.declared.mark.Mark.{Mark}
use Rattle.steps.specs.declared.step.Step.{Step}
use Rattle.rule.specs.Check.{Env}
use Rattle.rule.specs.Rules.{Sheet, blank, adds, added, checks, passed, ran}
use Rattle.desk.specs.declared.call.Call.{Call}
use Rattle.desk.specs.declared.call.Call.TheVariants as call
use Rattle.desk.specs.declared.call.Reply.{Reply}
use Rattle.desk.specs.declared.call.Reply.TheVariants as reply

-- a call by its arguments, a posted value by its meaning
pub data Event : Type 0 where
  post : ℕ → Meaning → Event
  tell : ℕ → ℕ → Event
  count : Event
  kind : ℕ → Event
  capacity : ℕ → Event
  mark : ℕ → Event
  clear : Event
  add : Step → Event
  check : Event
  run : Limits → Event

abbrev pub event : Call → Event
event (call.Post s v) = post s (meaning (λ x. x.now) v)
event (call.Tell s p) = tell s p
event call.Count = count
event (call.Kind s) = kind s
event (call.Capacity s) = capacity s
event (call.Mark s) = mark s
event call.Clear = clear
event (call.Add x) = add x
event call.Check = check
event (call.Run l) = run l

-- an answer that is no refusal, a value by its meaning
pub data Said : Type 0 where
  done : Said
  value : Meaning → Said
  number : ℕ → Said
  of_kind : Kind → Said
  marked : Mark → Said
  kinds : KindSet → Said

abbrev pub says : List ℕ → Reply → Said
says work reply.Done = done
says work (reply.Value v) = value (meant work v)
says work (reply.Number n) = number n
says work (reply.Kind k) = of_kind k
says work (reply.Mark m) = marked m
says work (reply.Kinds s) = kinds s

pub record Book : Type 0 where
  pub slots : List Slot
  pub rule : Sheet

abbrev pub writing : List Slot → Sheet → Book
writing ss r = record { slots = ss; rule = r }

abbrev pub made : List Slot → Book
made first = writing first blank

-- the limits in the book: the value of each slot
abbrev pub limits : Book → Env
limits b = holding b.slots

-- POST changes the values, CLEAR, ADD and CHECK the rule, and nothing else does
abbrev pub feed : Book → Event → Book
feed b (post s m) = writing (posted b.slots s m).after b.rule
feed b (tell s p) = b
feed b count = b
feed b (kind s) = b
feed b (capacity s) = b
feed b (mark s) = b
feed b clear = writing b.slots blank
feed b (add x) = writing b.slots (added b.rule x)
feed b check = writing b.slots (passed (limits b) b.rule)
feed b (run l) = b

unfoldable pub fed : Book → List Event → Book
fed b [] = b
fed b (c ∷ cs) = fed (feed b c) cs

-- the book after these calls
abbrev pub book : List Slot → List Event → Book
book first past = fed (made first) past

-- ---- the book's answers, with every byte of the work buffer after them

abbrev pub tells : Option Meaning → ℕ → List ℕ → Outcome (List ℕ) Said Refusal
tells None place work = Err (refusal Absent 0, work)
tells (Some m) place work =
    cond (fits work place (text_of m))
    (Ok (value m, written work place (text_of m)))
    (Err (refusal BufferShort 0, work))

-- an answer at place 0 that writes nothing
abbrev pub plainly : {A : Type 0} → (A → Said) → List ℕ → Result A Fault → Outcome (List ℕ) Said Refusal
plainly f work r = beside work (placed_at 0 (bind r (λ a. Ok (f a))))

abbrev pub valued : Outcome (List ℕ) Meaning Refusal → Outcome (List ℕ) Said Refusal
valued (Ok r) = Ok (value r.0, r.1)
valued (Err r) = Err r

abbrev pub answered : Book → Event → List ℕ → Outcome (List ℕ) Said Refusal
answered b (post s m) work = plainly (λ _. done) work (posted b.slots s m).answer
answered b (tell s p) work = tells (limits b s) p work
answered b count work = Ok (number (length b.slots), work)
answered b (kind s) work = plainly of_kind work (asked_kind b.slots s)
answered b (capacity s) work = plainly number work (asked_capacity b.slots s)
answered b (mark s) work = plainly marked work (asked_mark b.slots s)
answered b clear work = Ok (done, work)
answered b (add x) work = plainly (λ _. done) work (adds b.rule x)
answered b check work = beside work (bind (checks (limits b) b.rule) (λ s. Ok (kinds s)))
answered b (run l) work = valued (ran l (limits b) b.rule.steps b.rule.kept work)
