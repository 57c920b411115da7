-- What a line asks for: one call, or a refusal. A line of no form is refused 11; then an unknown kind, operator or local 1; then
-- a value or a slot that nothing is written as 2. Where a call is asked for, its fields are how its parts are written.
-- Assumes nothing.
use Rattle.std.specs.Prelude.{◌≡◌, ℕ, ◌^◌, ◌<◌, List, [], ◌∷◌, Some, None, Ok, Err, decimal, Option, Result}
use Rattle.std.specs.Option.{option_map, ok_or}
use Rattle.fault.specs.declared.Fault.{Fault}
use Rattle.fault.specs.declared.Fault.TheVariants.{Unknown, Malformed, BadLine}
use Rattle.text.specs.declared.span.Span.{Span}
use Rattle.value.specs.Values.{Meaning, kind_in, kind_of, meant}
use Rattle.value.specs.declared.kind.Kind.{Kind}
use Rattle.value.specs.declared.op.Op.{Op}
use Rattle.value.specs.declared.value.Value.{Value}
use Rattle.routines.specs.declared.made.Limits.{Limits}
use Rattle.steps.specs.Steps.{takes_literal}
use Rattle.steps.specs.declared.step.Step.TheVariants.{Put, Slot, Local, Keep, Apply, Assign}
use Rattle.desk.specs.Book.{Event}
use Rattle.desk.specs.Book as book
use Rattle.format.specs.Names.{kind_named, op_named, assign_named}
use Rattle.format.specs.Written.{written}
use Rattle.format.specs.Reading.{ReadsAs, ReadableIn}
use Rattle.line.specs.Forms.{Spelled, post, clear, check, run, put, slot, local, keep, op, set}

-- a run without limits on the sizes of texts
abbrev pub unlimited : Limits
unlimited = record { string = 0; blob = 0 }

-- the call of what is read, or the fault where nothing is
pub record Calls {V : Type 0} (reads : Option V → Type 0) (call : V → Event) (f : Fault) (r : Result Event Fault) : Type 0 where
  pub found : Option V
  pub is : reads found
  pub asks : r ≡ ok_or (option_map call found) f

abbrev pub ReadsSlot : List ℕ → Option ℕ → Type 0
ReadsSlot bs o = ReadsAs (λ n. n < 2 ^ 32) decimal bs o

abbrev pub ReadsLocal : List ℕ → Option ℕ → Type 0
ReadsLocal bs o = ReadsAs (λ n. n < 8) decimal bs o

-- a slot and a value of kind k, of two fields
abbrev pub ReadsPosting : Kind → List ℕ → List ℕ → Option (ℕ × Meaning) → Type 0
ReadsPosting k s v o = ReadsAs (λ p. (p.0 < 2 ^ 32) × (kind_in p.1 ≡ k) × ReadableIn 65536 p.1) (λ p. decimal p.0 ∷ written p.1 ∷ []) (s ∷ v ∷ []) o

-- a literal of kind k
abbrev pub ReadsLiteral : Kind → List ℕ → Option (Value Span) → Type 0
ReadsLiteral k v o = ReadsAs (λ x. (takes_literal k ≡ Ok tt) × (kind_of x ≡ k) × ReadableIn 65536 (meant [] x)) (λ x. written (meant [] x)) v o

abbrev pub AsksPost : List ℕ → List ℕ → Option Kind → Result Event Fault → Type 0
AsksPost s v None r = r ≡ Err Unknown
AsksPost s v (Some k) r = Calls (ReadsPosting k s v) (λ p. book.post p.0 p.1) Malformed r

abbrev pub AsksPut : List ℕ → Option Kind → Result Event Fault → Type 0
AsksPut v None r = r ≡ Err Unknown
AsksPut v (Some k) r = Calls (ReadsLiteral k v) (λ x. book.add (Put x)) Malformed r

abbrev pub AsksSet : List ℕ → Option Op → Result Event Fault → Type 0
AsksSet i None r = r ≡ Err Unknown
AsksSet i (Some o) r = Calls (ReadsLocal i) (λ n. book.add (Assign o n)) Unknown r

abbrev pub Asks : Option Spelled → Result Event Fault → Type 0
Asks None r = r ≡ Err BadLine
Asks (Some (post s k v)) r = AsksPost s v (kind_named k) r
Asks (Some clear) r = r ≡ Ok book.clear
Asks (Some check) r = r ≡ Ok book.check
Asks (Some run) r = r ≡ Ok (book.run unlimited)
Asks (Some (put k v)) r = AsksPut v (kind_named k) r
Asks (Some (slot s)) r = Calls (ReadsSlot s) (λ n. book.add (Slot n)) Malformed r
Asks (Some (local i)) r = Calls (ReadsLocal i) (λ n. book.add (Local n)) Unknown r
Asks (Some (keep i)) r = Calls (ReadsLocal i) (λ n. book.add (Keep n)) Unknown r
Asks (Some (op o)) r = r ≡ ok_or (option_map (λ x. book.add (Apply x)) (op_named o)) Unknown
Asks (Some (set o i)) r = AsksSet i (assign_named o) r
