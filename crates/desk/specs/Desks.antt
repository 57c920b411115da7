-- A desk is as the book has it, whatever the make of its shelf. Assumes nothing.
use Rattle.std.specs.Prelude.{◌≡◌, ℕ, true, List, [], ◌∷◌, ◌++◌, map, length, Ok, Result}
use Rattle.fault.specs.Refusals.{bind}
use Rattle.fault.specs.declared.Refusal.{Refusal}
use Rattle.text.specs.declared.span.Span.{Span}
use Rattle.value.specs.Values.{meant, well_formed, text_in, Inside}
use Rattle.value.specs.declared.value.Value.{Value}
use Rattle.shelf.specs.Slots.{Slot}
use Rattle.rule.specs.Rules.{rule_of}
use Rattle.rule.specs.declared.rule.Rule.{Rule}
use Rattle.desk.specs.Book.{Event, event, Book, writing, book, Said, says}
use Rattle.desk.specs.Law.{Lawful}
use Rattle.desk.specs.declared.call.Call.{Call}
use Rattle.desk.specs.declared.call.Reply.{Reply}
use Rattle.desk.specs.declared.call.Reply.TheVariants as reply

-- slots and a rule as the book would write them
abbrev pub desk_of : List Slot → Rule → Book
desk_of slots r = writing slots (rule_of r)

-- slots and a rule that began as `first` and an open, empty rule, and that the calls `past` made so
abbrev pub Reached : List Slot → List Event → List Slot → Rule → Type 0
Reached first past slots r = desk_of slots r ≡ book first past

-- an answer by its meaning, beside the work buffer after it
abbrev pub meant_by : List ℕ → Result Reply Refusal → Result Said Refusal
meant_by work r = bind r (λ x. Ok (says work x))

-- the text of a value that is replied, if it has one, lies in the work buffer
abbrev pub WithinWork : List ℕ → Result Reply Refusal → Type 0
WithinWork work r = (v : Value Span) → r ≡ Ok (reply.Value v) → Inside (length work) (text_in v)

-- a value that is replied, read in the work buffer, is well formed: a str is UTF-8, and a text has at most 65,536 bytes
abbrev pub WorkFormed : List ℕ → Result Reply Refusal → Type 0
WorkFormed work r = (v : Value Span) → r ≡ Ok (reply.Value v) → well_formed (meant work v) ≡ true

-- the main theorem, of one call: after every list of calls that made the desk what it is, the call is lawful, and the desk is then
-- what these calls and this one make of it
abbrev pub Served : List Slot → Rule → Event → List ℕ → Result Reply Refusal → List ℕ → List Slot → Rule → Type 0
Served slots rule c work r work' slots' rule' = (first : List Slot) (past : List Event) → Reached first past slots rule →
    Reached first (past ++ c ∷ []) slots' rule'
    × Lawful first past c work (meant_by work' r) work'

-- ---- whole lists of calls

abbrev pub events : List Call → List Event
events cs = map event cs

-- each call in turn is lawful after those before it, and finds the work buffer as the one before left it
abbrev pub AllLawful : List Slot → List Event → List Event → List (Result Reply Refusal) → List ℕ → List ℕ → Type 0
AllLawful first past [] rs work work' = work ≡ work'
AllLawful first past (c ∷ cs) [] work work' = ⊥
AllLawful first past (c ∷ cs) (r ∷ rs) work work' = (mid : List ℕ) × Lawful first past c work (meant_by mid r) mid × AllLawful first (past ++ c ∷ []) cs rs mid work'
