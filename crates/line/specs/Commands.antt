-- A command by the call that it stands for. Assumes nothing.
use Rattle.std.specs.Prelude.{◌≡◌, ℕ, List, length, Ok, Err, Result}
use Rattle.fault.specs.Refusals.{bind, refusal}
use Rattle.fault.specs.declared.Fault.{Fault}
use Rattle.fault.specs.declared.Refusal.{Refusal}
use Rattle.value.specs.Values.{meant, text_in, Inside}
use Rattle.shelf.specs.Slots.{Slot}
use Rattle.rule.specs.declared.rule.Rule.{Rule}
use Rattle.desk.specs.Book.{Event}
use Rattle.desk.specs.Book as book
use Rattle.desk.specs.Desks.{Served}
use Rattle.desk.specs.declared.call.Reply.{Reply}
use Rattle.line.specs.declared.command.Command.{Command}
use Rattle.line.specs.declared.command.Command.TheVariants.{Post, Clear, Add, Check, Run}
use Rattle.line.specs.Forms.{line_form}
use Rattle.line.specs.Asked.{unlimited, Asks}

abbrev pub commanded : List ℕ → Command → Event
commanded buffer (Post s v) = book.post s (meant buffer v)
commanded buffer Clear = book.clear
commanded buffer (Add x) = book.add x
commanded buffer Check = book.check
commanded buffer Run = book.run unlimited

abbrev pub asked_by : List ℕ → Result Command Fault → Result Event Fault
asked_by buffer r = bind r (λ c. Ok (commanded buffer c))

-- a posted text lies in the buffer
abbrev pub PostsInside : List ℕ → Command → Type 0
PostsInside buffer (Post s v) = Inside (length buffer) (text_in v)
PostsInside buffer Clear = Unit {0}
PostsInside buffer (Add x) = Unit {0}
PostsInside buffer Check = Unit {0}
PostsInside buffer Run = Unit {0}

abbrev pub InsideIfOk : List ℕ → Result Command Fault → Type 0
InsideIfOk buffer (Ok c) = PostsInside buffer c
InsideIfOk buffer (Err f) = Unit {0}

-- ---- a line at a desk

-- a call is served by the law of the desk; a line that asks for none is refused at place 0, and leaves the desk and the work buffer
abbrev pub ServedAs : Result Event Fault → List Slot → Rule → List ℕ → Result Reply Refusal → List ℕ → List Slot → Rule → Type 0
ServedAs (Ok c) slots rule work r work' slots' rule' = Served slots rule c work r work' slots' rule'
ServedAs (Err f) slots rule work r work' slots' rule' = (r ≡ Err (refusal f 0)) × (work' ≡ work) × (slots' ≡ slots) × (rule' ≡ rule)

pub record LineServed (line : List ℕ) (slots : List Slot) (rule : Rule) (work : List ℕ) (r : Result Reply Refusal) (work' : List ℕ) (slots' : List Slot) (rule' : Rule) : Type 0 where
  pub asked : Result Event Fault
  pub asks : Asks (line_form line) asked
  pub served : ServedAs asked slots rule work r work' slots' rule'
