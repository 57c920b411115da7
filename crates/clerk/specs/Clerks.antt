-- What answering a line makes of a desk and its work buffer, and the bytes of the answer: a line is served by the law of the desk,
-- with some reply, and the bytes are that reply as it is shown; one that is too long to be kept changes nothing, and is refused as
-- a malformed line. A line feed stands behind each answer. Assumes nothing.
use Rattle.std.specs.Prelude.{◌≡◌, ℕ, List, [], ◌∷◌, ◌++◌, Some, None, Option, Result}
use Rattle.fault.specs.Refusals.{refusal}
use Rattle.fault.specs.declared.Fault.TheVariants.{BadLine}
use Rattle.fault.specs.declared.Refusal.{Refusal}
use Rattle.shelf.specs.Slots.{Slot}
use Rattle.rule.specs.declared.rule.Rule.{Rule}
use Rattle.desk.specs.Desks.{meant_by}
use Rattle.desk.specs.declared.call.Reply.{Reply}
use Rattle.show.specs.Shown.{shown_refusal}
use Rattle.line.specs.Answered.{shown_said}
use Rattle.line.specs.Commands.{LineServed}

abbrev pub AnswersLine : Option (List ℕ) → List Slot → Rule → List ℕ → List Slot → Rule → List ℕ → List ℕ → Type 0
AnswersLine (Some line) slots rule work slots' rule' work' bytes =
    (r : Result Reply Refusal)
    × LineServed line slots rule work r work' slots' rule'
    × (bytes ≡ shown_said (meant_by work' r) ++ (10 ∷ []))
AnswersLine None slots rule work slots' rule' work' bytes =
    (slots' ≡ slots) × (rule' ≡ rule) × (work' ≡ work) × (bytes ≡ shown_refusal (refusal BadLine 0) ++ (10 ∷ []))
