-- The test before building, and what is built. Assumes nothing.
use Rattle.std.specs.Prelude.{◌≡◌, ◌⊎◌, ℕ, suc, cond, ◌||◌, List, [], ◌∷◌, length, Ok, Err, Result, nat_lt}
use Rattle.std.specs.List.{AllByRecursion}
use Rattle.fault.specs.Refusals.{refusal}
use Rattle.fault.specs.declared.Fault.TheVariants.{BadLine}
use Rattle.fault.specs.declared.Refusal.{Refusal}
use Rattle.shelf.specs.Slots.{Slot}
use Rattle.lines.specs.Spelled.{lines, Valued}
use Rattle.lines.specs.Slots.{slots_of}

-- lines with the numbers from n on: the first that spells no value is refused
abbrev pub TestedFrom : ℕ → List (List ℕ) → Result Unit Refusal → Type 0
TestedFrom n [] r = r ≡ Ok tt
TestedFrom n (l ∷ ls) r = (Valued l × TestedFrom (suc n) ls r) ⊎ ((Valued l → ⊥) × (r ≡ Err (refusal BadLine n)))

-- first the count of lines, then each of them
abbrev pub Tested : List ℕ → Result Unit Refusal → Type 0
Tested bytes r =
    cond (nat_lt (length (lines bytes)) 1 || nat_lt 4096 (length (lines bytes)))
    (r ≡ Err (refusal BadLine 0))
    (TestedFrom 0 (lines bytes) r)

-- a slot for each line; none where the test refuses
abbrev pub BuiltBy : Result Unit Refusal → List (List ℕ) → List Slot → Type 0
BuiltBy (Ok _) ls slots = (values : AllByRecursion Valued ls) × (slots ≡ slots_of ls values)
BuiltBy (Err _) ls slots = slots ≡ []

abbrev pub Built : List ℕ → List Slot → Type 0
Built bytes slots = (r : Result Unit Refusal) × Tested bytes r × BuiltBy r (lines bytes) slots
