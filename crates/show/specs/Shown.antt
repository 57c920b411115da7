-- How a value and an answer are printed: a value as its kind's name, a tab, and the value as it is written; a refusal as `no`, its
-- number and its place; any other answer as `ok`. Assumes nothing.
use Rattle.std.specs.Prelude.{ℕ, List, ◌∷◌, ◌++◌, Some, None, Ok, Err, codes, decimal, Option, Result}
use Rattle.fault.specs.Refusals.{number}
use Rattle.fault.specs.declared.Refusal.{Refusal}
use Rattle.value.specs.Values.{Meaning, kind_in, meaning}
use Rattle.format.specs.Names.{kind_name}
use Rattle.format.specs.Written.{written}
use Rattle.show.specs.declared.answer.Answer.{Answer}
use Rattle.show.specs.declared.values.Shown.{Shown}

abbrev pub shown_value : Meaning → List ℕ
shown_value m = kind_name (kind_in m) ++ (9 ∷ written m)

abbrev pub shown_refusal : Refusal → List ℕ
shown_refusal e = codes "no\t" ++ (decimal (number e.fault) ++ (9 ∷ decimal e.place))

abbrev pub shown_outcome : Result (Option Shown) Refusal → List ℕ
shown_outcome (Ok None) = codes "ok"
shown_outcome (Ok (Some v)) = shown_value (meaning (λ x. x.now) v.0)
shown_outcome (Err e) = shown_refusal e

abbrev pub shown_answer : Answer → List ℕ
shown_answer a = shown_outcome a.0
