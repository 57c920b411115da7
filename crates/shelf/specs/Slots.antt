-- What a shelf means: its slots in their order, each with a value, a capacity in bytes and a mark. Assumes nothing.
use Rattle.std.specs.Prelude.{ℕ, Bool, true, ◌&&◌, List, [], ◌∷◌, Option}
use Rattle.std.specs.Option.{option_map}
use Rattle.std.specs.List.{slice_get}
use Rattle.value.specs.Values.{Meaning, well_formed}
use Rattle.shelf.specs.declared.mark.Mark.{Mark}

pub record Slot : Type 0 where
  pub holds : Meaning
  pub capacity : ℕ
  pub mark : Mark

abbrev pub slot : Meaning → ℕ → Mark → Slot
slot m n k = record { holds = m; capacity = n; mark = k }

abbrev pub all_formed : List Slot → Bool
all_formed [] = true
all_formed (s ∷ ss) = well_formed s.holds && all_formed ss

-- the value of each slot, by its number
abbrev pub holding : List Slot → ℕ → Option Meaning
holding slots i = option_map (λ s. s.holds) (slice_get slots i)
