-- What each call of a shelf answers and leaves, by its slots. Every question, and every refusal, leaves the slots as they were.
-- Assumes nothing.
use Rattle.std.specs.Prelude.{ℕ, Bool, true, false, cond, List, Some, None, Ok, Err, Option, Result, nat_le, slice_set}
use Rattle.std.specs.Option.{option_map, ok_or}
use Rattle.std.specs.List.{slice_get}
use Rattle.fault.specs.declared.Fault.{Fault}
use Rattle.fault.specs.declared.Fault.TheVariants.{Malformed, Absent, Sealed as IsSealed, OverCapacity}
use Rattle.value.specs.Values.{Meaning, kind_in, text_of, well_formed, size, Told, told_at}
use Rattle.value.specs.declared.kind.Kind.{Kind}
use Rattle.shelf.specs.Slots.{Slot, slot}
use Rattle.shelf.specs.declared.mark.Mark.{Mark}
use Rattle.shelf.specs.declared.mark.Mark.TheVariants.{Open, Sealed}

-- a question about a slot: the answer, or that the slot is absent
abbrev pub asked : {A : Type 0} → (Slot → A) → List Slot → ℕ → Result A Fault
asked question slots i = ok_or (option_map question (slice_get slots i)) Absent

abbrev pub asked_kind : List Slot → ℕ → Result Kind Fault
asked_kind = asked (λ s. kind_in s.holds)

abbrev pub asked_capacity : List Slot → ℕ → Result ℕ Fault
asked_capacity = asked (λ s. s.capacity)

abbrev pub asked_mark : List Slot → ℕ → Result Mark Fault
asked_mark = asked (λ s. s.mark)

-- TELL: the slot's text, and no other byte, at the place
abbrev pub tell_at : List ℕ → ℕ → Option Slot → Told
tell_at buffer place None = record { answer = Err Absent; bytes = buffer }
tell_at buffer place (Some s) = told_at buffer place s.holds

abbrev pub told : List Slot → ℕ → List ℕ → ℕ → Told
told slots i buffer place = tell_at buffer place (slice_get slots i)

-- POST: that slot's value is replaced, and nothing else
pub record Posted : Type 0 where
  pub answer : Result Unit Fault
  pub after : List Slot

abbrev pub refused : List Slot → Fault → Posted
refused slots f = record { answer = Err f; after = slots }

abbrev pub is_open : Mark → Bool
is_open Open = true
is_open Sealed = false

abbrev pub post_at : List Slot → ℕ → Meaning → Option Slot → Posted
post_at slots i m None = refused slots Absent
post_at slots i m (Some s) =
    cond (is_open s.mark)
    (cond (nat_le (size (text_of m)) s.capacity)
    (record { answer = Ok tt; after = slice_set slots i (slot m s.capacity s.mark) })
    (refused slots OverCapacity))
    (refused slots IsSealed)

abbrev pub posted : List Slot → ℕ → Meaning → Posted
posted slots i m = cond (well_formed m) (post_at slots i m (slice_get slots i)) (refused slots Malformed)
