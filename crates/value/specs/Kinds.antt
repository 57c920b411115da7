-- The kinds with their numbers, and sets of kinds as a bit for each: bit k stands for the kind with number k.
-- Assumes nothing.
use Rattle.std.specs.Prelude.{ℕ, ◌/◌, ◌%◌, ◌^◌, Bool, List, [], ◌∷◌, ◌==◌, bit_or}
use Rattle.value.specs.declared.kind.Kind.{Kind}
use Rattle.value.specs.declared.kind.Kind.TheVariants.{Unit, Bool as Truth, Int, Float, Char, Str, Blob, Excl, Incl}
use Rattle.value.specs.declared.set.KindSet.{KindSet}

abbrev pub kind_number : Kind → ℕ
kind_number Unit = 0
kind_number Truth = 1
kind_number Int = 2
kind_number Float = 3
kind_number Char = 4
kind_number Str = 5
kind_number Blob = 6
kind_number Excl = 7
kind_number Incl = 8

-- all of them, by their numbers
abbrev pub kinds : List Kind
kinds = Unit ∷ Truth ∷ Int ∷ Float ∷ Char ∷ Str ∷ Blob ∷ Excl ∷ Incl ∷ []

abbrev pub is_kind : Kind → Kind → Bool
is_kind a b = kind_number a == kind_number b

abbrev pub set : ℕ → KindSet
set n = record { bits = n }

abbrev pub single : Kind → KindSet
single k = set (2 ^ kind_number k)

abbrev pub has : KindSet → Kind → Bool
has s k = s.bits / 2 ^ kind_number k % 2 == 1

abbrev pub united : KindSet → KindSet → KindSet
united s t = set (bit_or s.bits t.bits)
