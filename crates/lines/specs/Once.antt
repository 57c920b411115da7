-- What a line spells is one value only. Assumes nothing.
use Rattle.std.specs.Prelude.{◌≡◌, ℕ, List, FitsSigned}
use Rattle.std.specs.Coded.{×_prop, Unit-prop, le_prop, Coded-set, coded_list, coded_ℕ}
use Rattle.std.specs.List.{AllByRecursion, AllByRecursion-prop}
use Rattle.std.specs.Int.{w64}
use Rattle.std.proofs.Common.{ℤ, sym, ◌∙◌}
use Rattle.std.proofs.Math.Bool.{Bool-set}
use Rattle.std.proofs.Math.Dec.{T_prop}
use Rattle.std.proofs.Math.Path.{Σ_path, to_path_p}
use Rattle.value.specs.Values.{Meaning, unit, bool, int, float, char, str, blob, excl, incl, kind_in}
use Rattle.format.specs.Reading.{Bytes, ReadableIn}
use Rattle.format.specs.Written.{written}
use Rattle.format.proofs.Same.{written_same, spelled_same}
use Rattle.lines.specs.Spelled.{Spells, Valued}

-- the law: two values that a line spells are the same
abbrev pub SpellsOnce : Type 0
SpellsOnce = (line : List ℕ) (m n : Meaning) → Spells line m → Spells line n → m ≡ n

pub spells_once : SpellsOnce
spells_once line m n p q =
    let s = spelled_same (kind_in m) (kind_in n) (written m) (written n) (p.1 ∙ sym q.1) in
    written_same 65536 m n s.0 p.0 q.0 s.1

fits_prop : (n : ℤ) → IsProp (FitsSigned w64 n)
fits_prop n x y = λ i. record { sfits = le_prop x.sfits y.sfits i }

bytes_prop : (bs : List ℕ) → IsProp (Bytes bs)
bytes_prop bs = AllByRecursion-prop _ (λ b. le_prop) bs

readable_prop : (m : Meaning) → IsProp (ReadableIn 65536 m)
readable_prop unit = Unit-prop
readable_prop (bool b) = Unit-prop
readable_prop (int n) = fits_prop n
readable_prop (float x) = ×_prop (T_prop _) (T_prop _)
readable_prop (char c) = ×_prop (Bool-set _ _) le_prop
readable_prop (str t) = λ x y i. (Bool-set _ _ x.0 y.0 i, bytes_prop t x.1 y.1 i, le_prop x.2 y.2 i)
readable_prop (blob t) = ×_prop (bytes_prop t) le_prop
readable_prop (excl a b) = ×_prop (fits_prop a) (fits_prop b)
readable_prop (incl a b) = ×_prop (fits_prop a) (fits_prop b)

spells_prop : (line : List ℕ) (m : Meaning) → IsProp (Spells line m)
spells_prop line m = ×_prop (readable_prop m) (Coded-set (coded_list coded_ℕ) _ _)

valued_prop : (line : List ℕ) → IsProp (Valued line)
valued_prop line x y =
    let same = spells_once line x.0 y.0 x.1 y.1 in
    Σ_path same (to_path_p (λ i. Spells line (same i)) (spells_prop line y.0 _ y.1))

-- and so the values of lines are there in one way
pub all-prop : (ls : List (List ℕ)) → IsProp (AllByRecursion Valued ls)
all-prop ls = AllByRecursion-prop Valued valued_prop ls
