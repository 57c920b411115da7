-- A table of blank records.
use Rattle.std.proofs.Common.{◌≡◌, ℕ, zero, suc, ◌*◌, ◌≤◌, true, List, ◌∷◌, length, drop, replicate, is_ok, refl, ap, suc-mul, arith, length-drop}
use Rattle.std.proofs.lemmas.Bool.{le-leb, and_from}
use Rattle.std.proofs.lemmas.Bool.Decides.{nat_tests}
use Rattle.value.specs.Values.{unit}
use Rattle.shelf.specs.Slots.{slot}
use Rattle.shelf.specs.declared.mark.Mark.TheVariants.{Open}
use Rattle.table.specs.Rows.{rows, blank, whole, tested}

pub whole_blank : (n : ℕ) (bs : List ℕ) (cap : ℕ) → n * cap ≤ length bs → whole (replicate n blank) bs cap ≡ true
whole_blank zero bs cap h = refl
whole_blank (suc n) bs cap h =
    and_from _ _ (and_from _ _ (le-leb cap (length bs) (omega (arith, suc-mul n cap))) refl)
    (whole_blank n (drop cap bs) cap (omega (arith, suc-mul n cap, length-drop cap bs)))

pub rows_blank : (n : ℕ) (bs : List ℕ) (cap : ℕ) → rows (replicate n blank) bs cap ≡ replicate n (slot unit cap Open)
rows_blank zero bs cap = refl
rows_blank (suc n) bs cap = ap (λ t. slot unit cap Open ∷ t) (rows_blank n (drop cap bs) cap)

pub tested_room : (count cap bytes : ℕ) → is_ok (tested count cap bytes) ≡ true → count * cap ≤ bytes
tested_room count cap bytes e = grind (arith, nat_tests)
