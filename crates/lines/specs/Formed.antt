-- The values of lines are well formed, as every shelf shows of its make. Assumes nothing.
use Rattle.std.specs.Prelude.{◌≡◌, ℕ, true, List, [], ◌∷◌, refl}
use Rattle.std.specs.List.{AllByRecursion}
use Rattle.std.proofs.lemmas.Bool.{and_from, le-leb}
use Rattle.value.specs.Values.{Meaning, unit, bool, int, float, char, str, blob, excl, incl, well_formed}
use Rattle.format.specs.Reading.{ReadableIn}
use Rattle.shelf.specs.Slots.{all_formed}
use Rattle.lines.specs.Spelled.{Valued}
use Rattle.lines.specs.Slots.{slots_of}

readable_formed : (m : Meaning) → ReadableIn 65536 m → well_formed m ≡ true
readable_formed unit h = refl
readable_formed (bool b) h = refl
readable_formed (int n) h = refl
readable_formed (float x) h = refl
readable_formed (char c) h = h.0
readable_formed (str t) h = and_from _ _ h.0 (le-leb _ _ h.2)
readable_formed (blob t) h = le-leb _ _ h.1
readable_formed (excl a b) h = refl
readable_formed (incl a b) h = refl

pub slots_formed : (ls : List (List ℕ)) (values : AllByRecursion Valued ls) → all_formed (slots_of ls values) ≡ true
slots_formed [] values = refl
slots_formed (l ∷ ls) values = and_from _ _ (readable_formed values.0.0 values.0.1.0) (slots_formed ls values.1)
