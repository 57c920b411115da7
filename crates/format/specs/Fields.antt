-- The parts of a line between its separators. Assumes nothing.
use Rattle.std.specs.Prelude.{ℕ, cond, List, [], ◌∷◌, Some, None, Option, ◌==◌}
use Rattle.std.specs.Borrow.{Bor}

abbrev pub onto : ℕ → List (List ℕ) → List (List ℕ)
onto b [] = (b ∷ []) ∷ []
onto b (f ∷ fs) = (b ∷ f) ∷ fs

abbrev pub fields : ℕ → List ℕ → List (List ℕ)
fields sep [] = [] ∷ []
fields sep (b ∷ bs) = cond (b == sep) ([] ∷ fields sep bs) (onto b (fields sep bs))

-- the fields of what follows a separator, if there was one
abbrev pub fields_of : ℕ → Option (Bor (List ℕ)) → List (List ℕ)
fields_of sep None = []
fields_of sep (Some r) = fields sep r.now
