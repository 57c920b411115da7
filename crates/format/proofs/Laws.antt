-- What the crates above use: a value that is written in few bytes needs little room, and a field is no longer than its line.
use Rattle.std.proofs.Common.{◌≡◌, ℕ, ◌+◌, ◌*◌, ◌≤◌, Bool, true, false, cond, eqb, List, [], ◌∷◌, length, refl, subst, arith}
use lib.Utf8.{encode}
use Rattle.std.specs.List.{AllByRecursion}
use Rattle.value.specs.Values.{Meaning, unit, bool, int, float, char, str, blob, excl, incl}
use Rattle.format.specs.Fields.{fields, onto}
use Rattle.format.specs.Reading.{ReadableIn}
use Rattle.format.specs.Written.{written}
use Rattle.format.proofs.Hex.{length_pairs}

pub readable_in : (room room' : ℕ) (m : Meaning) → length (written m) ≤ 2 * room' → ReadableIn room m → ReadableIn room' m
readable_in room room' unit h f = tt
readable_in room room' (bool b) h f = tt
readable_in room room' (int n) h f = f
readable_in room room' (float x) h f = f
readable_in room room' (char c) h f = (f.0, omega (arith, length_pairs (encode c)))
readable_in room room' (str t) h f = (f.0, f.1, omega (arith, length_pairs t))
readable_in room room' (blob t) h f = (f.0, omega (arith, length_pairs t))
readable_in room room' (excl a b) h f = f
readable_in room room' (incl a b) h f = f

abbrev Within : ℕ → List (List ℕ) → Type 0
Within n fs = AllByRecursion (λ f. length f ≤ n) fs

wider : (n m : ℕ) (fs : List (List ℕ)) → n ≤ m → Within n fs → Within m fs
wider n m [] le h = tt
wider n m (f ∷ fs) le h = (omega (arith, h.0), wider n m fs le h.1)

onto_within : (n b : ℕ) (fs : List (List ℕ)) → Within n fs → Within (1 + n) (onto b fs)
onto_within n b [] h = (omega arith, tt)
onto_within n b (f ∷ fs) h = (omega (arith, h.0), wider n (1 + n) fs (omega arith) h.1)

within : (sep : ℕ) (bs : List ℕ) → Within (length bs) (fields sep bs)
within sep [] = (omega arith, tt)
within sep (b ∷ bs) =
    let P : Bool → Type 0 = λ t. Within (length (b ∷ bs)) (cond t ([] ∷ fields sep bs) (onto b (fields sep bs))) in
    let ih = within sep bs in
    elim (eqb b sep) as P [
      | true ↦ (omega arith, wider (length bs) (length (b ∷ bs)) (fields sep bs) (omega arith) ih)
      | false ↦ wider (1 + length bs) (length (b ∷ bs)) (onto b (fields sep bs)) (omega arith) (onto_within (length bs) b (fields sep bs) ih)
    ]

pub first_within : (sep : ℕ) (bs x : List ℕ) (fs : List (List ℕ)) → fields sep bs ≡ x ∷ fs → length x ≤ length bs
first_within sep bs x fs e = (subst (Within (length bs)) e (within sep bs)).0

-- there is at least one field
pub record Some-fields (sep : ℕ) (bs : List ℕ) : Type 0 where
  pub first : List ℕ
  pub more : List (List ℕ)
  pub are : fields sep bs ≡ first ∷ more

onto_some : (b : ℕ) (fs : List (List ℕ)) (t : Bool) → (first : List ℕ) × (more : List (List ℕ)) × (cond t ([] ∷ fs) (onto b fs) ≡ first ∷ more)
onto_some b fs true = ([], fs, refl)
onto_some b [] false = (b ∷ [], [], refl)
onto_some b (f ∷ fs) false = (b ∷ f, fs, refl)

pub some_fields : (sep : ℕ) (bs : List ℕ) → Some-fields sep bs
some_fields sep [] = record { first = []; more = []; are = refl }
some_fields sep (b ∷ bs) = let p = onto_some b (fields sep bs) (eqb b sep) in record { first = p.0; more = p.1; are = p.2 }
