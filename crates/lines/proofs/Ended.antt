-- The lines of bytes, by the first.
use Rattle.std.proofs.Common.{◌≡◌, ℕ, suc, ◌≤◌, false, eqb, Bor, List, [], ◌∷◌, length, Some, None, Option, sym, ap, ◌∙◌, arith}
use Rattle.std.proofs.lemmas.Bool.{cond_both, ne_eqb}
use Rattle.format.specs.Fields.{onto, fields, fields_of}
use Rattle.format.proofs.Laws.{some_fields}
use Rattle.format.proofs.Ranges.{one_field}
use Rattle.lines.specs.Spelled.{but_empty_last, lines}

last_line : (bs x : List ℕ) → (length bs ≡ 0 → ⊥) → fields 10 bs ≡ x ∷ [] → lines bs ≡ x ∷ []
last_line bs x n e =
    let f : eqb (length x) 0 ≡ false = ne_eqb (length x) 0 (λ z. n (ap length (one_field 10 bs x e) ∙ z)) in
    ap but_empty_last e ∙ rw f

pub first_line : (bs x y : List ℕ) → fields 10 bs ≡ x ∷ fields 10 y → lines bs ≡ x ∷ lines y
first_line bs x y e =
    let s = some_fields 10 y in
    ap but_empty_last (e ∙ ap (λ fs. x ∷ fs) s.are) ∙ ap (λ fs. x ∷ but_empty_last fs) (sym s.are)

abbrev pub rest_of : Option (Bor (List ℕ)) → List ℕ
rest_of None = []
rest_of (Some r) = r.now

pub cut_lines : (bs x behind : List ℕ) (o : Option (Bor (List ℕ))) → (length bs ≡ 0 → ⊥) → fields 10 bs ≡ x ∷ fields_of 10 o → behind ≡ rest_of o → lines bs ≡ x ∷ lines behind
cut_lines bs x behind None n e r = last_line bs x n e ∙ ap (λ ys. x ∷ lines ys) (sym r)
cut_lines bs x behind (Some y) n e r = first_line bs x y.now e ∙ ap (λ ys. x ∷ lines ys) (sym r)

-- ---- there are no more lines than bytes, and one

length_ended : (fs : List (List ℕ)) → length (but_empty_last fs) ≤ length fs
length_ended [] = omega arith
length_ended (f ∷ []) = cond_both (eqb (length f) 0) [] (f ∷ []) (λ l. length l ≤ 1) (λ t. omega arith) (λ t. omega arith)
length_ended (f ∷ g ∷ fs) = omega (arith, length_ended (g ∷ fs))

length_onto : (b : ℕ) (fs : List (List ℕ)) → length (onto b fs) ≤ suc (length fs)
length_onto b [] = omega arith
length_onto b (f ∷ fs) = omega arith

length_fields : (sep : ℕ) (bs : List ℕ) → length (fields sep bs) ≤ suc (length bs)
length_fields sep [] = omega arith
length_fields sep (b ∷ bs) =
    cond_both (eqb b sep) ([] ∷ fields sep bs) (onto b (fields sep bs)) (λ l. length l ≤ suc (suc (length bs)))
    (λ t. omega (arith, length_fields sep bs))
    (λ f. omega (arith, length_onto b (fields sep bs), length_fields sep bs))

pub length_lines : (bs : List ℕ) → length (lines bs) ≤ suc (length bs)
length_lines bs = omega (arith, length_ended (fields 10 bs), length_fields 10 bs)
