-- The fields of a line, by its first separator.
use Rattle.std.proofs.Common.{◌≡◌, ℕ, zero, suc, ◌+◌, ◌-◌, ◌<◌, true, false, eqb, List, [], ◌∷◌, length, get_or, take, drop, refl, sym, ap, ◌∙◌, arith}
use Rattle.std.proofs.lemmas.Bool.{ne_eqb, eq-eqb}
use Rattle.std.proofs.lemmas.List.{drop-drop}
use Rattle.std.proofs.lemmas.Slice.{between_to_end}
use Rattle.format.specs.Fields.{fields}

pub fields_none : (sep : ℕ) (bs : List ℕ) → ((k : ℕ) → k < length bs → get_or bs k 0 ≡ sep → ⊥) → fields sep bs ≡ bs ∷ []
fields_none sep [] h = refl
fields_none sep (b ∷ bs) h =
    let e : eqb b sep ≡ false = ne_eqb b sep (h 0 (omega arith)) in
    let ih : fields sep bs ≡ bs ∷ [] = fields_none sep bs (λ k lt. h (suc k) (omega arith)) in rw (e, ih)

pub fields_cut : (sep : ℕ) (bs : List ℕ) (r : ℕ) → r < length bs → ((k : ℕ) → k < r → get_or bs k 0 ≡ sep → ⊥) → get_or bs r 0 ≡ sep → fields sep bs ≡ take r bs ∷ fields sep (drop (suc r) bs)
fields_cut sep [] r lt h at = absurd (omega arith)
fields_cut sep (b ∷ bs) zero lt h at = let e : eqb b sep ≡ true = eq-eqb b sep at in rw e
fields_cut sep (b ∷ bs) (suc r) lt h at =
    let e : eqb b sep ≡ false = ne_eqb b sep (h 0 (omega arith)) in
    let ih : fields sep bs ≡ take r bs ∷ fields sep (drop (suc r) bs) = fields_cut sep bs r (omega arith) (λ k l. h (suc k) (omega arith)) at in
    rw (e, ih)

pub fields_parts : (sep : ℕ) (bs first rest : List ℕ) (r : ℕ) → first ≡ take r bs → rest ≡ drop r bs → r < length bs → ((k : ℕ) → k < r → get_or bs k 0 ≡ sep → ⊥) → get_or bs r 0 ≡ sep → fields sep bs ≡ first ∷ fields sep (take (length rest - 1) (drop 1 rest))
fields_parts sep bs first rest r f e lt h at =
    let next : r + 1 ≡ suc r = omega arith in
    let behind : take (length rest - 1) (drop 1 rest) ≡ drop (suc r) bs = between_to_end rest 1 (length rest) (omega arith) ∙ ap (drop 1) e ∙ drop-drop 1 r bs ∙ ap (λ k. drop k bs) next in
    fields_cut sep bs r lt h at ∙ (λ i. sym f i ∷ fields sep (sym behind i))
