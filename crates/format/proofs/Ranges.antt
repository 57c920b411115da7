-- Two ends with a comma between: there is no comma in a number, so that the first one parts them.
use Rattle.std.proofs.Common.{◌≡◌, ℕ, zero, suc, ◌^◌, ◌<◌, Bool, true, false, cond, eqb, List, [], ◌∷◌, ◌++◌, length, get_or, ℤ, pos, negsuc, decimal, sym, refl, ap, ◌∙◌, arith, length-append, w64, SFits}
use lib.Signed.{mag}
use Rattle.std.specs.Fmt.{signed_decimal}
use Rattle.std.proofs.lemmas.Fmt.{digits_decimal}
use Rattle.std.proofs.lemmas.Str.Parse.{digit_at}
use Rattle.std.proofs.lemmas.Bool.{ne_eqb, eq-eqb, eqb-true}
use Rattle.format.specs.Fields.{onto, fields}
use Rattle.format.proofs.Cutting.{fields_none}
use Rattle.format.proofs.Decimal.{own, mag_fits}
use Rattle.format.proofs.Laws.{some_fields}

decimal_no_comma : (n k : ℕ) → n < 2 ^ 64 → k < length (decimal n) → get_or (decimal n) k 0 ≡ 44 → ⊥
decimal_no_comma n k h lt e = let d = digit_at (decimal n) k (digits_decimal own n h) lt in omega arith

signed_no_comma : (z : ℤ) → mag z < 2 ^ 63 → (k : ℕ) → k < length (signed_decimal z) → get_or (signed_decimal z) k 0 ≡ 44 → ⊥
signed_no_comma (pos n) h k lt e = decimal_no_comma n k (omega arith) lt e
signed_no_comma (negsuc n) h zero lt e = omega arith
signed_no_comma (negsuc n) h (suc k) lt e = decimal_no_comma (suc n) k (omega arith) (omega arith) e

pub fields_at : (sep : ℕ) (xs ys : List ℕ) → ((k : ℕ) → k < length xs → get_or xs k 0 ≡ sep → ⊥) → fields sep (xs ++ (sep ∷ ys)) ≡ xs ∷ fields sep ys
fields_at sep [] ys h = let e : eqb sep sep ≡ true = eq-eqb sep sep refl in rw e
fields_at sep (x ∷ xs) ys h =
    let e : eqb x sep ≡ false = ne_eqb x sep (h 0 (omega arith)) in
    let ih = fields_at sep xs ys (λ k lt. h (suc k) (omega arith)) in rw (e, ih)

pub ends_fields : (a b : ℤ) → SFits w64 a → SFits w64 b → fields 44 (signed_decimal a ++ (44 ∷ signed_decimal b)) ≡ signed_decimal a ∷ signed_decimal b ∷ []
ends_fields a b f g =
    fields_at 44 (signed_decimal a) (signed_decimal b) (signed_no_comma a (mag_fits a f))
    ∙ ap (λ fs. signed_decimal a ∷ fs) (fields_none 44 (signed_decimal b) (signed_no_comma b (mag_fits b g)))

-- ---- the fields put together again

abbrev join : ℕ → List (List ℕ) → List ℕ
join sep [] = []
join sep (f ∷ []) = f
join sep (f ∷ g ∷ fs) = f ++ (sep ∷ join sep (g ∷ fs))

join_onto : (sep b : ℕ) (f : List ℕ) (fs : List (List ℕ)) → join sep (onto b (f ∷ fs)) ≡ b ∷ join sep (f ∷ fs)
join_onto sep b f [] = refl
join_onto sep b f (g ∷ fs) = refl

pub rejoined : (sep : ℕ) (bs : List ℕ) → join sep (fields sep bs) ≡ bs
rejoined sep [] = refl
rejoined sep (b ∷ bs) =
    let s = some_fields sep bs in
    let rest = ap (join sep) (sym s.are) ∙ rejoined sep bs in
    let P : Bool → Type 0 = λ t. eqb b sep ≡ t → join sep (cond t ([] ∷ fields sep bs) (onto b (fields sep bs))) ≡ b ∷ bs in
    (elim (eqb b sep) as P [
      | true ↦ λ e. ap (λ fs. join sep ([] ∷ fs)) s.are ∙ (λ i. sym (eqb-true b sep e) i ∷ rest i)
      | false ↦ λ e. ap (λ fs. join sep (onto b fs)) s.are ∙ join_onto sep b s.first s.more ∙ ap (λ l. b ∷ l) rest
    ]) refl

-- one field is the whole
pub one_field : (sep : ℕ) (bs x : List ℕ) → fields sep bs ≡ x ∷ [] → bs ≡ x
one_field sep bs x e = sym (rejoined sep bs) ∙ ap (join sep) e

-- two parts, the second whole again
pub two_parts : (sep : ℕ) (bs x y : List ℕ) → fields sep bs ≡ x ∷ fields sep y → bs ≡ x ++ (sep ∷ y)
two_parts sep bs x y e =
    let s = some_fields sep y in
    sym (rejoined sep bs) ∙ ap (join sep) (e ∙ ap (λ fs. x ∷ fs) s.are) ∙ ap (λ l. x ++ (sep ∷ l)) (ap (join sep) (sym s.are) ∙ rejoined sep y)

-- ---- what the fields of two ends are
module _ (bs first : List ℕ) (a b : ℤ) (f : SFits w64 a) (g : SFits w64 b) (e : signed_decimal a ++ (44 ∷ signed_decimal b) ≡ bs) where
  are : signed_decimal a ∷ signed_decimal b ∷ [] ≡ fields 44 bs
  are = sym (ends_fields a b f g) ∙ ap (fields 44) e

  pub no_rest : fields 44 bs ≡ first ∷ [] → ⊥
  no_rest q = let p : signed_decimal a ∷ signed_decimal b ∷ [] ≡ first ∷ [] = are ∙ q in let z : ◌≡◌ {A = ℕ} 0 1 = cc in omega arith

  pub first_is : (fs : List (List ℕ)) → fields 44 bs ≡ first ∷ fs → signed_decimal a ≡ first
  first_is fs q = let p : signed_decimal a ∷ signed_decimal b ∷ [] ≡ first ∷ fs = are ∙ q in cc

  pub rest_is : (rest : List ℕ) → fields 44 bs ≡ first ∷ fields 44 rest → signed_decimal b ≡ rest
  rest_is rest q =
      let p : signed_decimal a ∷ signed_decimal b ∷ [] ≡ first ∷ fields 44 rest = are ∙ q in
      let r : fields 44 rest ≡ signed_decimal b ∷ [] = cc in
      sym (one_field 44 rest (signed_decimal b) r)

-- what stands behind a separator is shorter than the whole
pub shorter : (sep : ℕ) (bs x y : List ℕ) → fields sep bs ≡ x ∷ fields sep y → length y < length bs
shorter sep bs x y e = let l = ap length (two_parts sep bs x y e) ∙ length-append x (sep ∷ y) in omega arith

-- the whole is known by its parts
pub fields_same : (sep : ℕ) (xs ys : List ℕ) → fields sep xs ≡ fields sep ys → xs ≡ ys
fields_same sep xs ys e = sym (rejoined sep xs) ∙ ap (join sep) e ∙ rejoined sep ys
