-- The divisor over counts: when the product of two floats is rounded to zero, and which of two magnitudes is the larger.
use Rattle.std.proofs.Common.{◌≡◌, ℕ, ◌+◌, ◌*◌, ◌^◌, ◌<◌, ◌≤◌, max, Bool, true, false, cond, ◌&&◌, ◌||◌, T, eqb, ltb, leb, ℤ, pos, negsuc, sym, refl, ap, ◌∙◌, subst, inl, inr, le_trans, le_of_eq, lt_of_lt_of_le, mul-le-mul_right, mul_assoc, mul-pos, one-mul, zero-mul, arith, lit<, eqb→eq, pow_pos}
use Rattle.std.proofs.Math.Nat.{le_of_mul-le-mul_right, mul-mul-mul_comm, max-eq_left, max-eq_right}
use Rattle.std.proofs.lemmas.Bool.{true≢false, false≢true, cases_lt, lt-ltb, and_parts, or_cases, eqb-true, ltb-true, leb-true, leb-false}
use lib.Ieee.{Float, nan, inf, fin, binary64, mul, lt, le, eq, fits, round, up, down, is_nan, unlike}
use lib.Ieee.Fits.{up_pos, down_pos, and_l}
use lib.Ieee.Order.{transfer, round_mono}
use lib.Ieee.Positive.{first_pos}
use lib.Ieee.Scale.{round_same}
use Rattle.std.specs.Float.{float_is_finite, float_with_sign, float_one, float_max, float_zero as zero-float}
use Rattle.float.specs.Tolerance.{unscaled, size}
use Rattle.float.specs.Exactly.{count, Divided}
use Rattle.float.specs.Exchange.{round_size}
use Rattle.float.proofs.Exact.{Fine, fine, count_is, level_zero, is_true, is_false}

-- ---- a float beside zero
up_to : (a b : ℕ) → T (ltb a b || (eqb a b && true)) → a ≤ b
up_to a b t = elim (or_cases (ltb a b) (eqb a b && true) (is_true _ t)) [
  | inl l ↦ omega (arith, ltb-true a b l)
  | inr q ↦ omega (arith, eqb-true a b (and_parts (eqb a b) true q).0)
]

none : (z : Float) → T (le (size z) zero-float) → eq z zero-float ≡ true
unfolding le lt eq float_with_sign
none nan t = absurd t
none (inf s) t = absurd t
none (fin s m e) t =
    let p : 0 * 1 * down e ≡ 0 = zero-mul (down e) in
    let q = up_to (m * up e * 1) (0 * 1 * down e) t in
    level_zero s (m * up e * 1) (0 * 1 * down e) (omega arith) p

some : (z : Float) (w : ℤ) → T (le (fin false 1 w) (size z)) → eq z zero-float ≡ false
unfolding le lt eq float_with_sign
some nan w t = refl
some (inf s) w t = refl
some (fin s k g) w t =
    let p : 0 * 1 * down g ≡ 0 = zero-mul (down g) in
    let q = up_to (1 * up w * down g) (k * up g * down w) t in
    let r : 0 < 1 * up w * down g = mul-pos (mul-pos (lit< tt) (up_pos w)) (down_pos g) in
    let h : 0 < k * up g = first_pos (k * up g) (down w) (lt_of_lt_of_le r q) in
    is_false _ (λ u. let v : k * up g * 1 ≡ 0 * 1 * down g = eqb→eq (k * up g * 1) (0 * 1 * down g) (and_l _ _ u) in omega (arith, v, p, h))

-- ---- half of the least float above zero
at_half : round binary64 false 1 (2 * 2 ^ 1074) ≡ zero-float
unfolding round
at_half = refl

above_half : round binary64 false (2 ^ 1073 + 1) (2 ^ 1074 * 2 ^ 1074) ≡ fin false 1 (negsuc 1073)
unfolding round
above_half = refl

positive : 0 < 2 ^ 1074 * 2 ^ 1074
positive = lit< tt

half : (h l p : ℕ) → l ≡ h * 2 → l < p * 2 → h + 1 ≤ p
half h l p e g = omega arith

small : (s : Bool) (p : ℕ) → p * 2 ≤ 2 ^ 1074 → eq (round binary64 s p (2 ^ 1074 * 2 ^ 1074)) zero-float ≡ true
small s p h =
    let l = 2 ^ 1074 in
    let k : p * (2 * l) ≤ 1 * (l * l) = le_trans (le_of_eq (sym (mul_assoc p 2 l))) (le_trans (mul-le-mul_right l h) (le_of_eq (sym (one-mul (l * l))))) in
    none _ (subst (λ v. T (le v zero-float)) (sym (round_size binary64 s p (l * l))) (subst (λ v. T (le (round binary64 false p (l * l)) v)) at_half (round_mono binary64 p (l * l) 1 (2 * l) positive (lit< tt) k)))

large : (s : Bool) (p : ℕ) → 2 ^ 1074 < p * 2 → eq (round binary64 s p (2 ^ 1074 * 2 ^ 1074)) zero-float ≡ false
large s p h =
    let l = 2 ^ 1074 in
    let k : (2 ^ 1073 + 1) * (l * l) ≤ p * (l * l) = mul-le-mul_right (l * l) (half (2 ^ 1073) l p refl h) in
    some _ (negsuc 1073) (subst (λ v. T (le (fin false 1 (negsuc 1073)) v)) (sym (round_size binary64 s p (l * l))) (subst (λ v. T (le v (round binary64 false p (l * l)))) above_half (round_mono binary64 (2 ^ 1073 + 1) (l * l) p (l * l) positive positive k)))

-- ---- the product
regroup : (a b c d l x y : ℕ) → x * b ≡ a * l → y * d ≡ c * l → a * c * (l * l) ≡ x * y * (b * d)
regroup a b c d l x y p q = mul-mul-mul_comm a c l l ∙ ap (λ v. v * (c * l)) (sym p) ∙ ap (λ v. x * b * v) (sym q) ∙ mul-mul-mul_comm x b y d

product : (s : Bool) (m : ℕ) (e : ℤ) (t : Bool) (n : ℕ) (d : ℤ) → Fine m e → Fine n d → mul binary64 (fin s m e) (fin t n d) ≡ round binary64 (unlike s t) (count (fin s m e) * count (fin t n d)) (2 ^ 1074 * 2 ^ 1074)
unfolding mul
product s m e t n d f g =
    round_same binary64 (unlike s t) (m * up e * (n * up d)) (down e * down d) (count (fin s m e) * count (fin t n d)) (2 ^ 1074 * 2 ^ 1074) (mul-pos (down_pos e) (down_pos d)) positive
    (regroup (m * up e) (down e) (n * up d) (down d) (2 ^ 1074) (count (fin s m e)) (count (fin t n d)) (count_is s m e f.deep) (count_is t n d g.deep))

vanishing : (s : Bool) (m : ℕ) (e : ℤ) (t : Bool) (n : ℕ) (d : ℤ) → Fine m e → Fine n d → (b : Bool) → leb (count (fin s m e) * count (fin t n d) * 2) (2 ^ 1074) ≡ b → unscaled (fin s m e) (fin t n d) ≡ b
vanishing s m e t n d f g true h = ap (λ z. eq z zero-float) (product s m e t n d f g) ∙ small (unlike s t) _ (leb-true _ _ h)
vanishing s m e t n d f g false h = ap (λ z. eq z zero-float) (product s m e t n d f g) ∙ large (unlike s t) _ (leb-false _ _ h)

-- ---- the larger of two magnitudes
same_count : (s t : Bool) (m : ℕ) (e : ℤ) → count (fin s m e) ≡ count (fin t m e)
same_count s t m (pos k) = refl
same_count s t m (negsuc k) = refl

-- a magnitude a / b of x units is at most one c / d of y units where it counts at most as much
counted : (a b c d x y : ℕ) → 0 < b → 0 < d → x * b ≡ a * 2 ^ 1074 → y * d ≡ c * 2 ^ 1074 → a * d ≤ c * b → x ≤ y
counted a b c d x y p q h k i = le_of_mul-le-mul_right (transfer x y (2 ^ 1074) (2 ^ 1074) a c b d p q h k i) (pow_pos 1074)

picks : (a b : ℕ) (s t : Float) (x y : ℕ) → (b ≤ a → y ≤ x) → (a ≤ b → x ≤ y) → count s ≡ x → count t ≡ y → (v : Bool) → (ltb b a || (eqb b a && true)) ≡ v → count (cond (v || false) s t) ≡ max x y
picks a b s t x y f g p q true e = p ∙ sym (max-eq_left (f (up_to b a (subst T (sym e) tt))))
picks a b s t x y f g p q false e =
    let under : a ≤ b = elim (cases_lt b a) [ inl l ↦ absurd (true≢false (sym (ap (λ w. w || (eqb b a && true)) (lt-ltb b a l)) ∙ e)) | inr r ↦ r ] in
    q ∙ sym (max-eq_right (g under))

larger : (s : Bool) (m : ℕ) (e : ℤ) (t : Bool) (n : ℕ) (d : ℤ) → Fine m e → Fine n d → count (float_max (fin false m e) (fin false n d)) ≡ max (count (fin s m e)) (count (fin t n d))
unfolding le lt eq is_nan
larger s m e t n d f g =
    let x = count (fin s m e) in
    let y = count (fin t n d) in
    picks (m * up e * down d) (n * up d * down e) (fin false m e) (fin false n d) x y
    (counted (n * up d) (down d) (m * up e) (down e) y x (down_pos d) (down_pos e) (count_is t n d g.deep) (count_is s m e f.deep))
    (counted (m * up e) (down e) (n * up d) (down d) x y (down_pos e) (down_pos d) (count_is s m e f.deep) (count_is t n d g.deep))
    (same_count false s m e) (same_count false t n d) _ refl

divided_by : (s : Bool) (m : ℕ) (e : ℤ) (t : Bool) (n : ℕ) (d : ℤ) → Fine m e → Fine n d → (b : Bool) → count (cond b float_one (float_max (size (fin s m e)) (size (fin t n d)))) ≡ cond b (2 ^ 1074) (max (count (fin s m e)) (count (fin t n d)))
unfolding float_with_sign
divided_by s m e t n d f g true = refl
divided_by s m e t n d f g false = larger s m e t n d f g

pub divided : (x y : Float) → T (fits binary64 x) → T (fits binary64 y) → Divided x y
unfolding float_is_finite
divided nan y f g p q = absurd (false≢true p)
divided (inf s) y f g p q = absurd (false≢true p)
divided (fin s m e) nan f g p q = absurd (false≢true q)
divided (fin s m e) (inf t) f g p q = absurd (false≢true q)
divided (fin s m e) (fin t n d) f g p q = record {
  vanishes = vanishing s m e t n d (fine s m e f) (fine t n d g) _ refl;
  counts = divided_by s m e t n d (fine s m e f) (fine t n d g) (unscaled (fin s m e) (fin t n d));
}
