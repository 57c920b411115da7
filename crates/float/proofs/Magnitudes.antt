-- Two magnitudes that compare equal are one float, so `max` of two magnitudes has one answer.
use Rattle.std.proofs.Common.{◌≡◌, ℕ, ◌+◌, ◌-◌, ◌*◌, ◌/◌, ◌^◌, ◌<◌, Bool, true, false, cond, T, inl, inr, ℤ, sym, ap, ◌∙◌, subst, mul_comm, mul_right_comm, refl}
use Rattle.std.proofs.Math.Nat.{mul-div-mul_right}
use Rattle.std.proofs.lemmas.Bool.{false≢true, and_parts, eqb-true}
use lib.Ieee.{Float, nan, inf, fin, binary64, up, down, size as digits, fits, of_bits, to_bits, eq}
use lib.Ieee.Bits.{of_bits-to_bits}
use lib.Ieee.Fits.{down_pos}
use Rattle.std.specs.Float.{float_with_sign, float_max, IsFloatMax}
use Rattle.float.specs.Tolerance.{size}

-- a / b of two that cross-multiply alike
quotient : (a u b v k : ℕ) → 0 < u → 0 < v → a * v ≡ b * u → a * k / u ≡ b * k / v
quotient a u b v k p q h =
    sym (mul-div-mul_right (a * k) u q)
    ∙ ap (λ z. z / (u * v)) (mul_right_comm a k v ∙ ap (λ z. z * k) h ∙ mul_right_comm b u k)
    ∙ ap (λ z. b * k * u / z) (mul_comm u v)
    ∙ mul-div-mul_right (b * k) v p

pattern : (m n : ℕ) (e d : ℤ) → m * up e * down d ≡ n * up d * down e → to_bits binary64 (fin false m e) ≡ to_bits binary64 (fin false n d)
unfolding to_bits
pattern m n e d h = ap (λ z. cond false 9223372036854775808 0 + (digits z - 53) * 4503599627370496 + z / 2 ^ (digits z - 53)) (quotient (m * up e) (down e) (n * up d) (down d) (2 ^ 1074) (down_pos e) (down_pos d) h)

one_size : (x y : Float) → T (fits binary64 (size x)) → T (fits binary64 (size y)) → eq (size x) (size y) ≡ true → size x ≡ size y
unfolding eq float_with_sign
one_size nan y f g h = absurd (false≢true h)
one_size (inf s) nan f g h = absurd (false≢true h)
one_size (inf s) (inf t) f g h = refl
one_size (inf s) (fin t n d) f g h = absurd (false≢true h)
one_size (fin s m e) nan f g h = absurd (false≢true h)
one_size (fin s m e) (inf t) f g h = absurd (false≢true h)
one_size (fin s m e) (fin t n d) f g h =
    sym (of_bits-to_bits binary64 (fin false m e) f)
    ∙ ap (of_bits binary64) (pattern m n e d (eqb-true (m * up e * down d) (n * up d * down e) (and_parts _ true h).0))
    ∙ of_bits-to_bits binary64 (fin false n d) g

-- what `max` of two magnitudes says, as one answer
pub larger : (x y a b r : Float) → a ≡ size x → b ≡ size y → T (fits binary64 a) → T (fits binary64 b) → IsFloatMax a b r → (eq a b ≡ false → r ≡ float_max a b) → r ≡ float_max (size x) (size y)
larger x y a b r p q f g v u = by v (eq a b) refl ∙ ap (λ z. float_max z b) p ∙ ap (float_max (size x)) q
  where
    by : IsFloatMax a b r → (t : Bool) → eq a b ≡ t → r ≡ float_max a b
    by v false e = u e
    by (inl w) true e = w
    by (inr w) true e =
        let h : a ≡ b = p ∙ one_size x y (subst (λ z. T (fits binary64 z)) p f) (subst (λ z. T (fits binary64 z)) q g) (ap (λ z. eq z (size y)) (sym p) ∙ ap (eq a) (sym q) ∙ e) ∙ sym q in
        w ∙ ap (λ z. float_max z a) (sym h) ∙ ap (float_max a) h
