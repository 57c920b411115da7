-- The remainder of two finite floats by their bit patterns: what a pattern's value is, that one value has one float, and what
-- IEEE's remainder is of two counts.
use Rattle.std.proofs.Common.{◌≡◌, ℕ, zero, suc, ◌+◌, ◌-◌, ◌*◌, ◌/◌, ◌%◌, ◌^◌, ◌<◌, ◌≤◌, Bool, true, false, cond, not, T, eqb, leb, ⊎_elim, ℤ, pos, sym, refl, ap, ◌∙◌, subst, arith, mul_assoc, mul_comm, mul_right_comm, mul-pos, zero-mul, lt_of_lt_of_le, pow_pos}
use native.Mathlib.Nat.{mul-div_cancel, eq_of_mul-eq-mul_right}
use lib.Pow.{shl_lt, pow_mono}
use lib.Ieee.{Float, nan, inf, fin, binary64, up, down, size, odd, fits, is_nan, nan_bits, of_fields, of_bits, to_bits, round, rem, eq, level}
use lib.Ieee.Bits.{of_bits-to_bits, of_bits-fits, to_bits-lt, nan_bits_above}
use lib.Ieee.Exact.{HasValue, odd_sign, round_exact}
use lib.Ieee.Fits.{up_pos, down_pos, rem-fits}
use Rattle.std.specs.Float.{float_is_finite, float_is_infinite}
use Rattle.std.proofs.lemmas.Bool.{both_ways, cases_lt, le-leb, lt-leb, le-ltb, and_parts, ne_eqb}
use Rattle.float.specs.Patterns.{exponent_in, significand_in, count_in}
use Rattle.float.proofs.Patterned.{scaled_mod, significand_short, significand_positive}

-- ---- reading a pattern

same_count : (t c : ℕ) → 0 ≡ c / 4503599627370496 → t ≡ c % 4503599627370496 → t * 2 ^ 0 ≡ count_in c
same_count t c q r =
    let e : c / 4503599627370496 - 1 ≡ 0 = omega arith in
    let s : c - 0 * 4503599627370496 ≡ t = omega arith in
    sym (ap (λ z. (c - z * 4503599627370496) * 2 ^ z) e ∙ ap (λ z. z * 2 ^ 0) s)

led_count : (x t c : ℕ) → suc x ≡ c / 4503599627370496 → t ≡ c % 4503599627370496 → (4503599627370496 + t) * 2 ^ x ≡ count_in c
led_count x t c q r =
    let e : c / 4503599627370496 - 1 ≡ x = omega arith in
    let s : c - x * 4503599627370496 ≡ 4503599627370496 + t = omega arith in
    sym (ap (λ z. (c - z * 4503599627370496) * 2 ^ z) e ∙ ap (λ z. z * 2 ^ x) s)

read_fields : (s : Bool) (x t c : ℕ) → c < 9218868437227405312 → x ≡ c / 4503599627370496 → t ≡ c % 4503599627370496 → HasValue (of_fields binary64 s x t) s (count_in c) (2 ^ 1074)
unfolding of_fields
read_fields s zero t c h q r = subst (λ a. HasValue (odd 53 s t 0 1074) s a (2 ^ 1074)) (same_count t c q r) (odd_sign 53 s t 0 1074)
read_fields s (suc x) t c h q r =
    let other : eqb (suc x) 2047 ≡ false = ne_eqb (suc x) 2047 (λ e. omega arith) in
    subst (λ b. HasValue (cond b (cond (eqb t 0) (inf s) nan) (odd 53 s (4503599627370496 + t) x 1074)) s (count_in c) (2 ^ 1074)) (sym other)
    (subst (λ a. HasValue (odd 53 s (4503599627370496 + t) x 1074) s a (2 ^ 1074)) (led_count x t c q r) (odd_sign 53 s (4503599627370496 + t) x 1074))

-- the value of a finite pattern
read : (b : ℕ) → b % 9223372036854775808 < 9218868437227405312 → HasValue (of_bits binary64 b) (leb 9223372036854775808 b) (count_in (b % 9223372036854775808)) (2 ^ 1074)
unfolding of_bits
read b h =
    let r : b % 4503599627370496 ≡ b % 9223372036854775808 % 4503599627370496 = omega arith in
    read_fields (leb 9223372036854775808 b) (b % 9223372036854775808 / 4503599627370496) (b % 4503599627370496) (b % 9223372036854775808) h refl r

no_number : (s : Bool) (x t c : ℕ) → c < 9223372036854775808 → 9218868437227405312 ≤ c → x ≡ c / 4503599627370496 → float_is_finite (of_fields binary64 s x t) ≡ false
unfolding of_fields float_is_finite
no_number s zero t c lt h q = absurd (omega arith)
no_number s (suc x) t c lt h q =
    let n : suc x ≡ 2047 = omega arith in
    let ones : eqb (suc x) 2047 ≡ true = ap (λ z. eqb z 2047) n in
    ap (λ b. float_is_finite (cond b (cond (eqb t 0) (inf s) nan) (odd 53 s (4503599627370496 + t) x 1074))) ones
    ∙ elim (eqb t 0) as (λ b. float_is_finite (cond b (inf s) nan) ≡ false) [ true ↦ refl | false ↦ refl ]

finite_low : (b : ℕ) → float_is_finite (of_bits binary64 b) ≡ true → b % 9223372036854775808 < 9218868437227405312
unfolding of_bits
finite_low b f =
    ⊎_elim
    (λ l. l)
    (λ g. absurd (both_ways _ (no_number (leb 9223372036854775808 b) (b % 9223372036854775808 / 4503599627370496) (b % 4503599627370496) (b % 9223372036854775808) (omega arith) g refl) f))
    (cases_lt (b % 9223372036854775808) 9218868437227405312)

-- ---- one value has one float

same_bits : (v : Float) (s : Bool) (a : ℕ) → HasValue v s a (2 ^ 1074) → to_bits binary64 v ≡ cond s 9223372036854775808 0 + (size a - 53) * 4503599627370496 + a / 2 ^ (size a - 53)
unfolding to_bits
same_bits nan s a h = absurd h
same_bits (inf t) s a h = absurd h
same_bits (fin t m e) s a h =
    let n : m * up e * 2 ^ 1074 / down e ≡ a = ap (λ z. z / down e) h.1 ∙ mul-div_cancel a (down_pos e) in
    ap (λ z. cond t 9223372036854775808 0 + (size z - 53) * 4503599627370496 + z / 2 ^ (size z - 53)) n
    ∙ ap (λ r. cond r 9223372036854775808 0 + (size a - 53) * 4503599627370496 + a / 2 ^ (size a - 53)) h.0

unique : (v w : Float) (s : Bool) (a : ℕ) → T (fits binary64 v) → T (fits binary64 w) → HasValue v s a (2 ^ 1074) → HasValue w s a (2 ^ 1074) → v ≡ w
unique v w s a fv fw hv hw = sym (of_bits-to_bits binary64 v fv) ∙ ap (of_bits binary64) (same_bits v s a hv ∙ sym (same_bits w s a hw)) ∙ of_bits-to_bits binary64 w fw

rescaled : (x : Float) (s : Bool) (num den w l : ℕ) → 0 < den → num * l ≡ w * den → HasValue x s num den → HasValue x s w l
rescaled nan s num den w l p h v = v
rescaled (inf t) s num den w l p h v = v
rescaled (fin t m e) s num den w l p h v = (
  v.0,
  eq_of_mul-eq-mul_right den p (m * up e * l) (w * down e)
      (mul_right_comm (m * up e) l den
      ∙ ap (λ z. z * l) v.1
      ∙ mul_right_comm num (down e) l
      ∙ ap (λ z. z * down e) h
      ∙ mul_right_comm w den (down e)),
)

-- ---- IEEE's remainder over counts

count_fine : (p : ℕ) → p < 9218868437227405312 → count_in p < 2 ^ 2098
count_fine p h = lt_of_lt_of_le (shl_lt 53 (exponent_in p) (significand_short p)) (let le : 53 + exponent_in p ≤ 2098 = omega arith in pow_mono le)

module _ (s t : Bool) (m n : ℕ) (e d : ℤ) (X Y p : ℕ) (hx : HasValue (fin s m e) s X (2 ^ 1074)) (hy : HasValue (fin t n d) t Y (2 ^ 1074)) (n_pos : 0 < n) (y_pos : 0 < Y) (low : p < 9218868437227405312) (is : count_in p ≡ X % Y) where
  first : m * up e * down d * 2 ^ 1074 ≡ X * (down e * down d)
  first = mul_right_comm (m * up e) (down d) (2 ^ 1074) ∙ ap (λ z. z * down d) hx.1 ∙ mul_assoc X (down e) (down d)

  second : n * up d * down e * 2 ^ 1074 ≡ Y * (down e * down d)
  second = mul_right_comm (n * up d) (down e) (2 ^ 1074) ∙ ap (λ z. z * down e) hy.1 ∙ mul_assoc Y (down d) (down e) ∙ ap (λ z. Y * z) (mul_comm (down d) (down e))

  left : (m * up e * down d % (n * up d * down e)) * 2 ^ 1074 ≡ (X % Y) * (down e * down d)
  left =
      sym (scaled_mod (m * up e * down d) (n * up d * down e) (2 ^ 1074) (mul-pos (mul-pos n_pos (up_pos d)) (down_pos e)) (pow_pos 1074))
      ∙ (λ i. first i % second i)
      ∙ scaled_mod X Y (down e * down d) y_pos (mul-pos (down_pos e) (down_pos d))

  rounded : HasValue (round binary64 s (m * up e * down d % (n * up d * down e)) (down e * down d)) s (X % Y) (2 ^ 1074)
  rounded =
      let pos : 0 < down e * down d = mul-pos (down_pos e) (down_pos d) in
      rescaled (round binary64 s (m * up e * down d % (n * up d * down e)) (down e * down d)) s (m * up e * down d % (n * up d * down e)) (down e * down d) (X % Y) (2 ^ 1074) pos left
      (round_exact binary64 s (m * up e * down d % (n * up d * down e)) (down e * down d) (significand_in p) (exponent_in p) pos (significand_short p) (count_fine p low) (left ∙ ap (λ z. z * (down e * down d)) (sym is)))

  remains : HasValue (rem binary64 (fin s m e) (fin t n d)) s (X % Y) (2 ^ 1074)
  unfolding rem
  remains =
      let some : eqb n 0 ≡ false = ne_eqb n 0 (λ z. omega arith) in
      subst (λ b. HasValue (cond b nan (round binary64 s (m * up e * down d % (n * up d * down e)) (down e * down d))) s (X % Y) (2 ^ 1074)) (sym some) rounded

-- ---- what the code asks of two finite floats

finite_read : (v : Float) → T (fits binary64 v) → float_is_finite v ≡ true → to_bits binary64 v % 9223372036854775808 < 9218868437227405312
finite_read v f h = finite_low (to_bits binary64 v) (ap float_is_finite (of_bits-to_bits binary64 v f) ∙ h)

value : (v : Float) → T (fits binary64 v) → float_is_finite v ≡ true → HasValue v (leb 9223372036854775808 (to_bits binary64 v)) (count_in (to_bits binary64 v % 9223372036854775808)) (2 ^ 1074)
value v f h =
    let b = to_bits binary64 v in
    let P : Float → Type 0 = λ x. HasValue x (leb 9223372036854775808 b) (count_in (b % 9223372036854775808)) (2 ^ 1074) in
    subst P (of_bits-to_bits binary64 v f) (read b (finite_read v f h))

pub low_pattern : (x : Float) → T (fits binary64 x) → false ≡ is_nan x → false ≡ float_is_infinite x → to_bits binary64 x % 9223372036854775808 < 9218868437227405312
unfolding is_nan float_is_infinite float_is_finite
low_pattern nan f a b = absurd (both_ways true (sym a) refl)
low_pattern (inf s) f a b = absurd (both_ways true (sym b) refl)
low_pattern (fin s m e) f a b = finite_read (fin s m e) f refl

-- zero is equal to zero
some_units : (t : Bool) (n : ℕ) (d : ℤ) → eq (fin t n d) (fin false 0 (pos 0)) ≡ false → 0 < n
unfolding eq
some_units t zero d h = absurd (both_ways _ h (let z : level t (0 * up d * 1) false (0 * 1 * down d) ≡ true = (λ i. level t (zero-mul (up d) i * 1) false (zero-mul (down d) i)) ∙ elim t as (λ u. level u 0 false 0 ≡ true) [ true ↦ refl | false ↦ refl ] in z))
some_units t (suc n) d h = omega arith

positive_count : (s t : Bool) (n : ℕ) (d : ℤ) (c : ℕ) → HasValue (fin t n d) s (count_in c) (2 ^ 1074) → 0 < n → 0 < c
positive_count s t n d zero h p =
    let e : n * up d * 2 ^ 1074 ≡ 0 * down d = h.1 in
    let q : 0 < n * up d * 2 ^ 1074 = mul-pos (mul-pos p (up_pos d)) (pow_pos 1074) in
    absurd (omega (arith, e, q, zero-mul (down d)))
positive_count s t n d (suc c) h p = omega arith

pub positive_pattern : (y : Float) → T (fits binary64 y) → false ≡ is_nan y → false ≡ float_is_infinite y → eq y (fin false 0 (pos 0)) ≡ false → 0 < to_bits binary64 y % 9223372036854775808
unfolding is_nan float_is_infinite float_is_finite
positive_pattern nan f a b h = absurd (both_ways true (sym a) refl)
positive_pattern (inf s) f a b h = absurd (both_ways true (sym b) refl)
positive_pattern (fin t n d) f a b h = positive_count _ t n d _ (value (fin t n d) f refl) (some_units t n d h)

same_sign : (b p : ℕ) → b < 18446744073709551616 → p < 9223372036854775808 → leb 9223372036854775808 (b - b % 9223372036854775808 + p) ≡ leb 9223372036854775808 b
same_sign b p h l =
    ⊎_elim
    (λ lo. lt-leb 9223372036854775808 (b - b % 9223372036854775808 + p) (omega arith) ∙ sym (lt-leb 9223372036854775808 b lo))
    (λ hi. le-leb 9223372036854775808 (b - b % 9223372036854775808 + p) (omega arith) ∙ sym (le-leb 9223372036854775808 b hi))
    (cases_lt b 9223372036854775808)

pub remaining : (x y : Float) → T (fits binary64 x) → T (fits binary64 y) → false ≡ is_nan x → false ≡ float_is_infinite x → false ≡ is_nan y → false ≡ float_is_infinite y → eq y (fin false 0 (pos 0)) ≡ false
    → (p : ℕ) → p < 9218868437227405312 → count_in p ≡ count_in (to_bits binary64 x % 9223372036854775808) % count_in (to_bits binary64 y % 9223372036854775808)
    → of_bits binary64 (to_bits binary64 x - to_bits binary64 x % 9223372036854775808 + p) ≡ rem binary64 x y
unfolding is_nan float_is_infinite float_is_finite
remaining nan y f g a b c d h p l is = absurd (both_ways true (sym a) refl)
remaining (inf s) y f g a b c d h p l is = absurd (both_ways true (sym b) refl)
remaining (fin s m e) nan f g a b c d h p l is = absurd (both_ways true (sym c) refl)
remaining (fin s m e) (inf t) f g a b c d h p l is = absurd (both_ways true (sym d) refl)
remaining (fin s m e) (fin t n k) f g a b c d h p l is =
    let x = fin s m e in
    let y = fin t n k in
    let B = to_bits binary64 x in
    let X = count_in (B % 9223372036854775808) in
    let Y = count_in (to_bits binary64 y % 9223372036854775808) in
    let r = B - B % 9223372036854775808 + p in
    let vx : HasValue (fin s m e) (leb 9223372036854775808 B) X (2 ^ 1074) = value x f refl in
    let vy : HasValue (fin t n k) (leb 9223372036854775808 (to_bits binary64 y)) Y (2 ^ 1074) = value y g refl in
    let q = positive_pattern y g c d h in
    let y_pos : 0 < Y = mul-pos (significand_positive (to_bits binary64 y % 9223372036854775808) q) (pow_pos (exponent_in (to_bits binary64 y % 9223372036854775808))) in
    let away : HasValue (rem binary64 x y) s (X % Y) (2 ^ 1074) = remains s t m n e k X Y p (refl, vx.1) (refl, vy.1) (some_units t n k h) y_pos l is in
    let low : r % 9223372036854775808 ≡ p = omega arith in
    let sign : leb 9223372036854775808 r ≡ s = same_sign B p (to_bits-lt binary64 x f) (omega arith) ∙ sym vx.0 in
    let got : HasValue (of_bits binary64 r) s (X % Y) (2 ^ 1074) =
    subst (λ z. HasValue (of_bits binary64 r) z (X % Y) (2 ^ 1074)) sign
    (subst (λ z. HasValue (of_bits binary64 r) (leb 9223372036854775808 r) z (2 ^ 1074)) (ap count_in low ∙ is)
    (read r (omega (arith, low, l)))) in
    unique (of_bits binary64 r) (rem binary64 x y) s (X % Y) (of_bits-fits binary64 r) (rem-fits binary64 x y f) got away

pub no_nan : (b p : ℕ) → b < 18446744073709551616 → p < 9218868437227405312 → T (not (nan_bits binary64 (b - b % 9223372036854775808 + p)))
no_nan b p h l =
    let r = b - b % 9223372036854775808 + p in
    let low : r % 9223372036854775808 ≡ p = omega arith in
    subst (λ (z : Bool). T (not z)) (sym (nan_bits_above binary64 r ∙ le-ltb _ _ (omega (arith, low, l)))) tt

-- ---- where one of the two is no finite number, or the second is zero

pub nan_nan : of_bits binary64 9221120237041090560 ≡ nan
unfolding of_bits
nan_nan = refl

pub of_nan_left : (x y : Float) → true ≡ is_nan x → of_bits binary64 9221120237041090560 ≡ rem binary64 x y
unfolding is_nan rem
of_nan_left nan y h = nan_nan
of_nan_left (inf s) y h = absurd (both_ways true h refl)
of_nan_left (fin s m e) y h = absurd (both_ways true h refl)

pub of_nan_right : (x y : Float) → true ≡ is_nan y → of_bits binary64 9221120237041090560 ≡ rem binary64 x y
unfolding is_nan rem
of_nan_right nan y h = nan_nan
of_nan_right (inf s) y h = nan_nan
of_nan_right (fin s m e) nan h = nan_nan
of_nan_right (fin s m e) (inf t) h = absurd (both_ways true h refl)
of_nan_right (fin s m e) (fin t n d) h = absurd (both_ways true h refl)

pub of_infinite : (x y : Float) → true ≡ float_is_infinite x → of_bits binary64 9221120237041090560 ≡ rem binary64 x y
unfolding float_is_infinite rem
of_infinite nan y h = nan_nan
of_infinite (inf s) y h = nan_nan
of_infinite (fin s m e) y h = absurd (both_ways true h refl)

zero_divisor : (n : ℕ) (d : ℤ) (t : Bool) → eq (fin t n d) (fin false 0 (pos 0)) ≡ true → eqb n 0 ≡ true
unfolding eq
zero_divisor zero d t h = refl
zero_divisor (suc n) d t h =
    let z : 0 * 1 * down d ≡ 0 = zero-mul (down d) in
    let some : 0 < suc n * up d * 1 = mul-pos (mul-pos (omega arith) (up_pos d)) (omega arith) in
    absurd (both_ways (eqb (suc n * up d * 1) (0 * 1 * down d)) (ne_eqb (suc n * up d * 1) (0 * 1 * down d) (λ q. omega (arith, q, z, some))) ((and_parts _ _ h).0))

pub of_zero : (x y : Float) → false ≡ float_is_infinite x → eq y (fin false 0 (pos 0)) ≡ true → of_bits binary64 9221120237041090560 ≡ rem binary64 x y
unfolding float_is_infinite rem eq
of_zero nan y a h = nan_nan
of_zero (inf s) y a h = nan_nan
of_zero (fin s m e) nan a h = nan_nan
of_zero (fin s m e) (inf t) a h = absurd (both_ways false refl h)
of_zero (fin s m e) (fin t n d) a h = nan_nan ∙ sym (ap (λ b. cond b nan (round binary64 s (m * up e * down d % (n * up d * down e)) (down e * down d))) (zero_divisor n d t h))

pub kept : (x y : Float) → false ≡ is_nan x → false ≡ float_is_infinite x → true ≡ float_is_infinite y → x ≡ rem binary64 x y
unfolding is_nan float_is_infinite rem
kept nan y a b c = absurd (both_ways true (sym a) refl)
kept (inf s) y a b c = absurd (both_ways true (sym b) refl)
kept (fin s m e) nan a b c = absurd (both_ways true c refl)
kept (fin s m e) (inf t) a b c = refl
kept (fin s m e) (fin t n d) a b c = absurd (both_ways true c refl)
