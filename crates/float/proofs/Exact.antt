-- The tolerance over counts: the rounded quotient of two floats is at most 2 ^ -52 exactly where 2 ^ 52 of the first are at
-- most the second. Two floats have at most 53 digits, so a quotient above 2 ^ -52 is above the middle to the next float.
use Rattle.std.proofs.Common.{◌≡◌, ℕ, zero, suc, ◌+◌, ◌-◌, ◌*◌, ◌%◌, ◌^◌, ◌<◌, ◌≤◌, Bool, true, false, cond, not, ◌&&◌, ◌||◌, T, eqb, ltb, leb, ◌⊎◌, ℤ, pos, negsuc, sym, refl, ap, ◌∙◌, subst, inl, inr, le_trans, le_of_eq, lt_of_le_of_lt, lt_of_lt_of_le, lt_irrefl, mul-le-mul_right, mul_assoc, mul_comm, lt_of_mul-lt-mul_right, mul-pos, one-mul, zero-mul, mul-one, mul_right_comm, arith, lit<, lit≤, eqb→eq, ltb→lt, leb→le, pow_pos, pow-add}
use lib.Dec.{eqb-suc-zero}
use lib.Pow.{pow-lt}
use lib.Ieee.{Float, nan, inf, fin, binary64, neg, add, sum, sub, mul, div, lt, le, eq, fits, round, up, down, is_nan, unlike, level, below}
use lib.Ieee.Fits.{up_pos, down_pos, and_l, and_r, sub-fits}
use lib.Ieee.Order.{round_mono}
use lib.Ieee.Positive.{first_pos, positive, between, le_trans_positive}
use lib.Ieee.Scale.{round_same}
use Rattle.std.specs.Float.{float_is_finite, float_is_infinite, float_with_sign, float_max, float_zero as zero-float}
use Rattle.std.proofs.lemmas.Bool.{true≢false, false≢true, cases_lt, ltb-false}
use Rattle.order.specs.declared.traits.Order.TheVariants.{Equal}
use Rattle.order.specs.Orders.{ranked, order_number}
use Rattle.float.specs.Tolerance.{by_float, by_ieee, unscaled, divisor, close, size, epsilon, difference}
use Rattle.float.specs.Exactly.{count, Within, Exact}
use Rattle.float.specs.Exchange.{unscaled_exchange, round_size}

-- ---- what a float that fits has: few digits, and no exponent below the lowest
pub record Fine (m : ℕ) (e : ℤ) : Type 0 where
  pub few : m < 2 ^ 53
  pub deep : down e ≤ 2 ^ 1074

one_of : (u d : ℕ) → 0 < u → u * d ≡ 1 → d ≤ 1
one_of u d h e = le_trans (le_trans (le_of_eq (sym (one-mul d))) (mul-le-mul_right d h)) (le_of_eq e)

pub fine : (s : Bool) (m : ℕ) (e : ℤ) → T (fits binary64 (fin s m e)) → Fine m e
unfolding fits
fine s zero e t = record { few = lit< tt; deep = le_trans (one_of (up e) (down e) (up_pos e) (eqb→eq (up e * down e) 1 t)) (pow_pos 1074) }
fine s (suc m) e t =
    let w = and_l ((eqb (suc m % 2) 1 && ltb (suc m) (2 ^ 53)) && leb (down e) (2 ^ 1074)) (ltb (suc m * up e) (2 ^ suc 1023 * down e)) t in
    record {
      few = ltb→lt (suc m) (2 ^ 53) (and_r (eqb (suc m % 2) 1) (ltb (suc m) (2 ^ 53)) (and_l (eqb (suc m % 2) 1 && ltb (suc m) (2 ^ 53)) (leb (down e) (2 ^ 1074)) w));
      deep = leb→le (down e) (2 ^ 1074) (and_r (eqb (suc m % 2) 1 && ltb (suc m) (2 ^ 53)) (leb (down e) (2 ^ 1074)) w);
    }

-- ---- counts
abbrev shift : ℤ → ℕ
shift (pos k) = k + 1074
shift (negsuc k) = 1074 - suc k

count_shift : (s : Bool) (m : ℕ) (e : ℤ) → count (fin s m e) ≡ m * 2 ^ shift e
count_shift s m (pos k) = refl
count_shift s m (negsuc k) = refl

pub count_is : (s : Bool) (m : ℕ) (e : ℤ) → down e ≤ 2 ^ 1074 → count (fin s m e) * down e ≡ m * up e * 2 ^ 1074
count_is s m (pos k) h = mul-one (m * 2 ^ (k + 1074)) ∙ ap (λ p. m * p) (pow-add 2 k 1074) ∙ sym (mul_assoc m (2 ^ k) (2 ^ 1074))
count_is s m (negsuc k) h =
    let le : suc k ≤ 1074 = elim (cases_lt 1074 (suc k)) [ inl b ↦ absurd (lt_irrefl (2 ^ suc k) (lt_of_le_of_lt h (pow-lt b))) | inr b ↦ b ] in
    let back : 1074 ≡ (1074 - suc k) + suc k = omega arith in
    mul_assoc m (2 ^ (1074 - suc k)) (2 ^ suc k)
    ∙ ap (λ p. m * p) (sym (pow-add 2 (1074 - suc k) (suc k)) ∙ ap (λ j. 2 ^ j) (sym back))
    ∙ ap (λ p. p * 2 ^ 1074) (sym (mul-one m))

count_pos : (n : ℕ) (d : ℤ) → down d ≤ 2 ^ 1074 → 0 < count (fin false (suc n) d)
count_pos n d h = first_pos (count (fin false (suc n) d)) (down d) (subst (λ v. 0 < v) (sym (count_is false (suc n) d h)) (mul-pos (mul-pos (omega arith) (up_pos d)) (pow_pos 1074)))

-- ---- the quotient of two floats is that of their counts
cross : (a b v M N R L : ℕ) → a * L ≡ R * b → M * v ≡ N * L → a * v * M ≡ R * (N * b)
cross a b v M N R L p q =
    mul_assoc a v M ∙ ap (λ w. a * w) (mul_comm v M ∙ q ∙ mul_comm N L) ∙ sym (mul_assoc a L N) ∙ ap (λ w. w * N) p ∙ mul_assoc R b N ∙ ap (λ w. R * w) (mul_comm b N)

divided : (m : ℕ) (e : ℤ) (n : ℕ) (d : ℤ) → down e ≤ 2 ^ 1074 → down d ≤ 2 ^ 1074 → div binary64 (fin false m e) (fin false (suc n) d) ≡ round binary64 false (count (fin false m e)) (count (fin false (suc n) d))
unfolding div
divided m e n d g h =
    let M = count (fin false (suc n) d) in
    rw (eqb-suc-zero n)
    (round_same binary64 false (m * up e * down d) (suc n * up d * down e) (count (fin false m e)) M (mul-pos (mul-pos (omega arith) (up_pos d)) (down_pos e)) (count_pos n d h)
    (cross (m * up e) (down e) (down d) M (suc n * up d) (count (fin false m e)) (2 ^ 1074) (sym (count_is false m e g)) (count_is false (suc n) d h)))

-- ---- the quotient beside 2 ^ -52
epsilon_is : round binary64 false 1 (2 ^ 52) ≡ epsilon
unfolding round
epsilon_is = refl

-- the least quotient above it, 2 ^ 53 / (2 ^ 53 - 1) of it, rounds to the next float
next_is : round binary64 false (2 ^ 53) ((2 ^ 53 - 1) * 2 ^ 52) ≡ fin false 0x10000000000001 (negsuc 103)
unfolding round
next_is = refl

above_epsilon : T (le (fin false 0x10000000000001 (negsuc 103)) epsilon) → ⊥
unfolding le
above_epsilon t = t

at_most : (R M : ℕ) → 0 < M → R * 2 ^ 52 ≤ M → T (le (round binary64 false R M) epsilon)
at_most R M p h = subst (λ v. T (le (round binary64 false R M) v)) epsilon_is (round_mono binary64 R M 1 (2 ^ 52) p (pow_pos 52) (le_trans h (le_of_eq (sym (one-mul M)))))

not_at_most : (R M : ℕ) → 0 < M → 2 ^ 53 * M ≤ R * ((2 ^ 53 - 1) * 2 ^ 52) → T (le (round binary64 false R M) epsilon) → ⊥
not_at_most R M p h t =
    let q = round binary64 false R M in
    let lo : T (le (fin false 0x10000000000001 (negsuc 103)) q) = subst (λ v. T (le v q)) next_is (round_mono binary64 (2 ^ 53) ((2 ^ 53 - 1) * 2 ^ 52) R M (lit< tt) p h) in
    let mid : T (positive q) = between (fin false 0x10000000000001 (negsuc 103)) q epsilon tt tt lo t in
    above_epsilon (le_trans_positive (fin false 0x10000000000001 (negsuc 103)) q epsilon tt mid tt lo t)

-- ---- two floats have few digits: what is above is above by a part in 2 ^ 53
apart : (p q : ℕ) → p < q → p < 2 ^ 53 → 2 ^ 53 * p ≤ q * (2 ^ 53 - 1)
apart p q h k = omega arith

scaled : (p q n : ℕ) → p * 2 ^ n < q * 2 ^ n → p < 2 ^ 53 → 2 ^ 53 * (p * 2 ^ n) ≤ q * 2 ^ n * (2 ^ 53 - 1)
scaled p q n h k =
    le_trans (le_of_eq (sym (mul_assoc (2 ^ 53) p (2 ^ n))))
    (le_trans (mul-le-mul_right (2 ^ n) (apart p q (lt_of_mul-lt-mul_right (2 ^ n) h) k)) (le_of_eq (mul_right_comm q (2 ^ 53 - 1) (2 ^ n))))

split : (m i k c : ℕ) → k ≡ i + c → m * 2 ^ k ≡ m * 2 ^ i * 2 ^ c
split m i k c e = ap (λ n. m * 2 ^ n) e ∙ ap (λ p. m * p) (pow-add 2 i c) ∙ sym (mul_assoc m (2 ^ i) (2 ^ c))

grows : (r n : ℕ) → r ≤ r * 2 ^ n
grows r n = le_trans (le_of_eq (sym (mul-one r))) (le_trans (le_of_eq (mul_comm r 1)) (le_trans (mul-le-mul_right r (pow_pos n)) (le_of_eq (mul_comm (2 ^ n) r))))

gap : (r j m k : ℕ) → r < 2 ^ 53 → m < 2 ^ 53 → m * 2 ^ k < r * 2 ^ j * 2 ^ 52 → 2 ^ 53 * (m * 2 ^ k) ≤ r * 2 ^ j * ((2 ^ 53 - 1) * 2 ^ 52)
gap r j m k a b h =
    let c = j + 52 in
    let whole : r * 2 ^ j * 2 ^ 52 ≡ r * 2 ^ c = sym (split r j c 52 refl) in
    let lt : m * 2 ^ k < r * 2 ^ c = subst (λ v. m * 2 ^ k < v) whole h in
    let done : r * 2 ^ c * (2 ^ 53 - 1) ≡ r * 2 ^ j * ((2 ^ 53 - 1) * 2 ^ 52) = ap (λ v. v * (2 ^ 53 - 1)) (sym whole) ∙ mul_right_comm (r * 2 ^ j) (2 ^ 52) (2 ^ 53 - 1) ∙ mul_assoc (r * 2 ^ j) (2 ^ 53 - 1) (2 ^ 52) in
    elim (cases_lt c k) [
      | inl l ↦
          let i = k - c in
          let e = split m i k c (omega arith) in
          let lt' : m * 2 ^ i * 2 ^ c < r * 2 ^ c = subst (λ v. v < r * 2 ^ c) e lt in
          let p : m * 2 ^ i < r = lt_of_mul-lt-mul_right (2 ^ c) lt' in
          le_trans (le_of_eq (ap (λ v. 2 ^ 53 * v) e)) (le_trans (scaled (m * 2 ^ i) r c lt' (omega arith)) (le_of_eq done))
      | inr g ↦
          let i = c - k in
          let e = split r i c k (omega arith) in
          le_trans (scaled m (r * 2 ^ i) k (subst (λ v. m * 2 ^ k < v) e lt) b) (le_of_eq (ap (λ v. v * (2 ^ 53 - 1)) (sym e) ∙ done))
    ]

-- ---- a quotient of two floats that fit
module _ (m : ℕ) (e : ℤ) (n : ℕ) (d : ℤ) (x : Fine m e) (y : Fine (suc n) d) where
  quotient_close : count (fin false m e) * 2 ^ 52 ≤ count (fin false (suc n) d) → T (le (div binary64 (fin false m e) (fin false (suc n) d)) epsilon)
  quotient_close h = subst (λ q. T (le q epsilon)) (sym (divided m e n d x.deep y.deep)) (at_most _ _ (count_pos n d y.deep) h)

  quotient_apart : count (fin false (suc n) d) < count (fin false m e) * 2 ^ 52 → T (le (div binary64 (fin false m e) (fin false (suc n) d)) epsilon) → ⊥
  quotient_apart h t =
      let M = count (fin false (suc n) d) in
      let R = count (fin false m e) in
      let p = count_shift false m e in
      let q = count_shift false (suc n) d in
      let lt : suc n * 2 ^ shift d < m * 2 ^ shift e * 2 ^ 52 = subst (λ v. v < m * 2 ^ shift e * 2 ^ 52) q (subst (λ v. M < v * 2 ^ 52) p h) in
      let g = gap m (shift e) (suc n) (shift d) x.few y.few lt in
      not_at_most R M (count_pos n d y.deep) (subst (λ v. 2 ^ 53 * v ≤ R * ((2 ^ 53 - 1) * 2 ^ 52)) (sym q) (subst (λ v. 2 ^ 53 * (suc n * 2 ^ shift d) ≤ v * ((2 ^ 53 - 1) * 2 ^ 52)) (sym p) g))
      (subst (λ v. T (le v epsilon)) (divided m e n d x.deep y.deep) t)

-- ---- the divisor is a number above zero that fits
pub level_zero : (s : Bool) (a b : ℕ) → a ≡ 0 → b ≡ 0 → level s a false b ≡ true
level_zero true a b p q = rw (p, q) refl
level_zero false a b p q = rw (p, q) refl

zero_is : (s : Bool) (e : ℤ) → eq (fin s 0 e) zero-float ≡ true
unfolding eq
zero_is s e = level_zero s (0 * up e * 1) (0 * down e) (mul-one (0 * up e) ∙ zero-mul (up e)) (zero-mul (down e))

round_none : (s : Bool) → round binary64 s 0 1 ≡ fin s 0 (pos 0)
unfolding round
round_none s = refl

round_zero : (s : Bool) (c : ℕ) → 0 < c → round binary64 s 0 c ≡ fin s 0 (pos 0)
round_zero s c h = round_same binary64 s 0 c 0 1 h (pow_pos 0) (zero-mul 1 ∙ sym (zero-mul c)) ∙ round_none s

zero_unscaled : (s : Bool) (e : ℤ) (t : Bool) (n : ℕ) (d : ℤ) → unscaled (fin s 0 e) (fin t n d) ≡ true
unfolding mul
zero_unscaled s e t n d =
    ap (λ v. eq (round binary64 (unlike s t) v (down e * down d)) zero-float) (ap (λ v. v * (n * up d)) (zero-mul (up e)) ∙ zero-mul (n * up d))
    ∙ ap (λ z. eq z zero-float) (round_zero (unlike s t) (down e * down d) (mul-pos (down_pos e) (down_pos d)))
    ∙ zero_is (unlike s t) (pos 0)

record Divisor (z : Float) : Type 0 where
  digits : ℕ
  power : ℤ
  is : z ≡ fin false (suc digits) power
  ok : Fine (suc digits) power

picked : (b : Bool) (x y : Float) → (cond b x y ≡ x) ⊎ (cond b x y ≡ y)
picked true x y = inl refl
picked false x y = inr refl

divisor_of : (s : Bool) (m : ℕ) (e : ℤ) (t : Bool) (n : ℕ) (d : ℤ) → Fine m e → Fine n d → (b : Bool) → unscaled (fin s m e) (fin t n d) ≡ b → Divisor (divisor (fin s m e) (fin t n d))
unfolding float_with_sign
divisor_of s m e t n d f g true b = record { digits = 0; power = pos 0; is = rw b refl; ok = record { few = lit< tt; deep = lit≤ tt } }
divisor_of s zero e t n d f g false b = absurd (false≢true (sym b ∙ zero_unscaled s e t n d))
divisor_of s (suc m) e t zero d f g false b = absurd (false≢true (sym b ∙ unscaled_exchange (fin s (suc m) e) (fin t 0 d) ∙ zero_unscaled t d s (suc m) e))
divisor_of s (suc m) e t (suc n) d f g false b =
    let x = fin false (suc m) e in
    let y = fin false (suc n) d in
    let same : divisor (fin s (suc m) e) (fin t (suc n) d) ≡ float_max x y = rw b refl in
    elim (picked (le y x || is_nan y) x y) [
      | inl w ↦ record { digits = m; power = e; is = same ∙ w; ok = f }
      | inr w ↦ record { digits = n; power = d; is = same ∙ w; ok = g }
    ]

-- ---- the answer
pub is_true : (b : Bool) → T b → b ≡ true
is_true true t = refl
is_true false t = absurd t

pub is_false : (b : Bool) → (T b → ⊥) → b ≡ false
is_false true h = absurd (h tt)
is_false false h = refl

no_number : (n : ℕ) (d : ℤ) (z : Float) → float_is_finite z ≡ false → T (le (div binary64 (size z) (fin false (suc n) d)) epsilon) → ⊥
unfolding float_is_finite float_with_sign div le
no_number n d nan h t = t
no_number n d (inf s) h t = t
no_number n d (fin s m e) h t = true≢false h

-- the rounded difference z beside the divisor v
near : (z v : Float) → T (fits binary64 z) → Divisor v → float_is_finite (size z) ≡ true → count (size z) * 2 ^ 52 ≤ count v → le (div binary64 (size z) v) epsilon ≡ true
unfolding float_is_finite float_with_sign
near nan v f D h k = absurd (false≢true h)
near (inf s) v f D h k = absurd (false≢true h)
near (fin s m e) v f D h k =
    is_true _ (subst (λ w. T (le (div binary64 (fin false m e) w) epsilon)) (sym D.is)
    (quotient_close m e D.digits D.power (fine s m e f) D.ok (subst (λ w. count (fin false m e) * 2 ^ 52 ≤ count w) D.is k)))

far : (z v : Float) → T (fits binary64 z) → Divisor v → (((float_is_finite (size z) ≡ true) × (count (size z) * 2 ^ 52 ≤ count v)) → ⊥) → le (div binary64 (size z) v) epsilon ≡ false
unfolding float_is_finite float_with_sign
far nan v f D h = is_false _ (λ t. no_number D.digits D.power nan refl (subst (λ w. T (le (div binary64 nan w) epsilon)) D.is t))
far (inf s) v f D h = is_false _ (λ t. no_number D.digits D.power (inf false) refl (subst (λ w. T (le (div binary64 (inf false) w) epsilon)) D.is t))
far (fin s m e) v f D h =
    is_false _ (λ t. quotient_apart m e D.digits D.power (fine s m e f) D.ok
    (elim (cases_lt (count v) (count (fin false m e) * 2 ^ 52)) [
      | inl l ↦ subst (λ w. count w < count (fin false m e) * 2 ^ 52) D.is l
      | inr g ↦ absurd (h (refl, g))
    ])
    (subst (λ w. T (le (div binary64 (fin false m e) w) epsilon)) D.is t))

-- ---- of two that IEEE's order calls equal neither is below the other, and their difference is a zero
neither : (a b : Bool) → ranked a b ≡ Equal → (a ≡ false) × (b ≡ false)
neither true b h = absurd (omega (arith, ap order_number h))
neither false true h = absurd (omega (arith, ap order_number h))
neither false false h = (refl, refl)

rounds_to_zero : (s : Bool) (n c : ℕ) → 0 < c → n ≡ 0 → size (round binary64 s n c) ≡ fin false 0 (pos 0)
rounds_to_zero s n c h p = round_size binary64 s n c ∙ ap (λ v. round binary64 false v c) p ∙ round_zero false c h

no_gap :
    (s t : Bool) (a b c : ℕ) → 0 < c → ltb a b ≡ false → ltb b a ≡ false
    → size (cond (ltb a b) (round binary64 t (b - a) c) (round binary64 s (a - b) c)) ≡ fin false 0 (pos 0)
no_gap s t a b c h p q = rw p (rounds_to_zero s (a - b) c h (omega (arith, ltb-false b a q)))

no_sum :
    (s : Bool) (a : ℕ) (t : Bool) (b c : ℕ) → 0 < c → below s a t b ≡ false → below t b s a ≡ false
    → size (sum binary64 s a (not t) b c) ≡ fin false 0 (pos 0)
unfolding sum
no_sum true a true b c h p q = no_gap _ _ a b c h q p
no_sum true a false b c h p q = rounds_to_zero true (a + b) c h (omega (arith, ltb-false 0 (a + b) p))
no_sum false a true b c h p q = rounds_to_zero false (a + b) c h (omega (arith, ltb-false 0 (b + a) q))
no_sum false a false b c h p q = no_gap _ _ a b c h p q

no_difference :
    (s : Bool) (m : ℕ) (e : ℤ) (t : Bool) (n : ℕ) (d : ℤ) → by_ieee (fin s m e) (fin t n d) ≡ Equal
    → difference (fin s m e) (fin t n d) ≡ fin false 0 (pos 0)
unfolding sub add neg lt
no_difference s m e t n d h =
    let w = neither _ _ h in
    no_sum s (m * up e * down d) t (n * up d * down e) (down e * down d) (mul-pos (down_pos e) (down_pos d)) w.0 w.1

zero_near : (z : Float) (M : ℕ) → z ≡ fin false 0 (pos 0) → (float_is_finite z ≡ true) × (count z * 2 ^ 52 ≤ M)
unfolding float_is_finite
zero_near z M h =
    (rw h refl, rw h (le_trans (le_of_eq (ap (λ v. v * 2 ^ 52) (zero-mul (2 ^ 1074)) ∙ zero-mul (2 ^ 52))) (omega arith)))

-- it is within or it is not: a test of a bool and of two counts
within_or_not : (b : Bool) (p q : ℕ) → ((b ≡ true) × (p ≤ q)) ⊎ (((b ≡ true) × (p ≤ q)) → ⊥)
within_or_not false p q = inr (λ w. false≢true w.0)
within_or_not true p q = elim (cases_lt q p) [ inl l ↦ inr (λ w. lt_irrefl q (lt_of_lt_of_le l w.1)) | inr g ↦ inl (refl, g) ]

-- ---- all three of the tolerance
pub exact : (x y : Float) → T (fits binary64 x) → T (fits binary64 y) → Exact x y (by_float x y)
unfolding float_is_finite is_nan float_is_infinite
exact nan y f g p q = absurd (false≢true p)
exact (inf s) y f g p q = absurd (false≢true p)
exact (fin s m e) nan f g p q = absurd (false≢true q)
exact (fin s m e) (inf t) f g p q = absurd (false≢true q)
exact (fin s m e) (fin t n d) f g p q =
    let x = fin s m e in
    let y = fin t n d in
    let D = divisor_of s m e t n d (fine s m e f) (fine t n d g) _ refl in
    let z = sub binary64 x y in
    let r = difference x y in
    let answer : (b : Bool) → close x y ≡ b → cond (close x y) Equal (by_ieee x y) ≡ cond b Equal (by_ieee x y) = λ b e. ap (λ v. cond v Equal (by_ieee x y)) e in
    let apart : (Within x y → ⊥) → cond (close x y) Equal (by_ieee x y) ≡ by_ieee x y =
    λ w. answer false (far z (divisor x y) (sub-fits binary64 x y) D w) in
    let only : cond (close x y) Equal (by_ieee x y) ≡ Equal → Within x y =
    λ h. elim (within_or_not (float_is_finite r) (count r * 2 ^ 52) (count (divisor x y))) [
      | inl w ↦ w
      | inr w ↦ zero_near r (count (divisor x y)) (no_difference s m e t n d (sym (apart w) ∙ h))
    ] in
    (λ w. answer true (near z (divisor x y) (sub-fits binary64 x y) D w.0 w.1), apart, only)
