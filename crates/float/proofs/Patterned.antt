-- Patterns of finite magnitudes: the pattern that a significand and a power make, and what is left of one count by another.
use Rattle.std.proofs.Common.{◌≡◌, ℕ, suc, min, ◌+◌, ◌-◌, ◌*◌, ◌/◌, ◌%◌, ◌^◌, ◌<◌, ◌≤◌, ◌⊎◌, inl, inr, sym, ap, ◌∙◌, arith, mul_assoc, mul-le-mul_left, mul-le-mul_right, pow_pos, pow-add}
use native.Mathlib.Nat.{div-add-mod', mod-lt, mod-eq_of_lt, mul-lt-mul_of_pos_right, add-mul}
use Rattle.std.proofs.lemmas.Nat.{mod-mul-add, mul-mod_first, leading_top, shl_below}
use Rattle.std.proofs.lemmas.Bool.{cases_lt}
use lib.Count.{count_leading_zeros}
use lib.Pow.{pow_mono}
use Rattle.float.specs.Patterns.{exponent_in, significand_in, count_in}

pub scaled_mod : (x y c : ℕ) → 0 < y → 0 < c → (x * c) % (y * c) ≡ x % y * c
scaled_mod x y c hy hc =
    let e : x * c ≡ x / y * (y * c) + x % y * c = ap (λ z. z * c) (sym (div-add-mod' x y)) ∙ add-mul (x / y * y) (x % y) c ∙ ap (λ z. z + x % y * c) (mul_assoc (x / y) y c) in
    ap (λ z. z % (y * c)) e ∙ mod-mul-add (x / y) (y * c) (x % y * c) (mul-lt-mul_of_pos_right (mod-lt x hy) hc)

-- j more places
pub more_places : (m n i j k p : ℕ) → p ≡ 2 ^ j → k ≡ i + j → (m * 2 ^ i % n) * p % n ≡ m * 2 ^ k % n
more_places m n i j k p pe ke =
    mul-mod_first (m * 2 ^ i) p n
    ∙ ap (λ z. z % n) (mul_assoc m (2 ^ i) p ∙ ap (λ z. m * z) (ap (λ z. 2 ^ i * z) pe ∙ sym (pow-add 2 i j) ∙ ap (λ z. 2 ^ z) (sym ke)))

-- a significand with its zeros in front shifted out, as far as k places go
pub record Lifted (m k up : ℕ) : Type 0 where
  pub part : up ≤ k
  pub short : m * 2 ^ up < 9007199254740992
  pub whole : m * 2 ^ up % 18446744073709551616 ≡ m * 2 ^ up
  pub leads : (k - up ≡ 0) ⊎ (4503599627370496 ≤ m * 2 ^ up)
  pub count : m * 2 ^ up * 2 ^ (k - up) ≡ m * 2 ^ k

below_53 : (j m : ℕ) → 2 ^ j ≤ m → m < 9007199254740992 → j < 53
below_53 j m l h = elim (cases_lt j 53) [
  | inl k ↦ k
  | inr g ↦ absurd (let p : 2 ^ 53 ≤ 2 ^ j = pow_mono g in omega arith)
]

pub zeros : (m : ℕ) → 0 < m → m < 9007199254740992 → 11 ≤ count_leading_zeros 64 m
zeros m p h =
    let t = leading_top 64 m p (omega arith) in
    let l = below_53 t.0 m t.2 h in
    omega (arith, t.1, l)

pub lifted : (m k up : ℕ) → 0 < m → m < 9007199254740992 → up ≡ min k (count_leading_zeros 64 m - 11) → Lifted m k up
lifted m k up p h e =
    let t = leading_top 64 m p (omega arith) in
    let j = t.0 in
    let l = below_53 j m t.2 h in
    let u : suc j + up ≤ 53 = omega (arith, t.1, l, e) in
    let most : 2 ^ (suc j + up) ≤ 2 ^ 53 = pow_mono u in
    let low : m * 2 ^ up < 2 ^ (suc j + up) = shl_below m (suc j) up t.3 in
    let up_k : up ≤ k = omega (arith, e) in
    record {
      part = up_k;
      short = omega (arith, most, low);
      whole = mod-eq_of_lt (omega (arith, most, low));
      leads = elim (cases_lt (52 - j) k) [
        | inl g ↦
            let f : j + up ≡ 52 = omega (arith, t.1, l, e, g) in
            let q : 2 ^ j * 2 ^ up ≤ m * 2 ^ up = mul-le-mul_right (2 ^ up) t.2 in
            let r : 2 ^ j * 2 ^ up ≡ 4503599627370496 = sym (pow-add 2 j up) ∙ ap (λ z. 2 ^ z) f in
            inr (omega (arith, q, r))
        | inr g ↦ inl (omega (arith, t.1, l, e, g))
      ];
      count = mul_assoc m (2 ^ up) (2 ^ (k - up)) ∙ ap (λ z. m * z) (sym (pow-add 2 up (k - up)) ∙ ap (λ z. 2 ^ z) (let f : up + (k - up) ≡ k = omega (arith, up_k) in f));
    }

pub made_exponent : (m k : ℕ) → m < 9007199254740992 → (k ≡ 0) ⊎ (4503599627370496 ≤ m) → exponent_in (k * 4503599627370496 + m) ≡ k
made_exponent m k h (inl e) = omega arith
made_exponent m k h (inr e) = omega arith

pub made_count : (m k : ℕ) → m < 9007199254740992 → (k ≡ 0) ⊎ (4503599627370496 ≤ m) → count_in (k * 4503599627370496 + m) ≡ m * 2 ^ k
made_count m k h c =
    let b = k * 4503599627370496 + m in
    let s : b - k * 4503599627370496 ≡ m = omega arith in
    ap (λ z. (b - z * 4503599627370496) * 2 ^ z) (made_exponent m k h c) ∙ ap (λ z. z * 2 ^ k) s

pub significand_short : (b : ℕ) → significand_in b < 9007199254740992
significand_short b = omega arith

pub significand_positive : (b : ℕ) → 0 < b → 0 < significand_in b
significand_positive b h = omega arith

leads : (b : ℕ) → 0 < exponent_in b → 4503599627370496 ≤ significand_in b
leads b h = omega arith

pub counts_less : (a b : ℕ) → exponent_in a < exponent_in b → count_in a < count_in b
counts_less a b h =
    let j = exponent_in a in
    let k = exponent_in b in
    let up : 9007199254740992 * 2 ^ j ≡ 4503599627370496 * 2 ^ (1 + j) = mul_assoc 4503599627370496 2 (2 ^ j) ∙ ap (λ z. 4503599627370496 * z) (sym (pow-add 2 1 j)) in
    let low : significand_in a * 2 ^ j < 9007199254740992 * 2 ^ j = mul-lt-mul_of_pos_right (significand_short a) (pow_pos j) in
    let mid : 4503599627370496 * 2 ^ (1 + j) ≤ 4503599627370496 * 2 ^ k = mul-le-mul_left 4503599627370496 (pow_mono (omega arith)) in
    let high : 4503599627370496 * 2 ^ k ≤ significand_in b * 2 ^ k = mul-le-mul_right (2 ^ k) (leads b (omega arith)) in
    omega (arith, low, up, mid, high)

pub none_taken : (a b : ℕ) → exponent_in a < exponent_in b → count_in a ≡ count_in a % count_in b
none_taken a b h = sym (mod-eq_of_lt (counts_less a b h))

pub taken_away : (a b : ℕ) → 0 < b → exponent_in b ≤ exponent_in a → (significand_in a * 2 ^ (exponent_in a - exponent_in b) % significand_in b) * 2 ^ exponent_in b ≡ count_in a % count_in b
taken_away a b h le =
    let j = exponent_in a in
    let k = exponent_in b in
    let e : significand_in a * 2 ^ (j - k) * 2 ^ k ≡ count_in a = mul_assoc (significand_in a) (2 ^ (j - k)) (2 ^ k) ∙ ap (λ z. significand_in a * z) (sym (pow-add 2 (j - k) k) ∙ ap (λ z. 2 ^ z) (let s : j - k + k ≡ j = omega arith in s)) in
    sym (scaled_mod (significand_in a * 2 ^ (j - k)) (significand_in b) (2 ^ k) (significand_positive b h) (pow_pos k))
    ∙ ap (λ z. z % count_in b) e
