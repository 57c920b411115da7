use Rattle.std.proofs.Common.{◌≡◌, ℕ, suc, ◌+◌, ◌-◌, ◌*◌, ◌%◌, ◌^◌, ◌<◌, ◌≤◌, true, ℤ, pos, negsuc, ◌+ℤ◌, ◌*ℤ◌, neg_ℤ, nat_abs, Some, None, Option, unwrap_or, sym, refl, ap, ◌∙◌, mul_assoc, mul_comm, add-mul, arith, pow_pos, pow_mono, pow-add, w64, SFits, to_z, of_z, ltb-true}
use native.Mathlib.Nat.{mul-mod_left, div-eq_of_lt}
use lib.Signed.{shr_z, lt_z}
use Rattle.std.proofs.lemmas.Bool.{false≢true}
use Rattle.whole.specs.Whole.{shifted_left, shifted_right}
use Rattle.std.specs.Option.{SomeIff}
use Rattle.std.specs.Int.{int_wrap}
use Rattle.std.proofs.lemmas.Int.{int_rem_euclid_is, ints}

-- -p + q, for a p up to q
less : (p q r : ℕ) → p + r ≡ q → neg_ℤ (pos p) +ℤ pos q ≡ pos r
less p q r h = omega (arith, ints)

pub left_small : (x : ℤ) (n : ℕ) → SFits w64 x → to_z w64 ((of_z w64 x * 2 ^ n) % 2 ^ 64) ≡ int_wrap w64 (x *ℤ pos (2 ^ n))
unfolding int_wrap
left_small (pos a) n f = refl
left_small (negsuc a) n f =
    let all : suc a + (2 ^ 64 - suc a) ≡ 2 ^ 64 = omega arith in
    ap (λ r. to_z w64 (nat_abs r))
    (sym (int_rem_euclid_is (negsuc a *ℤ pos (2 ^ n)) (pos (2 ^ 64)) (2 ^ 64) (2 ^ n) ((2 ^ 64 - suc a) * 2 ^ n) (pow_pos 64) refl
    (less (suc a * 2 ^ n) (2 ^ n * 2 ^ 64) ((2 ^ 64 - suc a) * 2 ^ n) (sym (add-mul (suc a) (2 ^ 64 - suc a) (2 ^ n)) ∙ ap (λ t. t * 2 ^ n) all ∙ mul_comm (2 ^ 64) (2 ^ n)))))

-- from 64 on, 2 ^ n is a multiple of 2 ^ 64
multiple : (a n : ℕ) → 64 ≤ n → a * 2 ^ n ≡ a * 2 ^ (n - 64) * 2 ^ 64
multiple a n h =
    let e : n ≡ (n - 64) + 64 = omega arith in
    ap (λ k. a * 2 ^ k) e ∙ ap (λ k. a * k) (pow-add 2 (n - 64) 64) ∙ sym (mul_assoc a (2 ^ (n - 64)) (2 ^ 64))

pub left_large : (x : ℤ) (n : ℕ) → 64 ≤ n → int_wrap w64 (x *ℤ pos (2 ^ n)) ≡ pos 0
unfolding int_wrap
left_large (pos a) n h = ap (to_z w64) (ap (λ k. k % 2 ^ 64) (multiple a n h) ∙ mul-mod_left (a * 2 ^ (n - 64)) (2 ^ 64))
left_large (negsuc a) n h =
    ap (λ r. to_z w64 (nat_abs r))
    (int_rem_euclid_is (negsuc a *ℤ pos (2 ^ n)) (pos (2 ^ 64)) (2 ^ 64) (suc a * 2 ^ (n - 64)) 0 (pow_pos 64) refl
    (less (suc a * 2 ^ n) (suc a * 2 ^ (n - 64) * 2 ^ 64) 0 (let e = multiple (suc a) n h in omega arith)))

pub right_large : (x : ℤ) (n : ℕ) → SFits w64 x → 63 ≤ n → shr_z x (2 ^ 63) ≡ shr_z x (2 ^ n)
right_large (pos a) n f h = let m : 2 ^ 63 ≤ 2 ^ n = pow_mono h in let k : a < 2 ^ 63 = f.sfits in let l : a < 2 ^ n = omega arith in ap pos (div-eq_of_lt k ∙ sym (div-eq_of_lt l))
right_large (negsuc a) n f h = let m : 2 ^ 63 ≤ 2 ^ n = pow_mono h in let k : a < 2 ^ 63 = f.sfits in let l : a < 2 ^ n = omega arith in ap negsuc (div-eq_of_lt k ∙ sym (div-eq_of_lt l))

pub left_either : (x : ℤ) (n : ℕ) (o : Option ℤ) → SFits w64 x → SomeIff o (n < 64) (to_z w64 ((of_z w64 x * 2 ^ n) % 2 ^ 64)) → unwrap_or o (pos 0) ≡ int_wrap w64 (x *ℤ pos (2 ^ n))
left_either x n (Some v) f h = h.1 ∙ left_small x n f
left_either x n None f h = sym (left_large x n (omega (arith, h)))

pub right_either : (x : ℤ) (n : ℕ) (o : Option ℤ) → SFits w64 x → SomeIff o (n < 64) (shr_z x (2 ^ n)) → unwrap_or o (shr_z x (2 ^ 63)) ≡ shr_z x (2 ^ n)
right_either x n (Some v) f h = h.1
right_either x n None f h = right_large x n f (omega (arith, h))

pub beyond_left : (x y : ℤ) → lt_z (pos 4294967295) y ≡ true → pos 0 ≡ shifted_left x y
beyond_left x (pos n) h = sym (left_large x n (omega (arith, ltb-true 4294967295 n h)))
beyond_left x (negsuc n) h = absurd (false≢true h)

pub beyond_right : (x y : ℤ) → SFits w64 x → lt_z (pos 4294967295) y ≡ true → shr_z x (2 ^ 63) ≡ shifted_right x y
beyond_right x (pos n) f h = right_large x n f (omega (arith, ltb-true 4294967295 n h))
beyond_right x (negsuc n) f h = absurd (false≢true h)
