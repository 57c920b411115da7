use Rattle.std.proofs.Common.{◌≡◌, ℕ, zero, suc, ◌+◌, ◌-◌, ◌*◌, ◌/◌, ◌%◌, ◌^◌, ◌<◌, ◌≤◌, Bool, true, false, cond, not, T, ltb, List, [], ◌∷◌, ◌++◌, map, sym, refl, ap, ◌∙◌, subst, pow-suc, arith}
use mathlib.Core.List.{map-append}
use lib.Ieee.{Float, nan, inf, fin, binary64, of_bits, to_bits, is_nan, nan_bits}
use lib.Ieee.Bits.{of_bits-fits, of_bits-to_bits, to_bits-of_bits, to_bits-lt, nan_bits_is, nan_bits_above}
use Rattle.std.specs.Int.Digits.{number_from_digits}
use Rattle.std.proofs.lemmas.Int.Digits.{number_push}
use Rattle.std.proofs.lemmas.Bool.{lt-ltb, le-ltb, both_ways}
use Rattle.std.proofs.lemmas.Bool.Decides.{nat_tests}
use Rattle.format.specs.Written.{figure, figures, floated}
use Rattle.format.specs.Reading.{Number}

abbrev pub un : ℕ → ℕ
un b = cond (ltb b 58) (b - 48) (b - 87)

pub un_figure : (d : ℕ) → d < 16 → un (figure d) ≡ d
un_figure d h = grind (arith, nat_tests)

abbrev worth : List ℕ → ℕ
worth ds = number_from_digits 16 (map un ds)

worth_push : (ds : List ℕ) (b : ℕ) → worth (ds ++ (b ∷ [])) ≡ worth ds * 16 + un b
worth_push ds b = ap (number_from_digits 16) (map-append un ds (b ∷ [])) ∙ number_push 16 (map un ds) (un b)

worth_figures : (k n : ℕ) → n < 16 ^ k → worth (figures k n) ≡ n
worth_figures zero n h = omega arith
worth_figures (suc k) n h =
    let p : n < 16 ^ k * 16 = rw pow-suc at h in
    let ih : worth (figures k (n / 16)) ≡ n / 16 = worth_figures k (n / 16) (omega arith) in
    let u : un (figure (n % 16)) ≡ n % 16 = un_figure (n % 16) (omega arith) in
    worth_push (figures k (n / 16)) (figure (n % 16)) ∙ omega (arith, ih, u)

pub figures_same : (m n : ℕ) → m < 2 ^ 64 → n < 2 ^ 64 → figures 16 m ≡ figures 16 n → m ≡ n
figures_same m n a b e = sym (worth_figures 16 m (omega arith)) ∙ ap worth e ∙ worth_figures 16 n (omega arith)

pub nan_bits_lem : (x : Float) → is_nan x ≡ true → to_bits binary64 x ≡ 9221120237041090560
unfolding is_nan to_bits
nan_bits_lem nan h = refl
nan_bits_lem (inf s) h = absurd (both_ways false refl h)
nan_bits_lem (fin s m e) h = absurd (both_ways false refl h)

pub bits_lt : (x : Float) → Number x → to_bits binary64 x < 2 ^ 64
bits_lt x h = to_bits-lt binary64 x h.0

pub test_is_nan : (n : ℕ) → is_nan (of_bits binary64 n) ≡ ltb 9218868437227405312 (n % 9223372036854775808)
test_is_nan n = sym (nan_bits_is binary64 n) ∙ nan_bits_above binary64 n

pub number_from_bits : (n : ℕ) → n % 9223372036854775808 ≤ 9218868437227405312 → is_nan (of_bits binary64 n) ≡ false
number_from_bits n h = test_is_nan n ∙ le-ltb _ _ h

-- a NaN's pattern is written of no number
pub no_number : (bs : List ℕ) (n : ℕ) (v : Float) → n < 2 ^ 64 → figures 16 n ≡ bs → 9218868437227405312 < n % 9223372036854775808 → Number v → floated v ≡ bs → ⊥
no_number bs n v lt e big h g =
    let same : n ≡ to_bits binary64 v = figures_same n (to_bits binary64 v) lt (bits_lt v h) (e ∙ sym g) in
    let back : of_bits binary64 n ≡ v = ap (of_bits binary64) same ∙ of_bits-to_bits binary64 v h.0 in
    let yes_nan : is_nan v ≡ true = ap is_nan (sym back) ∙ test_is_nan n ∙ lt-ltb _ _ big in
    subst (λ (b : Bool). T (not b)) yes_nan h.1

pub float_ok : (bs : List ℕ) (n : ℕ) → n < 2 ^ 64 → figures 16 n ≡ bs → n % 9223372036854775808 ≤ 9218868437227405312 → floated (of_bits binary64 n) ≡ bs
float_ok bs n lt e h =
    ap (figures 16) (to_bits-of_bits binary64 n lt (subst (λ (b : Bool). T (not b)) (sym (number_from_bits n h)) tt)) ∙ e

pub is_number : (n : ℕ) → n % 9223372036854775808 ≤ 9218868437227405312 → Number (of_bits binary64 n)
is_number n h = (of_bits-fits binary64 n, subst (λ (b : Bool). T (not b)) (sym (number_from_bits n h)) tt)

pub bits_are_number : (n : ℕ) → n % 9223372036854775808 ≤ 9218868437227405312 → T (not (nan_bits binary64 n))
bits_are_number n h = subst (λ (b : Bool). T (not b)) (sym (nan_bits_above binary64 n ∙ le-ltb _ _ h)) tt
