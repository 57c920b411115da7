-- Comparing floats keeps the law of exchange: each part of the definition does, the product, the difference, the larger.
use Rattle.std.specs.Prelude.{◌≡◌, ℕ, zero, suc, ◌+◌, ◌-◌, ◌*◌, ◌^◌, ◌<◌, Bool, true, false, cond, not, ◌&&◌, ◌||◌, ℤ, ◌==◌, ◌≢◌, nat_lt, refl, Float}
use Rattle.std.proofs.Common.{arith, mul_comm, add_comm, mul-pos, zero-mul, ltb-true, ltb-false, sym, ap, ◌∙◌}
use Rattle.std.proofs.Math.Nat.{mul-mul-mul_comm}
use Rattle.std.specs.Float.Ieee.Fits.{up_pos, down_pos}
use Rattle.std.specs.Float.Ieee.Scale.{round_same}
use Rattle.std.proofs.Math.Dec.{eqb-suc-zero}
use Rattle.std.proofs.lemmas.Bool.{true≢false, false≢true}
use Rattle.std.specs.Float.Ieee.{sub, add, neg, sum, mul, div, lt, le, eq, is_nan, round, units, odd, up, down, below, unlike, low, emax, prec}
use Rattle.std.specs.Float.{float_is_infinite, float_with_sign, float_one, float_max, float_zero as zero-float, nan, inf, fin, Format, binary64}
use Rattle.std.proofs.lemmas.Bool.Decides.{nat_tests}
use Rattle.order.specs.declared.traits.Order.{Order}
use Rattle.order.specs.declared.traits.Order.TheVariants.{Equal}
use Rattle.order.specs.Orders.{ranked, exchanged}
use Rattle.float.specs.Tolerance.{by_float, by_ieee, divisor, close, unscaled, size, epsilon}

-- ---- IEEE's order: not both ways
below_once : (s : Bool) (a : ℕ) (t : Bool) (b : ℕ) → ranked (below t b s a) (below s a t b) ≡ exchanged (ranked (below s a t b) (below t b s a))
below_once true a true b = grind (arith, nat_tests)
below_once true a false b = grind (arith, nat_tests)
below_once false a true b = grind (arith, nat_tests)
below_once false a false b = grind (arith, nat_tests)

ieee_exchange : (x y : Float) → by_ieee y x ≡ exchanged (by_ieee x y)
unfolding lt
ieee_exchange nan nan = refl
ieee_exchange nan (inf t) = refl
ieee_exchange nan (fin t n d) = refl
ieee_exchange (inf s) nan = refl
ieee_exchange (inf true) (inf true) = refl
ieee_exchange (inf true) (inf false) = refl
ieee_exchange (inf false) (inf true) = refl
ieee_exchange (inf false) (inf false) = refl
ieee_exchange (inf true) (fin t n d) = refl
ieee_exchange (inf false) (fin t n d) = refl
ieee_exchange (fin s m e) nan = refl
ieee_exchange (fin s m e) (inf true) = refl
ieee_exchange (fin s m e) (inf false) = refl
ieee_exchange (fin s m e) (fin t n d) = below_once s (m * up e * down d) t (n * up d * down e)

-- ---- the product
unlike_comm : (s t : Bool) → unlike s t ≡ unlike t s
unlike_comm true true = refl
unlike_comm true false = refl
unlike_comm false true = refl
unlike_comm false false = refl

mul_exchange : (f : Format) (x y : Float) → mul f x y ≡ mul f y x
unfolding mul
mul_exchange f nan nan = refl
mul_exchange f nan (inf t) = refl
mul_exchange f nan (fin t n d) = refl
mul_exchange f (inf s) nan = refl
mul_exchange f (inf s) (inf t) = ap inf (unlike_comm s t)
mul_exchange f (inf s) (fin t n d) = rw (unlike_comm s t) refl
mul_exchange f (fin s m e) nan = refl
mul_exchange f (fin s m e) (inf t) = rw (unlike_comm s t) refl
mul_exchange f (fin s m e) (fin t n d) = rw (unlike_comm s t, mul_comm (m * up e) (n * up d), mul_comm (down e) (down d)) refl

-- ---- the difference: the size of what `round` gives does not turn on the sign
cond_size : (b : Bool) (x y v w : Float) → size x ≡ v → size y ≡ w → size (cond b x y) ≡ cond b v w
cond_size true x y v w p q = p
cond_size false x y v w p q = q

odd_size : (d : ℕ) (s : Bool) (q k l : ℕ) → size (odd d s q k l) ≡ odd d false q k l
unfolding odd float_with_sign
odd_size d s zero k l = refl
odd_size d s (suc q) k l = refl

units_size : (f : Format) (s : Bool) (q k : ℕ) → size (units f s q k) ≡ units f false q k
unfolding units float_with_sign
units_size f s q k =
    cond_size (nat_lt (q * 2 ^ k) (2 ^ (low f + suc (emax f)))) (odd (suc (prec f)) s q k (low f)) (inf s) (odd (suc (prec f)) false q k (low f)) (inf false) (odd_size (suc (prec f)) s q k (low f)) refl

pub round_size : (f : Format) (s : Bool) (a c : ℕ) → size (round f s a c) ≡ round f false a c
unfolding round
round_size f s a c = units_size f s _ _

-- a - b of two numbers of one sign
gap_by : (f : Format) (s t : Bool) (a b c : ℕ) (v : Bool) → nat_lt a b ≡ v → size (cond v (round f t (b - a) c) (round f s (a - b) c)) ≡ round f false ((a - b) + (b - a)) c
gap_by f s t a b c true e = round_size f t (b - a) c ∙ ap (λ n. round f false n c) (omega (arith, ltb-true a b e))
gap_by f s t a b c false e = round_size f s (a - b) c ∙ ap (λ n. round f false n c) (omega (arith, ltb-false a b e))

gap : (f : Format) (s t : Bool) (a b c : ℕ) → size (cond (nat_lt a b) (round f t (b - a) c) (round f s (a - b) c)) ≡ round f false ((a - b) + (b - a)) c
gap f s t a b c = gap_by f s t a b c (nat_lt a b) refl

gaps : (f : Format) (s t u v : Bool) (a b c : ℕ) → size (cond (nat_lt a b) (round f t (b - a) c) (round f s (a - b) c)) ≡ size (cond (nat_lt b a) (round f v (a - b) c) (round f u (b - a) c))
gaps f s t u v a b c = gap f s t a b c ∙ ap (λ n. round f false n c) (add_comm (a - b) (b - a)) ∙ sym (gap f u v b a c)

wide : (f : Format) (s t : Bool) (a b c : ℕ) → size (round f s (a + b) c) ≡ size (round f t (b + a) c)
wide f s t a b c = round_size f s (a + b) c ∙ ap (λ n. round f false n c) (add_comm a b) ∙ sym (round_size f t (b + a) c)

sum_exchange : (f : Format) (s : Bool) (a : ℕ) (t : Bool) (b c : ℕ) → size (sum f s a (not t) b c) ≡ size (sum f t b (not s) a c)
unfolding sum
sum_exchange f true a true b c = gaps f _ _ _ _ a b c
sum_exchange f true a false b c = wide f _ _ a b c
sum_exchange f false a true b c = wide f _ _ a b c
sum_exchange f false a false b c = gaps f _ _ _ _ a b c

sub_exchange : (f : Format) (s : Bool) (m : ℕ) (e : ℤ) (t : Bool) (n : ℕ) (d : ℤ) → size (sub f (fin s m e) (fin t n d)) ≡ size (sub f (fin t n d) (fin s m e))
unfolding sub add neg
sub_exchange f s m e t n d = sum_exchange f s (m * up e * down d) t (n * up d * down e) (down e * down d) ∙ rw (mul_comm (down e) (down d)) refl

-- ---- the divisor: two that are level divide alike
regroup : (K p P q : ℕ) → (K * p) * (P * q) ≡ (K * q) * (P * p)
regroup K p P q = rw (mul_comm P q, mul-mul-mul_comm K p q P, mul_comm p P) refl

fin_pos : (n : ℕ) (d e : ℤ) → 0 < suc n * up d * down e
fin_pos n d e = mul-pos (mul-pos (omega arith) (up_pos d)) (down_pos e)

no_zero : (n : ℕ) (d e : ℤ) (p : ℕ) → p ≡ 0 → p ≢ suc n * up d * down e
no_zero n d e p z h = let k : 0 < suc n * up d * down e = fin_pos n d e in omega arith

div_level : (f : Format) (z : Float) (m : ℕ) (e : ℤ) (n : ℕ) (d : ℤ) → m * up e * down d ≡ n * up d * down e → div f z (fin false m e) ≡ div f z (fin false n d)
unfolding div
div_level f nan m e n d h = refl
div_level f (inf s) m e n d h = refl
div_level f (fin s k g) zero e zero d h = refl
div_level f (fin s k g) zero e (suc n) d h = absurd (no_zero n d e (0 * up e * down d) (rw (zero-mul (up e)) (zero-mul (down d))) h)
div_level f (fin s k g) (suc m) e zero d h = absurd (no_zero m e d (0 * up d * down e) (rw (zero-mul (up d)) (zero-mul (down e))) (sym h))
div_level f (fin s k g) (suc m) e (suc n) d h =
    rw (eqb-suc-zero m, eqb-suc-zero n)
    (round_same f (unlike s false) (k * up g * down e) (suc m * up e * down g) (k * up g * down d) (suc n * up d * down g) (fin_pos m e g) (fin_pos n d g)
    (regroup (k * up g) (down e) (suc n * up d) (down g) ∙ ap (λ p. k * up g * down g * p) (sym h) ∙ sym (regroup (k * up g) (down d) (suc m * up e) (down g))))

pick : (f : Format) (z x y : Float) (a b : ℕ) → (a ≡ b → div f z x ≡ div f z y) → div f z (cond ((nat_lt b a || b == a && true) || false) x y) ≡ div f z (cond ((nat_lt a b || a == b && true) || false) y x)
pick f z x y a b h = grind (arith, nat_tests)

larger_exchange : (f : Format) (z : Float) (m : ℕ) (e : ℤ) (n : ℕ) (d : ℤ) → div f z (float_max (fin false m e) (fin false n d)) ≡ div f z (float_max (fin false n d) (fin false m e))
unfolding le lt eq is_nan
larger_exchange f z m e n d = pick f z (fin false m e) (fin false n d) (m * up e * down d) (n * up d * down e) (div_level f z m e n d)

-- the same, once the product has said whether the divisor is 1
divided : (z p q : Float) (b : Bool) → div binary64 z p ≡ div binary64 z q → div binary64 z (cond b float_one p) ≡ div binary64 z (cond b float_one q)
divided z p q true h = refl
divided z p q false h = h

pub unscaled_exchange : (x y : Float) → unscaled x y ≡ unscaled y x
unscaled_exchange x y = ap (λ p. eq p zero-float) (mul_exchange binary64 x y)

close_exchange : (s : Bool) (m : ℕ) (e : ℤ) (t : Bool) (n : ℕ) (d : ℤ) → close (fin s m e) (fin t n d) ≡ close (fin t n d) (fin s m e)
unfolding float_with_sign
close_exchange s m e t n d =
    let x = fin s m e in
    let y = fin t n d in
    let z = size (sub binary64 y x) in
    ap (λ z. le (div binary64 z (divisor x y)) epsilon) (sub_exchange binary64 s m e t n d)
    ∙ ap (λ q. le q epsilon) (divided z (float_max (fin false m e) (fin false n d)) (float_max (fin false n d) (fin false m e)) (unscaled x y) (larger_exchange binary64 z m e n d))
    ∙ ap (λ b. le (div binary64 z (cond b float_one (float_max (fin false n d) (fin false m e)))) epsilon) (unscaled_exchange x y)

decide_exchange : (b c : Bool) (p q : Order) → b ≡ c → q ≡ exchanged p → cond c Equal q ≡ exchanged (cond b Equal p)
decide_exchange true true p q e h = refl
decide_exchange true false p q e h = absurd (true≢false e)
decide_exchange false true p q e h = absurd (false≢true e)
decide_exchange false false p q e h = h

pub floats_exchange : (x y : Float) → by_float y x ≡ exchanged (by_float x y)
unfolding is_nan float_is_infinite
floats_exchange nan nan = refl
floats_exchange nan (inf t) = refl
floats_exchange nan (fin t n d) = refl
floats_exchange (inf s) nan = refl
floats_exchange (inf s) (inf t) = ieee_exchange (inf s) (inf t)
floats_exchange (inf s) (fin t n d) = ieee_exchange (inf s) (fin t n d)
floats_exchange (fin s m e) nan = refl
floats_exchange (fin s m e) (inf t) = ieee_exchange (fin s m e) (inf t)
floats_exchange (fin s m e) (fin t n d) =
    decide_exchange (close (fin s m e) (fin t n d)) (close (fin t n d) (fin s m e)) (by_ieee (fin s m e) (fin t n d)) (by_ieee (fin t n d) (fin s m e)) (close_exchange s m e t n d) (ieee_exchange (fin s m e) (fin t n d))
