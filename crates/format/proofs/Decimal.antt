use Rattle.std.proofs.Common.{◌≡◌, ℕ, zero, suc, ◌^◌, ◌<◌, ◌≤◌, List, [], ◌∷◌, length, get_or, ℤ, pos, negsuc, neg_ℤ, ltb, Some, None, Option, Ok, Err, IsUtf8, decimal, Result, sym, refl, ap, ◌∙◌, subst, ⊎_elim, arith, w64, SFits, rules}
use lib.Signed.{mag}
use Rattle.std.specs.Str.Parse.{AllDigits, digits_value, ParsesSigned, ParsesUnsigned}
use Rattle.std.specs.Fmt.{signed_decimal}
use Rattle.std.proofs.lemmas.Bool.{cases_eq, cond_both, ltb-true, ltb-false}
use Rattle.std.proofs.lemmas.Map.Entries.{option_filter}
use Rattle.std.proofs.lemmas.Str.Parse.{IsNumeralModel, numerals_by_value, tells_digits, digit_at, parse_signed_minus, parse_signed_plain, parse_plain}
use Rattle.std.proofs.lemmas.Result.{OkIff-at_ok}
use Rattle.std.proofs.lemmas.Fmt.{decimal_digit, first_decimal, decimal-digits_value, digits_decimal, decimal_nonempty, IsAscii-signed, IsAscii-decimal, parse-decimal, parse-signed_decimal, decimal_injective}
use Rattle.std.proofs.lemmas.Str.{IsUtf8-from_ascii}
use Rattle.format.specs.Reading.{Short, ParsesShort, Reads, ReadsAs}

pub own : IsNumeralModel (AllDigits 10) (digits_value 10)
own = numerals_by_value _ tells_digits

first_digit : (n : ℕ) → n < 2 ^ 64 → (48 ≤ get_or (decimal n) 0 0) × (get_or (decimal n) 0 0 ≤ 57)
first_digit n h = let d = digit_at (decimal n) 0 (digits_decimal own n h) (decimal_nonempty n h) in d

decimal_zero : (n : ℕ) → n < 2 ^ 64 → get_or (decimal n) 0 0 ≡ 48 → length (decimal n) ≡ 1
decimal_zero n h e =
    ⊎_elim (λ (z : n ≡ 0). ap (λ m. length (decimal m)) z ∙ ap length (decimal_digit 0 (omega arith))) (λ nz. absurd (omega (arith, first_decimal n (omega arith) h))) (cases_eq n 0)

pub decimal_short : (n : ℕ) → n < 2 ^ 64 → Short (decimal n)
decimal_short n h =
    let d = first_digit n h in (λ e. omega arith, decimal_zero n h, λ e _. omega arith)

pub signed_short : (z : ℤ) → mag z < 2 ^ 63 → Short (signed_decimal z)
signed_short (pos n) h = decimal_short n (omega arith)
signed_short (negsuc n) h = (λ e. omega arith, λ e. omega arith, λ _ e. omega (arith, first_decimal (suc n) (omega arith) (omega arith)))

neg_signed : (v : ℕ) (ds : List ℕ) → decimal v ≡ ds → (get_or ds 0 0 ≡ 48 → ⊥) → signed_decimal (neg_ℤ (pos v)) ≡ 45 ∷ ds
neg_signed zero ds e h = absurd (h (ap (λ (l : List ℕ). get_or l 0 0) (sym e ∙ decimal_digit 0 (omega arith))))
neg_signed (suc k) ds e h = ap (λ (l : List ℕ). 45 ∷ l) e

neg_fits : (v : ℕ) → v ≤ 2 ^ 63 → SFits w64 (neg_ℤ (pos v))
neg_fits zero h = search rules
neg_fits (suc k) h = search rules

minus_ok : {E : Type 0} (bs : List ℕ) (r : Result ℤ E) (n : ℤ) → ParsesSigned w64 10 (45 ∷ bs) r → (get_or bs 0 0 ≡ 48 → ⊥) → r ≡ Ok n → SFits w64 n × (signed_decimal n ≡ 45 ∷ bs)
minus_ok bs r n reads nz e =
    let k = OkIff-at_ok r _ _ n (parse_signed_minus own w64 (45 ∷ bs) r reads refl) e in
    let d : decimal (digits_value 10 bs) ≡ bs = decimal-digits_value own bs k.0.0 k.0.1 (λ z. absurd (nz z)) (omega (arith, k.0.2)) in
    (subst (SFits w64) (sym k.1) (neg_fits (digits_value 10 bs) k.0.2), ap signed_decimal k.1 ∙ neg_signed (digits_value 10 bs) bs d nz)

plain_ok : {E : Type 0} (bs : List ℕ) (r : Result ℤ E) (n : ℤ) → ParsesSigned w64 10 bs r → (get_or bs 0 0 ≡ 43 → ⊥) → (get_or bs 0 0 ≡ 48 → length bs ≡ 1) → (get_or bs 0 0 ≡ 45 → ⊥) → r ≡ Ok n → SFits w64 n × (signed_decimal n ≡ bs)
plain_ok bs r n reads plus zeros minus e =
    let k = OkIff-at_ok r _ _ n (parse_signed_plain own w64 bs r reads plus minus) e in
    let f : SFits w64 (pos (digits_value 10 bs)) = search (rules, k.0.2) in
    (subst (SFits w64) (sym k.1) f, ap signed_decimal k.1 ∙ decimal-digits_value own bs k.0.0 k.0.1 zeros (omega (arith, k.0.2)))

int_ok : {E : Type 0} (bs : List ℕ) (r : Result ℤ E) (n : ℤ) → ParsesSigned w64 10 bs r → Short bs → r ≡ Ok n → SFits w64 n × (signed_decimal n ≡ bs)
int_ok [] r n reads s e = plain_ok [] r n reads s.0 s.1 (λ z. omega arith) e
int_ok (b ∷ bs) r n reads s e =
    ⊎_elim
    (λ (m : b ≡ 45). rw m (minus_ok bs r n (rw m at reads) (s.2 m) e))
    (λ no_minus. plain_ok (b ∷ bs) r n reads s.0 s.1 no_minus e) (cases_eq b 45)

pub mag_fits : (v : ℤ) → SFits w64 v → mag v < 2 ^ 63
mag_fits v f = search rules

-- what a short parse gives is how a number is written, and where it gives none, no number is written so
pub read_signed : {E : Type 0} (gives : List ℕ → Result ℤ E → Type 0) → ((bs : List ℕ) (r : Result ℤ E) → gives bs r → ParsesSigned w64 10 bs r) → (bs : List ℕ) (o : Option ℤ) → ParsesShort gives bs o → ReadsAs (SFits w64) signed_decimal bs o
read_signed gives parses bs None h = λ v f e.
    let x = h (subst Short e (signed_short v (mag_fits v f))) (subst IsUtf8 e (IsUtf8-from_ascii _ (IsAscii-signed v (mag_fits v f)))) in
    let z : Err x.0 ≡ Ok v = parse-signed_decimal w64 v bs (Err x.0) f (mag_fits v f) (sym e) (parses bs (Err x.0) x.1) in cc
read_signed {E = E} gives parses bs (Some n) h = let r : Result ℤ E = Ok n in int_ok bs r n (parses bs r h.1) h.0 refl

pub read_unsigned : {E : Type 0} (k : ℕ) → 2 ^ k ≤ 2 ^ 64 → (gives : List ℕ → Result ℕ E → Type 0) → ((bs : List ℕ) (r : Result ℕ E) → gives bs r → ParsesUnsigned k 10 bs r) → (bs : List ℕ) (o : Option ℕ) → ParsesShort gives bs o → ReadsAs (λ n. n < 2 ^ k) decimal bs o
read_unsigned k le gives parses bs None h = λ v f e.
    let lt : v < 2 ^ 64 = omega arith in
    let x = h (subst Short e (decimal_short v lt)) (subst IsUtf8 e (IsUtf8-from_ascii _ (IsAscii-decimal v lt))) in
    let z : Err x.0 ≡ Ok v = parse-decimal k v bs (Err x.0) f lt (sym e) (parses bs (Err x.0) x.1) in cc
read_unsigned {E = E} k le gives parses bs (Some n) h =
    let r : Result ℕ E = Ok n in
    let p = OkIff-at_ok r _ _ n (parse_plain own k bs r (parses bs r h.1) h.0.0) refl in
    (subst (λ m. m < 2 ^ k) (sym p.1) p.0.2, ap decimal p.1 ∙ decimal-digits_value own bs p.0.0 p.0.1 h.0.1 (omega (arith, p.0.2)))

-- of the numbers below 8, where one of those is read
pub read_below : (bs : List ℕ) (o r : Option ℕ) → ReadsAs (λ n. n < 2 ^ 8) decimal bs o → r ≡ option_filter (λ n. ltb n 8) o → ReadsAs (λ n. n < 8) decimal bs r
read_below bs None r h e = rw e (λ v f. h v (omega arith))
read_below bs (Some n) r h e =
    rw e (cond_both (ltb n 8) (Some n) None (ReadsAs (λ n. n < 8) decimal bs)
    (λ t. (ltb-true n 8 t, h.1))
    (λ f v lt w. let same = decimal_injective v n (omega arith) (omega (arith, h.0)) (w ∙ sym h.1) in let le = ltb-false n 8 f in omega arith))

-- what is read is written so
pub reads_as : {V : Type 0} (Of : V → Type 0) (writing : V → List ℕ) (bs : List ℕ) (o : Option V) → ReadsAs Of writing bs o → Reads Of writing bs o
reads_as Of writing bs None h = h
reads_as Of writing bs (Some v) h = h.1
