-- The value of an operator in a buffer of 65,536 bytes, and the parts of a case: limits, and floats by their bits.
use Rattle.std.proofs.Common.{◌≡◌, ℕ, ◌+◌, ◌^◌, ◌<◌, ◌%◌, Bool, true, false, cond, leb, ℤ, pos, negsuc, List, ◌∷◌, ◌++◌, length, get_or, drop, Some, None, Ok, Err, Option, Result, sym, refl, ap, ◌∙◌, arith, ⊎_elim, decimal, w64, SFits, rules, to_z, of_z}
use Rattle.std.proofs.lemmas.Bool.{cases_eq, both_ways, lt-ltb}
use Rattle.std.proofs.lemmas.Fmt.{first_decimal, decimal_digit}
use Rattle.std.proofs.lemmas.List.{take_all, drop_all, append-nil}
use lib.Ieee.{Float, nan, inf, fin, binary64, of_bits, is_nan}
use lib.Ieee.Bits.{nan_bits_is, nan_bits_above}
use Rattle.std.proofs.Math.Facts.{to_z-of_z}
use Rattle.std.proofs.lemmas.Result.{Ok-from_Ok_iff, IsErr-from_ok_iff}
use Rattle.std.specs.Int.{FitsUnsignedBits}
use Rattle.std.specs.Result.{OkIff, IsErr, result_ok}
use lib.IntN.{nat_abs}
use Rattle.std.specs.Fmt.{signed_decimal}
use Rattle.fault.specs.Refusals.{bind}
use Rattle.fault.specs.declared.Fault.{Fault}
use Rattle.fault.specs.declared.Fault.TheVariants.{BufferShort}
use Rattle.text.specs.Buffers.{span, laid, has_room}
use Rattle.text.proofs.Laws.{span_new}
use Rattle.value.specs.Values.{Meaning, unit, bool, int, float, char, str, blob, excl, incl, meant, Told, told_at}
use Rattle.value.specs.declared.value.Value.{Value}
use Rattle.value.specs.declared.value.Value.TheVariants as value
use Rattle.text.specs.declared.span.Span.{Span}
use Rattle.format.specs.Reading.{ReadsAs}
use Rattle.routines.specs.Calls.{Given, left, right, fresh}
use Rattle.routines.specs.Outcomes.{settled}
use Rattle.routines.specs.declared.made.Made.{Made}
use Rattle.routines.specs.declared.made.Made.TheVariants.{Left, Right, New}
use Rattle.operators.specs.Applied.{Alone}
use Rattle.cases.specs.Judged.{given_value, ReadsLimit}

-- what is made, by its meaning
abbrev pub made_meaning : Meaning → Meaning → List ℕ → Made → Meaning
made_meaning a b work Left = a
made_meaning a b work Right = b
made_meaning a b work (New v) = meant work v

abbrev pub made_value : Meaning → Meaning → List ℕ → Result Made Fault → Result Meaning Fault
made_value a b work r = bind r (λ m. Ok (made_meaning a b work m))

module _ (a b : Meaning) (work : List ℕ) (all : length work ≡ 65536) where
  abbrev Tells : Meaning → Type 0
  Tells m = made_value a b (told_at work 0 m).bytes (bind (told_at work 0 m).answer (λ v. Ok (New v))) ≡ given_value a b (Ok (fresh m))

  -- a text is put into the buffer, where it has room
  abbrev put : Value Span → List ℕ → Bool → Told
  put v bs t = cond t (record { answer = Ok v; bytes = laid work 0 bs }) (record { answer = Err BufferShort; bytes = work })

  told_text : (m : Meaning) (v : Value Span) (bs : List ℕ) → meant (laid work 0 bs) v ≡ m → (t : Bool) → t ≡ leb (length bs) 65536 → made_value a b (put v bs t).bytes (bind (put v bs t).answer (λ v. Ok (New v))) ≡ cond (leb (length bs) 65536) (Ok m) (Err BufferShort)
  told_text m v bs e true q = ap Ok e ∙ ap (λ t. cond t (Ok m) (Err BufferShort)) q
  told_text m v bs e false q = ap (λ t. cond t (Ok m) (Err BufferShort)) q

  room_for : (bs : List ℕ) → has_room work 0 bs ≡ leb (length bs) 65536
  room_for bs = let n : 0 + length bs ≡ length bs = omega arith in λ i. leb (n i) (all i)

  told_as : (m : Meaning) → Tells m
  told_as unit = refl
  told_as (bool x) = refl
  told_as (int n) = refl
  told_as (float x) = refl
  told_as (char c) = refl
  told_as (str bs) = told_text (str bs) (value.Str (span 0 (length bs))) bs (ap str (span_new work bs 0 (omega arith))) (has_room work 0 bs) (room_for bs)
  told_as (blob bs) = told_text (blob bs) (value.Blob (span 0 (length bs))) bs (ap blob (span_new work bs 0 (omega arith))) (has_room work 0 bs) (room_for bs)
  told_as (excl x y) = refl
  told_as (incl x y) = refl

  settled_as : (g : Result Given Fault) → made_value a b (settled work 0 g).bytes (settled work 0 g).answer ≡ given_value a b g
  settled_as (Err f) = refl
  settled_as (Ok left) = refl
  settled_as (Ok right) = refl
  settled_as (Ok (fresh m)) = told_as m

  pub alone_as : (g : Result Given Fault) (r : Result Made Fault) (after : List ℕ) → Alone work g r after → made_value a b after r ≡ given_value a b g
  alone_as g r after h =
      let whole = take_all 65536 work (omega (arith, all)) in
      let none = drop_all 65536 work (omega (arith, all)) in
      let bytes : after ≡ (settled work 0 g).bytes = h.bytes ∙ ap (λ w. (settled w 0 g).bytes ++ drop 65536 work) whole ∙ ap (λ l. (settled work 0 g).bytes ++ l) none ∙ append-nil _ in
      let answer : r ≡ (settled work 0 g).answer = h.answer ∙ ap (λ w. (settled w 0 g).answer) whole in
      (λ i. made_value a b (bytes i) (answer i)) ∙ settled_as g

is_same_nan : (x y : Float) → is_nan x ≡ true → is_nan y ≡ true → x ≡ y
unfolding is_nan
is_same_nan nan nan e f = refl
is_same_nan nan (inf s) e f = absurd (both_ways false refl f)
is_same_nan nan (fin s m k) e f = absurd (both_ways false refl f)
is_same_nan (inf s) y e f = absurd (both_ways false refl e)
is_same_nan (fin s m k) y e f = absurd (both_ways false refl e)

above_is_nan : (n : ℕ) → 9218868437227405312 < n % 9223372036854775808 → is_nan (of_bits binary64 n) ≡ true
above_is_nan n h = sym (nan_bits_is binary64 n) ∙ nan_bits_above binary64 n ∙ lt-ltb _ _ h

-- all patterns of a NaN are the same float
pub same_nan : (n : ℕ) → 9218868437227405312 < n % 9223372036854775808 → of_bits binary64 9221120237041090560 ≡ of_bits binary64 n
same_nan n h = is_same_nan _ _ (above_is_nan 9221120237041090560 (omega arith)) (above_is_nan n h)

-- no minus stands before a number
no_minus : (n : ℕ) (ds : List ℕ) → n < 2 ^ 64 → decimal n ≡ 45 ∷ ds → ⊥
no_minus n ds h e =
    let head : get_or (decimal n) 0 0 ≡ 45 = ap (λ l. get_or l 0 0) e in
    ⊎_elim (λ (z : n ≡ 0). let zero : get_or (decimal n) 0 0 ≡ 48 = ap (λ l. get_or l 0 0) (ap decimal z ∙ decimal_digit 0 (omega arith)) in omega arith)
    (λ nz. let more = first_decimal n (omega (arith, nz)) h in omega arith) (cases_eq n 0)

-- the limit that an int is
abbrev pub limit_of : Option ℤ → Option ℕ
limit_of None = None
limit_of (Some (pos n)) = Some n
limit_of (Some (negsuc n)) = None

pub reads_limit : (bs : List ℕ) (o : Option ℤ) → ReadsAs (SFits w64) signed_decimal bs o → ReadsLimit bs (limit_of o)
reads_limit bs None h = λ n lt e. h (pos n) (search (rules, lt)) e
reads_limit bs (Some (pos n)) h = (search (rules, h.0), h.1)
reads_limit bs (Some (negsuc k)) h = λ n lt e. no_minus n _ (omega arith) (e ∙ sym h.1)

none_of : {A E : Type 0} (r : Result A E) → IsErr r → result_ok r ≡ None
none_of (Ok a) h = absurd (both_ways false refl h)
none_of (Err e) h = refl

converted : {E : Type 0} (z : ℤ) (r : Result ℕ E) → SFits w64 z → OkIff r (FitsUnsignedBits 64 z) (nat_abs z) → result_ok r ≡ limit_of (Some z)
converted (pos n) r f h = ap result_ok (Ok-from_Ok_iff r _ n h (search (rules, f)))
converted (negsuc n) r f h = none_of r (IsErr-from_ok_iff r _ (nat_abs (negsuc n)) h (λ x. x))

pub limit_read : {E : Type 0} (bs : List ℕ) (z : ℤ) (r : Result ℕ E) (o : Option ℕ) → SFits w64 z → signed_decimal z ≡ bs → OkIff r (FitsUnsignedBits 64 (to_z w64 (of_z w64 z))) (nat_abs (to_z w64 (of_z w64 z))) → o ≡ result_ok r → ReadsLimit bs o
limit_read bs z r o f is h e =
    let same = to_z-of_z {w = w64} f in
    rw (e, converted z r f (rw same at h)) (reads_limit bs (Some z) (f, is))
