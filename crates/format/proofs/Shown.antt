-- No value is written with a control byte, such as a line feed.
use Rattle.std.proofs.Common.{◌≡◌, ℕ, ◌+◌, ◌^◌, ◌<◌, ◌≤◌, ltb, true, false, List, [], ◌∷◌, ◌++◌, length, get_or, ℤ, pos, negsuc, decimal, subst, arith, lit≤, w64, SFits}
use lib.Ieee.{binary64, to_bits}
use lib.Signed.{mag}
use lib.Utf8.{encode}
use Rattle.std.specs.Fmt.{signed_decimal}
use Rattle.std.specs.List.{AllByRecursion}
use Rattle.std.proofs.ByRecursion.{All-weaker, All-get_or, All-from_get_or}
use Rattle.std.proofs.lemmas.Bool.{cond_both}
use Rattle.std.proofs.lemmas.Fmt.{digits_decimal}
use Rattle.std.proofs.lemmas.Str.Parse.{digit_at}
use Rattle.value.specs.Values.{Meaning, unit, bool, int, float, char, str, blob, excl, incl}
use Rattle.format.specs.Reading.{Bytes, ReadableIn}
use Rattle.format.specs.Written.{figures, pairs, written}
use Rattle.format.proofs.Decimal.{own, mag_fits}
use Rattle.format.proofs.Hex.{Hex, hex_all, hex_pairs}
use Rattle.format.proofs.Valued.{encode_bytes}

abbrev Shown : List ℕ → Type 0
Shown bs = AllByRecursion (λ b. 32 ≤ b) bs

both : (xs ys : List ℕ) → Shown xs → Shown ys → Shown (xs ++ ys)
both [] ys p q = q
both (x ∷ xs) ys p q = (p.0, both xs ys p.1 q)

shown_decimal : (n : ℕ) → n < 2 ^ 64 → Shown (decimal n)
shown_decimal n h = All-from_get_or (λ b. 32 ≤ b) (decimal n) 0 (λ i lt. let d = digit_at (decimal n) i (digits_decimal own n h) lt in omega arith)

shown_signed : (z : ℤ) → mag z < 2 ^ 63 → Shown (signed_decimal z)
shown_signed (pos n) h = shown_decimal n (omega arith)
shown_signed (negsuc n) h = (omega arith, shown_decimal _ (omega arith))

shown_ends : (a b : ℤ) → SFits w64 a → SFits w64 b → Shown (signed_decimal a ++ (44 ∷ signed_decimal b))
shown_ends a b f g = both (signed_decimal a) (44 ∷ signed_decimal b) (shown_signed a (mag_fits a f)) (omega arith, shown_signed b (mag_fits b g))

shown_figure : (b : ℕ) → Hex b → 32 ≤ b
shown_figure b h = subst (λ x. 32 ≤ x) h.2 (cond_both (ltb h.0 10) (48 + h.0) (87 + h.0) (λ x. 32 ≤ x) (λ _. omega arith) (λ _. omega arith))

shown_hex : (bs : List ℕ) → AllByRecursion Hex bs → Shown bs
shown_hex bs h = All-weaker Hex (λ b. 32 ≤ b) shown_figure bs h

shown_pairs : (bs : List ℕ) → Bytes bs → Shown (pairs bs)
shown_pairs bs h = shown_hex (pairs bs) (hex_pairs bs h)

shown : (room : ℕ) (m : Meaning) → ReadableIn room m → Shown (written m)
shown room unit h = tt
shown room (bool true) h = (lit≤ tt, (lit≤ tt, (lit≤ tt, (lit≤ tt, tt))))
shown room (bool false) h = (lit≤ tt, (lit≤ tt, (lit≤ tt, (lit≤ tt, (lit≤ tt, tt)))))
shown room (int n) h = shown_signed n (mag_fits n h)
shown room (float x) h = shown_hex (figures 16 (to_bits binary64 x)) (hex_all 16 (to_bits binary64 x))
shown room (char c) h = shown_pairs (encode c) (encode_bytes c h.0)
shown room (str t) h = shown_pairs t h.1
shown room (blob t) h = shown_pairs t h.0
shown room (excl a b) h = shown_ends a b h.0 h.1
shown room (incl a b) h = shown_ends a b h.0 h.1

pub no_line_feed : (room : ℕ) (m : Meaning) → ReadableIn room m → (k : ℕ) → k < length (written m) → get_or (written m) k 0 ≡ 10 → ⊥
no_line_feed room m h k lt e = let s = All-get_or (λ b. 32 ≤ b) (written m) k 0 lt (shown room m h) in omega arith
