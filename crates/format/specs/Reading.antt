-- Reading is the inverse of writing, both ways: what is read is written so, and what is not read is how nothing is written.
-- Assumes nothing.
use Rattle.std.specs.Prelude.{◌≡◌, ℕ, ◌<◌, ◌≤◌, true, not, T, List, ◌∷◌, ◌++◌, length, Some, None, Option, Ok, Err, Result, FitsSigned, ◌≢◌, is_nan, slice_index, Float}
use Rattle.std.specs.Float.{binary64}
use Rattle.std.specs.Float.Ieee.{fits}
use Rattle.std.proofs.Math.Utf8.{encode, scalar}
use Rattle.std.specs.Int.{w64}
use Rattle.std.specs.Fmt.{signed_decimal}
use Rattle.std.specs.Str.{IsUtf8}
use Rattle.std.specs.List.{AllByRecursion}
use Rattle.std.specs.Option.{option_map}
use Rattle.text.specs.Buffers.{span_text, within}
use Rattle.text.specs.Scalars.{utf8}
use Rattle.text.specs.declared.span.Span.{Span}
use Rattle.value.specs.Values.{Meaning, unit, bool, int, float, char, str, blob, excl, incl, kind_in, kind_of, meant, text_in, Inside}
use Rattle.value.specs.declared.kind.Kind.{Kind}
use Rattle.value.specs.declared.value.Range.{Range}
use Rattle.value.specs.declared.value.Value.{Value}
use Rattle.format.specs.Written.{pairs, written}

-- r is what bs is written of, among those that are Of a type, or none where there is no such
abbrev pub Reads : {V : Type 0} → (V → Type 0) → (V → List ℕ) → List ℕ → Option V → Type 0
Reads Of writing bs None = (v : _) → Of v → writing v ≢ bs
Reads Of writing bs (Some v) = writing v ≡ bs

-- the same, of anything that is written so, and what is read is Of the type
abbrev pub ReadsAs : {V B : Type 0} → (V → Type 0) → (V → B) → B → Option V → Type 0
ReadsAs Of writing bs None = (v : _) → Of v → writing v ≢ bs
ReadsAs Of writing bs (Some v) = Of v × (writing v ≡ bs)

-- no plus, and no zero in front of a digit or behind a minus
abbrev pub Short : List ℕ → Type 0
Short bs = (slice_index bs 0 ≢ 43) × (slice_index bs 0 ≡ 48 → length bs ≡ 1) × (slice_index bs 0 ≡ 45 → slice_index bs 1 ≢ 48)

-- n is what a parse gives of bs, which is short, or there is none where bs is short and text
abbrev pub ParsesShort : {V E : Type 0} → (List ℕ → Result V E → Type 0) → List ℕ → Option V → Type 0
ParsesShort gives bs None = Short bs → IsUtf8 bs → (e : _) × gives bs (Err e)
ParsesShort gives bs (Some n) = Short bs × gives bs (Ok n)

-- a float that is no NaN
abbrev pub Number : Float → Type 0
Number x = T (fits binary64 x) × T (not (is_nan x))

abbrev pub Bytes : List ℕ → Type 0
Bytes bs = AllByRecursion (λ b. b < 256) bs

-- a value that can be read, with at most `room` bytes of text: no NaN is
abbrev pub Readable : ℕ → Meaning → Type 0
Readable room unit = Unit {0}
Readable room (bool b) = Unit {0}
Readable room (int n) = FitsSigned w64 n
Readable room (float x) = Number x
Readable room (char c) = (scalar c ≡ true) × (4 ≤ room)
Readable room (str bs) = (utf8 bs ≡ true) × Bytes bs × (length bs ≤ room)
Readable room (blob bs) = Bytes bs × (length bs ≤ room)
Readable room (excl a b) = FitsSigned w64 a × FitsSigned w64 b
Readable room (incl a b) = FitsSigned w64 a × FitsSigned w64 b

-- the same, where a char needs as much room as its own bytes
abbrev pub ReadableIn : ℕ → Meaning → Type 0
ReadableIn room unit = Unit {0}
ReadableIn room (bool b) = Unit {0}
ReadableIn room (int n) = FitsSigned w64 n
ReadableIn room (float x) = Number x
ReadableIn room (char c) = (scalar c ≡ true) × (length (encode c) ≤ room)
ReadableIn room (str bs) = (utf8 bs ≡ true) × Bytes bs × (length bs ≤ room)
ReadableIn room (blob bs) = Bytes bs × (length bs ≤ room)
ReadableIn room (excl a b) = FitsSigned w64 a × FitsSigned w64 b
ReadableIn room (incl a b) = FitsSigned w64 a × FitsSigned w64 b

-- a range by both ends
abbrev pub ends : Range → List ℕ
ends r = signed_decimal r.from ++ (44 ∷ signed_decimal r.to)

abbrev pub ReadsEnds : List ℕ → Option Range → Type 0
ReadsEnds bs r = Reads (λ e. FitsSigned w64 e.from × FitsSigned w64 e.to) ends bs r

abbrev pub ReadsEndsAs : List ℕ → Option Range → Type 0
ReadsEndsAs bs r = ReadsAs (λ e. FitsSigned w64 e.from × FitsSigned w64 e.to) ends bs r

-- a text by the pairs of its bytes, in a buffer
abbrev pub ReadsText : List ℕ → List ℕ → Option Span → Type 0
ReadsText bs buffer None = (t : List ℕ) → Bytes t → length t ≤ length buffer → pairs t ≢ bs
ReadsText bs buffer (Some s) = (pairs (span_text buffer s) ≡ bs) × within s (length buffer) × Bytes (span_text buffer s)

-- bs is read as a value of kind k, with its text in the buffer, or there is no such value
abbrev pub ReadsValue : Kind → List ℕ → List ℕ → Option (Value Span) → Type 0
ReadsValue k bs buffer None = (m : Meaning) → kind_in m ≡ k → Readable (length buffer) m → written m ≢ bs
ReadsValue k bs buffer (Some v) = (kind_of v ≡ k) × (written (meant buffer v) ≡ bs) × Inside (length buffer) (text_in v)

-- bs is read as a value of kind k with at most `room` bytes of text, or there is no such value
abbrev pub ReadsKind : ℕ → Kind → List ℕ → Option Meaning → Type 0
ReadsKind room k bs o = ReadsAs (λ m. (kind_in m ≡ k) × ReadableIn room m) written bs o

-- a value's text, if it has one, lies in the buffer
abbrev pub LiesIn : List ℕ → Option (Value Span) → Type 0
LiesIn buffer None = Unit {0}
LiesIn buffer (Some v) = Inside (length buffer) (text_in v)

-- the same of a value with its text in the buffer
pub record ReadsValueAs (k : Kind) (bs buffer : List ℕ) (r : Option (Value Span)) : Type 0 where
  pub reads : ReadsKind (length buffer) k bs (option_map (meant buffer) r)
  pub lies : LiesIn buffer r
