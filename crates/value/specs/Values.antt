-- What a value means: its kind, and its text as bytes, wherever they lie. Every statement about values above this crate
-- speaks of meanings. Assumes nothing.
use Rattle.std.specs.Prelude.{◌≡◌, ℕ, Bool, true, cond, ◌&&◌, List, length, ℤ, Some, None, Ok, Err, Option, Result, nat_le, Float}
use Rattle.std.proofs.Math.Utf8.{scalar}
use Rattle.fault.specs.declared.Fault.{Fault}
use Rattle.fault.specs.declared.Fault.TheVariants.{BufferShort}
use Rattle.text.specs.Buffers.{span, span_text, within, laid, has_room}
use Rattle.text.specs.Scalars.{utf8}
use Rattle.text.specs.declared.span.Span.{Span}
use Rattle.value.specs.declared.kind.Kind.{Kind}
use Rattle.value.specs.declared.kind.Kind.TheVariants as kind
use Rattle.value.specs.declared.value.Range.{Range}
use Rattle.value.specs.declared.value.Value.{Value}
use Rattle.value.specs.declared.value.Value.TheVariants as value

-- a value by what it says: an int as a number, a char as its scalar, a text as its bytes
pub data Meaning : Type 0 where
  unit : Meaning
  bool : Bool → Meaning
  int : ℤ → Meaning
  float : Float → Meaning
  char : ℕ → Meaning
  str : List ℕ → Meaning
  blob : List ℕ → Meaning
  excl : ℤ → ℤ → Meaning
  incl : ℤ → ℤ → Meaning

abbrev pub kind_in : Meaning → Kind
kind_in unit = kind.Unit
kind_in (bool b) = kind.Bool
kind_in (int n) = kind.Int
kind_in (float x) = kind.Float
kind_in (char c) = kind.Char
kind_in (str bs) = kind.Str
kind_in (blob bs) = kind.Blob
kind_in (excl a b) = kind.Excl
kind_in (incl a b) = kind.Incl

-- the text, of a str or a blob
abbrev pub text_of : Meaning → Option (List ℕ)
text_of unit = None
text_of (bool b) = None
text_of (int n) = None
text_of (float x) = None
text_of (char c) = None
text_of (str bs) = Some bs
text_of (blob bs) = Some bs
text_of (excl a b) = None
text_of (incl a b) = None

-- a str is UTF-8, a char is a scalar, and a text has at most 65,536 bytes
abbrev pub well_formed : Meaning → Bool
well_formed unit = true
well_formed (bool b) = true
well_formed (int n) = true
well_formed (float x) = true
well_formed (char c) = scalar c
well_formed (str bs) = utf8 bs && nat_le (length bs) 65536
well_formed (blob bs) = nat_le (length bs) 65536
well_formed (excl a b) = true
well_formed (incl a b) = true

-- what a value means, where `bytes` has the bytes of a text
abbrev pub meaning : {T : Type 0} → (T → List ℕ) → Value T → Meaning
meaning bytes value.Unit = unit
meaning bytes (value.Bool b) = bool b
meaning bytes (value.Int n) = int n
meaning bytes (value.Float x) = float x
meaning bytes (value.Char c) = char c
meaning bytes (value.Str t) = str (bytes t)
meaning bytes (value.Blob t) = blob (bytes t)
meaning bytes (value.Excl r) = excl r.from r.to
meaning bytes (value.Incl r) = incl r.from r.to

-- beside a buffer that holds the texts
abbrev pub meant : List ℕ → Value Span → Meaning
meant buffer v = meaning (span_text buffer) v

abbrev pub range : ℤ → ℤ → Range
range a b = record { from = a; to = b }

-- the value of a meaning whose text begins at `place` of a buffer
abbrev pub held_at : ℕ → Meaning → Value Span
held_at place unit = value.Unit
held_at place (bool b) = value.Bool b
held_at place (int n) = value.Int n
held_at place (float x) = value.Float x
held_at place (char c) = value.Char c
held_at place (str bs) = value.Str (span place (length bs))
held_at place (blob bs) = value.Blob (span place (length bs))
held_at place (excl a b) = value.Excl (range a b)
held_at place (incl a b) = value.Incl (range a b)

-- whether a text, if there is one, has room in a buffer from `place` on; the buffer with it; and its size
abbrev pub fits : List ℕ → ℕ → Option (List ℕ) → Bool
fits buffer place None = true
fits buffer place (Some bs) = has_room buffer place bs

abbrev pub written : List ℕ → ℕ → Option (List ℕ) → List ℕ
written buffer place None = buffer
written buffer place (Some bs) = laid buffer place bs

abbrev pub size : Option (List ℕ) → ℕ
size None = 0
size (Some bs) = length bs

pub record Told : Type 0 where
  pub answer : Result (Value Span) Fault
  pub bytes : List ℕ

-- putting a value into a buffer at a place: its text and no other byte, or a refusal where the text would pass the end
abbrev pub told_at : List ℕ → ℕ → Meaning → Told
told_at buffer place m =
    cond (fits buffer place (text_of m))
    (record { answer = Ok (held_at place m); bytes = written buffer place (text_of m) })
    (record { answer = Err BufferShort; bytes = buffer })

-- what the functions on values of any text cite
abbrev pub kind_of : {T : Type 0} → Value T → Kind
kind_of value.Unit = kind.Unit
kind_of (value.Bool b) = kind.Bool
kind_of (value.Int n) = kind.Int
kind_of (value.Float x) = kind.Float
kind_of (value.Char c) = kind.Char
kind_of (value.Str t) = kind.Str
kind_of (value.Blob t) = kind.Blob
kind_of (value.Excl r) = kind.Excl
kind_of (value.Incl r) = kind.Incl

abbrev pub text_in : {T : Type 0} → Value T → Option T
text_in value.Unit = None
text_in (value.Bool b) = None
text_in (value.Int n) = None
text_in (value.Float x) = None
text_in (value.Char c) = None
text_in (value.Str t) = Some t
text_in (value.Blob t) = Some t
text_in (value.Excl r) = None
text_in (value.Incl r) = None

-- what is asked of a text, if there is one
abbrev pub TextMeets : {T : Type 0} → (T → Type 0) → Value T → Type 0
TextMeets {T = T} P v = (t : T) → text_in v ≡ Some t → P t

-- w is v with its text replaced by one that stands to it as R says
abbrev pub Maps : {T U : Type 0} → (T → U → Type 0) → Value T → Value U → Type 0
Maps R value.Unit w = w ≡ value.Unit
Maps R (value.Bool b) w = w ≡ value.Bool b
Maps R (value.Int n) w = w ≡ value.Int n
Maps R (value.Float x) w = w ≡ value.Float x
Maps R (value.Char c) w = w ≡ value.Char c
Maps {U = U} R (value.Str t) w = (u : U) × R t u × (w ≡ value.Str u)
Maps {U = U} R (value.Blob t) w = (u : U) × R t u × (w ≡ value.Blob u)
Maps R (value.Excl r) w = w ≡ value.Excl r
Maps R (value.Incl r) w = w ≡ value.Incl r

-- a text, if there is one, lies in the buffer below `end`
abbrev pub Inside : ℕ → Option Span → Type 0
Inside end None = Unit {0}
Inside end (Some s) = within s end
