-- Values of one kind: that none is written so, from what each kind's own reading says.
use Rattle.std.proofs.Common.{◌≡◌, ℕ, ◌+◌, ◌*◌, ◌/◌, ◌%◌, ◌<◌, ◌≤◌, Bool, true, false, ltb, List, [], ◌∷◌, length, get_or, drop, ℤ, sym, refl, ap, ◌∙◌, subst, ⊎_elim, arith, length-drop, length-take}
use lib.Ieee.{Float}
use lib.Utf8.{encode, scalar, scalar_cases}
use Rattle.std.specs.Bool.{then_some}
use Rattle.std.specs.Option.{option_map}
use Rattle.std.proofs.lemmas.Bool.{both_ways, cond_both, ltb-true}
use Rattle.std.proofs.ByRecursion.{All-take, All-drop, All-from_get_or}
use Rattle.std.specs.Char.{len_utf8}
use Rattle.std.proofs.lemmas.Str.{length-encode}
use Rattle.std.proofs.lemmas.Bool.Decides.{nat_tests}
use Rattle.text.specs.Buffers.{span_text}
use Rattle.text.specs.Scalars.{utf8}
use Rattle.text.specs.declared.span.Span.{Span}
use Rattle.value.specs.Values.{Meaning, unit, bool, int, float, char, str, blob, excl, incl, kind_in}
use Rattle.value.specs.declared.kind.Kind.{Kind}
use Rattle.value.specs.declared.kind.Kind.TheVariants as kind
use Rattle.std.proofs.Common.{Some, None, Option}
use Rattle.value.specs.declared.value.Range.{Range}
use Rattle.value.specs.declared.value.Value.{Value}
use Rattle.value.specs.declared.value.Value.TheVariants as value
use Rattle.value.proofs.Laws.{kind_meaning}
use Rattle.format.proofs.Floats.{un, un_figure}
use Rattle.format.specs.Written.{figure, pairs, written}
use Rattle.format.specs.Reading.{Bytes, Readable, ReadableIn, ReadsAs, ReadsEndsAs, ReadsText, ReadsValue, ReadsValueAs}

-- ---- a value of a kind, by what it holds

abbrev pub Data : Kind → Type 0
Data kind.Unit = Unit {0}
Data kind.Bool = Bool
Data kind.Int = ℤ
Data kind.Float = Float
Data kind.Char = ℕ
Data kind.Str = List ℕ
Data kind.Blob = List ℕ
Data kind.Excl = ℤ × ℤ
Data kind.Incl = ℤ × ℤ

abbrev pub holding : (k : Kind) → Data k → Meaning
holding kind.Unit d = unit
holding kind.Bool d = bool d
holding kind.Int d = int d
holding kind.Float d = float d
holding kind.Char d = char d
holding kind.Str d = str d
holding kind.Blob d = blob d
holding kind.Excl d = excl d.0 d.1
holding kind.Incl d = incl d.0 d.1

pub data_of : (m : Meaning) → (d : Data (kind_in m)) × (m ≡ holding (kind_in m) d)
data_of unit = (tt, refl)
data_of (bool b) = (b, refl)
data_of (int n) = (n, refl)
data_of (float x) = (x, refl)
data_of (char c) = (c, refl)
data_of (str t) = (t, refl)
data_of (blob t) = (t, refl)
data_of (excl a b) = ((a, b), refl)
data_of (incl a b) = ((a, b), refl)

-- no value of kind k is written so
pub none_of : (room : ℕ) (bs : List ℕ) (k j : Kind) → j ≡ k → ((d : Data k) → ReadableIn room (holding k d) → written (holding k d) ≡ bs → ⊥) → (m : Meaning) → (kind_in m ≡ j) × ReadableIn room m → written m ≡ bs → ⊥
none_of room bs k j q h m f e =
    let p = subst (λ (i : Kind). (d : Data i) × (m ≡ holding i d)) (f.0 ∙ q) (data_of m) in
    h p.0 (subst (ReadableIn room) p.1 f.1) (sym (ap written p.1) ∙ e)

-- ---- the bytes that pairs of digits spell

pub encode_bytes : (c : ℕ) → scalar c ≡ true → Bytes (encode c)
unfolding encode
encode_bytes c h =
    let lt : c < 1114112 = ⊎_elim (λ a. omega arith) (λ a. a.1) (scalar_cases c h) in
    cond_both (ltb c 128) _ _ Bytes
    (λ e. let l = ltb-true c 128 e in (omega arith, tt))
    (λ _. cond_both (ltb c 2048) _ _ Bytes
    (λ e. let l = ltb-true c 2048 e in (omega arith, (omega arith, tt)))
    (λ _. cond_both (ltb c 65536) _ _ Bytes
    (λ e. let l = ltb-true c 65536 e in (omega arith, (omega arith, (omega arith, tt))))
    (λ _. (omega arith, (omega arith, (omega arith, (omega arith, tt)))))))

pub encode_short : (c : ℕ) → length (encode c) ≤ 4
encode_short c = let w : len_utf8 c ≤ 4 = grind (arith, nat_tests) in omega (arith, length-encode c)

abbrev unpairs : List ℕ → List ℕ
unpairs [] = []
unpairs (x ∷ []) = []
unpairs (x ∷ y ∷ ds) = (un x * 16 + un y) ∷ unpairs ds

unpairs_pairs : (bs : List ℕ) → Bytes bs → unpairs (pairs bs) ≡ bs
unpairs_pairs [] h = refl
unpairs_pairs (b ∷ bs) h =
    let hi : b / 16 < 16 = omega (arith, h.0) in
    let e : un (figure (b / 16)) * 16 + un (figure (b % 16)) ≡ b = omega (arith, un_figure (b / 16) hi, un_figure (b % 16) (omega arith)) in
    λ i. e i ∷ unpairs_pairs bs h.1 i

pub pairs_same : (xs ys : List ℕ) → Bytes xs → Bytes ys → pairs xs ≡ pairs ys → xs ≡ ys
pairs_same xs ys p q e = sym (unpairs_pairs xs p) ∙ ap unpairs e ∙ unpairs_pairs ys q

pub span_short : (buffer : List ℕ) (s : Span) → length (span_text buffer s) ≤ length buffer
span_short buffer s = simp (length-take, length-drop) (omega arith)

-- the bytes of a part of a buffer
pub span_bytes : (buffer : List ℕ) (s : Span) → ((i : ℕ) → get_or buffer i 0 < 256) → Bytes (span_text buffer s)
span_bytes buffer s h = All-take (λ b. b < 256) s.len (drop s.start buffer) (All-drop (λ b. b < 256) s.start buffer (All-from_get_or (λ b. b < 256) buffer 0 (λ i _. h i)))

-- ---- what is read with a char's own room is read with room for any

room_enough : (room : ℕ) (m : Meaning) → Readable room m → ReadableIn room m
room_enough room unit f = tt
room_enough room (bool b) f = tt
room_enough room (int n) f = f
room_enough room (float x) f = f
room_enough room (char c) f = (f.0, omega (arith, f.1, encode_short c))
room_enough room (str t) f = f
room_enough room (blob t) f = f
room_enough room (excl a b) f = f
room_enough room (incl a b) f = f

pub reads_value : {k : Kind} {bs buffer : List ℕ} {r : Option (Value Span)} → ReadsValueAs k bs buffer r → ReadsValue k bs buffer r
reads_value {buffer = buffer} {r = None} p = λ m q f e. p.reads m (q, room_enough (length buffer) m f) e
reads_value {buffer = buffer} {r = Some v} p = (sym (kind_meaning (span_text buffer) v) ∙ p.reads.0.0, p.reads.1, p.lies)

-- ---- what each kind's reading gives

module _ (k : Kind) (bs buffer : List ℕ) where
  pub char_value : (t : List ℕ) (o : Option ℕ) → k ≡ kind.Char → (pairs t ≡ bs) × Bytes t × (length t ≤ length buffer) → ReadsAs (λ c. scalar c ≡ true) encode t o → ReadsValueAs k bs buffer (option_map (λ c. value.Char c) o)
  char_value t None q h r = record {
    reads = none_of _ _ kind.Char k q (λ d f e. r d f.0 (pairs_same (encode d) t (encode_bytes d f.0) h.1 (e ∙ sym h.0)));
    lies = tt;
  }
  char_value t (Some c) q h r = record { reads = ((sym q, (r.0, omega (arith, ap length r.1, h.2))), ap pairs r.1 ∙ h.0); lies = tt }

  pub str_value : (s : Span) (b : Bool) → k ≡ kind.Str → ReadsText bs buffer (Some s) → b ≡ utf8 (span_text buffer s) → ReadsValueAs k bs buffer (then_some b (value.Str s))
  str_value s true q h e = record { reads = ((sym q, (sym e, h.2, span_short buffer s)), h.0); lies = h.1 }
  str_value s false q h e = record {
    reads = none_of _ _ kind.Str k q (λ d f g. both_ways (utf8 d) (ap utf8 (pairs_same d _ f.1 h.2 (g ∙ sym h.0)) ∙ sym e) f.0);
    lies = tt;
  }

  pub excl_value : (o : Option Range) → k ≡ kind.Excl → ReadsEndsAs bs o → ReadsValueAs k bs buffer (option_map (λ r. value.Excl r) o)
  excl_value None q r = record { reads = none_of _ _ kind.Excl k q (λ d f e. r (record { from = d.0; to = d.1 }) f e); lies = tt }
  excl_value (Some e) q r = record { reads = ((sym q, r.0), r.1); lies = tt }

  pub incl_value : (o : Option Range) → k ≡ kind.Incl → ReadsEndsAs bs o → ReadsValueAs k bs buffer (option_map (λ r. value.Incl r) o)
  incl_value None q r = record { reads = none_of _ _ kind.Incl k q (λ d f e. r (record { from = d.0; to = d.1 }) f e); lies = tt }
  incl_value (Some e) q r = record { reads = ((sym q, r.0), r.1); lies = tt }
