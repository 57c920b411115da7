-- The value of a line in a buffer: its text, from the pairs of digits that spell it, or no text at all.
use Rattle.std.proofs.Common.{◌≡◌, ℕ, ◌+◌, ◌/◌, ◌<◌, ◌≤◌, ◌⊎◌, Bool, true, false, List, ◌++◌, length, get_or, take, drop, Some, None, Ok, Err, Option, MatchOption, sym, refl, ap, ◌∙◌, subst, ⊎_elim, arith, lit≤, take_at, drop_at, length-take, length-drop}
use Rattle.std.proofs.lemmas.List.{take_all, drop-drop, length-take-le}
use Rattle.std.proofs.lemmas.Bool.{false≢true}
use Rattle.std.proofs.ByRecursion.{All-from_get_or, All-take, All-drop}
use Rattle.fault.specs.declared.Fault.TheVariants.{BufferShort}
use Rattle.text.specs.Buffers.{Stored, span, stored}
use Rattle.text.specs.declared.span.Span.{Span}
use Rattle.text.proofs.Laws.{stored_fits, stored_short}
use Rattle.value.specs.Values.{Meaning, unit, bool, int, float, char, str, blob, excl, incl, kind_in, text_of, size, meant, held_at, Told, told_at}
use Rattle.value.specs.declared.kind.Kind.{Kind}
use Rattle.value.specs.declared.kind.Kind.TheVariants as kind
use Rattle.value.specs.declared.value.Value.{Value}
use Rattle.value.specs.declared.value.Value.TheVariants as value
use Rattle.format.specs.Reading.{Bytes, ReadsKind}
use Rattle.format.specs.Written.{pairs}
use Rattle.format.proofs.Hex.{length_pairs}
use Rattle.format.proofs.Valued.{pairs_same}
use Rattle.format.proofs.Same.{written_same, plain_in}
use Rattle.lines.specs.Parts.{WrittenOn}
use Rattle.lines.specs.declared.line.Line.{Line}

-- ---- a text

module _ (d : List ℕ) (at : ℕ) (t bs : List ℕ) (spells : pairs t ≡ bs) where
  pub long : length bs / 2 ≡ length t
  long = omega (arith, ap length spells, length_pairs t)

  pub short : length d < at + length t → (Err BufferShort ≡ (stored d at t).answer) × (d ≡ (stored d at t).bytes)
  short h = let e = stored_short d t at h in (sym (ap (λ (s : Stored). s.answer) e), sym (ap (λ (s : Stored). s.bytes) e))

  -- the part of the buffer from the place on, as long as the text, after the text was read there
  module _ (k : ℕ) (is : k ≡ length t) (room : at + length t ≤ length d) (out : List ℕ) (same : length out ≡ length (take k (drop at d))) where
    length_part : length out ≡ length t
    length_part = same ∙ omega (arith, length-take k (drop at d), length-drop at d)

    -- the buffer with that part
    abbrev pub after : List ℕ
    after = take at d ++ (out ++ drop k (drop at d))

    out_bytes : ((i : ℕ) → get_or after i 0 < 256) → Bytes out
    out_bytes h =
        let whole : Bytes after = All-from_get_or (λ b. b < 256) after 0 (λ i _. h i) in
        let behind : Bytes (out ++ drop k (drop at d)) = subst Bytes (drop_at (take at d) (out ++ drop k (drop at d)) at (length-take-le at d (omega arith))) (All-drop (λ b. b < 256) at after whole) in
        subst Bytes (take_at out (drop k (drop at d)) (length out) refl) (All-take (λ b. b < 256) (length out) _ behind)

    is_text : Bytes t → Bytes out → (r : Option ℕ) → MatchOption r ((vs : List ℕ) → Bytes vs → length vs ≤ length (take k (drop at d)) → pairs vs ≡ bs → ⊥) (λ n. (n ≤ length out) × (pairs (take n out) ≡ bs) × (drop n out ≡ drop n (take k (drop at d)))) → out ≡ t
    is_text b c None h = absurd (h t b (omega (arith, same, length_part)) spells)
    is_text b c (Some n) h =
        let e : take n out ≡ t = pairs_same (take n out) t (All-take (λ b. b < 256) n out c) b (h.1 ∙ sym spells) in
        sym (take_all n out (omega (arith, length_part, ap length e, length-take n out))) ∙ e

    pub fits : Bytes t → ((i : ℕ) → get_or after i 0 < 256) → (r : Option ℕ) → MatchOption r ((vs : List ℕ) → Bytes vs → length vs ≤ length (take k (drop at d)) → pairs vs ≡ bs → ⊥) (λ n. (n ≤ length out) × (pairs (take n out) ≡ bs) × (drop n out ≡ drop n (take k (drop at d))))
        → (Ok (span at (length bs / 2)) ≡ (stored d at t).answer) × (after ≡ (stored d at t).bytes)
    fits b c r h =
        let e = stored_fits d t at room in
        let rest : drop k (drop at d) ≡ drop (at + length t) d = drop-drop k at d ∙ ap (λ n. drop n d) (omega arith) in (
          ap (λ n. Ok (span at n)) long ∙ sym (ap (λ (s : Stored). s.answer) e),
          ap (λ z. take at d ++ (z ++ drop k (drop at d))) (is_text b (out_bytes c) r h) ∙ ap (λ z. take at d ++ (t ++ z)) rest ∙ sym (ap (λ (s : Stored). s.bytes) e),
        )

-- ---- no text

plain_text : (m : Meaning) → (kind_in m ≡ kind.Str → ⊥) → (kind_in m ≡ kind.Blob → ⊥) → text_of m ≡ None
plain_text unit a b = refl
plain_text (bool x) a b = refl
plain_text (int n) a b = refl
plain_text (float x) a b = refl
plain_text (char c) a b = refl
plain_text (str t) a b = absurd (a refl)
plain_text (blob t) a b = absurd (b refl)
plain_text (excl x y) a b = refl
plain_text (incl x y) a b = refl

plain_held : (buffer : List ℕ) (place : ℕ) (v : Value Span) → text_of (meant buffer v) ≡ None → v ≡ held_at place (meant buffer v)
plain_held buffer place value.Unit e = refl
plain_held buffer place (value.Bool b) e = refl
plain_held buffer place (value.Int n) e = refl
plain_held buffer place (value.Float x) e = refl
plain_held buffer place (value.Char c) e = refl
plain_held buffer place (value.Str t) e = absurd (let z : ◌≡◌ {A = ℕ} 0 1 = cc in omega arith)
plain_held buffer place (value.Blob t) e = absurd (let z : ◌≡◌ {A = ℕ} 0 1 = cc in omega arith)
plain_held buffer place (value.Excl r) e = refl
plain_held buffer place (value.Incl r) e = refl

module _ (l : Line) (no_str : l.kind ≡ kind.Str → ⊥) (no_blob : l.kind ≡ kind.Blob → ⊥) (m : Meaning) (w : WrittenOn l m) where
  no_text : (n : Meaning) → kind_in n ≡ l.kind → text_of n ≡ None
  no_text n k = plain_text n (λ e. no_str (sym k ∙ e)) (λ e. no_blob (sym k ∙ e))

  -- the value that is read in a room of four bytes
  pub plain : (four : List ℕ) (v : Value Span) (buffer : List ℕ) (place : ℕ) → length four ≡ 4 → ReadsKind (length four) l.kind l.written.now (Some (meant four v)) → (Ok v ≡ (told_at buffer place m).answer) × (buffer ≡ (told_at buffer place m).bytes)
  plain four v buffer place n h =
      let x = meant four v in
      let wide = plain_in (length four) 65536 x (no_text x h.0.0) (lit≤ tt) h.0.1 in
      let same : x ≡ m = written_same 65536 x m (h.0.0 ∙ sym w.kind) wide w.readable (h.1 ∙ sym w.spells) in
      let none : text_of m ≡ None = no_text m w.kind in
      let told : told_at buffer place m ≡ record { answer = Ok (held_at place m); bytes = buffer } = rw none in (
        ap Ok (plain_held four place v (no_text x h.0.0) ∙ ap (held_at place) same) ∙ sym (ap (λ (t : Told). t.answer) told),
        sym (ap (λ (t : Told). t.bytes) told),
      )

-- ---- how long a text is

abbrev has_text : Kind → Bool
has_text kind.Str = true
has_text kind.Blob = true
has_text kind.Unit = false
has_text kind.Bool = false
has_text kind.Int = false
has_text kind.Float = false
has_text kind.Char = false
has_text kind.Excl = false
has_text kind.Incl = false

module _ (l : Line) (k : (l.kind ≡ kind.Str) ⊎ (l.kind ≡ kind.Blob)) where
  textual : (j : Kind) → j ≡ l.kind → has_text j ≡ true
  textual j e = ap has_text e ∙ ⊎_elim (λ (h : l.kind ≡ kind.Str). ap has_text h) (λ (h : l.kind ≡ kind.Blob). ap has_text h) k

  pub half : (m : Meaning) → WrittenOn l m → length l.written.now / 2 ≡ size (text_of m)
  half unit w = absurd (false≢true (textual kind.Unit w.kind))
  half (bool x) w = absurd (false≢true (textual kind.Bool w.kind))
  half (int n) w = absurd (false≢true (textual kind.Int w.kind))
  half (float x) w = absurd (false≢true (textual kind.Float w.kind))
  half (char c) w = absurd (false≢true (textual kind.Char w.kind))
  half (str t) w = omega (arith, ap length w.spells, length_pairs t)
  half (blob t) w = omega (arith, ap length w.spells, length_pairs t)
  half (excl x y) w = absurd (false≢true (textual kind.Excl w.kind))
  half (incl x y) w = absurd (false≢true (textual kind.Incl w.kind))
