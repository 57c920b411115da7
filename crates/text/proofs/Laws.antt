-- The laws of texts, for this crate and those above: what a laid text leaves, where it is found again, and UTF-8 as a test.
use Rattle.std.proofs.Common.{◌≡◌, ℕ, ◌+◌, ◌-◌, ◌<◌, ◌≤◌, min, List, ◌++◌, length, take, drop, Ok, Err, IsUtf8, Decides, sym, refl, ap, ◌∙◌, inl, inr, append_assoc, add_assoc, arith, length-append, length-drop, length-take, take-take, drop-drop, take_at, drop_at}
use lib.Seq.{take-append-le}
use Rattle.std.proofs.lemmas.List.{drop-take, length-take-le, take_all, drop_all}
use Rattle.std.proofs.lemmas.Bool.{cases_lt, le-leb, lt-leb, and_parts, and_from}
use Rattle.fault.specs.declared.Fault.TheVariants.{BufferShort}
use Rattle.text.specs.declared.span.Span.{Span}
use lib.Utf8.{encodes, scalars}
use Rattle.std.specs.Str.{chars, bytes_eq}
use Rattle.std.proofs.lemmas.Slice.Eq.{bytes_eq-Decides}
use Rattle.std.proofs.lemmas.Str.{encodes-chars, scalars-chars}
use Rattle.text.specs.Scalars.{utf8}
use Rattle.text.specs.Buffers.{span, span_text, within, laid, stored}

pub length_laid : (d x : List ℕ) (at : ℕ) → at + length x ≤ length d → length (laid d at x) ≡ length d
length_laid d x at h = simp (length-append, length-take, length-drop) (omega arith)

-- what stands below `at` stays
pub take_laid : (d x : List ℕ) (at n : ℕ) → n ≤ at → at ≤ length d → take n (laid d at x) ≡ take n d
take_laid d x at n h l =
    let m : n ≤ length (take at d) = simp length-take (omega arith) in
    take-append-le n (take at d) (x ++ drop (at + length x) d) m ∙ take-take n at d h

pub span_laid : (d x : List ℕ) (at : ℕ) (s : Span) → within s at → at ≤ length d → span_text (laid d at x) s ≡ span_text d s
span_laid d x at s h l =
    sym (drop-take s.start s.len (laid d at x)) ∙ ap (drop s.start) (take_laid d x at (s.start + s.len) h l) ∙ drop-take s.start s.len d

-- the text just laid
pub span_new : (d x : List ℕ) (at : ℕ) → at ≤ length d → span_text (laid d at x) (span at (length x)) ≡ x
span_new d x at l =
    ap (take (length x)) (drop_at (take at d) (x ++ drop (at + length x) d) at (length-take-le at d l))
    ∙ take_at x (drop (at + length x) d) (length x) refl

-- what stands behind it stays
drop_end : (d x : List ℕ) (at : ℕ) → at ≤ length d → drop (at + length x) (laid d at x) ≡ drop (at + length x) d
drop_end d x at l =
    let n : length (take at d ++ x) ≡ at + length x = simp (length-append, length-take) (omega arith) in
    ap (drop (at + length x)) (sym (append_assoc (take at d) x (drop (at + length x) d))) ∙ drop_at (take at d ++ x) (drop (at + length x) d) (at + length x) n

pub drop_laid : (d x : List ℕ) (at n : ℕ) → at + length x ≤ n → at ≤ length d → drop n (laid d at x) ≡ drop n d
drop_laid d x at n h l =
    let e : (at + length x) + (n - (at + length x)) ≡ n = omega arith in
    ap (λ m. drop m (laid d at x)) (sym e) ∙ sym (drop-drop (n - (at + length x)) (at + length x) (laid d at x)) ∙ ap (drop (n - (at + length x))) (drop_end d x at l)
    ∙ drop-drop (n - (at + length x)) (at + length x) d ∙ ap (λ m. drop m d) e

-- one text behind another
pub laid_laid : (d x y : List ℕ) (at : ℕ) → at + length x ≤ length d → laid (laid d at x) (at + length x) y ≡ laid d at (x ++ y)
laid_laid d x y at l =
    let r = drop (at + length x) d in
    let n : length (take at d ++ x) ≡ at + length x = simp (length-append, length-take) (omega arith) in
    let t : take (at + length x) (laid d at x) ≡ take at d ++ x = ap (take (at + length x)) (sym (append_assoc (take at d) x r)) ∙ take_at (take at d ++ x) r (at + length x) n in
    let b : drop (at + length x) (laid d at x) ≡ r = drop_end d x at (omega arith) in
    let u : drop (at + length x + length y) (laid d at x) ≡ drop (at + length (x ++ y)) d =
    sym (drop-drop (length y) (at + length x) (laid d at x)) ∙ ap (drop (length y)) b ∙ drop-drop (length y) (at + length x) d
    ∙ ap (λ k. drop k d) (add_assoc at (length x) (length y) ∙ ap (λ k. at + k) (sym (length-append x y))) in
    ap (λ z. z ++ (y ++ drop (at + length x + length y) (laid d at x))) t ∙ ap (λ z. (take at d ++ x) ++ (y ++ z)) u ∙ simp append_assoc

-- the first k elements, and the others, by a number that stops at the length
module _ {A : Type 0} (xs : List A) (n k : ℕ) (e : n ≡ min (length xs) k) where
  pub take_first : take n xs ≡ take k xs
  take_first = elim (cases_lt k (length xs)) [
    | inl l ↦ ap (λ m. take m xs) (omega arith)
    | inr g ↦ take_all n xs (omega arith) ∙ sym (take_all k xs g)
  ]

  pub drop_first : drop n xs ≡ drop k xs
  drop_first = elim (cases_lt k (length xs)) [
    | inl l ↦ ap (λ m. drop m xs) (omega arith)
    | inr g ↦ drop_all n xs (omega arith) ∙ sym (drop_all k xs g)
  ]

-- the two ways of a write
pub stored_fits : (d x : List ℕ) (at : ℕ) → at + length x ≤ length d → stored d at x ≡ record { answer = Ok (span at (length x)); bytes = laid d at x }
stored_fits d x at h = rw (le-leb (at + length x) (length d) h)

pub stored_short : (d x : List ℕ) (at : ℕ) → length d < at + length x → stored d at x ≡ record { answer = Err BufferShort; bytes = d }
stored_short d x at h = rw (lt-leb (at + length x) (length d) h)

pub utf8_decides : (bs : List ℕ) → Decides (utf8 bs) (IsUtf8 bs)
utf8_decides bs = (
  λ e. let p = and_parts (scalars (chars bs)) (bytes_eq (encodes (chars bs)) bs) e in (chars bs, (p.0, (bytes_eq-Decides (encodes (chars bs)) bs).0 p.1)),
  λ u. and_from _ _ (scalars-chars bs u) ((bytes_eq-Decides (encodes (chars bs)) bs).1 (encodes-chars bs u)),
)
