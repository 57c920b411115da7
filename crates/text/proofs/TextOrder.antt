-- The first scalars of a text, and why the byte order of two texts is the order of their scalars.
use Rattle.std.proofs.Common.{◌≡◌, ℕ, ◌+◌, ◌/◌, ◌%◌, ◌<◌, ◌≤◌, ◌⊎◌, List, [], ◌∷◌, ◌++◌, length, Some, None, IsUtf8, Option, sym, refl, ap, ◌∙◌, subst, inl, inr, arith, length-append}
use lib.Utf8.{encode, encodes, next}
use Rattle.std.specs.Str.Iter.{chars_steps}
use Rattle.std.specs.Str.{chars}
use Rattle.std.specs.declared.str.Chars.{Chars}
use Rattle.std.proofs.lemmas.Bool.{lt-ltb, le-ltb, cases_lt, cases_order}
use Rattle.std.proofs.lemmas.Str.{encodes-chars, chars_past_char, IsUtf8-past_char, chars-nil, length-encode, len_utf8_bounds}
use Rattle.order.specs.declared.traits.Order.TheVariants.{Less, Equal, Greater}
use Rattle.order.specs.Orders.{by_nat, by_sequence, or_else}
use Rattle.text.specs.Scalars.{first_two, BytesOrderAsScalars, TwoScalarsSuffice}
use Rattle.text.proofs.Laws.{utf8_decides}

-- ---- the first two scalars
empty : (s : List ℕ) → length s ≡ 0 → s ≡ []
empty [] e = refl
empty (x ∷ s) e = absurd (omega arith)

some_long : (c : ℕ) (s t : List ℕ) → length s ≡ 0 → s ≡ encode c ++ t → ⊥
some_long c s t e h = omega (arith, ap length h, length-append (encode c) t, length-encode c, (len_utf8_bounds c).0)

pub two_chars : (s t u : Chars) (p q : Option ℕ) (bs : List ℕ) → s.rest.now ≡ bs → IsUtf8 bs → chars_steps s p t → chars_steps t q u → p ∷ q ∷ [] ≡ first_two (chars bs)
two_chars s t u None None bs e k h g = let f : chars bs ≡ [] = ap chars (empty bs (sym (ap length e) ∙ h.0.0)) ∙ chars-nil in rw f
two_chars s t u None (Some d) bs e k h g = absurd (some_long d s.rest.now u.rest.now h.0.0 (sym (ap (λ (x : Chars). x.rest.now) h.0.1) ∙ g.0))
two_chars s t u (Some c) None bs e k h g =
    let f : chars bs ≡ c ∷ [] = chars_past_char bs t.rest.now c k (sym e ∙ h.0) ∙ ap (λ x. c ∷ x) (ap chars (empty t.rest.now g.0.0) ∙ chars-nil) in rw f
two_chars s t u (Some c) (Some d) bs e k h g =
    let i : bs ≡ encode c ++ t.rest.now = sym e ∙ h.0 in
    let f : chars bs ≡ c ∷ d ∷ chars u.rest.now =
    chars_past_char bs t.rest.now c k i ∙ ap (λ x. c ∷ x) (chars_past_char t.rest.now u.rest.now d (IsUtf8-past_char bs t.rest.now c k i) g.0) in rw f

-- ---- two numbers
below : (x y : ℕ) → x < y → by_nat x y ≡ Less
below x y h = rw (lt-ltb x y h)

above : (x y : ℕ) → y < x → by_nat x y ≡ Greater
above x y h = let n : y ≤ x = omega arith in rw (le-ltb x y n, lt-ltb y x h)

same : (x : ℕ) → by_nat x x ≡ Equal
same x = let n : x ≤ x = omega arith in rw (le-ltb x x n)

-- ---- p comes before q within both
abbrev Before : List ℕ → List ℕ → Type 0
Before [] q = ⊥
Before (x ∷ p) [] = ⊥
Before (x ∷ p) (y ∷ q) = (x < y) ⊎ ((x ≡ y) × Before p q)

less : (p q r t : List ℕ) → Before p q → by_sequence by_nat (p ++ r) (q ++ t) ≡ Less
less [] q r t b = absurd b
less (x ∷ p) [] r t b = absurd b
less (x ∷ p) (y ∷ q) r t (inl h) = ap (λ o. or_else o (by_sequence by_nat (p ++ r) (q ++ t))) (below x y h)
less (x ∷ p) (y ∷ q) r t (inr h) = ap (λ z. or_else (by_nat x z) (by_sequence by_nat (p ++ r) (q ++ t))) (sym h.0) ∙ ap (λ o. or_else o (by_sequence by_nat (p ++ r) (q ++ t))) (same x) ∙ less p q r t h.1

greater : (p q r t : List ℕ) → Before p q → by_sequence by_nat (q ++ t) (p ++ r) ≡ Greater
greater [] q r t b = absurd b
greater (x ∷ p) [] r t b = absurd b
greater (x ∷ p) (y ∷ q) r t (inl h) = ap (λ o. or_else o (by_sequence by_nat (q ++ t) (p ++ r))) (above y x h)
greater (x ∷ p) (y ∷ q) r t (inr h) = ap (λ z. or_else (by_nat z x) (by_sequence by_nat (q ++ t) (p ++ r))) (sym h.0) ∙ ap (λ o. or_else o (by_sequence by_nat (q ++ t) (p ++ r))) (same x) ∙ greater p q r t h.1

past : (p r t : List ℕ) → by_sequence by_nat (p ++ r) (p ++ t) ≡ by_sequence by_nat r t
past [] r t = refl
past (x ∷ p) r t = ap (λ o. or_else o (by_sequence by_nat (p ++ r) (p ++ t))) (same x) ∙ past p r t

-- ---- the four shapes of a code
data Shape (c : ℕ) : Type 0 where
  of1 : c < 128 → encode c ≡ c ∷ [] → Shape c
  of2 : 128 ≤ c → c < 2048 → encode c ≡ (192 + c / 64) ∷ next c ∷ [] → Shape c
  of3 : 2048 ≤ c → c < 65536 → encode c ≡ (224 + c / 4096) ∷ next (c / 64) ∷ next c ∷ [] → Shape c
  of4 : 65536 ≤ c → encode c ≡ (240 + c / 262144) ∷ next (c / 4096) ∷ next (c / 64) ∷ next c ∷ [] → Shape c

shape : (c : ℕ) → Shape c
unfolding encode
shape c = by (cases_lt c 128) (cases_lt c 2048) (cases_lt c 65536)
  where
    by : (c < 128) ⊎ (128 ≤ c) → (c < 2048) ⊎ (2048 ≤ c) → (c < 65536) ⊎ (65536 ≤ c) → Shape c
    by (inl h) _ _ = of1 h (rw (lt-ltb c 128 h))
    by (inr a) (inl h) _ = of2 a h (rw (le-ltb c 128 a, lt-ltb c 2048 h))
    by (inr a) (inr b) (inl h) = of3 b h (rw (le-ltb c 128 a, le-ltb c 2048 b, lt-ltb c 65536 h))
    by (inr a) (inr b) (inr d) = of4 d (rw (le-ltb c 128 a, le-ltb c 2048 b, le-ltb c 65536 d))

through : (c d : ℕ) (p q : List ℕ) → encode c ≡ p → encode d ≡ q → Before p q → Before (encode c) (encode d)
through c d p q e f b = subst (λ x. Before x (encode d)) (sym e) (subst (λ y. Before p y) (sym f) b)

before : (c d : ℕ) → Shape c → Shape d → c < d → Before (encode c) (encode d)
before c d (of1 h e) (of1 k f) l = through c d _ _ e f (inl l)
before c d (of1 h e) (of2 j k f) l = through c d _ _ e f (inl (omega arith))
before c d (of1 h e) (of3 j k f) l = through c d _ _ e f (inl (omega arith))
before c d (of1 h e) (of4 j f) l = through c d _ _ e f (inl (omega arith))
before c d (of2 g h e) (of1 k f) l = absurd (omega arith)
before c d (of2 g h e) (of2 j k f) l = through c d _ _ e f
    (elim (cases_lt (c / 64) (d / 64)) [ inl m ↦ inl (omega arith) | inr m ↦ inr (omega arith, inl (omega arith)) ])
before c d (of2 g h e) (of3 j k f) l = through c d _ _ e f (inl (omega arith))
before c d (of2 g h e) (of4 j f) l = through c d _ _ e f (inl (omega arith))
before c d (of3 g h e) (of1 k f) l = absurd (omega arith)
before c d (of3 g h e) (of2 j k f) l = absurd (omega arith)
before c d (of3 g h e) (of3 j k f) l = through c d _ _ e f
    (elim (cases_lt (c / 4096) (d / 4096)) [
      | inl m ↦ inl (omega arith)
      | inr m ↦ inr (
        omega arith,
        elim (cases_lt (c / 64 % 64) (d / 64 % 64)) [ inl n ↦ inl (omega arith) | inr n ↦ inr (omega arith, inl (omega arith)) ],
      )
    ])
before c d (of3 g h e) (of4 j f) l = through c d _ _ e f (inl (omega arith))
before c d (of4 g e) (of1 k f) l = absurd (omega arith)
before c d (of4 g e) (of2 j k f) l = absurd (omega arith)
before c d (of4 g e) (of3 j k f) l = absurd (omega arith)
before c d (of4 g e) (of4 j f) l = through c d _ _ e f
    (elim (cases_lt (c / 262144) (d / 262144)) [
      | inl m ↦ inl (omega arith)
      | inr m ↦ inr (
        omega arith,
        elim (cases_lt (c / 4096 % 64) (d / 4096 % 64)) [
          | inl n ↦ inl (omega arith)
          | inr n ↦ inr (
            omega arith,
            elim (cases_lt (c / 64 % 64) (d / 64 % 64)) [ inl o ↦ inl (omega arith) | inr o ↦ inr (omega arith, inl (omega arith)) ],
          )
        ],
      )
    ])

filled : (c : ℕ) → (b : ℕ) × (p : List ℕ) × (encode c ≡ b ∷ p)
filled c = by (shape c)
  where
    by : Shape c → (b : ℕ) × (p : List ℕ) × (encode c ≡ b ∷ p)
    by (of1 h e) = (_, _, e)
    by (of2 g h e) = (_, _, e)
    by (of3 g h e) = (_, _, e)
    by (of4 g e) = (_, _, e)

-- ---- the order of two lists: scalars need not be asked for
kept : (cs ds : List ℕ) → by_sequence by_nat (encodes cs) (encodes ds) ≡ by_sequence by_nat cs ds
kept [] [] = refl
kept [] (d ∷ ds) = ap (λ p. by_sequence by_nat [] (p ++ encodes ds)) (filled d).2
kept (c ∷ cs) [] = ap (λ p. by_sequence by_nat (p ++ encodes cs) []) (filled c).2
kept (c ∷ cs) (d ∷ ds) = by (kept cs ds) (cases_order c d)
  where
    by : by_sequence by_nat (encodes cs) (encodes ds) ≡ by_sequence by_nat cs ds → (c ≡ d) ⊎ ((c < d) ⊎ (d < c)) → by_sequence by_nat (encode c ++ encodes cs) (encode d ++ encodes ds) ≡ or_else (by_nat c d) (by_sequence by_nat cs ds)
    by k (inl e) = subst (λ x. by_sequence by_nat (encode c ++ encodes cs) (encode x ++ encodes ds) ≡ or_else (by_nat c x) (by_sequence by_nat cs ds)) e
        (past (encode c) (encodes cs) (encodes ds) ∙ k ∙ ap (λ o. or_else o (by_sequence by_nat cs ds)) (sym (same c)))
    by k (inr (inl h)) = less (encode c) (encode d) (encodes cs) (encodes ds) (before c d (shape c) (shape d) h) ∙ ap (λ o. or_else o (by_sequence by_nat cs ds)) (sym (below c d h))
    by k (inr (inr h)) = greater (encode d) (encode c) (encodes ds) (encodes cs) (before d c (shape d) (shape c) h) ∙ ap (λ o. or_else o (by_sequence by_nat cs ds)) (sym (above c d h))

pub byte_order : BytesOrderAsScalars
byte_order xs ys u v =
    ap (λ p. by_sequence by_nat p ys) (sym (encodes-chars xs ((utf8_decides xs).0 u))) ∙ ap (λ q. by_sequence by_nat (encodes (chars xs)) q) (sym (encodes-chars ys ((utf8_decides ys).0 v))) ∙ kept (chars xs) (chars ys)

pub two_suffice : TwoScalarsSuffice
two_suffice c [] = (refl, refl)
two_suffice c (d ∷ []) = (refl, refl)
two_suffice c (d ∷ (e ∷ ds)) = (refl, refl)
