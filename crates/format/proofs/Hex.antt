use Rattle.std.proofs.Common.{◌≡◌, ℕ, zero, suc, ◌+◌, ◌*◌, ◌/◌, ◌%◌, ◌^◌, ◌<◌, ◌≤◌, List, [], ◌∷◌, ◌++◌, length, get_or, take, drop, set, sym, refl, ap, ◌∙◌, subst, append_assoc, pow-suc, arith, lit<, length-append}
use native.Mathlib.Nat.{pow-le-pow_right}
use Rattle.std.proofs.lemmas.List.{take_more, take_all, take_more_set, get_or-take, get_or-drop}
use Rattle.std.specs.Simd.{first_chunks}
use Rattle.std.specs.List.{AllByRecursion}
use Rattle.std.proofs.ByRecursion.{All-push, All-get_or}
use Rattle.format.specs.Written.{figure, figures, pairs}

pub figures_more : (k n d : ℕ) → d < 16 → figures (k + 1) (n * 16 + d) ≡ figures k n ++ (figure d ∷ [])
figures_more k n d h =
    let q : (n * 16 + d) / 16 ≡ n = omega arith in
    let m : (n * 16 + d) % 16 ≡ d = omega arith in
    let e : k + 1 ≡ suc k = omega arith in rw (e, q, m)

pub length_figures : (k n : ℕ) → length (figures k n) ≡ k
length_figures zero n = refl
length_figures (suc k) n = length-append (figures k (n / 16)) _ ∙ omega (arith, length_figures k (n / 16))

abbrev pub Hex : ℕ → Type 0
Hex b = (d : ℕ) × (d < 16) × (figure d ≡ b)

pub hex_all : (k n : ℕ) → AllByRecursion Hex (figures k n)
hex_all zero n = tt
hex_all (suc k) n = All-push _ _ _ (hex_all k (n / 16)) (n % 16, omega arith, refl)

pub bits_more : (bs : List ℕ) (i n d : ℕ) → i < length bs → figures i n ≡ take i bs → d < 16 → figure d ≡ get_or bs i 0 → figures (i + 1) (n * 16 + d) ≡ take (i + 1) bs
bits_more bs i n d lt e h g =
    figures_more i n d h ∙ ap (λ (l : List ℕ). l ++ (figure d ∷ [])) e ∙ ap (λ (x : ℕ). take i bs ++ (x ∷ [])) g ∙ sym (take_more bs i 0 lt)

pub bits_fit : (i n d : ℕ) → n < 16 ^ i → d < 16 → n * 16 + d < 16 ^ (i + 1)
bits_fit i n d h g = let e : i + 1 ≡ suc i = omega arith in rw (e, pow-suc) (omega arith)

pub bits_below : (i n : ℕ) → i < 16 → n < 16 ^ i → n < 16 ^ 15
bits_below i n lt h = let p : 16 ^ i ≤ 16 ^ 15 = pow-le-pow_right {n = 16} (lit< tt) {i = i} {j = 15} (omega arith) in omega arith

pub bits_whole : (i n : ℕ) → i ≡ 16 → n < 16 ^ i → n < 2 ^ 64
bits_whole i n e h = rw e at h

pub bits_none : (bs : List ℕ) (i v : ℕ) → i < 16 → figures 16 v ≡ bs → ((d : ℕ) → d < 16 → figure d ≡ get_or bs i 0 → ⊥) → ⊥
bits_none bs i v lt e h =
    let x = All-get_or Hex (figures 16 v) i 0 (omega (arith, length_figures 16 v)) (hex_all 16 v) in
    h x.0 x.1 (x.2 ∙ ap (λ (l : List ℕ). get_or l i 0) e)

pub bits_all : (bs : List ℕ) (i n : ℕ) → i ≡ 16 → length bs ≡ 16 → figures i n ≡ take i bs → figures 16 n ≡ bs
bits_all bs i n e l h = subst (λ (k : ℕ). figures k n ≡ take k bs) e h ∙ take_all 16 bs (omega arith)

-- a slice in twos
two_at : (k i j : ℕ) (bs : List ℕ) → i < k → j < 2 → get_or (get_or (first_chunks 2 k bs) i []) j 0 ≡ get_or bs (2 * i + j) 0
two_at zero i j bs lt h = absurd (omega arith)
two_at (suc k) zero j bs lt h = get_or-take 2 bs j 0 h ∙ ap (λ n. get_or bs n 0) (omega arith)
two_at (suc k) (suc i) j bs lt h = two_at k i j (drop 2 bs) (omega arith) h ∙ get_or-drop 2 bs (2 * i + j) 0 ∙ ap (λ n. get_or bs n 0) (omega arith)

pub two_in : (digits : List (List ℕ)) (bs : List ℕ) (i : ℕ) → digits ≡ first_chunks 2 (length bs / 2) bs → i < length bs / 2 → (get_or (get_or digits i []) 0 0 ≡ get_or bs (2 * i) 0) × (get_or (get_or digits i []) 1 0 ≡ get_or bs (2 * i + 1) 0)
two_in digits bs i e lt = (
  ap (λ l. get_or (get_or l i []) 0 0) e ∙ two_at (length bs / 2) i 0 bs lt (omega arith) ∙ ap (λ n. get_or bs n 0) (omega arith),
  ap (λ l. get_or (get_or l i []) 1 0) e ∙ two_at (length bs / 2) i 1 bs lt (omega arith),
)

pub pairs_push : (bs : List ℕ) (b : ℕ) → pairs (bs ++ (b ∷ [])) ≡ pairs bs ++ (figure (b / 16) ∷ figure (b % 16) ∷ [])
pairs_push [] b = refl
pairs_push (x ∷ bs) b = ap (λ (l : List ℕ). figure (x / 16) ∷ figure (x % 16) ∷ l) (pairs_push bs b)

pub length_pairs : (bs : List ℕ) → length (pairs bs) ≡ 2 * length bs
length_pairs [] = refl
length_pairs (x ∷ bs) = omega (arith, length_pairs bs)

pub hex_pairs : (bs : List ℕ) → AllByRecursion (λ b. b < 256) bs → AllByRecursion Hex (pairs bs)
hex_pairs [] h = tt
hex_pairs (b ∷ bs) h = ((b / 16, omega (arith, h.0), refl), ((b % 16, omega arith, refl), hex_pairs bs h.1))

pub pairs_none : (bs vs : List ℕ) (i : ℕ) → AllByRecursion (λ b. b < 256) vs → pairs vs ≡ bs → i < length bs → ((d : ℕ) → d < 16 → figure d ≡ get_or bs i 0 → ⊥) → ⊥
pairs_none bs vs i small e lt h =
    let x = All-get_or Hex bs i 0 lt (subst (AllByRecursion Hex) e (hex_pairs vs small)) in h x.0 x.1 x.2

take_two : (bs : List ℕ) (i : ℕ) → 2 * i + 1 < length bs → take (2 * (i + 1)) bs ≡ take (2 * i) bs ++ (get_or bs (2 * i) 0 ∷ get_or bs (2 * i + 1) 0 ∷ [])
take_two bs i lt =
    let e : 2 * (i + 1) ≡ 2 * i + 1 + 1 = omega arith in
    ap (λ (k : ℕ). take k bs) e ∙ take_more bs (2 * i + 1) 0 lt ∙ ap (λ (l : List ℕ). l ++ (get_or bs (2 * i + 1) 0 ∷ [])) (take_more bs (2 * i) 0 (omega arith)) ∙ append_assoc (take (2 * i) bs) (get_or bs (2 * i) 0 ∷ []) (get_or bs (2 * i + 1) 0 ∷ [])

pub pairs_more : (bs out : List ℕ) (i high low : ℕ) → 2 * i + 1 < length bs → i < length out → pairs (take i out) ≡ take (2 * i) bs → high < 16 → low < 16 → figure high ≡ get_or bs (2 * i) 0 → figure low ≡ get_or bs (2 * i + 1) 0 → pairs (take (i + 1) (set out i (high * 16 + low))) ≡ take (2 * (i + 1)) bs
pairs_more bs out i high low lt room e a b p q =
    let x : (high * 16 + low) / 16 ≡ high = omega arith in
    let y : (high * 16 + low) % 16 ≡ low = omega arith in
    ap pairs (take_more_set out i (high * 16 + low) room) ∙ pairs_push (take i out) (high * 16 + low)
    ∙ ap (λ (n : ℕ). pairs (take i out) ++ (figure n ∷ figure ((high * 16 + low) % 16) ∷ [])) x
    ∙ ap (λ (n : ℕ). pairs (take i out) ++ (figure high ∷ figure n ∷ [])) y
    ∙ ap (λ (l : List ℕ). l ++ (figure high ∷ figure low ∷ [])) e
    ∙ ap (λ (n : ℕ). take (2 * i) bs ++ (n ∷ figure low ∷ [])) p
    ∙ ap (λ (n : ℕ). take (2 * i) bs ++ (get_or bs (2 * i) 0 ∷ n ∷ [])) q
    ∙ sym (take_two bs i lt)

pub pairs_all : (bs out : List ℕ) (i k : ℕ) → i ≡ k → length bs ≤ 2 * i → pairs (take i out) ≡ take (2 * i) bs → pairs (take k out) ≡ bs
pairs_all bs out i k e l h = ap (λ (j : ℕ). pairs (take j out)) (sym e) ∙ h ∙ take_all (2 * i) bs l
