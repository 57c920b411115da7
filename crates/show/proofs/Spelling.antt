-- Hexadecimal digits as they are printed: two of each byte, sixteen of a number.
use Rattle.std.proofs.Common.{◌≡◌, ℕ, replicate, lit≤, eq-eqb, ◌*◌, ◌≤◌, zero, suc, ◌+◌, ◌-◌, ◌/◌, ◌%◌, ◌^◌, ◌<◌, Bool, true, false, cond, eqb, List, [], ◌∷◌, ◌++◌, length, get_or, take, Some, Option, Result, Bor, codes, sym, refl, ap, ◌∙◌, subst, append_assoc, append-nil, pow-suc, arith}
use native.Mathlib.Nat.{sub-zero}
use Rattle.std.specs.Fmt.{digits, digits_onto, shown_prefix, radix_prefix, padded_integral, format_spec, char_count, DisplaysOnOk, WritesOnOk}
use Rattle.std.specs.Option.{option_map}
use Rattle.std.specs.declared.fmt.Formatter.{Formatter}
use Rattle.std.specs.declared.fmt.Error.{Error}
use Rattle.std.proofs.lemmas.Bool.{eqb-true}
use Rattle.std.proofs.lemmas.List.{take_more}
use lib.Ieee.{Float, binary64, to_bits}
use Rattle.value.specs.Values.{meaning}
use Rattle.value.specs.declared.value.Value.{Value}
use Rattle.value.specs.declared.value.Value.TheVariants as value
use Rattle.show.specs.Shown.{shown_value}
use Rattle.format.specs.Written.{figure, figures, pairs}
use Rattle.format.proofs.Hex.{pairs_push}

-- what a hole with a width and zeros writes of hexadecimal digits
module _ {W : Type 0} (took : W → List ℕ → W → Type 0) (f : Formatter W) (r : Result (Unit {0}) Error) (g : Formatter W) (base : ℕ) (o : Option (List ℕ)) where
  pub wrote : (s : _) (width : ℕ) (ds out : List ℕ) → padded_integral (format_spec 32 0 4 width (2 ^ 64 - 1)) false [] ds ≡ out → s ≡ format_spec 32 0 4 width (2 ^ 64 - 1) → o ≡ Some ds → DisplaysOnOk took f r (option_map (padded_integral s false (shown_prefix s (radix_prefix base))) o) g → WritesOnOk took f r out g
  wrote s width ds out is q e h =
      let styled : option_map (padded_integral s false (shown_prefix s (radix_prefix base))) o ≡ Some (padded_integral (format_spec 32 0 4 width (2 ^ 64 - 1)) false [] ds) = λ i. option_map (padded_integral (q i) false (shown_prefix (q i) (radix_prefix base))) (e i) in
      subst (λ x. DisplaysOnOk took f r x g) (styled ∙ ap Some is) h

pub pairs_step : (bs : List ℕ) (i : ℕ) → i < length bs → pairs (take i bs) ++ (figure (get_or bs i 0 / 16) ∷ figure (get_or bs i 0 % 16) ∷ []) ≡ pairs (take (i + 1) bs)
pairs_step bs i lt = sym (pairs_push (take i bs) (get_or bs i 0)) ∙ ap pairs (sym (take_more bs i 0 lt))

replicate_push : (k z : ℕ) → replicate k z ++ z ∷ [] ≡ replicate (suc k) z
replicate_push zero z = refl
replicate_push (suc k) z = ap (λ l. z ∷ l) (replicate_push k z)

no_figures : (k n : ℕ) → n ≡ 0 → figures k n ≡ replicate k 48
no_figures zero n e = refl
no_figures (suc k) n e =
    let ih : figures k (n / 16) ≡ replicate k 48 = no_figures k (n / 16) (omega arith) in
    let d : n % 16 ≡ 0 = omega arith in
    (λ i. ih i ++ figure (d i) ∷ []) ∙ replicate_push k 48

-- digits with zeros in front
abbrev fill : ℕ → List ℕ → List ℕ
fill m ds = replicate (m - length ds) 48 ++ ds

last : (k n : ℕ) (acc : List ℕ) → n / 16 ≡ 0 → figures (suc k) n ++ acc ≡ fill (suc k + length acc) (figure (n % 16) ∷ acc)
last k n acc e =
    let m : suc k + length acc - suc (length acc) ≡ k = omega arith in
    ap (λ l. (l ++ figure (n % 16) ∷ []) ++ acc) (no_figures k (n / 16) e) ∙ append_assoc (replicate k 48) (figure (n % 16) ∷ []) acc
    ∙ ap (λ j. replicate j 48 ++ figure (n % 16) ∷ acc) (sym m)

filled : (k j n : ℕ) (acc : List ℕ) → k ≤ j → n < 16 ^ suc k → figures (suc k) n ++ acc ≡ fill (suc k + length acc) (digits_onto (suc j) 16 false n acc)
filled zero j n acc le h =
    let z : n / 16 ≡ 0 = omega arith in
    let e : eqb (n / 16) 0 ≡ true = eq-eqb (n / 16) 0 z in
    last zero n acc z ∙ ap (λ b. fill (1 + length acc) (cond b (figure (n % 16) ∷ acc) (digits_onto j 16 false (n / 16) (figure (n % 16) ∷ acc)))) (sym e)
filled (suc k) zero n acc le h = absurd (omega arith)
filled (suc k) (suc j) n acc le h =
    let up : n < 16 ^ suc k * 16 = rw pow-suc at h in
    let P : Bool → Type 0 = λ b. eqb (n / 16) 0 ≡ b → figures (suc (suc k)) n ++ acc ≡ fill (suc (suc k) + length acc) (cond b (figure (n % 16) ∷ acc) (digits_onto (suc j) 16 false (n / 16) (figure (n % 16) ∷ acc))) in
    (elim (eqb (n / 16) 0) as P [
      | true ↦ λ e. last (suc k) n acc (eqb-true (n / 16) 0 e)
      | false ↦ λ e.
          let ds = digits_onto (suc j) 16 false (n / 16) (figure (n % 16) ∷ acc) in
          let m : suc k + suc (length acc) ≡ suc (suc k) + length acc = omega arith in
          append_assoc (figures (suc k) (n / 16)) (figure (n % 16) ∷ []) acc ∙ filled k j (n / 16) (figure (n % 16) ∷ acc) (omega arith) (omega arith)
          ∙ ap (λ l. fill l ds) m
    ]) refl

padded_is : (ds : List ℕ) → padded_integral (format_spec 32 0 4 16 (2 ^ 64 - 1)) false [] ds ≡ fill 16 ds
unfolding padded_integral char_count
padded_is ds = simp (sub-zero, append-nil)

digits_are : (n : ℕ) → n < 2 ^ 64 → fill 16 (digits 16 false n) ≡ figures 16 n
unfolding digits
digits_are n small = sym (filled 15 63 n [] (lit≤ tt) small)

-- what `{:016x}` writes
pub hex_word : (n : ℕ) → n < 2 ^ 64 → padded_integral (format_spec 32 0 4 16 (2 ^ 64 - 1)) false [] (digits 16 false n) ≡ figures 16 n
hex_word n small = padded_is (digits 16 false n) ∙ digits_are n small

-- a float, behind its kind's name
pub float_shown : (v : Value (Bor (List ℕ))) (x : Float) (n : ℕ) → v ≡ value.Float x → n ≡ to_bits binary64 x → codes "float\t" ++ figures 16 n ≡ shown_value (meaning (λ t. t.now) v)
float_shown v x n e b = ap (λ m. codes "float\t" ++ figures 16 m) b ∙ sym (ap (λ w. shown_value (meaning (λ t. t.now) w)) e)
