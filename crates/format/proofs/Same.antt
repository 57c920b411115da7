-- What is written alike is the same: two values of a kind, two kinds, and a kind with a value behind a tab.
use Rattle.std.proofs.Common.{◌≡◌, ℕ, ◌≤◌, true, false, List, [], ◌∷◌, ◌++◌, Some, None, ℤ, sym, refl, ap, ap₂, ◌∙◌, subst, append-nil, arith, w64, SFits}
use lib.Ieee.{binary64, of_bits, to_bits}
use lib.Ieee.Bits.{of_bits-to_bits}
use lib.Utf8.{encode}
use Rattle.std.specs.Fmt.{signed_decimal}
use Rattle.std.specs.Str.{bytes_eq}
use Rattle.std.proofs.lemmas.Fmt.{signed_decimal_injective}
use Rattle.std.proofs.lemmas.Bool.{cond_both}
use Rattle.std.proofs.lemmas.Slice.Eq.{bytes_eq-Decides}
use Rattle.std.proofs.lemmas.Str.{encode_same}
use Rattle.value.specs.Kinds.{kinds}
use Rattle.value.specs.Values.{Meaning, unit, bool, int, float, char, str, blob, excl, incl, kind_in, text_of}
use Rattle.value.specs.declared.kind.Kind.{Kind}
use Rattle.value.specs.declared.kind.Kind.TheVariants as kind
use Rattle.format.specs.Names.{kind_name, named, kind_named}
use Rattle.format.specs.Reading.{ReadableIn}
use Rattle.format.specs.Written.{written}
use Rattle.format.proofs.Decimal.{mag_fits}
use Rattle.format.proofs.Floats.{bits_lt, figures_same}
use Rattle.format.proofs.Ranges.{ends_fields, fields_same}
use Rattle.format.proofs.Valued.{Data, holding, data_of, encode_bytes, encode_short, pairs_same}
use Rattle.format.specs.Fields.{fields}

-- ---- values of a kind

int_same : (a b : ℤ) → SFits w64 a → SFits w64 b → signed_decimal a ≡ signed_decimal b → a ≡ b
int_same a b f g e = signed_decimal_injective a b (mag_fits a f) (mag_fits b g) e

ends_same : (a b c d : ℤ) → SFits w64 a × SFits w64 b → SFits w64 c × SFits w64 d → signed_decimal a ++ (44 ∷ signed_decimal b) ≡ signed_decimal c ++ (44 ∷ signed_decimal d) → (a ≡ c) × (b ≡ d)
ends_same a b c d f g e =
    let p : signed_decimal a ∷ signed_decimal b ∷ [] ≡ signed_decimal c ∷ signed_decimal d ∷ [] = sym (ends_fields a b f.0 f.1) ∙ ap (fields 44) e ∙ ends_fields c d g.0 g.1 in
    (int_same a c f.0 g.0 cc, int_same b d f.1 g.1 cc)

same_data : (room : ℕ) (k : Kind) (d e : Data k) → ReadableIn room (holding k d) → ReadableIn room (holding k e) → written (holding k d) ≡ written (holding k e) → holding k d ≡ holding k e
same_data room kind.Unit d e p q h = refl
same_data room kind.Bool true true p q h = refl
same_data room kind.Bool true false p q h = absurd (let z : ◌≡◌ {A = ℕ} 116 102 = cc in omega arith)
same_data room kind.Bool false true p q h = absurd (let z : ◌≡◌ {A = ℕ} 102 116 = cc in omega arith)
same_data room kind.Bool false false p q h = refl
same_data room kind.Int d e p q h = ap int (int_same d e p q h)
same_data room kind.Float d e p q h =
    let bits = figures_same (to_bits binary64 d) (to_bits binary64 e) (bits_lt d p) (bits_lt e q) h in
    ap float (sym (of_bits-to_bits binary64 d p.0) ∙ ap (of_bits binary64) bits ∙ of_bits-to_bits binary64 e q.0)
same_data room kind.Char d e p q h =
    let same : encode d ≡ encode e = pairs_same (encode d) (encode e) (encode_bytes d p.0) (encode_bytes e q.0) h in
    ap char (encode_same d e [] [] (append-nil (encode d) ∙ same ∙ sym (append-nil (encode e)))).0
same_data room kind.Str d e p q h = ap str (pairs_same d e p.1 q.1 h)
same_data room kind.Blob d e p q h = ap blob (pairs_same d e p.0 q.0 h)
same_data room kind.Excl d e p q h = let s = ends_same d.0 d.1 e.0 e.1 p q h in ap₂ excl s.0 s.1
same_data room kind.Incl d e p q h = let s = ends_same d.0 d.1 e.0 e.1 p q h in ap₂ incl s.0 s.1

pub written_same : (room : ℕ) (m n : Meaning) → kind_in m ≡ kind_in n → ReadableIn room m → ReadableIn room n → written m ≡ written n → m ≡ n
written_same room m n k p q e =
    let a = data_of m in
    let b = subst (λ (i : Kind). (d : Data i) × (n ≡ holding i d)) (sym k) (data_of n) in
    a.1 ∙ same_data room (kind_in m) a.0 b.0 (subst (ReadableIn room) a.1 p) (subst (ReadableIn room) b.1 q) (sym (ap written a.1) ∙ e ∙ ap written b.1) ∙ sym b.1

-- ---- names of kinds

pub kind_called : (k : Kind) → kind_named (kind_name k) ≡ Some k
kind_called kind.Unit = refl
kind_called kind.Bool = refl
kind_called kind.Int = refl
kind_called kind.Float = refl
kind_called kind.Char = refl
kind_called kind.Str = refl
kind_called kind.Blob = refl
kind_called kind.Excl = refl
kind_called kind.Incl = refl

named_is : {A : Type 0} (name : A → List ℕ) (xs : List A) (bs : List ℕ) (y : A) → named name xs bs ≡ Some y → bs ≡ name y
named_is name [] bs y e = absurd (let z : None ≡ Some y = e in let c : ◌≡◌ {A = ℕ} 0 1 = cc in omega arith)
named_is name (x ∷ xs) bs y e =
    cond_both (bytes_eq bs (name x)) (Some x) (named name xs bs) (λ o. o ≡ Some y → bs ≡ name y)
    (λ t q. (bytes_eq-Decides bs (name x)).0 t ∙ ap name (let same : x ≡ y = cc in same))
    (λ f q. named_is name xs bs y q)
    e

pub kind_named_is : (bs : List ℕ) (k : Kind) → kind_named bs ≡ Some k → bs ≡ kind_name k
kind_named_is bs k e = named_is kind_name kinds bs k e

pub same_kind : (j k : Kind) → kind_name j ≡ kind_name k → j ≡ k
same_kind j k e = let q : Some j ≡ Some k = sym (kind_called j) ∙ ap kind_named e ∙ kind_called k in cc

-- ---- a kind's name and a value, with a tab between: no name has a tab

pub fields_spelled : (k : Kind) (w : List ℕ) → fields 9 (kind_name k ++ (9 ∷ w)) ≡ kind_name k ∷ fields 9 w
fields_spelled kind.Unit w = refl
fields_spelled kind.Bool w = refl
fields_spelled kind.Int w = refl
fields_spelled kind.Float w = refl
fields_spelled kind.Char w = refl
fields_spelled kind.Str w = refl
fields_spelled kind.Blob w = refl
fields_spelled kind.Excl w = refl
fields_spelled kind.Incl w = refl

pub spelled_same : (j k : Kind) (v w : List ℕ) → kind_name j ++ (9 ∷ v) ≡ kind_name k ++ (9 ∷ w) → (j ≡ k) × (v ≡ w)
spelled_same j k v w e =
    let p : kind_name j ∷ fields 9 v ≡ kind_name k ∷ fields 9 w = sym (fields_spelled j v) ∙ ap (fields 9) e ∙ fields_spelled k w in
    (same_kind j k cc, fields_same 9 v w cc)

-- ---- a value without a text needs room for a char at most

pub plain_in : (room room' : ℕ) (m : Meaning) → text_of m ≡ None → 4 ≤ room' → ReadableIn room m → ReadableIn room' m
plain_in room room' unit e h f = tt
plain_in room room' (bool b) e h f = tt
plain_in room room' (int n) e h f = f
plain_in room room' (float x) e h f = f
plain_in room room' (char c) e h f = (f.0, omega (arith, encode_short c))
plain_in room room' (str t) e h f = absurd (let z : ◌≡◌ {A = ℕ} 0 1 = cc in omega arith)
plain_in room room' (blob t) e h f = absurd (let z : ◌≡◌ {A = ℕ} 0 1 = cc in omega arith)
plain_in room room' (excl a b) e h f = f
plain_in room room' (incl a b) e h f = f
