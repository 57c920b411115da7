-- The laws of kinds, operators and values, for the crates above. Each kind and operator stands in its list at its number, so
-- that what a test says of the whole list holds of each; and a value keeps its meaning wherever its text is read.
use Rattle.std.proofs.Common.{◌≡◌, ℕ, zero, suc, Bool, true, ◌&&◌, List, [], ◌∷◌, Some, None, Option, sym, refl, ap, ◌∙◌, subst, arith}
use Rattle.std.specs.Option.{option_map}
use Rattle.std.specs.List.{slice_get}
use Rattle.std.proofs.lemmas.Bool.{and_parts, eqb-true}
use Rattle.value.specs.Kinds.{kinds, kind_number, is_kind}
use Rattle.value.specs.Ops.{ops, op_number}
use Rattle.value.specs.Values.{str, blob, kind_in, text_of, meaning, kind_of, text_in, Maps}
use Rattle.value.specs.declared.value.Value.{Value}
use Rattle.value.specs.declared.value.Value.TheVariants as value
use Rattle.value.specs.declared.kind.Kind.{Kind}
use Rattle.value.specs.declared.kind.Kind.TheVariants as kind
use Rattle.value.specs.declared.op.Op.{Op}
use Rattle.value.specs.declared.op.Op.TheVariants as op

pub kind_listed : (k : Kind) → slice_get kinds (kind_number k) ≡ Some k
kind_listed kind.Unit = refl
kind_listed kind.Bool = refl
kind_listed kind.Int = refl
kind_listed kind.Float = refl
kind_listed kind.Char = refl
kind_listed kind.Str = refl
kind_listed kind.Blob = refl
kind_listed kind.Excl = refl
kind_listed kind.Incl = refl

pub op_listed : (o : Op) → slice_get ops (op_number o) ≡ Some o
op_listed op.Plus = refl
op_listed op.Minus = refl
op_listed op.Multiply = refl
op_listed op.Divide = refl
op_listed op.Modulo = refl
op_listed op.PowerOf = refl
op_listed op.LeftShift = refl
op_listed op.RightShift = refl
op_listed op.Ampersand = refl
op_listed op.Pipe = refl
op_listed op.XOr = refl
op_listed op.EqualsTo = refl
op_listed op.NotEqualsTo = refl
op_listed op.LessThan = refl
op_listed op.LessThanEqualsTo = refl
op_listed op.GreaterThan = refl
op_listed op.GreaterThanEqualsTo = refl
op_listed op.ExclusiveRange = refl
op_listed op.InclusiveRange = refl

-- a test of every element
abbrev pub every : {A : Type 0} → (A → Bool) → List A → Bool
every p [] = true
every p (x ∷ xs) = p x && every p xs

pub every_at : {A : Type 0} (p : A → Bool) (xs : List A) (i : ℕ) (x : A) → every p xs ≡ true → slice_get xs i ≡ Some x → p x ≡ true
every_at p [] i x h e = absurd (let z : ◌≡◌ {A = ℕ} 0 1 = cc in omega arith)
every_at p (y ∷ ys) zero x h e = let s : y ≡ x = cc in ap p (sym s) ∙ (and_parts (p y) (every p ys) h).0
every_at p (y ∷ ys) (suc i) x h e = every_at p ys i x (and_parts (p y) (every p ys) h).1 e

pub every_kind : (p : Kind → Bool) → every p kinds ≡ true → (k : Kind) → p k ≡ true
every_kind p h k = every_at p kinds (kind_number k) k h (kind_listed k)

pub every_op : (p : Op → Bool) → every p ops ≡ true → (o : Op) → p o ≡ true
every_op p h o = every_at p ops (op_number o) o h (op_listed o)

-- kinds with the same number are the same
pub is_kind_lem : (j k : Kind) → is_kind j k ≡ true → j ≡ k
is_kind_lem j k h = let q : Some j ≡ Some k = sym (kind_listed j) ∙ ap (slice_get kinds) (eqb-true (kind_number j) (kind_number k) h) ∙ kind_listed k in cc

-- ---- values and what they mean

pub kind_meaning : {T : Type 0} (f : T → List ℕ) (v : Value T) → kind_in (meaning f v) ≡ kind_of v
kind_meaning f value.Unit = refl
kind_meaning f (value.Bool b) = refl
kind_meaning f (value.Int n) = refl
kind_meaning f (value.Float x) = refl
kind_meaning f (value.Char c) = refl
kind_meaning f (value.Str t) = refl
kind_meaning f (value.Blob t) = refl
kind_meaning f (value.Excl r) = refl
kind_meaning f (value.Incl r) = refl

-- w has the text of v, replaced: it means the same where the texts have the same bytes
module _ {T U : Type 0} (R : T → U → Type 0) where
  pub meaning_mapped : (f : T → List ℕ) (g : U → List ℕ) (v : Value T) (w : Value U) → Maps R v w → ((t : T) (u : U) → text_in v ≡ Some t → R t u → g u ≡ f t) → meaning g w ≡ meaning f v
  meaning_mapped f g value.Unit w m h = ap (meaning g) m
  meaning_mapped f g (value.Bool b) w m h = ap (meaning g) m
  meaning_mapped f g (value.Int n) w m h = ap (meaning g) m
  meaning_mapped f g (value.Float x) w m h = ap (meaning g) m
  meaning_mapped f g (value.Char c) w m h = ap (meaning g) m
  meaning_mapped f g (value.Str t) w m h = ap (meaning g) m.2 ∙ ap str (h t m.0 refl m.1)
  meaning_mapped f g (value.Blob t) w m h = ap (meaning g) m.2 ∙ ap blob (h t m.0 refl m.1)
  meaning_mapped f g (value.Excl r) w m h = ap (meaning g) m
  meaning_mapped f g (value.Incl r) w m h = ap (meaning g) m

  -- and what its text, if there is one, is to the other
  pub text_mapped : (v : Value T) (w : Value U) → Maps R v w → (u : U) → text_in w ≡ Some u → (t : T) × (text_in v ≡ Some t) × R t u
  text_mapped value.Unit w m u e = absurd (let z : ◌≡◌ {A = Option U} None (Some u) = sym (ap text_in m) ∙ e in let y : ◌≡◌ {A = ℕ} 0 1 = cc in omega arith)
  text_mapped (value.Bool b) w m u e = absurd (let z : ◌≡◌ {A = Option U} None (Some u) = sym (ap text_in m) ∙ e in let y : ◌≡◌ {A = ℕ} 0 1 = cc in omega arith)
  text_mapped (value.Int n) w m u e = absurd (let z : ◌≡◌ {A = Option U} None (Some u) = sym (ap text_in m) ∙ e in let y : ◌≡◌ {A = ℕ} 0 1 = cc in omega arith)
  text_mapped (value.Float x) w m u e = absurd (let z : ◌≡◌ {A = Option U} None (Some u) = sym (ap text_in m) ∙ e in let y : ◌≡◌ {A = ℕ} 0 1 = cc in omega arith)
  text_mapped (value.Char c) w m u e = absurd (let z : ◌≡◌ {A = Option U} None (Some u) = sym (ap text_in m) ∙ e in let y : ◌≡◌ {A = ℕ} 0 1 = cc in omega arith)
  text_mapped (value.Str t) w m u e = let q : m.0 ≡ u = (let z : Some m.0 ≡ Some u = sym (ap text_in m.2) ∙ e in cc) in (t, refl, subst (R t) q m.1)
  text_mapped (value.Blob t) w m u e = let q : m.0 ≡ u = (let z : Some m.0 ≡ Some u = sym (ap text_in m.2) ∙ e in cc) in (t, refl, subst (R t) q m.1)
  text_mapped (value.Excl r) w m u e = absurd (let z : ◌≡◌ {A = Option U} None (Some u) = sym (ap text_in m) ∙ e in let y : ◌≡◌ {A = ℕ} 0 1 = cc in omega arith)
  text_mapped (value.Incl r) w m u e = absurd (let z : ◌≡◌ {A = Option U} None (Some u) = sym (ap text_in m) ∙ e in let y : ◌≡◌ {A = ℕ} 0 1 = cc in omega arith)

  pub kind_mapped : (v : Value T) (w : Value U) → Maps R v w → kind_of w ≡ kind_of v
  kind_mapped value.Unit w m = ap kind_of m
  kind_mapped (value.Bool b) w m = ap kind_of m
  kind_mapped (value.Int n) w m = ap kind_of m
  kind_mapped (value.Float x) w m = ap kind_of m
  kind_mapped (value.Char c) w m = ap kind_of m
  kind_mapped (value.Str t) w m = ap kind_of m.2
  kind_mapped (value.Blob t) w m = ap kind_of m.2
  kind_mapped (value.Excl r) w m = ap kind_of m
  kind_mapped (value.Incl r) w m = ap kind_of m

pub text_meaning : {T : Type 0} (f : T → List ℕ) (v : Value T) → text_of (meaning f v) ≡ option_map f (text_in v)
text_meaning f value.Unit = refl
text_meaning f (value.Bool b) = refl
text_meaning f (value.Int n) = refl
text_meaning f (value.Float x) = refl
text_meaning f (value.Char c) = refl
text_meaning f (value.Str t) = refl
text_meaning f (value.Blob t) = refl
text_meaning f (value.Excl r) = refl
text_meaning f (value.Incl r) = refl
