-- Operators on sets of kinds: where the sets have an answer, every pair has a row, whose kinds are in it.
use Rattle.std.proofs.Common.{◌≡◌, ℕ, ◌/◌, ◌%◌, ◌^◌, Bool, true, false, cond, ◌⊎◌, List, [], ◌∷◌, Ok, Err, Result, sym, refl, ap, ◌∙◌, subst, inl, inr, ⊎_elim, arith}
use lib.Bits.{bit_or, or_step, or_shr}
use Rattle.std.proofs.lemmas.Bool.{both_ways, eqb-true, eq-eqb}
use Rattle.fault.specs.Refusals.{bind}
use Rattle.fault.specs.declared.Fault.{Fault}
use Rattle.value.specs.Kinds.{kinds, kind_number, set, has, united}
use Rattle.value.specs.declared.kind.Kind.{Kind}
use Rattle.value.specs.declared.kind.Kind.TheVariants as kind
use Rattle.value.specs.declared.set.KindSet.{KindSet}
use Rattle.rule.specs.Sets.{gather, rows_right, rows_over}

pub ok_err : {A E : Type 0} (a : A) (e : E) → ◌≡◌ {A = Result A E} (Err e) (Ok a) → ⊥
ok_err a e q = let z : ◌≡◌ {A = ℕ} 0 1 = cc in omega arith

pub bind_ok : {A B E : Type 0} (o : Result A E) (f : A → Result B E) (y : B) → bind o f ≡ Ok y → (a : A) × (o ≡ Ok a) × (f a ≡ Ok y)
bind_ok (Ok a) f y h = (a, refl, h)
bind_ok (Err e) f y h = absurd (ok_err y e h)

low_or : (a b : ℕ) → a % 2 ≡ 1 → bit_or a b % 2 ≡ 1
low_or a b h = omega (arith, or_step a b)

low_or_right : (a b : ℕ) → b % 2 ≡ 1 → bit_or a b % 2 ≡ 1
low_or_right a b h = omega (arith, or_step a b)

has_left : (s t : KindSet) (k : Kind) → has s k ≡ true → has (united s t) k ≡ true
has_left s t k h =
    let n = kind_number k in
    eq-eqb _ 1 (ap (λ m. m % 2) (or_shr s.bits t.bits n) ∙ low_or (s.bits / 2 ^ n) (t.bits / 2 ^ n) (eqb-true _ 1 h))

has_right : (s t : KindSet) (k : Kind) → has t k ≡ true → has (united s t) k ≡ true
has_right s t k h =
    let n = kind_number k in
    eq-eqb _ 1 (ap (λ m. m % 2) (or_shr s.bits t.bits n) ∙ low_or_right (s.bits / 2 ^ n) (t.bits / 2 ^ n) (eqb-true _ 1 h))

abbrev pub Sub : KindSet → KindSet → Type 0
Sub s t = (k : Kind) → has s k ≡ true → has t k ≡ true

abbrev In : Kind → List Kind → Type 0
In k [] = ⊥
In k (j ∷ js) = (k ≡ j) ⊎ In k js

in_kinds : (k : Kind) → In k kinds
in_kinds kind.Unit = inl refl
in_kinds kind.Bool = inr (inl refl)
in_kinds kind.Int = inr (inr (inl refl))
in_kinds kind.Float = inr (inr (inr (inl refl)))
in_kinds kind.Char = inr (inr (inr (inr (inl refl))))
in_kinds kind.Str = inr (inr (inr (inr (inr (inl refl)))))
in_kinds kind.Blob = inr (inr (inr (inr (inr (inr (inl refl))))))
in_kinds kind.Excl = inr (inr (inr (inr (inr (inr (inr (inl refl)))))))
in_kinds kind.Incl = inr (inr (inr (inr (inr (inr (inr (inr (inl refl))))))))

module _ (f : Kind → Result KindSet Fault) (t : KindSet) where
  grows : (all u : KindSet) (ks : List Kind) → gather f t all ks ≡ Ok u → Sub all u
  unfolding gather
  grows all u [] e k h = subst (λ s. has s k ≡ true) (let p : all ≡ u = cc in p) h
  grows all u (j ∷ ks) e k h =
      let P : Bool → Type 0 = λ b. cond b (bind (f j) (λ s. gather f t (united all s) ks)) (gather f t all ks) ≡ Ok u → has u k ≡ true in
      (elim (has t j) as P [
        | true ↦ λ q. let p = bind_ok (f j) _ u q in grows (united all p.0) u ks p.2 k (has_left all p.0 k h)
        | false ↦ λ q. grows all u ks q k h
      ]) e

  pub record Covered (k : Kind) (u : KindSet) : Type 0 where
    pub row : KindSet
    pub is : f k ≡ Ok row
    pub sub : Sub row u

  covers : (all u : KindSet) (ks : List Kind) (k : Kind) → gather f t all ks ≡ Ok u → has t k ≡ true → In k ks → Covered k u
  unfolding gather
  covers all u [] k e h m = absurd m
  covers all u (j ∷ ks) k e h m =
      let P : Bool → Type 0 = λ b. cond b (bind (f j) (λ s. gather f t (united all s) ks)) (gather f t all ks) ≡ Ok u → has t j ≡ b → Covered k u in
      (elim (has t j) as P [
        | true ↦ λ q _.
            let p = bind_ok (f j) _ u q in
            ⊎_elim
            (λ same. record { row = p.0; is = ap f same ∙ p.1; sub = λ i hi. grows (united all p.0) u ks p.2 i (has_right all p.0 i hi) })
            (λ more. covers (united all p.0) u ks k p.2 h more)
            m
        | false ↦ λ q none.
            ⊎_elim
            (λ same. absurd (both_ways (has t j) none (ap (has t) (sym same) ∙ h)))
            (λ more. covers all u ks k q h more)
            m
      ]) e refl

pub row_for : (rows : Kind → Kind → Result KindSet Fault) (s t u : KindSet) (a b : Kind) → rows_over rows s t ≡ Ok u → has s a ≡ true → has t b ≡ true → Covered (rows a) t b u
row_for rows s t u a b e ha hb =
    let p = covers (rows_right rows t) s (set 0) u kinds a e ha (in_kinds a) in
    let q = covers (rows a) t (set 0) p.row kinds b p.is hb (in_kinds b) in
    record { row = q.row; is = q.is; sub = λ k h. p.sub k (q.sub k h) }
