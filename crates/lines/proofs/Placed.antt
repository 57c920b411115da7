-- The slot of a line, by its number.
use Rattle.std.proofs.Common.{◌≡◌, ℕ, zero, suc, true, is_some, List, [], ◌∷◌, Some, None, Ok, Err, Option, ok_or, refl, ap, subst, length, arith}
use Rattle.std.specs.List.{slice_get, AllByRecursion}
use Rattle.fault.specs.declared.Fault.{Fault}
use Rattle.fault.specs.declared.Fault.TheVariants.{Absent}
use Rattle.value.specs.Values.{Meaning, kind_in}
use Rattle.format.specs.Written.{written}
use Rattle.lines.specs.Spelled.{Spells, Valued}
use Rattle.lines.specs.Slots.{sealed_slot, slots_of}
use Rattle.lines.specs.Parts.{Parts, OnLine}
use Rattle.lines.specs.declared.line.Line.{Line}
use Rattle.lines.proofs.Spelling.{written_on}

pub length_slots : (ls : List (List ℕ)) (values : AllByRecursion Valued ls) → length (slots_of ls values) ≡ length ls
length_slots [] values = refl
length_slots (l ∷ ls) values = ap suc (length_slots ls values.1)

no_slot : (ls : List (List ℕ)) (values : AllByRecursion Valued ls) (i : ℕ) → None ≡ slice_get ls i → slice_get (slots_of ls values) i ≡ None
no_slot [] values i e = refl
no_slot (l ∷ ls) values zero e = absurd (let z : ◌≡◌ {A = ℕ} 0 1 = cc in omega arith)
no_slot (l ∷ ls) values (suc i) e = no_slot ls values.1 i e

a_slot : (ls : List (List ℕ)) (values : AllByRecursion Valued ls) (i : ℕ) (line : List ℕ) → Some line ≡ slice_get ls i → (m : Meaning) × (slice_get (slots_of ls values) i ≡ Some (sealed_slot m)) × Spells line m
a_slot [] values i line e = absurd (let z : ◌≡◌ {A = ℕ} 0 1 = cc in omega arith)
a_slot (l ∷ ls) values zero line e = let same : l ≡ line = cc in (values.0.0, refl, subst (λ x. Spells x values.0.0) same values.0.1)
a_slot (l ∷ ls) values (suc i) line e = a_slot ls values.1 i line e

pub none_absent : {A : Type 0} (o : Option A) (f : Fault) → Err f ≡ ok_or o Absent → (o ≡ None) × (f ≡ Absent)
none_absent None f h = grind arith
none_absent (Some x) f h = grind arith

pub none_or : {A : Type 0} (o : Option A) (x : A) → Ok x ≡ ok_or o Absent → Some x ≡ o
none_or None x h = grind arith
none_or (Some y) x h = grind arith

module _ (ls : List (List ℕ)) (values : AllByRecursion Valued ls) (i : ℕ) where
  pub absent : None ≡ slice_get ls i → OnLine (slots_of ls values) i (Err Absent)
  absent e = (no_slot ls values i e, refl)

  -- it has parts, and they are of the slot's value
  pub parts : (line : List ℕ) (o : Option Line) → Some line ≡ slice_get ls i → Parts line o → is_some o ≡ true
  parts line None e p = let s = a_slot ls values i line e in absurd (p (kind_in s.0) (written s.0) s.2.1)
  parts line (Some l) e p = refl

  pub on_line : (line : List ℕ) (l : Line) → Some line ≡ slice_get ls i → Parts line (Some l) → OnLine (slots_of ls values) i (Ok l)
  on_line line l e p = let s = a_slot ls values i line e in (s.0, s.1, written_on line l s.0 p s.2)
