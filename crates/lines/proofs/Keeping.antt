-- Lines that are written of values: there is one for each, which spells that value and no other, so that the test accepts them.
use Rattle.std.proofs.Common.{◌≡◌, ℕ, suc, ◌≤◌, Bool, true, false, cond, eqb, ltb, ◌||◌, is_ok, List, [], ◌∷◌, ◌++◌, length, map, Ok, Err, Result, sym, refl, ap, ◌∙◌, subst, inl, inr, append_assoc, arith, length-append}
use Rattle.std.specs.List.{AllByRecursion}
use Rattle.std.proofs.lemmas.Bool.{false≢true, le-ltb, ne_eqb}
use Rattle.std.proofs.lemmas.List.{length-map}
use Rattle.fault.specs.Refusals.{refusal}
use Rattle.fault.specs.declared.Fault.TheVariants.{BadLine}
use Rattle.fault.specs.declared.Refusal.{Refusal}
use Rattle.value.specs.Values.{Meaning, kind_in}
use Rattle.value.specs.declared.kind.Kind.{Kind}
use Rattle.value.specs.declared.kind.Kind.TheVariants as kind
use Rattle.format.specs.Fields.{onto, fields}
use Rattle.format.specs.Names.{kind_name}
use Rattle.format.specs.Reading.{ReadableIn}
use Rattle.format.specs.Written.{written}
use Rattle.format.proofs.Laws.{some_fields}
use Rattle.format.proofs.Ranges.{fields_at}
use Rattle.format.proofs.Shown.{no_line_feed}
use Rattle.shelf.specs.Slots.{Slot}
use Rattle.lines.specs.Spelled.{but_empty_last, lines, spelled, Valued}
use Rattle.lines.specs.Once.{spells_once}
use Rattle.lines.specs.Slots.{sealed_slot, slots_of}
use Rattle.lines.specs.Tested.{TestedFrom, BuiltBy, Built}
use Rattle.lines.specs.Kept.{written_lines, WrittenOf, KeepsWritten}
use Rattle.lines.proofs.Ended.{first_line}

-- a kind's name and a tab in front of the first line
name_first : (k : Kind) (w x : List ℕ) (fs : List (List ℕ)) → fields 10 w ≡ x ∷ fs → fields 10 (kind_name k ++ (9 ∷ w)) ≡ (kind_name k ++ (9 ∷ x)) ∷ fs
name_first kind.Unit w x fs e = rw e
name_first kind.Bool w x fs e = rw e
name_first kind.Int w x fs e = rw e
name_first kind.Float w x fs e = rw e
name_first kind.Char w x fs e = rw e
name_first kind.Str w x fs e = rw e
name_first kind.Blob w x fs e = rw e
name_first kind.Excl w x fs e = rw e
name_first kind.Incl w x fs e = rw e

abbrev Kept : List Meaning → Type 0
Kept ms = AllByRecursion (ReadableIn 65536) ms

line_first : (m : Meaning) (rest : List ℕ) → ReadableIn 65536 m → fields 10 (spelled m ++ (10 ∷ rest)) ≡ spelled m ∷ fields 10 rest
line_first m rest h =
    ap (fields 10) (append_assoc (kind_name (kind_in m)) (9 ∷ written m) (10 ∷ rest))
    ∙ name_first (kind_in m) (written m ++ (10 ∷ rest)) (written m) (fields 10 rest) (fields_at 10 (written m) rest (no_line_feed 65536 m h))

lines_written : (ms : List Meaning) → Kept ms → lines (written_lines ms) ≡ map spelled ms
lines_written [] h = refl
lines_written (m ∷ ms) h = first_line (spelled m ++ (10 ∷ written_lines ms)) (spelled m) (written_lines ms) (line_first m (written_lines ms) h.0) ∙ ap (λ ls. spelled m ∷ ls) (lines_written ms h.1)

-- ---- without the last line feed

fields_end : (bs : List ℕ) → fields 10 (bs ++ (10 ∷ [])) ≡ fields 10 bs ++ ([] ∷ [])
fields_end [] = refl
fields_end (b ∷ bs) =
    let s = some_fields 10 bs in
    let P : Bool → Type 0 = λ t. cond t ([] ∷ fields 10 (bs ++ (10 ∷ []))) (onto b (fields 10 (bs ++ (10 ∷ [])))) ≡ cond t ([] ∷ fields 10 bs) (onto b (fields 10 bs)) ++ ([] ∷ []) in
    elim (eqb b 10) as P [
      | true ↦ ap (λ fs. [] ∷ fs) (fields_end bs)
      | false ↦ ap (onto b) (fields_end bs) ∙ ap (λ fs. onto b (fs ++ ([] ∷ []))) s.are ∙ ap (λ fs. onto b fs ++ ([] ∷ [])) (sym s.are)
    ]

without_end : (f : List ℕ) (fs : List (List ℕ)) → but_empty_last (f ∷ (fs ++ ([] ∷ []))) ≡ f ∷ fs
without_end f [] = refl
without_end f (g ∷ fs) = ap (λ ls. f ∷ ls) (without_end g fs)

filled : (m : Meaning) → eqb (length (spelled m)) 0 ≡ false
filled m = ne_eqb (length (spelled m)) 0 (λ z. omega (arith, z, length-append (kind_name (kind_in m)) (9 ∷ written m)))

no_empty_last : (ms : List Meaning) → but_empty_last (map spelled ms) ≡ map spelled ms
no_empty_last [] = refl
no_empty_last (m ∷ []) = rw (filled m)
no_empty_last (m ∷ n ∷ ms) = ap (λ ls. spelled m ∷ ls) (no_empty_last (n ∷ ms))

-- the lines of bytes that are written of values, either way
lines_are : (ms : List Meaning) (bytes : List ℕ) → Kept ms → WrittenOf ms bytes → lines bytes ≡ map spelled ms
lines_are ms bytes h (inl e) = ap lines (sym e) ∙ lines_written ms h
lines_are ms bytes h (inr e) =
    let s = some_fields 10 bytes in
    let all : fields 10 bytes ≡ map spelled ms =
    s.are ∙ sym (without_end s.first s.more) ∙ ap (λ fs. but_empty_last (fs ++ ([] ∷ []))) (sym s.are) ∙ ap but_empty_last (sym (fields_end bytes)) ∙ ap lines (sym e) ∙ lines_written ms h in
    ap but_empty_last all ∙ no_empty_last ms

-- ---- the shelf of them

spell_all : (ms : List Meaning) → Kept ms → AllByRecursion Valued (map spelled ms)
spell_all [] h = tt
spell_all (m ∷ ms) h = ((m, (h.0, refl)), spell_all ms h.1)

slots_written : (ms : List Meaning) → Kept ms → (values : AllByRecursion Valued (map spelled ms)) → slots_of (map spelled ms) values ≡ map sealed_slot ms
slots_written [] h values = refl
slots_written (m ∷ ms) h values =
    let same : values.0.0 ≡ m = spells_once (spelled m) values.0.0 m values.0.1 (h.0, refl) in
    λ i. sealed_slot (same i) ∷ slots_written ms h.1 values.1 i

accepted : (n : ℕ) (ls : List (List ℕ)) (r : Result Unit Refusal) → AllByRecursion Valued ls → TestedFrom n ls r → r ≡ Ok tt
accepted n [] r v t = t
accepted n (l ∷ ls) r v (inl h) = accepted (suc n) ls r v.1 h.1
accepted n (l ∷ ls) r v (inr h) = absurd (h.0 v.0)

in_range : (ls : List (List ℕ)) → 1 ≤ length ls → length ls ≤ 4096 → (ltb (length ls) 1 || ltb 4096 (length ls)) ≡ false
in_range ls a b = rw (le-ltb (length ls) 1 a, le-ltb 4096 (length ls) b)

pub keeps : (bytes : List ℕ) (slots : List Slot) → Built bytes slots → KeepsWritten bytes slots
keeps bytes slots b ms least most h e =
    let are : lines bytes ≡ map spelled ms = lines_are ms bytes h e in
    let n = length-map ms spelled in
    let test : cond (ltb (length (map spelled ms)) 1 || ltb 4096 (length (map spelled ms))) (b.0 ≡ Err (refusal BadLine 0)) (TestedFrom 0 (map spelled ms) b.0) =
    subst (λ ls. cond (ltb (length ls) 1 || ltb 4096 (length ls)) (b.0 ≡ Err (refusal BadLine 0)) (TestedFrom 0 ls b.0)) are b.1 in
    let tested : TestedFrom 0 (map spelled ms) b.0 = subst (λ t. cond t (b.0 ≡ Err (refusal BadLine 0)) (TestedFrom 0 (map spelled ms) b.0)) (in_range (map spelled ms) (omega (arith, n)) (omega (arith, n))) test in
    let ok : b.0 ≡ Ok tt = accepted 0 (map spelled ms) b.0 (spell_all ms h) tested in
    let built : BuiltBy (Ok tt) (map spelled ms) slots = subst (λ ls. BuiltBy (Ok tt) ls slots) are (subst (λ r. BuiltBy r (lines bytes) slots) ok b.2) in
    built.1 ∙ slots_written ms h built.0

pub refused : (r : Result Unit Refusal) (ls : List (List ℕ)) → is_ok r ≡ false → BuiltBy r ls []
refused (Ok x) ls o = absurd (false≢true (sym o))
refused (Err f) ls o = refl

pub taken : (r : Result Unit Refusal) (ls : List (List ℕ)) (values : AllByRecursion Valued ls) → is_ok r ≡ true → BuiltBy r ls (slots_of ls values)
taken (Ok x) ls values o = (values, refl)
taken (Err f) ls values o = absurd (false≢true o)
