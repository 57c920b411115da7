-- SELECT speaks for APPLY: the proof of `ApplyAsSelected`, which is a law of the trait `Selectable`. Assumes nothing.
use Rattle.std.proofs.Common.{◌≡◌, ℕ, ◌≤◌, Bool, true, cond, ◌||◌, eqb, ltb, List, ◌++◌, length, ℤ, pos, negsuc, is_ok, Some, None, Ok, Err, IsUtf8, Option, Result, sym, refl, ap, ◌∙◌, subst, ⊎_elim, arith}
use lib.Utf8.{encode}
use Rattle.std.specs.Option.{option_map, ok_or}
use Rattle.std.proofs.lemmas.Str.{IsUtf8-append, IsUtf8-encode}
use Rattle.std.proofs.lemmas.Bool.{false≢true, and_parts, or_left, or_right, or_cases, cond_both}
use Rattle.fault.specs.Refusals.{number, bind, unless}
use Rattle.fault.specs.declared.Fault.{Fault}
use Rattle.fault.specs.declared.Fault.TheVariants.{NoRow, Overflow, ZeroDivisor, Remainder, OverLimit}
use Rattle.value.specs.Kinds.{is_kind, single, has}
use Rattle.text.specs.Scalars.{utf8}
use Rattle.text.proofs.Laws.{utf8_decides}
use Rattle.value.specs.Values.{Meaning, unit, bool, int, float, char, str, blob, excl, incl, kind_in, well_formed}
use Rattle.value.specs.declared.kind.Kind.{Kind}
use Rattle.value.specs.declared.kind.Kind.TheVariants as kind
use Rattle.value.proofs.Laws.{every_kind, is_kind_lem}
use Rattle.value.specs.declared.set.KindSet.{KindSet}
use Rattle.whole.specs.Whole.{computed, is_zero, power_of}
use Rattle.whole.specs.declared.operation.Arithmetic.{Arithmetic}
use Rattle.whole.specs.declared.operation.Arithmetic.TheVariants as whole
use Rattle.rows.specs.Rows.{is_letters, is_number, row_of, assign_row_of}
use Rattle.rows.specs.Routines.{range_kind, results, assign_results}
use Rattle.rows.specs.declared.routine.RangeKind.{RangeKind}
use Rattle.rows.specs.declared.routine.RangeKind.TheVariants.{Exclusive, Inclusive}
use Rattle.rows.specs.declared.routine.FnBuiltin.{FnBuiltin}
use Rattle.rows.specs.declared.routine.FnBuiltin.TheVariants as builtin
use Rattle.rows.specs.declared.routine.FnAssign.{FnAssign}
use Rattle.rows.specs.declared.routine.FnAssign.TheVariants as assign
use Rattle.routines.specs.Calls.{Given, left, right, fresh, of, chosen, grown, typed, allowed, ranged, greatest, called, assigned, as_int, as_float, as_bool, as_blob, as_range, as_end, as_scalars, as_bytes}
use Rattle.routines.specs.declared.made.Limits.{Limits}
use Rattle.routines.specs.declared.made.TextKind.TheVariants.{Str as StrText, Blob as BlobText}
use Rattle.routines.specs.declared.made.Choice.{Choice}
use Rattle.routines.specs.declared.made.Choice.TheVariants.{Left, Join}
use Rattle.routines.specs.declared.made.TextKind.{TextKind}
use Rattle.operators.specs.Serving.{is_range, is_end, of_some, row_serves, assign_row_serves, serves, serves_assign, int_read, float_read, bool_read, blob_read, range_read, end_read, scalars_read, bytes_read}
use Rattle.operators.specs.Applied.{in_row}
use Rattle.operators.specs.Listed.{InRow, spelled, Listed, ApplyAsSelected}

-- a value that is well formed is well spelled
pub well_spelled : (m : Meaning) → well_formed m ≡ true → spelled m ≡ true
well_spelled unit w = refl
well_spelled (bool b) w = refl
well_spelled (int n) w = refl
well_spelled (float x) w = refl
well_spelled (char c) w = w
well_spelled (str bs) w = (and_parts (utf8 bs) _ w).0
well_spelled (blob bs) w = refl
well_spelled (excl x y) w = refl
well_spelled (incl x y) w = refl

-- what a char or a str brings to a text is UTF-8
letters_utf8 : (m : Meaning) (x : List ℕ) → is_letters (kind_in m) ≡ true → well_formed m ≡ true → as_bytes m ≡ Ok x → IsUtf8 x
letters_utf8 unit x h w e = absurd (false≢true h)
letters_utf8 (bool b) x h w e = absurd (false≢true h)
letters_utf8 (int n) x h w e = absurd (false≢true h)
letters_utf8 (float y) x h w e = absurd (false≢true h)
letters_utf8 (char c) x h w e = let q : encode c ≡ x = cc in subst IsUtf8 q (IsUtf8-encode c w)
letters_utf8 (str bs) x h w e = let q : bs ≡ x = cc in subst IsUtf8 q ((utf8_decides bs).0 (and_parts (utf8 bs) _ w).0)
letters_utf8 (blob bs) x h w e = absurd (false≢true h)
letters_utf8 (excl y z) x h w e = absurd (false≢true h)
letters_utf8 (incl y z) x h w e = absurd (false≢true h)

joined_utf8 : (a b : Meaning) (x y : List ℕ) → is_letters (kind_in a) ≡ true → is_letters (kind_in b) ≡ true → as_bytes a ≡ Ok x → as_bytes b ≡ Ok y → well_formed a ≡ true → well_formed b ≡ true → utf8 (x ++ y) ≡ true
joined_utf8 a b x y p q e d v w = (utf8_decides (x ++ y)).1 (IsUtf8-append x y (letters_utf8 a x p v e) (letters_utf8 b y q w d))

-- a result that is refused with a number from 6 to 10, if at all
abbrev pub Rowful : {A : Type 0} → Result A Fault → Type 0
Rowful (Ok a) = Unit {0}
Rowful (Err f) = (6 ≤ number f) × (number f ≤ 10)

rowful_cond : {A : Type 0} (t : Bool) (o p : Result A Fault) → Rowful o → Rowful p → Rowful (cond t o p)
rowful_cond t o p h k = cond_both t o p Rowful (λ _. h) (λ _. k)

rowful_unless : {A : Type 0} (t : Bool) (f : Fault) (x : A) → ((6 ≤ number f) × (number f ≤ 10)) → Rowful (unless t f x)
rowful_unless t f x h = rowful_cond t (Ok x) (Err f) tt h

rowful_power : (x y : ℤ) → Rowful (power_of x y)
rowful_power x (pos n) = rowful_cond (ltb 4294967295 n) (Err Overflow) _ (omega arith, omega arith) (rowful_unless _ Overflow _ (omega arith, omega arith))
rowful_power x (negsuc n) = (omega arith, omega arith)

pub rowful_computed : (f : Arithmetic) (x y : ℤ) → Rowful (computed f x y)
rowful_computed whole.Add x y = rowful_unless _ Overflow _ (omega arith, omega arith)
rowful_computed whole.Subtract x y = rowful_unless _ Overflow _ (omega arith, omega arith)
rowful_computed whole.Multiply x y = rowful_unless _ Overflow _ (omega arith, omega arith)
rowful_computed whole.Divide x y = rowful_cond (is_zero y) (Err ZeroDivisor) _ (omega arith, omega arith) (rowful_unless _ Overflow _ (omega arith, omega arith))
rowful_computed whole.Modulo x y = rowful_cond (is_zero y) (Err Remainder) _ (omega arith, omega arith) (rowful_unless _ Remainder _ (omega arith, omega arith))
rowful_computed whole.Power x y = rowful_power x y
rowful_computed whole.ShiftLeft x y = tt
rowful_computed whole.ShiftRight x y = tt
rowful_computed whole.And x y = tt
rowful_computed whole.Or x y = tt
rowful_computed whole.Xor x y = tt

rowful_ok : {A : Type 0} (r : Result A Fault) → is_ok r ≡ true → Rowful r
rowful_ok (Ok x) e = tt
rowful_ok (Err f) e = absurd (false≢true e)

-- ---- a result of a row that lists s, for the operands a and b
module _ (s : KindSet) (a b : Meaning) where
  in_bind : {A : Type 0} (r : Result A Fault) (k : A → Result Given Fault) → Rowful r → ((x : A) → r ≡ Ok x → InRow s a b (k x)) → InRow s a b (bind r k)
  in_bind (Ok x) k h f = f x refl
  in_bind (Err e) k h f = h

  in_of : {A : Type 0} (read : Meaning → Result A Fault) (k : A → A → Result Given Fault) → is_ok (read a) ≡ true → is_ok (read b) ≡ true → ((x y : A) → read a ≡ Ok x → read b ≡ Ok y → InRow s a b (k x y)) → InRow s a b (of read a b k)
  in_of read k p q f = in_bind (read a) _ (rowful_ok (read a) p) (λ x e. in_bind (read b) _ (rowful_ok (read b) q) (λ y d. f x y e d))

  in_left : has s (kind_in a) ≡ true → InRow s a b (Ok left)
  in_left h = (h, λ w _. well_spelled a w)

  in_right : has s (kind_in b) ≡ true → InRow s a b (Ok right)
  in_right h = (h, λ _ w. well_spelled b w)

  in_chosen : (t : Bool) (c d : Choice) (bs : List ℕ) → InRow s a b (chosen bs c) → InRow s a b (chosen bs d) → InRow s a b (chosen bs (cond t c d))
  in_chosen t c d bs h k = cond_both t c d (λ x. InRow s a b (chosen bs x)) (λ _. h) (λ _. k)

  in_choice : (t : Bool) (o p : Result Choice Fault) (bs : List ℕ) → InRow s a b (bind o (chosen bs)) → InRow s a b (bind p (chosen bs)) → InRow s a b (bind (cond t o p) (chosen bs))
  in_choice t o p bs h k = cond_both t o p (λ x. InRow s a b (bind x (chosen bs))) (λ _. h) (λ _. k)

  in_grown : (limit : ℕ) (k : TextKind) (bs : List ℕ) → has s (kind_in (typed k bs)) ≡ true → (well_formed a ≡ true → well_formed b ≡ true → spelled (typed k bs) ≡ true) → InRow s a b (grown limit k bs)
  in_grown limit k bs h f = cond_both (allowed limit (length bs)) _ _ (InRow s a b) (λ _. (h, f)) (λ _. (omega arith, omega arith))

other_bytes : (m : Meaning) → (is_kind (kind_in m) kind.Int || is_letters (kind_in m)) ≡ true → is_ok (as_bytes m) ≡ true
other_bytes m h = bytes_read m ∙ ⊎_elim (λ i. or_left _ _ (or_right _ _ i)) (λ t. or_left _ _ (or_left _ _ t)) (or_cases _ (is_letters (kind_in m)) h)

in_range : (a b : Meaning) (r : RangeKind) (x y : ℤ) → InRow (single (range_kind r)) a b (Ok (fresh (ranged r x y)))
in_range a b Exclusive x y = (refl, λ _ _. refl)
in_range a b Inclusive x y = (refl, λ _ _. refl)

letters_bytes : (m : Meaning) → is_letters (kind_in m) ≡ true → is_ok (as_bytes m) ≡ true
letters_bytes m h = bytes_read m ∙ or_left _ _ (or_left _ _ h)

blob_bytes : (m : Meaning) → is_kind (kind_in m) kind.Blob ≡ true → is_ok (as_bytes m) ≡ true
blob_bytes m h = bytes_read m ∙ or_right _ _ h

-- a kind is in its own set
in_single : (k : Kind) → has (single k) k ≡ true
in_single = every_kind (λ k. has (single k) k) refl

listed : (k : Kind) (m : Meaning) → is_kind (kind_in m) k ≡ true → has (single k) (kind_in m) ≡ true
listed k m h = subst (λ j. has (single k) j ≡ true) (sym (is_kind_lem (kind_in m) k h)) (in_single k)

module _ (l : Limits) (a b : Meaning) where
  called_in : (f : FnBuiltin) → serves f (kind_in a) (kind_in b) ≡ true → InRow (results f) a b (called l f a b)
  called_in (builtin.Int f) h =
      let p = and_parts _ (is_kind (kind_in b) kind.Int) h in
      in_of _ a b as_int _ (int_read a ∙ p.0) (int_read b ∙ p.1) (λ x y _ _. in_bind _ a b (computed f x y) _ (rowful_computed f x y) (λ z _. (refl, λ _ _. refl)))
  called_in (builtin.Float f) h =
      let p = and_parts _ (is_number (kind_in b)) h in
      in_of _ a b as_float _ (float_read a ∙ p.0) (float_read b ∙ p.1) (λ x y _ _. (refl, λ _ _. refl))
  called_in (builtin.Bool f) h =
      let p = and_parts _ (is_kind (kind_in b) kind.Bool) h in
      in_of _ a b as_bool _ (bool_read a ∙ p.0) (bool_read b ∙ p.1) (λ x y _ _. (refl, λ _ _. refl))
  called_in (builtin.CompareInts c) h =
      let p = and_parts _ (is_kind (kind_in b) kind.Int) h in
      in_of _ a b as_int _ (int_read a ∙ p.0) (int_read b ∙ p.1) (λ x y _ _. (refl, λ _ _. refl))
  called_in (builtin.CompareFloats c) h =
      let p = and_parts _ (is_number (kind_in b)) h in
      in_of _ a b as_float _ (float_read a ∙ p.0) (float_read b ∙ p.1) (λ x y _ _. (refl, λ _ _. refl))
  called_in (builtin.CompareBools c) h =
      let p = and_parts _ (is_kind (kind_in b) kind.Bool) h in
      in_of _ a b as_bool _ (bool_read a ∙ p.0) (bool_read b ∙ p.1) (λ x y _ _. (refl, λ _ _. refl))
  called_in (builtin.CompareTexts c) h =
      let p = and_parts _ (is_letters (kind_in b)) h in
      in_of _ a b as_scalars _ (scalars_read a ∙ p.0) (scalars_read b ∙ p.1) (λ x y _ _. (refl, λ _ _. refl))
  called_in (builtin.EqualBlobs q) h =
      let p = and_parts _ (is_kind (kind_in b) kind.Blob) h in
      in_of _ a b as_blob _ (blob_read a ∙ p.0) (blob_read b ∙ p.1) (λ x y _ _. (refl, λ _ _. refl))
  called_in (builtin.EqualRanges q) h =
      let p = and_parts _ (is_range (kind_in b)) h in
      in_of _ a b as_range _ (range_read a ∙ p.0) (range_read b ∙ p.1) (λ x y _ _. (refl, λ _ _. refl))
  called_in (builtin.Constant t) h = (refl, λ _ _. refl)
  called_in (builtin.Range r) h =
      let p = and_parts _ (is_end (kind_in b)) h in
      in_bind _ a b (as_end (pos 0) a) _ (rowful_ok _ (end_read (pos 0) a ∙ p.0)) (λ x _. in_bind _ a b (as_end greatest b) _ (rowful_ok _ (end_read greatest b ∙ p.1)) (λ y _. in_range a b r x y))
  called_in builtin.Concat h =
      let p = and_parts _ (is_letters (kind_in b)) h in
      in_of _ a b as_bytes _ (letters_bytes a p.0) (letters_bytes b p.1) (λ x y e d. in_grown _ a b _ StrText (x ++ y) refl (joined_utf8 a b x y p.0 p.1 e d))
  called_in builtin.ConcatBlobs h =
      let p = and_parts _ (is_kind (kind_in b) kind.Blob) h in
      in_of _ a b as_bytes _ (blob_bytes a p.0) (blob_bytes b p.1) (λ x y _ _.
      in_chosen _ a b (eqb (length y) 0) _ _ (x ++ y) (in_left _ a b (listed kind.Blob a p.0))
      (in_chosen _ a b (eqb (length x) 0) _ _ (x ++ y) (in_right _ a b (listed kind.Blob b p.1)) (in_grown _ a b _ BlobText (x ++ y) refl (λ _ _. refl))))
  called_in builtin.AppendChar h =
      let p = and_parts _ (is_kind (kind_in b) kind.Char) h in
      in_of _ a b as_bytes _ (blob_bytes a p.0) (letters_bytes b (or_right _ _ p.1)) (λ x y _ _. in_grown _ a b _ BlobText (x ++ y) refl (λ _ _. refl))
  called_in builtin.First h = in_left _ a b (listed kind.Str a h)
  called_in builtin.Second h = in_right _ a b (listed kind.Str b h)

  -- a str or a blob grows by what is not empty, and else stays
  in_append : (s : KindSet) (k : TextKind) (limit : ℕ) (x y : List ℕ) → has s (kind_in a) ≡ true → has s (kind_in (typed k (x ++ y))) ≡ true → (well_formed a ≡ true → well_formed b ≡ true → spelled (typed k (x ++ y)) ≡ true) → InRow s a b (chosen (x ++ y) (cond (eqb (length y) 0) Left (Join k limit)))
  in_append s k limit x y h j f = in_chosen s a b (eqb (length y) 0) Left (Join k limit) (x ++ y) (in_left s a b h) (in_grown s a b limit k (x ++ y) j f)

  assigned_in_lem : (f : FnAssign) → serves_assign f (kind_in a) (kind_in b) ≡ true → InRow (assign_results f) a b (assigned l f a b)
  assigned_in_lem (assign.Int f) h = called_in (builtin.Int f) h
  assigned_in_lem (assign.Float f) h = called_in (builtin.Float f) h
  assigned_in_lem (assign.Bool f) h = called_in (builtin.Bool f) h
  assigned_in_lem assign.StrByStr h =
      let p = and_parts _ (is_kind (kind_in b) kind.Str) h in
      let la = or_left _ _ p.0 in
      let lb = or_left _ _ p.1 in
      in_of _ a b as_bytes _ (letters_bytes a la) (letters_bytes b lb) (λ x y e d. in_append _ StrText _ x y (listed kind.Str a p.0) refl (joined_utf8 a b x y la lb e d))
  assigned_in_lem assign.StrByChar h = called_in builtin.Concat h
  assigned_in_lem assign.CharByChar h = called_in builtin.Concat h
  assigned_in_lem assign.CharByStr h =
      let p = and_parts _ (is_kind (kind_in b) kind.Str) h in
      let la = or_right _ _ p.0 in
      let lb = or_left _ _ p.1 in
      in_of _ a b as_bytes _ (letters_bytes a la) (letters_bytes b lb) (λ x y e d. in_append _ StrText _ x y (ap (has (assign_results assign.CharByStr)) (is_kind_lem (kind_in a) kind.Char p.0)) refl (joined_utf8 a b x y la lb e d))
  assigned_in_lem assign.BlobByBlob h =
      let p = and_parts _ (is_kind (kind_in b) kind.Blob) h in
      let here = listed kind.Blob a p.0 in
      in_of _ a b as_bytes _ (blob_bytes a p.0) (blob_bytes b p.1) (λ x y _ _.
      in_choice _ a b (eqb (length y) 0) _ _ (x ++ y) (in_choice _ a b (allowed l.blob (length x)) (Ok Left) (Err OverLimit) (x ++ y) (in_left _ a b here) (omega arith, omega arith)) (in_grown _ a b _ BlobText (x ++ y) refl (λ _ _. refl)))
  assigned_in_lem assign.BlobByOther h =
      let p = and_parts _ (is_kind (kind_in b) kind.Int || is_letters (kind_in b)) h in
      in_of _ a b as_bytes _ (blob_bytes a p.0) (other_bytes b p.1) (λ x y _ _. in_append _ BlobText _ x y (listed kind.Blob a p.0) refl (λ _ _. refl))

-- ---- both tables

rowed : (l : Limits) (a b : Meaning) (o : Option FnBuiltin) → of_some (λ f. serves f (kind_in a) (kind_in b)) o ≡ true → Listed (ok_or (option_map results o) NoRow) a b (in_row o (λ f. called l f a b))
rowed l a b None h = refl
rowed l a b (Some f) h = called_in l a b f h

rowed_assign : (l : Limits) (a b : Meaning) (o : Option FnAssign) → of_some (λ f. serves_assign f (kind_in a) (kind_in b)) o ≡ true → Listed (ok_or (option_map assign_results o) NoRow) a b (in_row o (λ f. assigned l f a b))
rowed_assign l a b None h = refl
rowed_assign l a b (Some f) h = assigned_in_lem l a b f h

pub apply_as_selected : ApplyAsSelected
apply_as_selected l op a b = (
  rowed l a b (row_of op (kind_in a) (kind_in b)) (row_serves op (kind_in a) (kind_in b)),
  rowed_assign l a b (assign_row_of op (kind_in a) (kind_in b)) (assign_row_serves op (kind_in a) (kind_in b)),
)
