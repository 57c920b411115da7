-- The laws of a shelf's calls, for its makes and what runs over it: what each gives once the slot is known, a posting seen
-- through a view of the slots, and that postings keep every value well formed.
use Rattle.std.proofs.Common.{◌≡◌, ℕ, ◌<◌, ◌≤◌, Bool, true, false, cond, leb, List, set, Some, None, Ok, Err, Option, refl, ap, ◌∙◌}
use Rattle.std.specs.Option.{option_map, ok_or}
use Rattle.std.specs.List.{slice_get}
use Rattle.std.proofs.lemmas.Bool.{le-leb, lt-leb}
use Rattle.fault.specs.declared.Fault.{Fault}
use Rattle.fault.specs.declared.Fault.TheVariants.{Malformed, Absent, OverCapacity}
use Rattle.value.specs.Values.{Meaning, text_of, well_formed, size, told_at}
use Rattle.shelf.specs.Slots.{Slot, slot}
use Rattle.shelf.specs.Calls.{asked, tell_at, told, Posted, refused, is_open, post_at, posted}
use Rattle.shelf.specs.declared.mark.Mark.TheVariants.{Open}

module _ (slots : List Slot) (i : ℕ) where
  pub asked_some : {A : Type 0} (q : Slot → A) (s : Slot) → slice_get slots i ≡ Some s → asked q slots i ≡ Ok (q s)
  asked_some q s e = ap (λ o. ok_or (option_map q o) Absent) e

  pub asked_none : {A : Type 0} (q : Slot → A) → slice_get slots i ≡ None → asked q slots i ≡ Err Absent
  asked_none q e = ap (λ o. ok_or (option_map q o) Absent) e

  pub told_some : (buffer : List ℕ) (place : ℕ) (s : Slot) → slice_get slots i ≡ Some s → told slots i buffer place ≡ told_at buffer place s.holds
  told_some buffer place s e = ap (tell_at buffer place) e

  pub told_none : (buffer : List ℕ) (place : ℕ) → slice_get slots i ≡ None → told slots i buffer place ≡ record { answer = Err Absent; bytes = buffer }
  told_none buffer place e = ap (tell_at buffer place) e

  pub posted_at_lem : (m : Meaning) (o : Option Slot) → well_formed m ≡ true → slice_get slots i ≡ o → posted slots i m ≡ post_at slots i m o
  posted_at_lem m o w e = (λ j. cond (w j) (post_at slots i m (e j)) (refused slots Malformed))

  -- a posting to an open slot
  pub posted_open : (m : Meaning) (n : ℕ) (h : Meaning) → well_formed m ≡ true → slice_get slots i ≡ Some (slot h n Open) → size (text_of m) ≤ n → posted slots i m ≡ record { answer = Ok tt; after = set slots i (slot m n Open) }
  posted_open m n h w e l = posted_at_lem m (Some (slot h n Open)) w e ∙ rw (le-leb (size (text_of m)) n l)

  pub posted_over : (m : Meaning) (n : ℕ) (h : Meaning) → well_formed m ≡ true → slice_get slots i ≡ Some (slot h n Open) → n < size (text_of m) → posted slots i m ≡ refused slots OverCapacity
  posted_over m n h w e l = posted_at_lem m (Some (slot h n Open)) w e ∙ rw (lt-leb (size (text_of m)) n l)

-- a shelf whose slots are F of another's: a posting at j is one at i below
abbrev pub lifted : (List Slot → List Slot) → Posted → Posted
lifted F p = record { answer = p.answer; after = F p.after }

module _ (F : List Slot → List Slot) (xs : List Slot) (i j : ℕ) (m : Meaning) (sets : (s : Slot) → set (F xs) j s ≡ F (set xs i s)) where
  lift_fits : (b : Bool) (s : Slot) → cond b (record { answer = Ok tt; after = set (F xs) j s }) (refused (F xs) OverCapacity) ≡ lifted F (cond b (record { answer = Ok tt; after = set xs i s }) (refused xs OverCapacity))
  lift_fits true s = ap (λ l. record { answer = Ok tt; after = l }) (sets s)
  lift_fits false s = refl

  lift_open : (b : Bool) (p q : Posted) (f : Fault) → p ≡ lifted F q → cond b p (refused (F xs) f) ≡ lifted F (cond b q (refused xs f))
  lift_open true p q f e = e
  lift_open false p q f e = refl

  lift_at : (o : Option Slot) → post_at (F xs) j m o ≡ lifted F (post_at xs i m o)
  lift_at None = refl
  lift_at (Some s) = lift_open (is_open s.mark) _ _ _ (lift_fits (leb (size (text_of m)) s.capacity) (slot m s.capacity s.mark))

pub posted_lifted : (F : List Slot → List Slot) (xs : List Slot) (i j : ℕ) → slice_get (F xs) j ≡ slice_get xs i → ((s : Slot) → set (F xs) j s ≡ F (set xs i s)) → (m : Meaning) → posted (F xs) j m ≡ lifted F (posted xs i m)
posted_lifted F xs i j e sets m =
    ap (λ o. cond (well_formed m) (post_at (F xs) j m o) (refused (F xs) Malformed)) e
    ∙ lift_open F xs i j m sets (well_formed m) _ _ Malformed (lift_at F xs i j m sets (slice_get xs i))
