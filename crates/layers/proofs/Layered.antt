-- What the calls on a sealed and on a joined shelf come to on the shelves below.
use Rattle.std.proofs.Common.{◌≡◌, ℕ, zero, suc, ◌+◌, ◌-◌, ◌<◌, ◌≤◌, min, Bool, true, false, cond, ltb, List, [], ◌∷◌, ◌++◌, length, take, Some, None, Ok, Err, Option, Result, sym, refl, ap, ◌∙◌, suc-add, zero-add, arith}
use lib.Seq.{take-set-lt}
use Rattle.std.specs.Option.{option_map, ok_or}
use Rattle.std.specs.List.{slice_get}
use Rattle.std.proofs.lemmas.List.{length-take, length-append, set-append_left, set-append_right}
use Rattle.std.proofs.lemmas.Option.{slice_get-map, slice_get_past}
use Rattle.std.proofs.lemmas.Bool.{ltb-true, ltb-false}
use Rattle.fault.specs.Refusals.{bind}
use Rattle.fault.specs.declared.Fault.{Fault}
use Rattle.fault.specs.declared.Fault.TheVariants.{Malformed, Absent, Sealed as IsSealed}
use Rattle.value.specs.Values.{Meaning, well_formed, Told}
use Rattle.shelf.specs.Slots.{Slot}
use Rattle.shelf.specs.Calls.{asked, asked_mark, tell_at, told, Posted, refused, post_at, posted}
use Rattle.shelf.specs.declared.mark.Mark.TheVariants.{Sealed}
use Rattle.shelf.proofs.Laws.{posted_at_lem, lifted, posted_lifted}
use Rattle.layers.specs.Layers.{seal, sealed, joined}
use Rattle.layers.specs.Sides.{side_of}
use Rattle.layers.specs.declared.joined.Side.{Side}
use Rattle.layers.specs.declared.joined.Side.TheVariants.{First, Second}

-- ---- a sealed shelf

asked_seal : {A : Type 0} (q : Slot → A) (o : Option Slot) → ok_or (option_map q (option_map seal o)) Absent ≡ ok_or (option_map (λ s. q (seal s)) o) Absent
asked_seal q None = refl
asked_seal q (Some s) = refl

posted_seal : (slots : List Slot) (i : ℕ) (m : Meaning) (o : Option Slot) → post_at slots i m (option_map seal o) ≡ record { answer = bind (ok_or (option_map (λ s. Sealed) o) Absent) (λ _. Err IsSealed); after = slots }
posted_seal slots i m None = refl
posted_seal slots i m (Some s) = refl

module _ (xs : List Slot) (i : ℕ) where
  asked_sealed : {A : Type 0} (q : Slot → A) → asked q (sealed xs) i ≡ asked (λ s. q (seal s)) xs i
  asked_sealed q = ap (λ o. ok_or (option_map q o) Absent) (slice_get-map seal xs i) ∙ asked_seal q (slice_get xs i)

  -- a posting of a well formed value is refused: the slot is absent or sealed
  pub posted_sealed : (m : Meaning) → well_formed m ≡ true → posted (sealed xs) i m ≡ record { answer = bind (asked_mark (sealed xs) i) (λ _. Err IsSealed); after = sealed xs }
  posted_sealed m w =
      posted_at_lem (sealed xs) i m (option_map seal (slice_get xs i)) w (slice_get-map seal xs i) ∙ posted_seal (sealed xs) i m (slice_get xs i)
      ∙ ap (λ r. record { answer = bind r (λ _. Err IsSealed); after = sealed xs }) (sym (asked_sealed (λ s. s.mark)))

-- ---- a joined shelf

nth_take : (n : ℕ) (xs : List Slot) (i : ℕ) → i < n → slice_get (take n xs) i ≡ slice_get xs i
nth_take zero xs i h = absurd (omega arith)
nth_take (suc n) [] i h = refl
nth_take (suc n) (x ∷ xs) zero h = refl
nth_take (suc n) (x ∷ xs) (suc i) h = nth_take n xs i (omega arith)

nth_left : (xs ys : List Slot) (i : ℕ) → i < length xs → slice_get (xs ++ ys) i ≡ slice_get xs i
nth_left [] ys i h = absurd (omega arith)
nth_left (x ∷ xs) ys zero h = refl
nth_left (x ∷ xs) ys (suc i) h = nth_left xs ys i (omega arith)

nth_right : (xs ys : List Slot) (i : ℕ) → slice_get (xs ++ ys) (length xs + i) ≡ slice_get ys i
nth_right [] ys i = ap (slice_get ys) (zero-add i)
nth_right (x ∷ xs) ys i = ap (slice_get (x ∷ (xs ++ ys))) (suc-add (length xs) i) ∙ nth_right xs ys i

pub length_joined : (xs ys : List Slot) → length (joined xs ys) ≡ min 65536 (length xs + length ys)
length_joined xs ys = length-take 65536 (xs ++ ys) ∙ ap (min 65536) (length-append xs ys)

module _ (xs ys : List Slot) where
  -- the slot on a side
  abbrev at : Result Side Fault → Option Slot
  at (Ok (First k)) = slice_get xs k
  at (Ok (Second k)) = slice_get ys k
  at (Err f) = None

  -- what is asked, told and posted on a side, or refused where there is none
  abbrev pub asked_by : {A : Type 0} → (Slot → A) → Result Side Fault → Result A Fault
  asked_by q (Ok (First k)) = asked q xs k
  asked_by q (Ok (Second k)) = asked q ys k
  asked_by q (Err f) = Err f

  abbrev pub told_by : List ℕ → ℕ → Result Side Fault → Told
  told_by buffer place (Ok (First k)) = told xs k buffer place
  told_by buffer place (Ok (Second k)) = told ys k buffer place
  told_by buffer place (Err f) = record { answer = Err f; bytes = buffer }

  abbrev pub posted_by : Meaning → Result Side Fault → Posted
  posted_by m (Ok (First k)) = lifted (λ zs. joined zs ys) (posted xs k m)
  posted_by m (Ok (Second k)) = lifted (λ zs. joined xs zs) (posted ys k m)
  posted_by m (Err f) = cond (well_formed m) (refused (joined xs ys) f) (refused (joined xs ys) Malformed)

  asked_at : {A : Type 0} (q : Slot → A) (b : Bool) (d : Side) → asked_by q (cond b (Ok d) (Err Absent)) ≡ ok_or (option_map q (at (cond b (Ok d) (Err Absent)))) Absent
  asked_at q true (First k) = refl
  asked_at q true (Second k) = refl
  asked_at q false d = refl

  told_at : (buffer : List ℕ) (place : ℕ) (b : Bool) (d : Side) → told_by buffer place (cond b (Ok d) (Err Absent)) ≡ tell_at buffer place (at (cond b (Ok d) (Err Absent)))
  told_at buffer place true (First k) = refl
  told_at buffer place true (Second k) = refl
  told_at buffer place false d = refl

  module _ (i : ℕ) where
    -- what the side of slot i says of it
    record Shown (s : Result Side Fault) : Type 0 where
      slot : slice_get (joined xs ys) i ≡ at s
      posting : (m : Meaning) → posted (joined xs ys) i m ≡ posted_by m s

    shown_first : i < 65536 → i < length xs → Shown (Ok (First i))
    shown_first h l =
        let e = nth_take 65536 (xs ++ ys) i h ∙ nth_left xs ys i l in
        record {
          slot = e;
          posting = posted_lifted (λ zs. joined zs ys) xs i i e
              (λ s. sym (take-set-lt 65536 (xs ++ ys) i s h) ∙ ap (take 65536) (set-append_left xs ys i s l));
        }

    shown_second : i < 65536 → length xs ≤ i → Shown (Ok (Second (i - length xs)))
    shown_second h l =
        let k : i ≡ length xs + (i - length xs) = omega arith in
        let e = nth_take 65536 (xs ++ ys) i h ∙ ap (slice_get (xs ++ ys)) k ∙ nth_right xs ys (i - length xs) in
        record {
          slot = e;
          posting = posted_lifted (λ zs. joined xs zs) ys (i - length xs) i e
              (λ s. sym (take-set-lt 65536 (xs ++ ys) i s h) ∙ ap (take 65536) (set-append_right xs ys (length xs) i s refl l));
        }

    shown_past : 65536 ≤ i → Shown (Err Absent)
    shown_past h =
        let e = slice_get_past (joined xs ys) i (omega (arith, length_joined xs ys)) in
        record { slot = e; posting = λ m. ap (λ o. cond (well_formed m) (post_at (joined xs ys) i m o) (refused (joined xs ys) Malformed)) e }

    shown_by : (b c : Bool) → ltb i 65536 ≡ b → ltb i (length xs) ≡ c → Shown (cond b (Ok (cond c (First i) (Second (i - length xs)))) (Err Absent))
    shown_by true true p q = shown_first (ltb-true i 65536 p) (ltb-true i (length xs) q)
    shown_by true false p q = shown_second (ltb-true i 65536 p) (ltb-false i (length xs) q)
    shown_by false c p q = shown_past (ltb-false i 65536 p)

    shown : Shown (side_of (length xs) i)
    shown = shown_by (ltb i 65536) (ltb i (length xs)) refl refl

    module _ (s : Result Side Fault) (e : s ≡ side_of (length xs) i) where
      pub asked_joined : {A : Type 0} (q : Slot → A) → asked_by q s ≡ asked q (joined xs ys) i
      asked_joined q = ap (asked_by q) e ∙ asked_at q (ltb i 65536) _ ∙ ap (λ o. ok_or (option_map q o) Absent) (sym shown.slot)

      pub told_joined : (buffer : List ℕ) (place : ℕ) → told_by buffer place s ≡ told (joined xs ys) i buffer place
      told_joined buffer place = ap (told_by buffer place) e ∙ told_at buffer place (ltb i 65536) _ ∙ ap (tell_at buffer place) (sym shown.slot)

      pub posted_joined : (m : Meaning) → posted_by m s ≡ posted (joined xs ys) i m
      posted_joined m = ap (posted_by m) e ∙ sym (shown.posting m)
