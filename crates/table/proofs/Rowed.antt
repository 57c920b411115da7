-- What `rows` and `whole` give at one slot, and after a write to its part.
use Rattle.std.proofs.Common.{◌≡◌, ℕ, zero, suc, ◌+◌, ◌-◌, ◌*◌, ◌≤◌, true, leb, List, [], ◌∷◌, length, take, drop, set, Some, None, sym, refl, ap, ◌∙◌, subst, suc-mul, add_comm, zero-mul, arith, length-drop}
use Rattle.std.specs.List.{slice_get}
use Rattle.std.specs.Option.{option_map}
use Rattle.std.proofs.lemmas.Option.{none-some, same_Some}
use Rattle.std.proofs.lemmas.List.{drop-drop, drop-take, take-take}
use Rattle.std.proofs.lemmas.Bool.{and_parts, and_from, leb-true}
use Rattle.value.specs.Values.{well_formed, text_in}
use Rattle.shelf.specs.Slots.{slot}
use Rattle.shelf.specs.declared.mark.Mark.TheVariants.{Open}
use Rattle.table.specs.declared.record.Record.{Record}
use Rattle.table.specs.Rows.{meant_by, row, rows, short, whole}

pub length_rows : (rs : List Record) (bs : List ℕ) (cap : ℕ) → length (rows rs bs cap) ≡ length rs
length_rows [] bs cap = refl
length_rows (r ∷ rs) bs cap = ap suc (length_rows rs (drop cap bs) cap)

-- cap + k * cap, as a drop of drops
next : (k cap : ℕ) → cap + k * cap ≡ suc k * cap
next k cap = add_comm cap (k * cap) ∙ sym (suc-mul k cap)

drop_next : (k cap : ℕ) (bs : List ℕ) → drop (k * cap) (drop cap bs) ≡ drop (suc k * cap) bs
drop_next k cap bs = drop-drop (k * cap) cap bs ∙ ap (λ n. drop n bs) (next k cap)

take_next : (k cap : ℕ) (bs : List ℕ) → take (k * cap) (drop cap bs) ≡ drop cap (take (suc k * cap) bs)
take_next k cap bs = sym (drop-take cap (k * cap) bs) ∙ ap (λ n. drop cap (take n bs)) (next k cap)

after_next : (k cap : ℕ) (bs : List ℕ) → drop (k * cap + cap) (drop cap bs) ≡ drop (suc k * cap + cap) bs
after_next k cap bs = drop-drop (k * cap + cap) cap bs ∙ ap (λ n. drop n bs) (omega (arith, suc-mul k cap))

pub nth_rows : (rs : List Record) (bs : List ℕ) (cap k : ℕ) → slice_get (rows rs bs cap) k ≡ option_map (λ r. row r (drop (k * cap) bs) cap) (slice_get rs k)
nth_rows [] bs cap k = refl
nth_rows (x ∷ rs) bs cap zero = ap (λ n. Some (row x (drop n bs) cap)) (sym (zero-mul cap))
nth_rows (x ∷ rs) bs cap (suc k) = nth_rows rs (drop cap bs) cap k ∙ ap (λ b. option_map (λ r. row r b cap) (slice_get rs k)) (drop_next k cap bs)

module _ (rs : List Record) (bs : List ℕ) (cap k : ℕ) where
  pub found_row : (r : Record) → slice_get rs k ≡ Some r → slice_get (rows rs bs cap) k ≡ Some (row r (drop (k * cap) bs) cap)
  found_row r e = nth_rows rs bs cap k ∙ ap (option_map (λ r. row r (drop (k * cap) bs) cap)) e

  pub no_row : slice_get rs k ≡ None → slice_get (rows rs bs cap) k ≡ None
  no_row e = nth_rows rs bs cap k ∙ ap (option_map (λ r. row r (drop (k * cap) bs) cap)) e

-- what a whole table says of one slot
pub record At (r : Record) (bs : List ℕ) (cap at : ℕ) : Type 0 where
  pub within : at + cap ≤ length bs
  pub short_text : short cap (text_in r.value) ≡ true
  pub formed : well_formed (meant_by (take cap (drop at bs)) r.value) ≡ true

-- the parts of `whole` at the first record
record Head (r : Record) (rs : List Record) (bs : List ℕ) (cap : ℕ) : Type 0 where
  room : cap ≤ length bs
  text : short cap (text_in r.value) ≡ true
  value : well_formed (meant_by (take cap bs) r.value) ≡ true
  rest : whole rs (drop cap bs) cap ≡ true

head : (r : Record) (rs : List Record) (bs : List ℕ) (cap : ℕ) → whole (r ∷ rs) bs cap ≡ true → Head r rs bs cap
head r rs bs cap h =
    let p = and_parts _ (whole rs (drop cap bs) cap) h in
    let q = and_parts (leb cap (length bs)) _ p.0 in
    let s = and_parts (short cap (text_in r.value)) _ q.1 in
    record { room = leb-true cap (length bs) q.0; text = s.0; value = s.1; rest = p.1 }

from_head : (r : Record) (rs : List Record) (bs : List ℕ) (cap : ℕ) → leb cap (length bs) ≡ true → short cap (text_in r.value) ≡ true → well_formed (meant_by (take cap bs) r.value) ≡ true → whole rs (drop cap bs) cap ≡ true → whole (r ∷ rs) bs cap ≡ true
from_head r rs bs cap a b c d = and_from _ _ (and_from _ _ a (and_from _ _ b c)) d

pub whole_at : (rs : List Record) (bs : List ℕ) (cap k : ℕ) (r : Record) → slice_get rs k ≡ Some r → whole rs bs cap ≡ true → At r bs cap (k * cap)
whole_at [] bs cap k r e s = absurd (none-some r e)
whole_at (x ∷ rs) bs cap zero r e s =
    let p = head x rs bs cap s in
    subst (λ y. At y bs cap (zero * cap)) (same_Some x r e) (record {
      within = omega (arith, zero-mul cap, p.room);
      short_text = p.text;
      formed = ap (λ n. well_formed (meant_by (take cap (drop n bs)) x.value)) (zero-mul cap) ∙ p.value;
    })
whole_at (x ∷ rs) bs cap (suc k) r e s =
    let p = head x rs bs cap s in
    let t = whole_at rs (drop cap bs) cap k r e p.rest in
    record {
      within = omega (arith, suc-mul k cap, t.within, length-drop cap bs, p.room);
      short_text = t.short_text;
      formed = ap (λ b. well_formed (meant_by (take cap b) r.value)) (sym (drop_next k cap bs)) ∙ t.formed;
    }

-- bytes that differ only between `from` and `to`
pub record Within (bs bs' : List ℕ) (from to : ℕ) : Type 0 where
  pub len : length bs' ≡ length bs
  pub before : take from bs' ≡ take from bs
  pub after : drop to bs' ≡ drop to bs

shift : (bs bs' : List ℕ) (cap k : ℕ) → Within bs bs' (suc k * cap) (suc k * cap + cap) → Within (drop cap bs) (drop cap bs') (k * cap) (k * cap + cap)
shift bs bs' cap k w = record {
  len = length-drop cap bs' ∙ ap (λ n. n - cap) w.len ∙ sym (length-drop cap bs);
  before = take_next k cap bs' ∙ ap (drop cap) w.before ∙ sym (take_next k cap bs);
  after = after_next k cap bs' ∙ w.after ∙ sym (after_next k cap bs);
}

front : (bs bs' : List ℕ) (cap k : ℕ) → Within bs bs' (suc k * cap) (suc k * cap + cap) → take cap bs' ≡ take cap bs
front bs bs' cap k w =
    let le : cap ≤ suc k * cap = omega (arith, suc-mul k cap) in
    sym (take-take cap (suc k * cap) bs' le) ∙ ap (take cap) w.before ∙ take-take cap (suc k * cap) bs le

back : (bs bs' : List ℕ) (cap : ℕ) → Within bs bs' (zero * cap) (zero * cap + cap) → drop cap bs' ≡ drop cap bs
back bs bs' cap w =
    let e : zero * cap + cap ≡ cap = omega (arith, zero-mul cap) in
    subst (λ n. drop n bs' ≡ drop n bs) e w.after

pub rows_set : (rs : List Record) (bs bs' : List ℕ) (cap k : ℕ) (r : Record) → Within bs bs' (k * cap) (k * cap + cap)
    → rows (set rs k r) bs' cap ≡ set (rows rs bs cap) k (row r (drop (k * cap) bs') cap)
rows_set [] bs bs' cap k r w = refl
rows_set (x ∷ rs) bs bs' cap zero r w =
    ap (λ b. row r bs' cap ∷ rows rs b cap) (back bs bs' cap w) ∙ ap (λ n. row r (drop n bs') cap ∷ rows rs (drop cap bs) cap) (sym (zero-mul cap))
rows_set (x ∷ rs) bs bs' cap (suc k) r w =
    ap (λ b. slot (meant_by b x.value) cap Open ∷ rows (set rs k r) (drop cap bs') cap) (front bs bs' cap k w)
    ∙ ap (λ t. row x bs cap ∷ t) (rows_set rs (drop cap bs) (drop cap bs') cap k r (shift bs bs' cap k w)
    ∙ ap (λ b. set (rows rs (drop cap bs) cap) k (row r b cap)) (drop_next k cap bs'))

pub whole_set : (rs : List Record) (bs bs' : List ℕ) (cap k : ℕ) (r : Record) → Within bs bs' (k * cap) (k * cap + cap)
    → short cap (text_in r.value) ≡ true → well_formed (meant_by (take cap (drop (k * cap) bs')) r.value) ≡ true → whole rs bs cap ≡ true → whole (set rs k r) bs' cap ≡ true
whole_set [] bs bs' cap k r w f g s = refl
whole_set (x ∷ rs) bs bs' cap zero r w f g s =
    let p = and_parts _ (whole rs (drop cap bs) cap) s in
    let q = and_parts (leb cap (length bs)) _ p.0 in
    from_head r rs bs' cap (ap (leb cap) w.len ∙ q.0) f (ap (λ n. well_formed (meant_by (take cap (drop n bs')) r.value)) (sym (zero-mul cap)) ∙ g)
    (ap (λ b. whole rs b cap) (back bs bs' cap w) ∙ p.1)
whole_set (x ∷ rs) bs bs' cap (suc k) r w f g s =
    let p = and_parts _ (whole rs (drop cap bs) cap) s in
    let q = and_parts (leb cap (length bs)) _ p.0 in
    let t = and_parts (short cap (text_in x.value)) _ q.1 in
    from_head x (set rs k r) bs' cap (ap (leb cap) w.len ∙ q.0) t.0 (ap (λ b. well_formed (meant_by b x.value)) (front bs bs' cap k w) ∙ t.1)
    (whole_set rs (drop cap bs) (drop cap bs') cap k r (shift bs bs' cap k w) f (ap (λ b. well_formed (meant_by (take cap b) r.value)) (drop_next k cap bs') ∙ g) p.1)

-- a text is within its part
pub text_short : (r : Record) (bs : List ℕ) (cap at n : ℕ) → At r bs cap at → text_in r.value ≡ Some n → n ≤ cap
text_short r bs cap at n a e = leb-true n cap (sym (ap (short cap) e) ∙ a.short_text)
