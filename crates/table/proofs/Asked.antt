-- What a slot's record says of the slot.
use Rattle.std.proofs.Common.{◌≡◌, ℕ, ◌*◌, List, drop, Some, None, Ok, Err, Option, Result, sym, ap, ◌∙◌, arith, Bor}
use Rattle.std.specs.Option.{ok_or}
use Rattle.std.specs.Result.{MatchResult, IsOkAnd}
use Rattle.std.specs.List.{slice_get}
use Rattle.fault.specs.Refusals.{bind}
use Rattle.fault.specs.declared.Fault.{Fault}
use Rattle.fault.specs.declared.Fault.TheVariants.{Absent}
use Rattle.shelf.specs.Slots.{Slot}
use Rattle.shelf.specs.Calls.{asked}
use Rattle.shelf.proofs.Laws.{asked_some, asked_none}
use Rattle.table.specs.declared.record.Record.{Record}
use Rattle.table.specs.Rows.{row, rows}
use Rattle.table.proofs.Rowed.{found_row, no_row}

module _ {A E : Type 0} (e : E) where
  pub found : (o : Option A) (x : A) → Ok x ≡ ok_or o e → o ≡ Some x
  found None x h = grind arith
  found (Some y) x h = grind arith

  pub missing : (o : Option A) (d : E) → Err d ≡ ok_or o e → (o ≡ None) × (d ≡ e)
  missing None d h = grind arith
  missing (Some y) d h = grind arith

-- what `map` of a `Result` gives
pub mapped : {A B E : Type 0} (o : Result A E) (r : Result B E) {P : A → B → Type 0} (f : A → B) → MatchResult o (λ x. IsOkAnd r (P x)) (λ e. r ≡ Err e) → ((x : A) (y : B) → P x y → y ≡ f x) → r ≡ bind o (λ x. Ok (f x))
mapped (Ok x) (Ok y) f h k = ap Ok (k x y h)
mapped (Ok x) (Err e) f h k = absurd h
mapped (Err e) r f h k = h

pub asked_rows : {A : Type 0} (rs : List Record) (bs : List ℕ) (cap i : ℕ) (q : Slot → A) (o : Result (Bor Record) Fault) → bind o (λ r. Ok r.now) ≡ ok_or (slice_get rs i) Absent → bind o (λ r. Ok (q (row r.now (drop (i * cap) bs) cap))) ≡ asked q (rows rs bs cap) i
asked_rows rs bs cap i q (Ok r) e = sym (asked_some (rows rs bs cap) i q _ (found_row rs bs cap i r.now (found Absent (slice_get rs i) r.now e)))
asked_rows rs bs cap i q (Err f) e =
    let p = missing Absent (slice_get rs i) f e in
    ap Err p.1 ∙ sym (asked_none (rows rs bs cap) i q (no_row rs bs cap i p.0))
