use Rattle.std.proofs.Common.{◌<◌, ◌≤◌, Err, set, sym, refl, ap, ◌∙◌, arith, rules, lt-length-set}
use Rattle.std.specs.List.{slice_get}
use Rattle.std.proofs.lemmas.Option.{slice_get_within}
use Rattle.std.proofs.lemmas.Result.{err_from_is_err_and}
use Rattle.fault.specs.declared.Fault.TheVariants.{Absent}
use Rattle.value.specs.Values.{meaning, text_of, size}
use Rattle.shelf.specs.Calls.{Posted}
use Rattle.shelf.proofs.Laws.{posted_at_lem, posted_open, posted_over}
use Rattle.table.specs.Rows.{blank, rows, whole}
use Rattle.table.specs.Tables.{table_slots}
use Rattle.table.proofs.Asked.{found, missing}
use Rattle.table.proofs.Rowed.{found_row, no_row, whole_at}
use Rattle.table.proofs.Written.{said, size_text, blanked, room, copied, entered, stays}
use Rattle.table.proofs.calls.TableShelf.post.Goals as goal

pub returns-in_err-record : goal.returns-in_err-record
returns-in_err-record c =
    let t = c.args.self.now in
    let p = err_from_is_err_and c.from_residual.result c.from_residual.ensures.1 in
    let q = missing Absent (slice_get t.records.now c.args.slot) c.in_err-record.field-0.0 c.in_err-record.ensures in
    let e = posted_at_lem (table_slots t) c.args.slot (meaning (λ x. x.now) c.args.value) _ (sym c.if-not-is_well_formed.ensures) (no_row t.records.now t.texts.now t.capacity c.args.slot q.0) in
    record {
      answer = p.1 ∙ ap Err (p.2 ∙ q.1) ∙ sym (ap (λ (p : Posted). p.answer) e);
      after = sym (ap (λ (p : Posted). p.after) e);
    }

pub returns-then-text-self : goal.returns-then-text-self
returns-then-text-self c =
    let t = c.args.self.now in
    let m = meaning (λ x. x.now) c.args.value in
    let f = found Absent (slice_get t.records.now c.args.slot) c.in_ok-record.field-0.now c.in_ok-record.ensures in
    let z : t.capacity < size (text_of m) = omega (arith, size_text c.args.value _ _ c.unwrap_or-text.result c.text.ensures c.unwrap_or-text.ensures refl) in
    let e = posted_over (table_slots t) c.args.slot m t.capacity _ (sym c.if-not-is_well_formed.ensures) (found_row t.records.now t.texts.now t.capacity c.args.slot _ f) z in
    record { answer = sym (ap (λ (p : Posted). p.answer) e); after = sym (ap (λ (p : Posted). p.after) e) }

pub bounds-self-k : goal.bounds-self-k
bounds-self-k c =
    let t = c.args.self.now in
    slice_get_within t.records.now c.args.slot _ (found Absent (slice_get t.records.now c.args.slot) c.in_ok-record.field-0.now c.in_ok-record.ensures)

pub invariant_of-self : goal.invariant_of-self
invariant_of-self c =
    let t = c.args.self.now in
    let f = found Absent (slice_get t.records.now c.args.slot) c.in_ok-record.field-0.now c.in_ok-record.ensures in
    record { whole = blanked t.records.now t.texts.now t.capacity c.args.slot _ f t.whole }

pub overflow_mul-k : goal.overflow_mul-k
overflow_mul-k c =
    let t = c.args.self.now in
    let f = found Absent (slice_get t.records.now c.args.slot) c.in_ok-record.field-0.now c.in_ok-record.ensures in
    omega (arith, (whole_at t.records.now t.texts.now t.capacity c.args.slot _ f t.whole).within)

pub copy_in-requires : goal.copy_in-requires
copy_in-requires c =
    let t = c.args.self.now in
    let f = found Absent (slice_get t.records.now c.args.slot) c.in_ok-record.field-0.now c.in_ok-record.ensures in
    room t.records.now t.texts.now t.capacity c.args.slot _ f t.whole c.unwrap_or-text.result.now c.if-text-self.false

pub invariant_of-self-2 : goal.invariant_of-self-2
invariant_of-self-2 c =
    let t = c.args.self.now in
    let f = found Absent (slice_get t.records.now c.args.slot) c.in_ok-record.field-0.now c.in_ok-record.ensures in
    record {
      whole = ap (λ b. whole (set t.records.now c.args.slot blank) b t.capacity) c.copy_in.ensures
          ∙ copied t.records.now t.texts.now t.capacity c.args.slot _ f t.whole c.unwrap_or-text.result.now c.if-text-self.false;
    }

pub bounds-self-k-2 : goal.bounds-self-k-2
bounds-self-k-2 c =
    let t = c.args.self.now in
    let f = found Absent (slice_get t.records.now c.args.slot) c.in_ok-record.field-0.now c.in_ok-record.ensures in
    lt-length-set t.records.now c.args.slot blank (slice_get_within t.records.now c.args.slot _ f)

pub invariant_of-self-3 : goal.invariant_of-self-3
invariant_of-self-3 c =
    let t = c.args.self.now in
    let x = c.unwrap_or-text.result in
    let f = found Absent (slice_get t.records.now c.args.slot) c.in_ok-record.field-0.now c.in_ok-record.ensures in
    let s = said c.args.value _ _ x c.text.ensures c.unwrap_or-text.ensures in
    record {
      whole = ap (λ b. whole (set (set t.records.now c.args.slot blank) c.args.slot (record { value = c.map.result })) b t.capacity) c.copy_in.ensures
          ∙ stays t.records.now t.texts.now t.capacity c.args.slot _ f t.whole x.now c.if-text-self.false _ (λ x n r. search rules) c.args.value c.map.result c.map.ensures s (sym c.if-not-is_well_formed.ensures);
    }

pub returns : goal.returns
returns c =
    let t = c.args.self.now in
    let m = meaning (λ x. x.now) c.args.value in
    let x = c.unwrap_or-text.result in
    let f = found Absent (slice_get t.records.now c.args.slot) c.in_ok-record.field-0.now c.in_ok-record.ensures in
    let z : size (text_of m) ≤ t.capacity = omega (arith, size_text c.args.value _ _ x c.text.ensures c.unwrap_or-text.ensures refl) in
    let e = posted_open (table_slots t) c.args.slot m t.capacity _ (sym c.if-not-is_well_formed.ensures) (found_row t.records.now t.texts.now t.capacity c.args.slot _ f) z in
    record {
      answer = sym (ap (λ (p : Posted). p.answer) e);
      after = ap (λ b. rows (set (set t.records.now c.args.slot blank) c.args.slot (record { value = c.map.result })) b t.capacity) c.copy_in.ensures
          ∙ entered t.records.now t.texts.now t.capacity c.args.slot _ f t.whole x.now c.if-text-self.false _ (λ x n r. search rules) c.args.value c.map.result c.map.ensures (said c.args.value _ _ x c.text.ensures c.unwrap_or-text.ensures)
          ∙ sym (ap (λ (p : Posted). p.after) e);
    }
