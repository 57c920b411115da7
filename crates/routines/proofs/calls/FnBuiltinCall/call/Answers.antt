use Rattle.std.proofs.Common.{◌≡◌, Bool, true, false, cond, pos, Ok, refl, ap, ◌∙◌, rules}
use Rattle.fault.specs.Refusals.{bind}
use Rattle.order.specs.Orders.{by_int, by_bool}
use Rattle.float.specs.Tolerance.{by_float}
use Rattle.float.specs.declared.compare.Float.{Float}
use Rattle.std.specs.Prelude.{Float as Number}
use Rattle.text.specs.Pieces.{text_bytes}
use Rattle.routines.specs.Outcomes.{operand, compared}
use Rattle.routines.specs.Calls.{called}
use Rattle.routines.proofs.Laws.{settles_read, settles_as, plain, settles_compared}
use Rattle.routines.proofs.calls.FnBuiltinCall.call.Goals as goal

-- false has the place before true
placed : (x y : Bool) → by_int (pos (cond x 1 0)) (pos (cond y 1 0)) ≡ by_bool x y
placed true true = refl
placed true false = refl
placed false true = refl
placed false false = refl

pub returns-in-Int-clause-settles : goal.returns-in-Int-clause-settles
returns-in-Int-clause-settles c = settles_read _ _ _ _ _ _ _ _ c.in-Int.is (c.call_ints.ensures c.args.work.now.bytes.now)

pub returns-in-Float-clause-settles : goal.returns-in-Float-clause-settles
returns-in-Float-clause-settles c = settles_read _ _ _ _ _ _ _ _ c.in-Float.is (c.call_floats.ensures c.args.work.now.bytes.now)

pub returns-in-Bool-clause-settles : goal.returns-in-Bool-clause-settles
returns-in-Bool-clause-settles c = settles_read _ _ _ _ _ _ _ _ c.in-Bool.is (c.call_bools.ensures c.args.work.now.bytes.now)

pub returns-in-EqualRanges-clause-settles : goal.returns-in-EqualRanges-clause-settles
returns-in-EqualRanges-clause-settles c = settles_read _ _ _ _ _ _ _ _ c.in-EqualRanges.is (c.equal_ranges.ensures c.args.work.now.bytes.now)

pub returns-in-Range-clause-settles : goal.returns-in-Range-clause-settles
returns-in-Range-clause-settles c = settles_read _ _ _ _ _ _ _ _ c.in-Range.is (c.make_range.ensures c.args.work.now.bytes.now)

pub returns-in-CompareTexts-clause-settles : goal.returns-in-CompareTexts-clause-settles
returns-in-CompareTexts-clause-settles c = settles_read _ _ _ _ _ _ _ _ c.in-CompareTexts.is c.compare_letters.ensures

pub returns-in-EqualBlobs-clause-settles : goal.returns-in-EqualBlobs-clause-settles
returns-in-EqualBlobs-clause-settles c = settles_read _ _ _ _ _ _ _ _ c.in-EqualBlobs.is c.compare_blobs.ensures

pub returns-in-CompareInts-clause-settles : goal.returns-in-CompareInts-clause-settles
returns-in-CompareInts-clause-settles c =
    let w = c.args.work.now in
    settles_as (ap (λ f. called w.limits f (operand w.bytes.now c.args.a) (operand w.bytes.now c.args.b)) c.in-CompareInts.is)
    (settles_compared (λ x. x) w.bytes.now w.fill by_int c.in-CompareInts.c _ _ _ _ _ _ _ (plain _) (plain _) (c.as_int.ensures (text_bytes w.bytes.now)) (c.as_int-in-CompareInts.ensures (text_bytes w.bytes.now)) c.compare.ensures)

pub returns-in-CompareBools-clause-settles : goal.returns-in-CompareBools-clause-settles
returns-in-CompareBools-clause-settles c =
    let w = c.args.work.now in
    settles_as (ap (λ f. called w.limits f (operand w.bytes.now c.args.a) (operand w.bytes.now c.args.b)) c.in-CompareBools.is)
    (settles_compared (λ x. x) w.bytes.now w.fill by_bool c.in-CompareBools.c _ _ _ _ _ _ _ (plain _) (plain _) (c.as_bool.ensures (text_bytes w.bytes.now)) (c.as_bool-in-CompareBools.ensures (text_bytes w.bytes.now)) (c.compare-in-CompareBools.ensures ∙ (λ i. compared (λ x y. placed x y i) c.in-CompareBools.c c.as_bool.result c.as_bool-in-CompareBools.result)))

pub returns-in-CompareFloats-clause-settles : goal.returns-in-CompareFloats-clause-settles
returns-in-CompareFloats-clause-settles c =
    let w = c.args.work.now in
    let float : Number → Float = λ x. record { 0 = x } in
    let x : c.map.result ≡ bind c.as_float.result (λ x. Ok (float x)) = search rules in
    let y : c.map-in-CompareFloats.result ≡ bind c.as_float-in-CompareFloats.result (λ x. Ok (float x)) = search rules in
    settles_as (ap (λ f. called w.limits f (operand w.bytes.now c.args.a) (operand w.bytes.now c.args.b)) c.in-CompareFloats.is)
    (settles_compared float w.bytes.now w.fill (λ x y. by_float x.0 y.0) c.in-CompareFloats.c _ _ _ _ _ _ _ x y (c.as_float.ensures (text_bytes w.bytes.now)) (c.as_float-in-CompareFloats.ensures (text_bytes w.bytes.now)) c.compare-in-CompareFloats.ensures)
