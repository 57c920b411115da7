-- SELECT on numbers: an operator and two kinds by their numbers, a set of kinds as its bits, a refusal as its number, negative.
-- Assumes nothing.
use Rattle.std.specs.Prelude.{ℕ, ℤ, pos, neg_ℤ, Ok, Err, Result}
use Rattle.std.specs.Option.{ok_or}
use Rattle.std.specs.List.{slice_get}
use Rattle.fault.specs.Refusals.{number, bind}
use Rattle.fault.specs.declared.Fault.{Fault}
use Rattle.fault.specs.declared.Fault.TheVariants.{Unknown}
use Rattle.value.specs.Kinds.{kinds}
use Rattle.value.specs.Ops.{ops}
use Rattle.value.specs.declared.kind.Kind.{Kind}
use Rattle.value.specs.declared.op.Op.{Op}
use Rattle.value.specs.declared.set.KindSet.{KindSet}

abbrev pub numbered : Result KindSet Fault → ℤ
numbered (Ok s) = pos s.bits
numbered (Err f) = neg_ℤ (pos (number f))

-- the first unknown number is refused, else the operator and the kinds of these numbers are asked
abbrev pub selected_by : (Op → Kind → Kind → Result KindSet Fault) → ℕ → ℕ → ℕ → Result KindSet Fault
selected_by rows op a b =
    bind (ok_or (slice_get ops op) Unknown) (λ o.
    bind (ok_or (slice_get kinds a) Unknown) (λ j.
    bind (ok_or (slice_get kinds b) Unknown) (λ k. rows o j k)))
