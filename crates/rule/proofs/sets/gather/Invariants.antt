use Rattle.std.proofs.Common.{◌≡◌, Result, drop}
use Rattle.fault.specs.declared.Fault.{Fault}
use Rattle.value.specs.Kinds.{set, kinds}
use Rattle.value.specs.declared.kind.Kind.{Kind}
use Rattle.value.specs.declared.set.KindSet.{KindSet}
use Rattle.rule.specs.Sets.{gather}
use Rattle.rule.proofs.sets.gather.Given as goal

abbrev pub invariant-loop-kind : goal.invariant-loop-kind
invariant-loop-kind g l =
    (gives : Kind → Result KindSet Fault) → ((k : Kind) (r : Result KindSet Fault) → goal.F-post g l.f k r → r ≡ gives k) → gather gives l.of l.all (drop l.kind-index kinds) ≡ gather gives l.of (set 0) kinds
