-- The operators on sets of kinds: a row for every pair, and the results unite. Assumes nothing.
use Rattle.std.specs.Prelude.{cond, List, [], ◌∷◌, Ok, Result}
use Rattle.fault.specs.Refusals.{bind}
use Rattle.fault.specs.declared.Fault.{Fault}
use Rattle.value.specs.Kinds.{kinds, set, has, united}
use Rattle.value.specs.declared.kind.Kind.{Kind}
use Rattle.value.specs.declared.set.KindSet.{KindSet}

-- `all` with what f gives for each kind of the set t that is in the list
unfoldable pub gather : (Kind → Result KindSet Fault) → KindSet → KindSet → List Kind → Result KindSet Fault
gather f t all [] = Ok all
gather f t all (k ∷ ks) = cond (has t k) (bind (f k) (λ s. gather f t (united all s) ks)) (gather f t all ks)

-- by the rows of an operator, for two kinds each
abbrev pub rows_right : (Kind → Kind → Result KindSet Fault) → KindSet → Kind → Result KindSet Fault
rows_right rows t a = gather (rows a) t (set 0) kinds

abbrev pub rows_over : (Kind → Kind → Result KindSet Fault) → KindSet → KindSet → Result KindSet Fault
rows_over rows s t = gather (rows_right rows t) s (set 0) kinds
