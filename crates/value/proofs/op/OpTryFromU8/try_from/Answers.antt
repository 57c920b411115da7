use Rattle.std.proofs.Common.{◌≡◌, ℕ, List, Some, None, Option, sym, ap, ◌∙◌, Bor}
use Rattle.std.specs.Option.{option_map, ok_or}
use Rattle.std.specs.Slice.{IsGetResult}
use Rattle.std.specs.List.{slice_get}
use Rattle.std.proofs.lemmas.Option.{slice_get-get_or, slice_get_past}
use Rattle.fault.specs.declared.Fault.TheVariants.{Unknown}
use Rattle.value.specs.Ops.{ops}
use Rattle.value.proofs.op.OpTryFromU8.try_from.Goals as goal

item_nth : {X : Type 0} (xs : List X) (i : ℕ) (r : Option (Bor X)) → IsGetResult xs i i r → option_map (λ x. x.now) r ≡ slice_get xs i
item_nth xs i None h = sym (slice_get_past xs i h.3)
item_nth xs i (Some x) h = sym (slice_get-get_or xs i x.now h.3.0 ∙ ap Some (sym h.1))

pub returns : goal.returns
returns c = c.ok_or.ensures.value ∙ ap (λ o. ok_or o Unknown) (c.copied.ensures ∙ item_nth ops c.args.number c.get.result c.get.ensures.lookup)
