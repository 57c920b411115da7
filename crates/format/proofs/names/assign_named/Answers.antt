use Rattle.std.proofs.Common.{[], ◌∷◌, take, Some, ◌∙◌}
use Rattle.std.proofs.lemmas.Bool.Decides.{Decides-eqb}
use Rattle.std.proofs.lemmas.Slice.Eq.{strip_suffix_is}
use Rattle.value.specs.Ops.{ops}
use Rattle.format.proofs.Naming.{assigns}
use Rattle.format.proofs.names.assign_named.Goals as goal

pub returns : goal.returns
returns c =
    let front = c.in_ok-strip_suffix.field-0 in
    c.first_named.ensures ∙ assigns (take 11 ops) front.now c.args.bytes.now (strip_suffix_is Decides-eqb c.args.bytes.now (61 ∷ []) (Some front) c.in_ok-strip_suffix.ensures.cases)
