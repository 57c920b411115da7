use Rattle.std.proofs.Common.{rules, ◌∙◌}
use Rattle.std.proofs.lemmas.Iterator.{YieldsList-from_slice, YieldsList-from_zip}
use Rattle.std.proofs.lemmas.Iterator.Search.{all_from_yields_List}
use Rattle.shelf.specs.Slots.{holding}
use Rattle.rule.specs.Check.{kind_at, same_kind}
use Rattle.rule.proofs.Fresh.{fresh_pairs}
use Rattle.rule.proofs.checking.is_fresh.Goals as goal

pub returns : goal.returns
returns g c =
    let env = holding (g.S.Shelf.slots c.args.shelf.now) in
    let steps = c.args.steps.now in
    let kinds = c.args.kinds.now in
    all_from_yields_List (λ p. same_kind (kind_at env p.0) p.1) c.all.new.self _ c.all.result c.all.ensures.ran (YieldsList-from_zip (YieldsList-from_slice steps cc) (YieldsList-from_slice kinds cc)) (λ x b q k. search rules)
    ∙ fresh_pairs env steps kinds c.requires
