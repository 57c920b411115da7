use Rattle.std.proofs.Common.{sym, ◌∙◌, rules, tests}
use Rattle.std.proofs.lemmas.Iterator.{YieldsList-from_slice}
use Rattle.std.proofs.lemmas.Iterator.Search.{find_from_yields_List}
use Rattle.std.specs.Str.{bytes_eq}
use Rattle.format.proofs.Naming.{named_finds}
use Rattle.format.proofs.names.first_named.Goals as goal

pub returns : goal.returns
returns g c =
    c.copied.ensures
    ∙ find_from_yields_List (λ x. bytes_eq c.args.bytes.now (g.T.Named.name x)) _ _ c.find.result c.find.ensures.ran (YieldsList-from_slice c.args.all.now cc) (λ x b q k. search (rules, tests))
    ∙ sym (named_finds g.T.Named.name c.args.all.now c.args.bytes.now)
