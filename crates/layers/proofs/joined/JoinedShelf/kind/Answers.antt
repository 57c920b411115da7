use Rattle.std.proofs.Common.{Ok, Err, sym, ap, ◌∙◌}
use Rattle.std.proofs.lemmas.Result.{err_from_is_err_and}
use Rattle.value.specs.Values.{kind_in}
use Rattle.shelf.specs.Slots.{Slot}
use Rattle.layers.proofs.Layered.{asked_joined}
use Rattle.layers.proofs.joined.JoinedShelf.kind.Goals as goal

pub returns-in_err-k : goal.returns-in_err-k
returns-in_err-k g c =
    let s = c.args.self.now in
    let p = err_from_is_err_and c.from_residual.result c.from_residual.ensures.1 in
    p.1 ∙ ap Err p.2 ∙ asked_joined (g.P.Shelf.slots s.first) (g.Q.Shelf.slots s.second) c.args.slot (Err c.in_err-k.field-0.0) c.in_err-k.ensures (λ (x : Slot). kind_in x.holds)

pub returns-in-First : goal.returns-in-First
returns-in-First g c =
    let s = c.args.self.now in
    c.kind.ensures ∙ asked_joined (g.P.Shelf.slots s.first) (g.Q.Shelf.slots s.second) c.args.slot _ (ap Ok (sym c.in-First.is) ∙ c.in_ok-k.ensures) (λ (x : Slot). kind_in x.holds)

pub returns-in-Second : goal.returns-in-Second
returns-in-Second g c =
    let s = c.args.self.now in
    c.kind-in-Second.ensures ∙ asked_joined (g.P.Shelf.slots s.first) (g.Q.Shelf.slots s.second) c.args.slot _ (ap Ok (sym c.in-Second.is) ∙ c.in_ok-k.ensures) (λ (x : Slot). kind_in x.holds)
