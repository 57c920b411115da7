use Rattle.std.proofs.Common.{Ok, Err, sym, refl, ap, ◌∙◌}
use Rattle.std.proofs.lemmas.Result.{err_from_is_err_and}
use Rattle.value.specs.Values.{Told}
use Rattle.layers.specs.Layers.{joined}
use Rattle.layers.proofs.Layered.{told_joined}
use Rattle.layers.proofs.joined.JoinedShelf.tell.Goals as goal

pub returns-in_err-k : goal.returns-in_err-k
returns-in_err-k g c =
    let s = c.args.self.now in
    let p = err_from_is_err_and c.from_residual.result c.from_residual.ensures.1 in
    let e = told_joined (g.P.Shelf.slots s.first) (g.Q.Shelf.slots s.second) c.args.slot (Err c.in_err-k.field-0.0) c.in_err-k.ensures c.args.buffer.now c.args.place in
    record { answer = p.1 ∙ ap Err p.2 ∙ ap (λ (x : Told). x.answer) e; bytes = ap (λ (x : Told). x.bytes) e; same = refl }

pub returns-in-First : goal.returns-in-First
returns-in-First g c =
    let s = c.args.self.now in
    let e = told_joined (g.P.Shelf.slots s.first) (g.Q.Shelf.slots s.second) c.args.slot _ (ap Ok (sym c.in-First.is) ∙ c.in_ok-k.ensures) c.args.buffer.now c.args.place in
    record {
      answer = c.tell.ensures.answer ∙ ap (λ (x : Told). x.answer) e;
      bytes = c.tell.ensures.bytes ∙ ap (λ (x : Told). x.bytes) e;
      same = ap (λ l. joined l (g.Q.Shelf.slots s.second)) c.tell.ensures.same;
    }

pub returns-in-Second : goal.returns-in-Second
returns-in-Second g c =
    let s = c.args.self.now in
    let e = told_joined (g.P.Shelf.slots s.first) (g.Q.Shelf.slots s.second) c.args.slot _ (ap Ok (sym c.in-Second.is) ∙ c.in_ok-k.ensures) c.args.buffer.now c.args.place in
    record {
      answer = c.tell-in-Second.ensures.answer ∙ ap (λ (x : Told). x.answer) e;
      bytes = c.tell-in-Second.ensures.bytes ∙ ap (λ (x : Told). x.bytes) e;
      same = ap (joined (g.P.Shelf.slots s.first)) c.tell-in-Second.ensures.same;
    }
