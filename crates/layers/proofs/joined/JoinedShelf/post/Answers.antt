use Rattle.std.proofs.Common.{cond, Ok, Err, sym, ap, ◌∙◌}
use Rattle.fault.specs.declared.Fault.TheVariants.{Malformed}
use Rattle.value.specs.Values.{meaning}
use Rattle.shelf.specs.Calls.{Posted, refused}
use Rattle.layers.specs.Layers.{joined}
use Rattle.layers.proofs.Layered.{posted_joined}
use Rattle.layers.proofs.joined.JoinedShelf.post.Goals as goal

pub returns-in-Ok-First : goal.returns-in-Ok-First
returns-in-Ok-First g c =
    let s = c.args.self.now in
    let e = posted_joined (g.P.Shelf.slots s.first) (g.Q.Shelf.slots s.second) c.args.slot _ (ap Ok (sym c.in-Ok-First.field-0-is) ∙ c.in-Ok-First.ensures) (meaning (λ x. x.now) c.args.value) in
    record {
      answer = c.post.ensures.answer ∙ ap (λ (p : Posted). p.answer) e;
      after = ap (λ l. joined l (g.Q.Shelf.slots s.second)) c.post.ensures.after ∙ ap (λ (p : Posted). p.after) e;
    }

pub returns-in-Ok-Second : goal.returns-in-Ok-Second
returns-in-Ok-Second g c =
    let s = c.args.self.now in
    let e = posted_joined (g.P.Shelf.slots s.first) (g.Q.Shelf.slots s.second) c.args.slot _ (ap Ok (sym c.in-Ok-Second.field-0-is) ∙ c.in-Ok-Second.ensures) (meaning (λ x. x.now) c.args.value) in
    record {
      answer = c.post-in-Ok-Second.ensures.answer ∙ ap (λ (p : Posted). p.answer) e;
      after = ap (joined (g.P.Shelf.slots s.first)) c.post-in-Ok-Second.ensures.after ∙ ap (λ (p : Posted). p.after) e;
    }

pub returns-in-Err : goal.returns-in-Err
returns-in-Err g c =
    let s = c.args.self.now in
    let l = joined (g.P.Shelf.slots s.first) (g.Q.Shelf.slots s.second) in
    let e = ap (λ b. cond b (refused l c.in-Err.fault) (refused l Malformed)) c.if-is_well_formed.ensures
    ∙ posted_joined (g.P.Shelf.slots s.first) (g.Q.Shelf.slots s.second) c.args.slot (Err c.in-Err.fault) c.in-Err.ensures (meaning (λ x. x.now) c.args.value) in
    record { answer = ap (λ (p : Posted). p.answer) e; after = ap (λ (p : Posted). p.after) e }
