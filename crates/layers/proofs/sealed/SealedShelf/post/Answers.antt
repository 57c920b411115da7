use Rattle.std.proofs.Common.{Err, sym, ap, ◌∙◌}
use Rattle.fault.specs.Refusals.{bind}
use Rattle.fault.specs.declared.Fault.TheVariants.{Sealed}
use Rattle.value.specs.Values.{meaning}
use Rattle.shelf.specs.Calls.{Posted}
use Rattle.layers.proofs.Layered.{posted_sealed}
use Rattle.layers.proofs.sealed.SealedShelf.post.Goals as goal

pub returns : goal.returns
returns g c =
    let e = sym (posted_sealed (g.S.Shelf.slots c.args.self.now.below) c.args.slot (meaning (λ x. x.now) c.args.value) (sym c.if-not-is_well_formed.ensures)) in
    record {
      answer = ap (λ r. bind r (λ _. Err Sealed)) c.in_ok-mark.ensures ∙ ap (λ (p : Posted). p.answer) e;
      after = ap (λ (p : Posted). p.after) e;
    }
