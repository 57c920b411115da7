use Rattle.std.proofs.Common.{◌≡◌, true, length, sym, ap, ◌∙◌, subst}
use Rattle.rule.specs.Rules.{rule_of}
use Rattle.value.specs.Values.{meant, well_formed, text_in, Inside}
use Rattle.desk.specs.Book.{event, feed, answered, writing}
use Rattle.desk.specs.Desks.{desk_of}
use Rattle.desk.specs.declared.call.Reply.TheVariants as reply
use Rattle.desk.proofs.Serving.{told_tells}
use Rattle.desk.proofs.desk.Desk.answer.Goals as goal

pub returns-in_ok-value-in-Tell : goal.returns-in_ok-value-in-Tell
returns-in_ok-value-in-Tell g c =
    let d = c.args.self.now in
    let ss = g.S.Shelf.slots d.shelf in
    let w = c.args.work.now in
    let v = c.in_ok-value-in-Tell.value in
    let t = told_tells w c.in-Tell.place ss (g.S.Shelf.formed d.shelf) c.in-Tell.slot v _ (sym c.tell.ensures.answer ∙ c.in_ok-value-in-Tell.was) c.tell.ensures.bytes in
    record {
      answer = ap (λ k. answered (desk_of ss d.rule) (event k) w) c.in-Tell.is ∙ t.outcome;
      after = ap (λ s. writing s (rule_of d.rule)) c.tell.ensures.same ∙ sym (ap (λ k. feed (desk_of ss d.rule) (event k)) c.in-Tell.is);
      within = λ u q. let p : v ≡ u = let z : reply.Value v ≡ reply.Value u = cc in cc in subst (λ x. Inside (length c.tell.new.buffer) (text_in x)) p t.inside;
      formed = λ u q. let p : v ≡ u = let z : reply.Value v ≡ reply.Value u = cc in cc in subst (λ x. well_formed (meant c.tell.new.buffer x) ≡ true) p t.formed;
    }
