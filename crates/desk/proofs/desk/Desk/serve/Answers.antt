use Rattle.desk.specs.Book.{event}
use Rattle.desk.proofs.Serving.{serves}
use Rattle.desk.proofs.desk.Desk.serve.Goals as goal

pub returns : goal.returns
returns g c = record {
  served = serves (g.S.Shelf.slots c.args.self.now.shelf) c.args.self.now.rule (event c.args.call) c.args.work.now c.answer.result c.answer.new.work (g.S.Shelf.slots c.answer.new.self.shelf) c.answer.new.self.rule c.answer.ensures.answer c.answer.ensures.after c.answer.ensures.formed;
  within = c.answer.ensures.within;
  formed = c.answer.ensures.formed;
}
