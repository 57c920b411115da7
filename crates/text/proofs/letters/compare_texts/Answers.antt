use Rattle.std.proofs.Common.{ap₂, ◌∙◌}
use Rattle.order.specs.Orders.{by_sequence, by_nat}
use Rattle.text.proofs.Laws.{utf8_decides}
use Rattle.text.proofs.TextOrder.{byte_order}
use Rattle.text.proofs.letters.compare_texts.Goals as goal

pub returns : goal.returns
returns c =
    c.compare_sequences.ensures ∙ ap₂ (by_sequence by_nat) c.as_bytes.ensures.value c.as_bytes-2.ensures.value
    ∙ byte_order c.args.a.now c.args.b.now ((utf8_decides c.args.a.now).1 c.utf8.a) ((utf8_decides c.args.b.now).1 c.utf8.b)
