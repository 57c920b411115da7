use Rattle.std.proofs.Common.{◌++◌, refl, ap, ◌∙◌, take, arith}
use Rattle.std.proofs.lemmas.Grind.{put_two}
use Rattle.std.proofs.lemmas.List.{take_all}
use Rattle.format.specs.Written.{pairs}
use Rattle.show.proofs.Spelling.{pairs_step}
use Rattle.show.proofs.digits.PairsDisplay.fmt.Goals as goal

pub loop-b-preserved : goal.loop-b-preserved
loop-b-preserved g c = λ plain.
    let h = c.loop-b.invariant plain in
    let bs = c.args.self.now.0.now in
    let w = c.in_ok-write_str.ensures.writes h.plain refl in
    put_two _ _ _ _ _ _ _ h w (ap (λ l. pairs (take c.loop-b.b-index bs) ++ l) (c.from_utf8_unchecked.ensures ∙ c.pair-digits.ensures) ∙ pairs_step bs c.loop-b.b-index (omega arith))

pub returns-clause-writes : goal.returns-clause-writes
returns-clause-writes g c = λ plain ok. rw (take_all c.loop-b.b-index c.args.self.now.0.now (omega arith)) at (c.loop-b.invariant plain)
