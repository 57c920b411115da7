use Rattle.std.proofs.Common.{refl, arith}
use Rattle.std.proofs.lemmas.Grind.{put_two}
use Rattle.show.proofs.Spelling.{hex_word, wrote, float_shown}
use Rattle.show.proofs.values.ShownDisplay.fmt.Goals as goal

pub returns-in_ok-write_str-in-Float-clause-writes : goal.returns-in_ok-write_str-in-Float-clause-writes
returns-in_ok-write_str-in-Float-clause-writes g c = λ plain ok.
    let h = c.in_ok-write_str-in-Float.ensures.writes plain refl in
    let w = wrote _ _ _ _ c.in_radix.result.base _ c.laid_out.result 16 _ _ (hex_word c.f64_to_bits_with_nan.result (omega arith)) c.laid_out.ensures c.in_radix.ensures c.write-in-Float.ensures.writes h.plain ok in
    put_two _ _ _ _ _ _ _ h w (float_shown c.args.self.now.0 c.in-Float.x c.f64_to_bits_with_nan.result c.in-Float.is c.f64_to_bits_with_nan.ensures)
