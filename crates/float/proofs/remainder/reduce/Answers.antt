use Rattle.std.proofs.Common.{◌+◌, ◌*◌, ◌/◌, ◌%◌, ap, ◌∙◌, refl, arith}
use native.Mathlib.Nat.{mod-lt}
use Rattle.float.proofs.Patterned.{more_places}
use Rattle.float.proofs.remainder.reduce.Goals as goal

pub loop-preserved : goal.loop-preserved
loop-preserved c =
    let n = c.args.n in (
      ap (λ z. z * 1024 % n) c.loop.invariant.0 ∙ more_places c.args.m n (10 * c.loop.counter) 10 (10 * (c.loop.counter + 1)) 1024 refl (omega arith),
      mod-lt (c.loop.rest * 1024) c.requires.positive,
      omega arith,
    )

pub loop-2-preserved : goal.loop-2-preserved
loop-2-preserved c =
    let n = c.args.n in
    let s = 10 * (c.args.shift / 10) in (
      ap (λ z. z * 2 % n) c.loop-2.invariant.0 ∙ more_places c.args.m n (s + c.loop-2.counter) 1 (s + (c.loop-2.counter + 1)) 2 refl (omega arith),
      mod-lt (c.loop-2.rest * 2) c.requires.positive,
      omega arith,
    )
