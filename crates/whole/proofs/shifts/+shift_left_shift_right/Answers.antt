use Rattle.std.proofs.Common.{◌∙◌, w64, SFits, rules}
use Rattle.std.proofs.lemmas.Int.{to_z-of_z}
use Rattle.whole.proofs.Counts.{beyond_left, beyond_right}
use Rattle.whole.proofs.shifts.+shift_left_shift_right.Goals as goal

pub shift_left-returns-then-y : goal.shift_left-returns-then-y
shift_left-returns-then-y t c =
    let f : SFits w64 c.args.y = c.ranges.y in
    beyond_left c.args.x c.args.y (simp to_z-of_z at c.if-y.true)

pub shift_right-returns-then-y : goal.shift_right-returns-then-y
shift_right-returns-then-y t c =
    let e : SFits w64 c.args.x = c.ranges.x in
    let f : SFits w64 c.args.y = c.ranges.y in
    let g : SFits w64 c.wrapping_shr.result = search rules in
    let w = simp to_z-of_z at c.wrapping_shr.ensures in
    simp to_z-of_z (w ∙ beyond_right c.args.x c.args.y e (simp to_z-of_z at c.if-y.true))
