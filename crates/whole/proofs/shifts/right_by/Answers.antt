use Rattle.std.proofs.Common.{unwrap_or, ap, ◌∙◌, w64, SFits, rules}
use Rattle.std.proofs.lemmas.Int.{to_z-of_z}
use Rattle.whole.proofs.Counts.{right_either}
use Rattle.whole.proofs.shifts.right_by.Goals as goal

pub returns : goal.returns
returns c =
    let f : SFits w64 c.args.x = c.ranges.x in
    let g : SFits w64 c.unwrap_or.result = search rules in
    let i : SFits w64 c.wrapping_shr.result = search rules in
    let h = simp to_z-of_z at c.checked_shr.ensures in
    let w = simp to_z-of_z at c.wrapping_shr.ensures in
    let u = simp to_z-of_z at c.unwrap_or.ensures in
    simp to_z-of_z (u ∙ ap (unwrap_or c.checked_shr.result) w ∙ right_either c.args.x c.args.n c.checked_shr.result f h)
