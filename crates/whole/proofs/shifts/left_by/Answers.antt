use Rattle.std.proofs.Common.{◌∙◌, w64, SFits, rules}
use Rattle.std.proofs.lemmas.Int.{to_z-of_z}
use Rattle.whole.proofs.Counts.{left_either}
use Rattle.whole.proofs.shifts.left_by.Goals as goal

pub returns : goal.returns
returns c =
    let f : SFits w64 c.args.x = c.ranges.x in
    let g : SFits w64 c.unwrap_or.result = search rules in
    let h = simp to_z-of_z at c.checked_shl.ensures in
    simp to_z-of_z (c.unwrap_or.ensures ∙ left_either c.args.x c.args.n c.checked_shl.result f h)
