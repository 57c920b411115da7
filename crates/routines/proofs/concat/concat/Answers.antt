use Rattle.std.proofs.Common.{Err, ap, ◌∙◌}
use Rattle.std.proofs.lemmas.Result.{err_from_is_err_and}
use Rattle.routines.specs.Calls.{joined_by}
use Rattle.routines.proofs.Laws.{settles_as, settles_err}
use Rattle.routines.proofs.concat.concat.Goals as goal

pub join_pieces-requires : goal.join_pieces-requires
join_pieces-requires c =
    let h = c.in_ok-p.ensures c.args.work.now.bytes.now c.args.work.now.fill c.requires.left c.requires.right in
    record { left = h.1; right = h.2 }

pub returns-clause-settles : goal.returns-clause-settles
returns-clause-settles c =
    let h = c.in_ok-p.ensures c.args.work.now.bytes.now c.args.work.now.fill c.requires.left c.requires.right in
    settles_as (h.0 (joined_by c.args.work.now.limits c.args.rule)) c.join_pieces.ensures.settles

pub returns-in_err-p-clause-settles : goal.returns-in_err-p-clause-settles
returns-in_err-p-clause-settles c =
    let h = c.in_err-p.ensures c.args.work.now.bytes.now c.args.work.now.fill c.requires.left c.requires.right in
    let p = err_from_is_err_and c.from_residual.result c.from_residual.ensures.1 in
    settles_err _ _ _ _ c.from_residual.result (h (joined_by c.args.work.now.limits c.args.rule)) (p.1 ∙ ap Err p.2)
