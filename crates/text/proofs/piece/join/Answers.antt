use Rattle.std.proofs.Common.{◌++◌, ap, ◌∙◌, sym, arith, length-append}
use Rattle.text.specs.Buffers.{Stored}
use Rattle.text.specs.Pieces.{piece_bytes}
use Rattle.text.proofs.Laws.{stored_fits}
use Rattle.text.proofs.Pieces.{laid_behind}
use Rattle.text.proofs.piece.join.Goals as goal

pub returns-clause-bytes : goal.returns-clause-bytes
returns-clause-bytes c =
    let d = c.args.work.now in
    let x = piece_bytes d c.args.p ++ piece_bytes d c.args.q in
    let e = stored_fits d x c.args.fill (omega (arith, length-append (piece_bytes d c.args.p) (piece_bytes d c.args.q))) in
    laid_behind d _ _ c.args.fill c.args.p c.args.q c.piece_len-m.result c.piece_len-m.ensures c.requires.right (omega arith) c.lay.ensures c.lay-2.ensures ∙ sym (ap (λ (s : Stored). s.bytes) e)
