use Rattle.std.proofs.Common.{◌+◌, ◌-◌, ℕ, length, take, drop, ap, arith}
use Rattle.std.proofs.lemmas.List.{length-take, length-drop}
use Rattle.bx_patch.proofs.ChangedWindow.{piece_before, piece_behind, put_part, front_same, mid_same}
use Rattle.bx_patch.proofs.preview.image.window.put_piece.Goals as goal

pub returns-then-start-buf-clause-put : goal.returns-then-start-buf-clause-put
returns-then-start-buf-clause-put g c y win =
    let bytes = c.args.piece.now.bytes in
    let here = c.args.piece.now.at - c.args.at in
    let count = c.min-count.result in
    rw (c.overwrite.ensures, c.as_slice-bytes.ensures) (put_part c.args.buf.now y bytes (take count bytes) c.args.at c.args.piece.now.at here 0
    (omega arith) (omega arith) (omega arith) (omega arith)
    (omega (arith, c.min-count.ensures, ap length c.as_slice-bytes.ensures, length-take {A = ℕ} count bytes)) (front_same bytes count) win)

pub returns-else-start-buf-clause-put : goal.returns-else-start-buf-clause-put
returns-else-start-buf-clause-put g c y win =
    piece_behind c.args.buf.now y c.args.piece.now.bytes c.args.at c.args.piece.now.at (omega arith) win

pub returns-then-start-bytes-clause-put : goal.returns-then-start-bytes-clause-put
returns-then-start-bytes-clause-put g c y win =
    let bytes = c.args.piece.now.bytes in
    let skip = c.args.at - c.args.piece.now.at in
    let count = c.min-count-then-start-bytes.result in
    rw (c.overwrite-then-start-bytes.ensures, c.as_slice-bytes.ensures)
    (put_part c.args.buf.now y bytes (take (skip + count - skip) (drop skip bytes)) c.args.at c.args.piece.now.at 0 skip
    (omega arith) (omega arith) (omega arith) (omega (arith, ap length c.as_slice-bytes.ensures))
    (omega (arith, c.min-count-then-start-bytes.ensures, ap length c.as_slice-bytes.ensures, length-take {A = ℕ} (skip + count - skip) (drop skip bytes), length-drop {A = ℕ} skip bytes))
    (mid_same bytes skip (skip + count - skip)) win)

pub returns-else-start-bytes-clause-put : goal.returns-else-start-bytes-clause-put
returns-else-start-bytes-clause-put g c y win =
    piece_before c.args.buf.now y c.args.piece.now.bytes c.args.at c.args.piece.now.at (omega (arith, ap length c.as_slice-bytes.ensures)) win
