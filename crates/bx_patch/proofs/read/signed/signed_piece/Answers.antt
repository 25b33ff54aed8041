use Rattle.bx_patch.proofs.ReadLemmas.{IfOk-map, signed, small_end}
use Rattle.bx_patch.proofs.read.signed.signed_piece.Goals as goal

pub returns-clause-ok : goal.returns-clause-ok
returns-clause-ok g c =
    IfOk-map c.piece_of.result
    (λ piece is. signed c.args.new c.args.line.now c.behind.result.now piece.at piece.bytes c.requires c.behind.ensures is) c.piece_of.ensures.ok

pub returns-clause-small : goal.returns-clause-small
returns-clause-small g c = IfOk-map c.piece_of.result (λ piece is. small_end c.behind.result.now piece.at piece.bytes is) c.piece_of.ensures.ok
