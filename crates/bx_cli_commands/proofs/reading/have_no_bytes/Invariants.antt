use Rattle.std.proofs.Common.{◌≡◌, [], take}
use Rattle.std.specs.Prelude.{All}
use Rattle.bx_text.specs.declared.owned.pieces.Piece.{Piece}
use Rattle.bx_cli_commands.proofs.reading.have_no_bytes.Given as goal

abbrev pub invariant-loop-piece : goal.invariant-loop-piece
invariant-loop-piece g l = All (λ (piece : Piece g.row.A.Denot). piece.bytes ≡ []) (take l.piece-index l.pieces)
