use Rattle.std.proofs.Common.{◌≡◌, ◌++◌, map, take, drop}
use Rattle.bx_cli_commands.specs.Command.{moved}
use Rattle.bx_cli_commands.proofs.changes.move_pieces.Given as goal

abbrev pub invariant-loop-piece : goal.invariant-loop-piece
invariant-loop-piece g l = l.pieces ≡ map (moved l.offset) (take l.piece-index l.fn.pieces) ++ drop l.piece-index l.fn.pieces
