use Rattle.std.proofs.Common.{rules, ◌<◌, length, get_or}
use Rattle.std.proofs.lemmas.List.Edits.{map_over_more}
use Rattle.std.proofs.lemmas.List.{get_or_default}
use Rattle.bx_cli_commands.specs.Command.{moved}
use Rattle.bx_cli_commands.proofs.changes.move_pieces.Goals as goal

pub loop-piece-preserved : goal.loop-piece-preserved
loop-piece-preserved g c =
    let here = get_or c.loop-piece.pieces c.loop-piece.piece-index c.piece-item.result in
    let within : c.loop-piece.piece-index < length c.args.pieces.now = search rules in
    map_over_more (moved c.args.offset) c.args.pieces.now c.loop-piece.pieces c.loop-piece.piece-index here within c.loop-piece.invariant
    (get_or_default c.loop-piece.pieces c.loop-piece.piece-index c.piece-item.result here (search rules))
