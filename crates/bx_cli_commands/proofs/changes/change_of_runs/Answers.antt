use Rattle.std.proofs.Common.{rules, ◌≡◌, ◌∙◌, map, length, ap, None}
use Rattle.std.proofs.lemmas.List.{length-map}
use Rattle.bx_image.specs.declared.change.Change.{Change}
use Rattle.bx_cli_commands.specs.Command.{moved}
use Rattle.bx_cli_commands.proofs.Moves.{moved_contents, whole_lent}
use Rattle.bx_cli_commands.proofs.changes.change_of_runs.Goals as goal

pub returns : goal.returns
returns g c =
    let size : c.args.runs.len ≡ length c.move_pieces.new.pieces = search (rules, length-map) in
    let writes : c.from_vec.result ≡ map (moved c.args.offset) c.args.runs.items =
    c.from_vec.ensures ∙ whole_lent _ _ _ size ∙ c.move_pieces.ensures ∙ ap (map (moved c.args.offset)) c.as_mut_slice.ensures.value in
    ap (λ w. let change : Change g.row.A.Denot = record { base = None; writes = w } in change) (writes ∙ moved_contents c.args.offset c.args.runs.items)
