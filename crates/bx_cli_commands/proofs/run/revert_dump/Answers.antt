use Rattle.bx_cli_commands.proofs.Obeys.{obeys_next}
use Rattle.bx_cli_commands.proofs.Joined.{dump_step}
use Rattle.bx_cli_commands.proofs.run.revert_dump.Goals as goal

pub returns : goal.returns
returns g c =
    let change = c.change_of_dump-change in
    record {
      obeys = obeys_next g.D.Device g.T.TextStore
          (λ before after. dump_step c.args.text.now c.args.offset change.result before after c.change_if_read.result
          (rw c.as_slice.ensures at change.ensures.change) (rw c.as_slice.ensures at change.ensures.fault))
          c.change_if_read.ensures.obeys;
      left = c.drop_text.ensures;
      tells = c.change_if_read.ensures.tells;
    }
