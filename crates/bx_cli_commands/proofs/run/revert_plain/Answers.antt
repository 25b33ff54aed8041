use Rattle.bx_cli_commands.specs.Command.{plain_change}
use Rattle.bx_read.specs.Plain.{plain_answer}
use Rattle.bx_cli_commands.proofs.Obeys.{obeys_next}
use Rattle.bx_cli_commands.proofs.Stands.{read_step}
use Rattle.bx_cli_commands.proofs.run.revert_plain.Goals as goal

pub returns : goal.returns
returns g c =
    let change = c.change_of_plain-change in
    record {
      obeys = obeys_next g.D.Device g.T.TextStore
          (λ before after. read_step (plain_change c.args.at) (plain_answer c.args.text.now) change.result before after c.change_if_read.result
          (rw c.as_slice.ensures at change.ensures.change) (rw c.as_slice.ensures at change.ensures.fault))
          c.change_if_read.ensures.obeys;
      left = c.drop_text.ensures;
      tells = c.change_if_read.ensures.tells;
    }
