use Rattle.bx_run_session.specs.Input.{Input}
use Rattle.bx_run_session.proofs.edit.read.ReadEdit.of_dump.Goals as goal

pub invariant_of-result : goal.invariant_of-result
invariant_of-result g c =
    let asks = c.in-Ok.ensures.asks in
    let job = c.args.job.now in
    record {
      made = ∣ record {
        keeps = job.no_grow;
        input = Input.OfDump job.plain job.at asks.0;
        made = (c.in-Ok.read, asks.2, c.read_as.ensures);
      } ∣₁;
    }
