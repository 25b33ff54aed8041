use Rattle.bx_read.specs.Text.{contents}
use Rattle.bx_read.proofs.WindowLemmas.{last_runs, last_fault}
use Rattle.bx_read.proofs.window.lines.LinesRead.take_last.Goals as goal

pub returns-in-Err : goal.returns-in-Err
returns-in-Err g c = record {
  exact = λ text has.
      last_fault text (contents c.args.self.runs.items) c.args.self.lines c.args.self.held.items has c.in-Err.fault c.in-Err.ensures.fault;
}

pub returns : goal.returns
returns g c = record {
  exact = λ text has.
      last_runs text (contents c.args.self.runs.items) c.args.self.lines c.args.self.held.items has (contents c.take_held.new.self.runs.items) c.in-Ok.ensures.runs;
}
