use Rattle.std.proofs.Common.{subst}
use Rattle.bx_read_stream.specs.Plain.{StopsPlain}
use Rattle.bx_cli_commands.proofs.jobs.lay.plain.Goals as goal

-- src/jobs/lay.rt:55:1
pub returns-clause-err : goal.returns-clause-err
returns-clause-err g c = (
  g.R.Read.remaining c.lay_plain.new.source.reader,
  subst (λ r. StopsPlain c.args.at (g.R.Read.remaining r) (g.R.Read.remaining c.lay_plain.new.source.reader)
      (g.W.Write.contents c.args.w.now) (g.W.Write.contents c.lay_plain.new.w) c.in-Err.fault)
      c.new-source.ensures.reader c.in-Err.ensures.err,
)
