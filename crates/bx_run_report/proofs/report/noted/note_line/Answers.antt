use Rattle.bx_run_report.proofs.ReportNotes.{no_line}
use Rattle.bx_run_report.proofs.report.noted.note_line.Goals as goal

pub returns-then-n-gt-LINE : goal.returns-then-n-gt-LINE
returns-then-n-gt-LINE c note read line fits is = no_line c.args.n c.args.buf.now note c.if-n-gt-LINE.true read line fits is
