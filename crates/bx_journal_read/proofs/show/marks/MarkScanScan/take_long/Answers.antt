use Rattle.std.proofs.Common.{◌++◌, ◌+◌, List, ℕ, length, length-append, inr, arith}
use Rattle.bx_journal_read.proofs.show.marks.MarkScanScan.take_long.Goals as goal

pub returns : goal.returns
returns g c = record {
  leads = λ first text more long h plain size.
      let line : List ℕ = c.args.line.now in
      inr (omega (arith, c.requires.enough), c.in-Some.ensures text c.args.self.marks.items more h plain (omega (arith, long, size, length-append line more)));
}
