use Rattle.std.proofs.Common.{◌≡◌, Option, Some, None, ap}
use Rattle.std.specs.Prelude.{IfSome}
use Rattle.bx_journal_format.specs.declared.read.rows.Summed.{Summed}
use Rattle.bx_journal_format.specs.count.Rows.{SumsTo, summed_behind}
use Rattle.bx_journal_format.proofs.SumLemmas.{sums_to}
use Rattle.bx_journal_format.proofs.read.rows.sum_one.Goals as goal

pub returns : goal.returns
returns c r is = by c.sum_event.result c.sum_event.ensures
  where
    by : (o : Option Summed) → IfSome o (λ s. s ≡ summed_behind c.args.now c.in_ok-event.event) → IfSome o (SumsTo r c.args.line.now)
    by None more = tt
    by (Some s) more = sums_to r c.args.now s c.args.line.now c.in_ok-event.event is more (c.in_ok-event.ensures r (ap (λ (s : Summed). s.tally) is))
