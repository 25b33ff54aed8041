use Rattle.std.proofs.Common.{string_bytes}
use Rattle.bx_journal_format.proofs.RangeSteps.{ranged_all}
use Rattle.bx_journal_format.proofs.read.ranges.range_last.Goals as goal

pub returns : goal.returns
returns g c runs before a = ranged_all runs c.args.now (string_bytes c.args.text.now) (string_bytes c.push_range.new.text) before c.in_ok-push_range.field-0 a c.in_ok-push_range.ensures
