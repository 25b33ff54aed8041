use Rattle.std.proofs.Common.{take}
use Rattle.bx_image.specs.declared.change.TheConstants.{MAX_LEN}
use Rattle.bx_journal_format.specs.Kept.{Run}
use Rattle.bx_journal_format.proofs.RangeSteps.{saved_fits}
use Rattle.std.proofs.Common.{◌+◌, ◌≤◌, length, arith}
use Rattle.bx_journal_image.proofs.BlockLemmas.{line_none, line_some}
use Rattle.bx_journal_image.proofs.blocks.strikes.strike_line.Goals as goal

pub returns-in_default : goal.returns-in_default
returns-in_default c = line_none c.args.total c.args.line.now c.args.marks.now c.in_default.ensures

pub strike-requires : goal.strike-requires
strike-requires c =
    let run : Run = record { at = c.in-Some.saved.at; bytes = take c.in-Some.saved.count c.in-Some.saved.bytes } in
    let fits : run.at + length run.bytes ≤ MAX_LEN = saved_fits MAX_LEN c.args.line.now run c.in-Some.ensures in
    omega (arith, fits)

pub returns : goal.returns
returns c =
    let run : Run = record { at = c.in-Some.saved.at; bytes = take c.in-Some.saved.count c.in-Some.saved.bytes } in
    line_some c.args.total c.args.line.now run c.args.marks.now c.strike.new.marks c.in-Some.ensures c.strike.ensures
