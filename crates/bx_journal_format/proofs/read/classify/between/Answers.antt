use Rattle.std.proofs.Common.{refl, arith, []}
use Rattle.bx_journal_format.specs.declared.format.version.Version.TheVariants.{First, Second}
use Rattle.bx_journal_format.specs.Text.{Saving}
use Rattle.bx_journal_format.proofs.StepLemmas.{start_full, start_first, start_second, start_stops}
use Rattle.bx_journal_format.proofs.read.classify.between.Goals as goal

pub returns-then-number-gt-MOST_CHANGES : goal.returns-then-number-gt-MOST_CHANGES
returns-then-number-gt-MOST_CHANGES c es e told = start_full es c.args.number c.args.line.now e (omega arith)

pub returns-in-Some : goal.returns-in-Some
returns-in-Some c es e told =
    let s = Saving First (record { len = c.in-Some.len; runs = [] }) in
    record { reading = record { entries = es; stage = s }; leads = start_first es c.args.number c.args.line.now s e (omega arith) (c.in-Some.ensures es e told); is = (refl, refl, omega arith) }

pub returns-in_err-len : goal.returns-in_err-len
returns-in_err-len c es e told =
    rw (c.from_residual.ensures) (start_stops es c.args.number c.args.line.now e (omega arith) (c.in_default.ensures es e told) (c.in_err-len.ensures es e told))

pub returns : goal.returns
returns c es e told =
    let s = Saving Second (record { len = c.in_ok-len.len; runs = [] }) in
    record { reading = record { entries = es; stage = s }; leads = start_second es c.args.number c.args.line.now s e (omega arith) (c.in_default.ensures es e told) (c.in_ok-len.ensures es e told); is = (refl, refl, omega arith) }
