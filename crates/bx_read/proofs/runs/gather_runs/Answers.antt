use Rattle.std.proofs.Common.{rules, ◌≡◌, ◌+◌, subst}
use Rattle.bx_read.specs.Text.{lines_of, answers, contents, gathered}
use Rattle.bx_read.specs.Lines.{coming}
use Rattle.bx_read.specs.private.NextLine.{joined_of, taken_then}
use Rattle.bx_read.proofs.DumpLemmas.{after}
use Rattle.bx_read.proofs.RunLemmas.{one_run, run_fault}
use Rattle.bx_read.proofs.runs.gather_runs.Goals as goal

pub returns-in_err-taken : goal.returns-in_err-taken
returns-in_err-taken g c =
    let whole = gathered (answers (c.args.passed + 1) (lines_of c.args.text.now)) in
    let olds = c.loop-next.runs.items in
    let old = coming c.loop-next.lines in
    let inv = subst (λ o. joined_of whole ≡ after (contents olds) (joined_of (taken_then o old))) c.in-Some.is c.loop-next.invariant in
    let fault = run_fault whole olds c.in-Some.first old c.in_err-taken.field-0.0 inv c.in_err-taken.ensures.fault in
    search rules

pub loop-next-preserved : goal.loop-next-preserved
loop-next-preserved g c =
    let whole = joined_of (gathered (answers (c.args.passed + 1) (lines_of c.args.text.now))) in
    let olds = c.loop-next.runs.items in
    let old = coming c.loop-next.lines in
    let inv = subst (λ o. whole ≡ after (contents olds) (joined_of (taken_then o old))) c.in-Some.is c.loop-next.invariant in
    one_run whole olds c.push.new.self.items c.in_ok-taken.taken.run old (coming c.take_run.new.lines) c.in-Some.first c.in_ok-taken.taken.next
    inv c.in_ok-taken.ensures.run c.in_ok-push.ensures.items
