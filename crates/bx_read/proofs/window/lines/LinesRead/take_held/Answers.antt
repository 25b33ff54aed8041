use Rattle.std.proofs.Common.{◌≡◌, ◌+◌, Ok, subst}
use Rattle.bx_read.specs.Text.{lines_of, answers, gathered, contents}
use Rattle.bx_read.specs.private.NextLine.{joined_of}
use Rattle.bx_read.proofs.WindowLemmas.{takes_text}
use Rattle.bx_read.proofs.window.lines.LinesRead.take_held.Goals as goal

pub returns-clause-runs : goal.returns-clause-runs
returns-clause-runs g c =
    let old = c.args.self.now in
    let got = c.in-Ok.more.items in
    let read = subst (λ t. joined_of (gathered (answers (old.lines + 1) (lines_of t))) ≡ Ok (contents got)) c.as_slice-text.ensures.value c.in-Ok.ensures in
    takes_text old.lines old.held.items got old.runs.items c.push_runs.new.runs.items read c.in_ok-push_runs.ensures.joins
