use Rattle.std.proofs.Common.{◌≡◌, ◌+◌, ◌≤◌, length, ap, ◌∙◌, subst, arith}
use Rattle.bx_read.specs.Text.{lines_of, answers, gathered, piece_then}
use Rattle.bx_read.specs.Lines.{coming}
use Rattle.bx_read.specs.private.NextLine.{joined_of}
use Rattle.bx_read.proofs.lines.DumpLines.take_row.Goals as goal

pub returns-clause-run : goal.returns-clause-run
returns-clause-run g c =
    let old = c.args.self.now in
    let taken = c.in_ok-taken.taken in
    let next : (old.passed + 1) + taken.count ≡ (old.passed + taken.count) + 1 = omega arith in
    c.in_ok-taken.ensures.joins (old.passed + 1)
    ∙ ap (λ n. joined_of (piece_then (c.args.at, c.extend_run.new.bytes.items) (gathered (answers n (lines_of taken.rest.now))))) next

pub returns-clause-fewer : goal.returns-clause-fewer
returns-clause-fewer g c =
    let old = c.args.self.now in
    let taken = c.in_ok-taken.taken in
    let next : (old.passed + 1) + taken.count ≡ (old.passed + taken.count) + 1 = omega arith in
    subst (λ n. length (answers n (lines_of taken.rest.now)) ≤ length (coming old)) next (c.in_ok-taken.ensures.fewer (old.passed + 1))
