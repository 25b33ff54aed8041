use Rattle.std.proofs.Common.{◌≡◌, true, false, Some, length, ◌∙◌, subst, arith}
use Rattle.bx_read.specs.Lines.{coming}
use Rattle.bx_read.specs.private.NextLine.{piece_of, IsNextLine}
use Rattle.bx_read.proofs.RunLemmas.{grow_step, grow_stops, next_left, test_is}
use Rattle.bx_read.proofs.runs.grow.Goals as goal

pub returns-then-not-goes_on-clause-run : goal.returns-then-not-goes_on-clause-run
returns-then-not-goes_on-clause-run g c =
    let line = c.in-Some.line in
    let run = c.loop-line.bytes.items in
    let old = coming c.loop-line.lines in
    let new = coming c.next_line.new.lines in
    let size : c.len.result ≡ length run = omega arith in
    let next = subst (IsNextLine old new) c.in-Some.is c.in_ok-line.ensures in
    let goes = test_is c.goes_on.result false c.at.result c.args.at c.len.result (piece_of line).0 (length run) c.goes_on.ensures c.if-not-goes_on.true c.at.ensures size in
    c.loop-line.invariant.run ∙ grow_stops c.args.at run old new line next goes

pub loop-line-preserved : goal.loop-line-preserved
loop-line-preserved g c =
    let line = c.in-Some.line in
    let run = c.loop-line.bytes.items in
    let old = coming c.loop-line.lines in
    let new = coming c.next_line.new.lines in
    let size : c.len.result ≡ length run = omega arith in
    let next = subst (IsNextLine old new) c.in-Some.is c.in_ok-line.ensures in
    let goes = test_is c.goes_on.result true c.at.result c.args.at c.len.result (piece_of line).0 (length run) c.goes_on.ensures c.if-not-goes_on.false c.at.ensures size in
    record {
      run = c.loop-line.invariant.run ∙ grow_step c.args.at run c.push_to.new.bytes.items old new line next goes c.in_ok-push_to.ensures ∙ c.in_ok-take_row-2.ensures.run;
      fewer = let few = next_left old new (Some line) next in let behind = c.in_ok-take_row-2.ensures.fewer in omega (arith, few, behind, c.loop-line.invariant.fewer);
    }
