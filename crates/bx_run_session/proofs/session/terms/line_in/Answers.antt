use Rattle.std.proofs.Common.{◌<◌, ◌≤◌, arith}
use Rattle.bx_run_session.proofs.NoteLemmas.{longer_says, short_says}
use Rattle.bx_run_session.proofs.session.terms.line_in.Goals as goal

pub returns-then-bytes-gt-LINE : goal.returns-then-bytes-gt-LINE
returns-then-bytes-gt-LINE c note is = let long = c.if-bytes-gt-LINE.true in longer_says note c.args.bytes.now is (omega (arith, long))

pub returns : goal.returns
returns c note is =
    let few = c.if-bytes-gt-LINE.false in
    short_says note c.args.bytes.now c.read_line.result is (omega (arith, few)) c.read_line.ensures.some c.read_line.ensures.none
