use Rattle.std.proofs.Common.{arith}
use Rattle.bx_read.proofs.FullLemmas.{joined, two_of, in_parts, full_gives}
use Rattle.bx_read.proofs.full.full_text.Goals as goal

pub returns : goal.returns
returns c =
    let first = c.split_at.ensures in
    let second = c.split_at-2.ensures in
    let third = c.split_at-3.ensures in
    let fourth = c.split_at-4.ensures in
    let address = c.split_at.result.0.now in
    let r1 = c.split_at.result.1.now in
    let colon = c.split_at-2.result.0.now in
    let r2 = c.split_at-2.result.1.now in
    let columns = c.split_at-3.result.0.now in
    let r3 = c.split_at-3.result.1.now in
    let gap = c.split_at-4.result.0.now in
    let shown = c.split_at-4.result.1.now in
    let number = c.in_ok-at.ensures in
    let spelled = in_parts c.args.line.now address colon columns gap shown r1 r2 r3
    (joined 8 c.args.line.now address r1 first.front first.back) (joined 2 r1 colon r2 second.front second.back) (joined 39 r2 columns r3 third.front third.back) (joined 2 r3 gap shown fourth.front fourth.back)
    (two_of colon 58 32 second.front_len c.if-colon-ne58.false c.if-colon-ne32.false) (two_of gap 32 32 fourth.front_len c.if-gap-ne32.false c.if-gap-ne32-2.false) in
    full_gives c.args.line.now address columns shown c.in_ok-bytes.bytes c.in_ok-at.at number.2 first.front_len number.0 number.1
    c.in_ok-bytes.ensures (omega arith) spelled
