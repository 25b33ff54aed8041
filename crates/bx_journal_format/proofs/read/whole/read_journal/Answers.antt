use Rattle.std.proofs.Common.{◌+◌, ◌<◌, ◌^◌, [], length, arith}
use Rattle.bx_journal_format.proofs.ReadLoop.{behind_none, read_all, reads_all}
use Rattle.bx_journal_format.proofs.read.whole.read_journal.Goals as goal

pub read_behind-requires : goal.read_behind-requires
read_behind-requires g c = (c.args.bytes.items, [], behind_none c.args.bytes.items (omega arith))

pub returns-clause-reads : goal.returns-clause-reads
returns-clause-reads g c =
    let small : length c.args.bytes.items + 1 < 2 ^ 64 = omega arith in
    reads_all c.args.bytes.items c.read_behind.result (c.read_behind.ensures.read c.args.bytes.items [] (behind_none c.args.bytes.items small))

pub returns-clause-read : goal.returns-clause-read
returns-clause-read g c =
    let small : length c.args.bytes.items + 1 < 2 ^ 64 = omega arith in
    read_all c.args.bytes.items c.read_behind.result (c.read_behind.ensures.read c.args.bytes.items [] (behind_none c.args.bytes.items small))

pub returns-clause-fault : goal.returns-clause-fault
returns-clause-fault g c =
    let small : length c.args.bytes.items + 1 < 2 ^ 64 = omega arith in
    c.read_behind.ensures.fault c.args.bytes.items [] (behind_none c.args.bytes.items small)
