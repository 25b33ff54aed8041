use Rattle.std.proofs.Common.{◌+◌, ◌-◌, length, take, drop}
use Rattle.std.proofs.lemmas.List.{take_rest}
use Rattle.bx_read.proofs.FullLines.{full_coming}
use Rattle.bx_read.proofs.lines.DumpLines.take_full.Goals as goal

pub returns-clause-some : goal.returns-clause-some
returns-clause-some c =
    let text = c.args.self.now.text.now in
    let line = c.in_ok-line.line in
    full_coming (c.args.self.now.passed + 1) line.at text (take (length text - 68) (drop 68 text)) line.bytes c.in_ok-line.ensures (take_rest text 68)
