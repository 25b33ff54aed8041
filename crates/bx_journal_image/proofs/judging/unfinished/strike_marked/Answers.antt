use Rattle.std.proofs.Common.{◌≡◌, true}
use Rattle.bx_journal_format.specs.Text.{split}
use Rattle.bx_journal_read.specs.scan.Windows.{rest_to}
use Rattle.bx_journal_image.specs.Blocks.{ranges_in, rest_from}
use Rattle.bx_journal_image.proofs.BlockLemmas.{struck_then}
use Rattle.bx_journal_image.proofs.judging.unfinished.strike_marked.Goals as goal

pub returns-clause-struck : goal.returns-clause-struck
returns-clause-struck g c = λ h.
    let all : c.in_ok-all.all ≡ true = c.if-not-all.false in
    let lines = ranges_in (split (rest_to c.args.mark.saved c.args.mark.lines (g.T.TextStore.text c.args.journal.now))).lines in
    struck_then c.args.line.now.length (rest_from c.args.mark.len) lines c.args.line.now.marks c.strike_from.new.marks c.strike_text.new.marks
    c.strike_from.ensures (c.in_ok-all.ensures.struck h all)
