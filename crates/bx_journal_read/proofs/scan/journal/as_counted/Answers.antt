use Rattle.std.proofs.Common.{arith, ap, ◌∙◌, length}
use Rattle.bx_journal_format.specs.Parsed.{told_by, entries_of}
use Rattle.bx_journal_read.proofs.RecoverLemmas.{read_counted}
use Rattle.bx_journal_read.proofs.scan.journal.as_counted.Goals as goal

pub returns-else-journal-len-clause-some : goal.returns-else-journal-len-clause-some
returns-else-journal-len-clause-some g c text read long =
    let same = c.deref.ensures.value in
    read_counted text c.args.journal.now c.len.result c.told_length.result read c.in-Between.is (omega (arith, c.if-journal-len.false, long, read.places.mark.within)) (omega (arith, c.len.ensures, c.deref.ensures.len, ap length same))
    (c.told_length.ensures ∙ ap (λ es. told_by (entries_of es)) same)

pub returns-else-journal-len-clause-whole : goal.returns-else-journal-len-clause-whole
returns-else-journal-len-clause-whole g c text read long = omega (arith, c.if-journal-len.false, long, read.places.mark.within)
