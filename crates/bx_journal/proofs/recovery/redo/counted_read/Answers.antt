use Rattle.std.proofs.Common.{refl, ap, ◌∙◌, arith}
use Rattle.bx_journal_format.specs.Parsed.{told_by, entries_of}
use Rattle.bx_journal_format.proofs.ReadLemmas.{length-entries_of}
use Rattle.bx_journal.proofs.recovery.redo.counted_read.Goals as goal

pub returns-clause-ok : goal.returns-clause-ok
returns-clause-ok g c = record {
  entries = entries_of c.args.journal.now.entries.items;
  fit = c.in_default.ensures.none c.args.text.now c.requires.read refl;
  counted = omega (arith, c.len.ensures, length-entries_of c.args.journal.now.entries.items);
  told_is = c.told_length.ensures ∙ ap (λ es. told_by (entries_of es)) c.deref.ensures.value;
}
