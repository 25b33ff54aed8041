use Rattle.std.proofs.Common.{sym, ◌∙◌}
use Rattle.bx_journal_format.proofs.LineLemmas.{other_size}
use Rattle.bx_journal_format.proofs.format.line.length_in.Goals as goal

pub returns-then-line-start_size_of : goal.returns-then-line-start_size_of
returns-then-line-start_size_of c = sym (other_size c.args.version c.args.number c.args.line.now (λ h. c.if-line-start_size_of.true (h ∙ sym c.start_size_of.ensures)))
