use Rattle.bx_journal.proofs.ShownPatch.{shown_redo, shown_undo}
use Rattle.bx_journal.proofs.laws.shown_is_a_patch.Goals as goal

pub returns-clause-undo : goal.returns-clause-undo
returns-clause-undo g c = shown_undo g.row.A.Denot

pub returns-clause-redo : goal.returns-clause-redo
returns-clause-redo g c = shown_redo g.row.A.Denot
