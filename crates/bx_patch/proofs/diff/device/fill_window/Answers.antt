use Rattle.bx_patch.proofs.diff.device.fill_window.Goals as goal

pub returns-clause-bytes : goal.returns-clause-bytes
returns-clause-bytes g c = λ faithful. rw c.requires.full at (c.fill.ensures.bytes faithful)
