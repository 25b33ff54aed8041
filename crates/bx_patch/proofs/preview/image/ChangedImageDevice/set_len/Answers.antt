use Rattle.bx_patch.proofs.RefusedLemmas.{found_then}
use Rattle.bx_patch.proofs.preview.image.ChangedImageDevice.set_len.Goals as goal

pub returns-clause-survives : goal.returns-clause-survives
returns-clause-survives g c faithful z found = rw (← c.self.view_is) (found_then _ _ _ _ z found)
