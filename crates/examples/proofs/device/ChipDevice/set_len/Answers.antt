use Rattle.std.proofs.Common.{rules}
use Rattle.bx_image.proofs.Edits.{resized_cut}
use Rattle.examples.proofs.device.ChipDevice.set_len.Goals as goal

pub returns-clause-ok : goal.returns-clause-ok
returns-clause-ok g c _ = search (rules, resized_cut)
