use Rattle.std.proofs.Common.{rules}
use Rattle.bx_image.proofs.device.fuse.Fuse.blows.Goals as goal

pub returns-in-After-eq0-clause-blown : goal.returns-in-After-eq0-clause-blown
returns-in-After-eq0-clause-blown c = search rules
