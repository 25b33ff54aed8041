use Rattle.std.proofs.Common.{false}
use Rattle.bx_patch.proofs.DiffLemmas.{reads_on}
use Rattle.bx_patch.proofs.OtherLemmas.{is_other_length}
use Rattle.bx_patch.proofs.other.find_other.Goals as goal

pub returns-in-Some-clause-found : goal.returns-in-Some-clause-found
returns-in-Some-clause-found g c = λ h.
    is_other_length c.args.patch.now.lengths (g.D.Device.image c.args.device.now) c.in-Ok.len c.in-Some.expected (c.in-Ok.ensures.len h) c.in-Some.ensures

pub returns-in-Ok-Some-clause-reads : goal.returns-in-Ok-Some-clause-reads
returns-in-Ok-Some-clause-reads g c =
    reads_on g.D.Device.faithful g.D.Device.image g.D.Device.room g.D.Device.failures g.D.Device.survives false c.args.device.now c.length_of.new.device c.other_among.new.device
    c.in-Ok.ensures.reads c.in-Ok-Some.ensures.reads
