use Rattle.bx_patch.specs.Read.{asked_of}
use Rattle.bx_patch.proofs.WalkLemmas.{readable_small, slice_small}
use Rattle.bx_patch.proofs.read.patch.Patch.reversed.Goals as goal

pub turns-requires-clause-old : goal.turns-requires-clause-old
turns-requires-clause-old g c =
    slice_small c.as_slice.result.now c.args.self.expected.items c.as_slice.ensures.value (readable_small (asked_of c.args.self) c.requires).0

pub turns-requires-clause-new : goal.turns-requires-clause-new
turns-requires-clause-new g c =
    slice_small c.as_slice-2.result.now c.args.self.written.items c.as_slice-2.ensures.value (readable_small (asked_of c.args.self) c.requires).1
