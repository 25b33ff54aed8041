use Rattle.std.proofs.Common.{length}
use Rattle.bx_journal_protocol.proofs.PartLemmas.{part_follows, part_keeps, unmapped_moves}
use Rattle.bx_journal_protocol.proofs.protocol.image.restore_part.Goals as goal

pub returns-clause-keeps : goal.returns-clause-keeps
returns-clause-keeps g c faithful s same = part_keeps c.write_at.result s (g.D.Device.image c.args.image.now) (g.D.Device.image c.write_at.new.self) c.args.bytes.now c.args.at same (c.write_at.ensures.ok faithful) (c.write_at.ensures.failed faithful)

pub returns-clause-phase : goal.returns-clause-phase
returns-clause-phase g c faithful s same = unmapped_moves s _ _ (returns-clause-keeps g c faithful s same)

pub returns-clause-survives : goal.returns-clause-survives
returns-clause-survives g c faithful s same = part_follows s c.args.at (length c.args.bytes.now) _ _ same (c.write_at.ensures.survives faithful)
