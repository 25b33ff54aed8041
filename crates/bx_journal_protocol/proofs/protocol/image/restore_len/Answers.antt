use Rattle.bx_journal_protocol.proofs.PartLemmas.{cut_follows, cut_keeps, unmapped_moves}
use Rattle.bx_journal_protocol.proofs.protocol.image.restore_len.Goals as goal

pub returns-clause-keeps : goal.returns-clause-keeps
returns-clause-keeps g c faithful s same = cut_keeps c.set_len.result s (g.D.Device.image c.args.image.now) (g.D.Device.image c.set_len.new.self) c.args.len same (c.set_len.ensures.ok faithful) (c.set_len.ensures.failed faithful)

pub returns-clause-phase : goal.returns-clause-phase
returns-clause-phase g c faithful s same = unmapped_moves s _ _ (returns-clause-keeps g c faithful s same)

pub returns-clause-survives : goal.returns-clause-survives
returns-clause-survives g c faithful s same only = cut_follows s (g.D.Device.image c.args.image.now) c.args.len _ _ same only (c.set_len.ensures.survives faithful)
