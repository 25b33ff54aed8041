use Rattle.std.proofs.Common.{inl, refl}
use Rattle.bx_read_stream.proofs.LayingLemmas.{appended_all}
use Rattle.bx_read_stream.proofs.laying.Laying.stop.Goals as goal

pub returns-in-Ok : goal.returns-in-Ok
returns-in-Ok g c w0 x h = inl (refl, appended_all w0 _ _ _ x (c.in-Ok.ensures.ok w0 x h) c.in-Ok.ensures.none)
