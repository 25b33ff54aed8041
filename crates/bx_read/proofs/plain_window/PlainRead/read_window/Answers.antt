use Rattle.std.proofs.Common.{sym, subst}
use Rattle.bx_read.specs.PlainWindow.{HasReadPlain}
use Rattle.bx_read.proofs.plain_window.PlainRead.read_window.Goals as goal

pub returns-clause-read : goal.returns-clause-read
returns-clause-read g c = λ text is. c.read_window.ensures.read text (subst (HasReadPlain text) (sym c.self.view_is) is)
